-- Pieces that are packed into one list.
use Rattle.std.proofs.Common.{◌≡◌, ℕ, zero, suc, ◌+◌, ◌-◌, ◌<◌, ◌≤◌, List, [], ◌∷◌, ◌++◌, length, take, drop, get_or, Some, refl, ap, sym, subst, ◌∙◌, arith, length-append, length-take, length-drop}
use Rattle.std.proofs.lemmas.List.{take-append-le, drop-append-le, take_all, drop_at, get_or_default}
use Rattle.std.proofs.lemmas.List.Sums.{sum_by-cons}
use Rattle.std.specs.Prelude.{slice_get, slice_index, slice_range, sum_by}
use Rattle.kk_outside.specs.Packed.{pieces, AreEnds, start_of}

-- as many pieces fit as there are bytes
pub AreEnds-count : (start : ℕ) (ends : List ℕ) (len : ℕ) → AreEnds start ends len → start + length ends ≤ len
AreEnds-count start [] len are = omega (arith, are)
AreEnds-count start (end ∷ ends) len are = omega (arith, are.0, AreEnds-count end ends len are.1)

pub AreEnds-append : (start : ℕ) (ends : List ℕ) (len more : ℕ) → AreEnds start ends len → len < more → AreEnds start (ends ++ more ∷ []) more
AreEnds-append start [] len more are some = (omega (arith, are, some), refl)
AreEnds-append start (end ∷ ends) len more are some = (are.0, AreEnds-append end ends len more are.1 some)

-- a piece of a list that has grown at its end
slice_range-append : (bytes more : List ℕ) (start end : ℕ) → start ≤ end → end ≤ length bytes → slice_range (bytes ++ more) start end ≡ slice_range bytes start end
slice_range-append bytes more start end ordered within =
    ap (λ (l : List ℕ). take (end - start) l) (drop-append-le start bytes more (omega (arith, ordered, within)))
    ∙ take-append-le (end - start) (drop start bytes) more (omega (arith, length-drop start bytes, within))

-- one piece more
pub pieces-append : (start : ℕ) (ends bytes more : List ℕ) → AreEnds start ends (length bytes) → pieces start (ends ++ (length bytes + length more) ∷ []) (bytes ++ more) ≡ pieces start ends bytes ++ more ∷ []
pieces-append start [] bytes more are =
    let whole : slice_range (bytes ++ more) start (length bytes + length more) ≡ more =
    ap (λ (l : List ℕ). take (length bytes + length more - start) l) (drop_at bytes more start (sym are))
    ∙ take_all (length bytes + length more - start) more (omega (arith, are)) in
    ap (λ (l : List ℕ). l ∷ []) whole
pieces-append start (end ∷ ends) bytes more are =
    let within = AreEnds-count end ends (length bytes) are.1 in
    let same = slice_range-append bytes more start end (omega (arith, are.0)) (omega (arith, within)) in
    ap (λ (l : List ℕ). l ∷ pieces end (ends ++ (length bytes + length more) ∷ []) (bytes ++ more)) same
    ∙ ap (λ (ls : List (List ℕ)). slice_range bytes start end ∷ ls) (pieces-append end ends bytes more are.1)

-- the pieces are all of the bytes
pub sum_by-pieces : (start : ℕ) (ends bytes : List ℕ) → AreEnds start ends (length bytes) → start + sum_by length (pieces start ends bytes) ≡ length bytes
sum_by-pieces start [] bytes are = omega (arith, are)
sum_by-pieces start (end ∷ ends) bytes are =
    let within = AreEnds-count end ends (length bytes) are.1 in
    omega (arith, are.0, within, length-take (end - start) (drop start bytes), length-drop start bytes, sum_by-cons length (slice_range bytes start end) (pieces end ends bytes), sum_by-pieces end ends bytes are.1)

pub length-pieces : (start : ℕ) (ends bytes : List ℕ) → length (pieces start ends bytes) ≡ length ends
length-pieces start [] bytes = refl
length-pieces start (end ∷ ends) bytes = ap suc (length-pieces end ends bytes)

pub start_of-after : (start : ℕ) (ends : List ℕ) (i : ℕ) → 0 < i → start_of start ends i ≡ slice_index ends (i - 1)
start_of-after start ends zero some = absurd (omega (arith, some))
start_of-after start ends (suc i) some = ap (λ (n : ℕ). slice_index ends n) (omega arith)

-- the i-th piece lies within the bytes
pub piece_within : (start : ℕ) (ends : List ℕ) (len i : ℕ) → AreEnds start ends len → i < length ends → (start_of start ends i ≤ slice_index ends i) × (slice_index ends i ≤ len)
piece_within start [] len i are some = absurd (omega (arith, some))
piece_within start (end ∷ ends) len zero are some = (omega (arith, are.0), omega (arith, AreEnds-count end ends len are.1))
piece_within start (end ∷ ends) len (suc zero) are some = piece_within end ends len zero are.1 (omega (arith, some))
piece_within start (end ∷ ends) len (suc (suc i)) are some = piece_within end ends len (suc i) are.1 (omega (arith, some))

pub slice_get-pieces : (start : ℕ) (ends bytes : List ℕ) (i : ℕ) → i < length ends → slice_get (pieces start ends bytes) i ≡ Some (slice_range bytes (start_of start ends i) (slice_index ends i))
slice_get-pieces start [] bytes i some = absurd (omega (arith, some))
slice_get-pieces start (end ∷ ends) bytes zero some = refl
slice_get-pieces start (end ∷ ends) bytes (suc zero) some = slice_get-pieces end ends bytes zero (omega (arith, some))
slice_get-pieces start (end ∷ ends) bytes (suc (suc i)) some = slice_get-pieces end ends bytes (suc i) (omega (arith, some))

-- ---- an outlet in memory

-- an index of a datagram is one of its end
pub index_of_end : (sent : List (List ℕ)) (ends bytes : List ℕ) (i : ℕ) → pieces 0 ends bytes ≡ sent → i < length sent → i < length ends
index_of_end sent ends bytes i view some = omega (arith, ap length view, length-pieces 0 ends bytes, some)

-- a datagram is packed after the others
module _ (ends ends' bytes bytes' datagram : List ℕ) (end : ℕ) (are : AreEnds 0 ends (length bytes)) (more_ends : ends' ≡ ends ++ end ∷ []) (more_bytes : bytes' ≡ bytes ++ datagram) (at_end : end ≡ length bytes') where
  length_after : length bytes' ≡ length bytes + length datagram
  length_after = ap length more_bytes ∙ length-append bytes datagram

  pub ends_after : 0 < length datagram → AreEnds 0 ends' (length bytes')
  ends_after some =
      let longer : length bytes < end = omega (arith, at_end, length_after, some) in
      let whole : AreEnds 0 ends' end = subst (λ (es : List ℕ). AreEnds 0 es end) (sym more_ends) (AreEnds-append 0 ends (length bytes) end are longer) in
      subst (λ (n : ℕ). AreEnds 0 ends' n) at_end whole

  pub sent_after : (sent : List (List ℕ)) → pieces 0 ends bytes ≡ sent → pieces 0 ends' bytes' ≡ sent ++ datagram ∷ []
  sent_after sent view =
      ap (λ (es : List ℕ). pieces 0 es bytes') (more_ends ∙ ap (λ (n : ℕ). ends ++ n ∷ []) (at_end ∙ length_after))
      ∙ ap (λ (bs : List ℕ). pieces 0 (ends ++ (length bytes + length datagram) ∷ []) bs) more_bytes
      ∙ pieces-append 0 ends bytes datagram are
      ∙ ap (λ (ds : List (List ℕ)). ds ++ datagram ∷ []) view

-- the datagram after i others, where its start and its end were read
module _ (sent : List (List ℕ)) (ends bytes bytes' : List ℕ) (i start end : ℕ) (view : pieces 0 ends bytes ≡ sent) (some : i < length sent) (are : AreEnds 0 ends (length bytes)) (same : bytes' ≡ bytes) (at_start : start ≡ start_of 0 ends i) (read_end : end ≡ get_or ends i end) where
  is_end : i < length ends
  is_end = index_of_end sent ends bytes i view some

  at_end : end ≡ slice_index ends i
  at_end = read_end ∙ get_or_default ends i end 0 is_end

  pub datagram_bounds : (start ≤ end) × (end ≤ length bytes')
  datagram_bounds =
      let piece = piece_within 0 ends (length bytes) i are is_end in
      (omega (arith, at_start, at_end, piece.0), omega (arith, at_end, piece.1, ap length same))

  pub datagram_at : slice_get sent i ≡ Some (slice_range bytes' start end)
  datagram_at =
      ap (λ (ds : List (List ℕ)). slice_get ds i) (sym view)
      ∙ slice_get-pieces 0 ends bytes i is_end
      ∙ ap (λ (b : List ℕ). Some (slice_range b (start_of 0 ends i) (slice_index ends i))) (sym same)
      ∙ ap (λ (n : ℕ). Some (slice_range bytes' n (slice_index ends i))) (sym at_start)
      ∙ ap (λ (n : ℕ). Some (slice_range bytes' start n)) (sym at_end)
