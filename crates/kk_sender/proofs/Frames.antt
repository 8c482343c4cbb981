-- The frames of the generations so far.
use Rattle.std.proofs.Common.{◌≡◌, ℕ, zero, suc, ◌+◌, ◌-◌, ◌*◌, ◌^◌, ◌<◌, ◌≤◌, List, [], ◌∷◌, ◌++◌, length, map, take, drop, get_or, refl, sym, ap, ◌∙◌, arith, add-one, append_assoc, length-append}
use Rattle.std.specs.Prelude.{All}
use Rattle.std.specs.List.{range_with_len, flat_map}
use Rattle.std.proofs.lemmas.List.{append-nil, length-map, get_or-map, map-append, take-append-drop, take_more}
use Rattle.std.proofs.lemmas.List.Concat.{flat_map-append}
use Rattle.std.proofs.lemmas.List.Elements.{All-append, All-map}
use Rattle.std.proofs.lemmas.List.FromFn.{length-map-range_with_len, map-range_with_len_more}
use Rattle.rand_core.specs.Stream.{Stream, next_u64}
use Rattle.kk_rows.specs.Combination.{combination}
use Rattle.kk_rows.specs.Rows.{numbers}
use Rattle.kk_rows.specs.declared.rows.Row.{Row}
use Rattle.kk_rows.proofs.Combinations.{combination-lt}
use Rattle.kk_code.specs.Ticket.{TicketFields}
use Rattle.kk_code.proofs.Values.{length-codeword}
use Rattle.kk_frame.specs.Frame.{FrameValue, Vector}
use Rattle.kk_outside.specs.Generator.{after_words, word_at}
use Rattle.kk_sender.specs.SentFrames.{codeword_of, with_combinations, sent_rows, vectors, data_frames}

range-more : (a n : ℕ) → range_with_len a (n + 1) ≡ range_with_len a n ++ (a + n) ∷ []
range-more a zero = ap (λ (k : ℕ). k ∷ []) (omega arith)
range-more a (suc n) =
    let next : range_with_len (a + 1) (n + 1) ≡ range_with_len (a + 1) n ++ (a + 1 + n) ∷ [] = range-more (a + 1) n in
    let place : a + 1 + n ≡ a + suc n = omega arith in
    ap (λ (k : ℕ). range_with_len a k) {x = suc n + 1} {y = suc (n + 1)} (omega arith)
    ∙ ap (λ l. a ∷ l) (next ∙ ap (λ (k : ℕ). range_with_len (a + 1) n ++ k ∷ []) place)

range-parts : (a n m : ℕ) → range_with_len a (n + m) ≡ range_with_len a n ++ range_with_len (a + n) m
range-parts a zero m = ap (λ (k : ℕ). range_with_len a k) (omega arith) ∙ ap (λ (k : ℕ). range_with_len k m) (omega arith)
range-parts a (suc n) m =
    let place : a + 1 + n ≡ a + suc n = omega arith in
    ap (λ (k : ℕ). range_with_len a k) {x = suc n + m} {y = suc (n + m)} (omega arith)
    ∙ ap (λ l. a ∷ l) (range-parts (a + 1) n m ∙ ap (λ (k : ℕ). range_with_len (a + 1) n ++ range_with_len k m) place)

-- ---- the frames of all generations

-- those of the first g + 1
pub data_frames-more : (rows : ℕ → List ℕ) (g : ℕ) → data_frames rows (g + 1) ≡ data_frames rows g ++ vectors g (rows g)
data_frames-more rows g =
    let f = λ (k : ℕ). vectors k (rows k) in
    ap (flat_map f) (range-more 0 g ∙ ap (λ (k : ℕ). range_with_len 0 g ++ k ∷ []) (omega arith))
    ∙ flat_map-append f (range_with_len 0 g) (g ∷ [])
    ∙ ap (λ l. data_frames rows g ++ l) (append-nil (vectors g (rows g)))

-- those of the first g, and the others
pub data_frames-parts : (rows : ℕ → List ℕ) (g n : ℕ) → g ≤ n → (more : List FrameValue) × (data_frames rows n ≡ data_frames rows g ++ more)
data_frames-parts rows g n within =
    let f = λ (k : ℕ). vectors k (rows k) in (
      flat_map f (range_with_len (0 + g) (n - g)),
      ap (λ (k : ℕ). flat_map f (range_with_len 0 k)) {x = n} {y = g + (n - g)} (omega (arith, within))
          ∙ ap (flat_map f) (range-parts 0 g (n - g))
          ∙ flat_map-append f (range_with_len 0 g) (range_with_len (0 + g) (n - g)),
    )

pub length-data_frames : (rows : ℕ → List ℕ) (each n : ℕ) → ((g : ℕ) → length (rows g) ≡ each) → length (data_frames rows n) ≡ n * each
length-data_frames rows each zero same = omega arith
length-data_frames rows each (suc n) same =
    let more : data_frames rows (suc n) ≡ data_frames rows n ++ vectors n (rows n) = ap (data_frames rows) (sym (add-one n)) ∙ data_frames-more rows n in
    let so_far : length (data_frames rows n) ≡ n * each = length-data_frames rows each n same in
    let last : length (vectors n (rows n)) ≡ each = length-map (rows n) (Vector n) ∙ same n in
    ap length more ∙ length-append (data_frames rows n) (vectors n (rows n)) ∙ grind (arith)

-- ---- the frames of one generation

-- those of the first i + 1 rows
pub vectors-more : (g : ℕ) (rows : List Row) (i : ℕ) (d : Row) → i < length rows → vectors g (take (i + 1) (numbers rows)) ≡ vectors g (take i (numbers rows)) ++ Vector g (get_or rows i d).0 ∷ []
vectors-more g rows i d within =
    let see = λ (r : Row). r.0 in
    let at : get_or (numbers rows) i (see d) ≡ (get_or rows i d).0 = get_or-map see rows i d (see d) within in
    let inside : i < length (numbers rows) = omega (arith, within, length-map rows see) in
    ap (vectors g) (take_more (numbers rows) i (see d) inside)
    ∙ map-append (Vector g) (take i (numbers rows)) (get_or (numbers rows) i (see d) ∷ [])
    ∙ ap (λ r. vectors g (take i (numbers rows)) ++ Vector g r ∷ []) at

-- those of the first n, and the others
pub vectors-parts : (g : ℕ) (rows : List ℕ) (n : ℕ) → vectors g rows ≡ vectors g (take n rows) ++ vectors g (drop n rows)
vectors-parts g rows n = ap (vectors g) (sym (take-append-drop n rows)) ∙ map-append (Vector g) (take n rows) (drop n rows)

-- The first i rows of a generation after some frames, the next one, and the others.
pub vectors-cut : (frames : List FrameValue) (g : ℕ) (rows : List Row) (i : ℕ) (d : Row) → i < length rows
    → frames ++ vectors g (numbers rows) ≡ ((frames ++ vectors g (take i (numbers rows))) ++ Vector g (get_or rows i d).0 ∷ []) ++ vectors g (drop (i + 1) (numbers rows))
vectors-cut frames g rows i d within =
    let front = vectors g (take i (numbers rows)) in
    let row = Vector g (get_or rows i d).0 ∷ [] in
    let others = vectors g (drop (i + 1) (numbers rows)) in
    ap (λ l. frames ++ l) (vectors-parts g (numbers rows) (i + 1) ∙ ap (λ l. l ++ others) (vectors-more g rows i d within))
    ∙ sym (append_assoc frames (front ++ row) others)
    ∙ ap (λ l. l ++ others) (sym (append_assoc frames front row))

-- ---- the rows of one generation

pub length-with_combinations : (word : ℕ → ℕ) (rows : List ℕ) (first n : ℕ) → length (with_combinations word rows first n) ≡ length rows + n
length-with_combinations word rows first n =
    let f = λ (i : ℕ). combination rows (word i) in
    omega (arith, length-append rows (map f (range_with_len first n)), length-map-range_with_len f first n)

pub with_combinations-below : (w : ℕ) (word : ℕ → ℕ) (rows : List ℕ) (first n : ℕ) → All (λ r. r < 2 ^ w) rows → All (λ r. r < 2 ^ w) (with_combinations word rows first n)
with_combinations-below w word rows first n below =
    let f = λ (i : ℕ). combination rows (word i) in
    All-append (λ r. r < 2 ^ w) rows (map f (range_with_len first n)) below
    (All-map (λ r. r < 2 ^ w) f (range_with_len first n) (λ k d inside. combination-lt w rows (word (get_or (range_with_len first n) k d)) below))

pub length-sent_rows : (t : TicketFields) (file : List ℕ) (extra : ℕ) (word : ℕ → ℕ) (g : ℕ) → length (sent_rows t file extra word g) ≡ t.code.l + extra
length-sent_rows t file extra word g =
    length-with_combinations word (codeword_of t file g) (g * extra) extra ∙ ap (λ n. n + extra) (length-codeword t.code _)

pub with_combinations-none : (word : ℕ → ℕ) (rows : List ℕ) (first : ℕ) → with_combinations word rows first 0 ≡ rows
with_combinations-none word rows first = append-nil rows

-- one combination more
pub with_combinations-more : (word : ℕ → ℕ) (rows : List ℕ) (first n : ℕ) → with_combinations word rows first (n + 1) ≡ with_combinations word rows first n ++ combination rows (word (first + n)) ∷ []
with_combinations-more word rows first n =
    let f = λ (i : ℕ). combination rows (word i) in
    ap (λ l. rows ++ l) (map-range_with_len_more f first n (first + n) refl) ∙ sym (append_assoc rows (map f (range_with_len first n)) (f (first + n) ∷ []))

-- the next word of a generator that gave n words
pub drawn : (start old new : Stream) (word n : ℕ) → ◌≡◌ {A = ℕ × Stream} (word, new) (next_u64 old) → old ≡ after_words n start → (word ≡ word_at start n) × (new ≡ after_words (n + 1) start)
drawn start old new word n is so_far = (
  ap (λ (p : ℕ × Stream). p.0) is ∙ ap (λ s. (next_u64 s).0) so_far,
  ap (λ (p : ℕ × Stream). p.1) is ∙ ap (λ s. (next_u64 s).1) so_far ∙ ap (λ (k : ℕ). after_words k start) (sym (add-one n)),
)
