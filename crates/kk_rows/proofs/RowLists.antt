-- Lists of rows as the code moves them.
use Rattle.std.proofs.Common.{◌≡◌, ℕ, zero, suc, ◌+◌, ◌-◌, ◌<◌, ◌≤◌, List, [], ◌∷◌, ◌++◌, length, take, drop, get_or, sym, ap, ◌∙◌, subst, arith, false, true, fold, bit_xor, ◌^◌}
use Rattle.std.specs.Prelude.{All}
use Rattle.std.proofs.lemmas.List.{append-nil, drop_all, take_all, drop_at, length-take-le, length-drop, get_or-map, map_more, length-map, take-map}
use Rattle.std.proofs.lemmas.List.Elements.{All-cons, All-push, All-take}
use borrow.Rule.Slice.PartMut.{put_mid, mid_of, post_of}
use Rattle.kk_rows.specs.declared.rows.Row.{Row}
use Rattle.kk_rows.specs.Rows.{numbers}
use Rattle.kk_rows.specs.Echelon.{IsReduced, IsClear, HasLeads, cleared}
use Rattle.kk_rows.specs.Span.{in_span}
use Rattle.kk_rows.specs.Space.{IsRowSpace}
use Rattle.kk_rows.proofs.Dimensions.{dimension-push_outside, dimension-le_width}
use Rattle.kk_rows.proofs.Sums.{xor_twice_left}
use Rattle.kk_rows.proofs.Spans.{in_span-xor, in_span-lt}
use Rattle.std.specs.Int.Bits.{xor_zero_r, xor_lt}
use Rattle.kk_rows.proofs.Leading.{lt_from_leads}
use Rattle.kk_rows.proofs.Reduced.{Reduces, dimension_reduced, Reduces-from, Reduces-pos, in_span-fold_cleared, IsClear-fold_cleared, zero_from_clear}

-- in reduced rows, the rows from one that is not above v on are not above v
pub falling_after : (v : ℕ) (xs : List ℕ) → Reduces xs → (i : ℕ) → i < length xs → get_or xs i 0 ≤ v → All (λ x. x ≤ v) (drop i xs)
falling_after v [] h i lt le = absurd (omega arith)
falling_after v (x ∷ xs) h zero lt le =
    let pos = Reduces-pos xs h.2 in
    All-cons (λ y. y ≤ v) x xs le (λ k d below. let lower = lt_from_leads x (get_or xs k d) h.0 (pos k d below) (h.1 k d below).0 in omega arith)
falling_after v (x ∷ xs) h (suc i) lt le = falling_after v xs h.2 i (omega arith) le

pub numbers-get_or : (rows : List Row) (i : ℕ) → i < length rows → get_or (numbers rows) i 0 ≡ (get_or rows i record { 0 = 0 }).0
numbers-get_or rows i h = get_or-map (λ (row : Row). row.0) rows i record { 0 = 0 } 0 h

pub numbers-take_more : (rows : List Row) (i : ℕ) → i < length rows → numbers (take (i + 1) rows) ≡ numbers (take i rows) ++ (get_or rows i record { 0 = 0 }).0 ∷ []
numbers-take_more rows i h = map_more (λ (row : Row). row.0) rows i record { 0 = 0 } h

-- what holds of each number holds of each row's
pub numbers_each : (P : ℕ → Type 0) (rows : List Row) (i : ℕ) → All P (numbers rows) → i < length rows → P (get_or rows i record { 0 = 0 }).0
numbers_each P rows i each h =
    subst P (numbers-get_or rows i h) (each i 0 (omega (arith, length-map rows (λ (row : Row). row.0))))

pub numbers_taken_each : (P : ℕ → Type 0) (rows : List Row) (i : ℕ) → All P (numbers rows) → i < length rows → All P (numbers (take i rows) ++ (get_or rows i record { 0 = 0 }).0 ∷ [])
numbers_taken_each P rows i each h =
    subst (All P) (take-map (λ (row : Row). row.0) (i + 1) rows ∙ numbers-take_more rows i h) (All-take P (i + 1) (numbers rows) each)

-- ---- what reduced rows leave of v

module _ (rows : List ℕ) (v left : ℕ) where
  pub reduced_difference : left ≡ fold cleared v rows → in_span rows (bit_xor v left) ≡ true
  reduced_difference e = subst (λ x. in_span rows (bit_xor v x) ≡ true) (sym e) (in_span-fold_cleared rows v)

  pub reduced_clear : IsReduced rows → left ≡ fold cleared v rows → IsClear rows left
  reduced_clear h e = subst (λ x. IsClear rows x) (sym e) (IsClear-fold_cleared rows (Reduces-from rows h) v)

  pub reduced_zero : IsReduced rows → left ≡ fold cleared v rows → (left ≡ 0 → in_span rows v ≡ true) × (in_span rows v ≡ true → left ≡ 0)
  reduced_zero h e = (
    λ zero. subst (λ x. in_span rows x ≡ true) (ap (bit_xor v) zero ∙ xor_zero_r v) (reduced_difference e),
    λ inside. zero_from_clear rows (Reduces-from rows h) left
        (subst (λ x. in_span rows x ≡ true) (xor_twice_left v left) (in_span-xor rows v (bit_xor v left) inside (reduced_difference e)))
        (reduced_clear h e),
  )

pub reduced_below : (n : ℕ) (rows : List ℕ) (v left : ℕ) → All (λ r. r < 2 ^ n) rows → v < 2 ^ n → left ≡ fold cleared v rows → left < 2 ^ n
reduced_below n rows v left each small e =
    subst (λ x. x < 2 ^ n) (xor_twice_left v left) (xor_lt n v (bit_xor v left) small (in_span-lt n rows each (bit_xor v left) (reduced_difference rows v left e)))

-- ---- the end of an array of rows

-- the part from place a on is the rest
pub mid_to_end : (rows : List Row) (n a : ℕ) → length rows ≡ n → mid_of a (n - a) rows ≡ drop a rows
mid_to_end rows n a len = take_all (n - a) (drop a rows) (omega (arith, length-drop a rows, len))

-- what stands there after it was written over
pub drop-put_to_end : (rows new : List Row) (n a : ℕ) → length rows ≡ n → a ≤ n → drop a (put_mid a (n - a) rows new) ≡ new
drop-put_to_end rows new n a len within =
    let front : length (take a rows) ≡ a = length-take-le a rows (omega (arith, len, within)) in
    let rest : post_of a (n - a) rows ≡ [] = drop_all (n - a) (drop a rows) (omega (arith, length-drop a rows, len)) in
    drop_at (take a rows) (new ++ post_of a (n - a) rows) a front ∙ ap (λ l. new ++ l) rest ∙ append-nil new

-- ---- a row space with one more row

-- a space with a row outside it has room
pub room_left : (width rank leads : ℕ) (rows : List ℕ) (v : ℕ) → IsRowSpace width rank leads rows → v < 2 ^ width → in_span rows v ≡ false → rank < width
room_left width rank leads rows v h small outside =
    let more = dimension-push_outside rows v outside in
    let now = dimension_reduced rows h.reduced in
    let most = dimension-le_width width (rows ++ v ∷ []) (All-push (λ r. r < 2 ^ width) rows v h.below small) in
    omega (arith, h.counted)

pub grown_is_row_space : (width rank leads leads' : ℕ) (rows : List ℕ) (new : List Row) → IsRowSpace width rank leads rows → rank < width → length new ≡ rank + 1 → All (λ r. r < 2 ^ width) (numbers new) → IsReduced (numbers new) → HasLeads leads' (numbers new)
    → IsRowSpace width (rank + 1) leads' (numbers new)
grown_is_row_space width rank leads leads' rows new h room len below reduced led = record {
  some_width = h.some_width;
  width_fits = h.width_fits;
  rank_fits = omega arith;
  counted = length-map new (λ (row : Row). row.0) ∙ len;
  below = below;
  reduced = reduced;
  led = led;
}
