-- Combinations of rows: the step of the code, and that they are members of the span.
use Rattle.std.proofs.Common.{◌≡◌, ℕ, zero, suc, true, List, [], ◌∷◌, ◌+◌, ◌*◌, ◌/◌, ◌%◌, ◌<◌, ◌≤◌, ◌^◌, drop, length, get_or, sym, ap, ◌∙◌, subst, bit_xor, arith, drop-cons}
use Rattle.std.specs.Prelude.{All}
use Rattle.std.specs.Int.Bits.{xor_assoc, xor_zero_r}
use Rattle.std.proofs.lemmas.List.{drop_all}
use Rattle.kk_rows.specs.Span.{in_span}
use Rattle.kk_rows.specs.Rows.{numbers}
use Rattle.kk_rows.specs.declared.rows.Row.{Row}
use Rattle.kk_rows.specs.Combination.{combination, CombinationsAreMembers}
use Rattle.kk_rows.proofs.Spans.{in_span_skip, in_span-head, in_span-lt, in_span-xor, in_span-zero}

-- a row or nothing is in a span that has the row
in_span-bit : (row : ℕ) (rows : List ℕ) (b : ℕ) → b < 2 → in_span (row ∷ rows) (b * row) ≡ true
in_span-bit row rows zero h = subst (λ v. in_span (row ∷ rows) v ≡ true) (omega arith) (in_span-zero (row ∷ rows))
in_span-bit row rows (suc zero) h = subst (λ v. in_span (row ∷ rows) v ≡ true) (omega arith) (in_span-head row rows)
in_span-bit row rows (suc (suc b)) h = absurd (omega (arith, h))

pub in_span-combination : (rows : List ℕ) (word : ℕ) → in_span rows (combination rows word) ≡ true
unfolding combination
in_span-combination [] word = in_span-zero []
in_span-combination (row ∷ rows) word =
    in_span-xor (row ∷ rows) (word % 2 * row) (combination rows (word / 2)) (in_span-bit row rows (word % 2) (omega arith))
    (in_span_skip row rows _ (in_span-combination rows (word / 2)))

pub combinations_are_members : CombinationsAreMembers
combinations_are_members rows word = in_span-combination rows word

pub combination-lt : (n : ℕ) (rows : List ℕ) (word : ℕ) → All (λ r. r < 2 ^ n) rows → combination rows word < 2 ^ n
combination-lt n rows word h = in_span-lt n rows h (combination rows word) (in_span-combination rows word)

-- the row at the front of those that are left is added
pub combination-step : (rows : List Row) (i bits sum : ℕ) (d : Row) → i < length rows
    → bit_xor (bit_xor sum (bits % 2 * (get_or rows i d).0)) (combination (numbers (drop (i + 1) rows)) (bits / 2))
    ≡ bit_xor sum (combination (numbers (drop i rows)) bits)
unfolding combination
combination-step rows i bits sum d h =
    xor_assoc sum (bits % 2 * (get_or rows i d).0) (combination (numbers (drop (i + 1) rows)) (bits / 2))
    ∙ ap (λ j. bit_xor sum (bit_xor (bits % 2 * (get_or rows i d).0) (combination (numbers (drop j rows)) (bits / 2)))) {x = i + 1} {y = suc i} (omega arith)
    ∙ ap (λ left. bit_xor sum (combination (numbers left) bits)) (sym (drop-cons rows i d h))

-- none is left
pub combination-end : (rows : List Row) (i bits sum : ℕ) → length rows ≤ i → bit_xor sum (combination (numbers (drop i rows)) bits) ≡ sum
unfolding combination
combination-end rows i bits sum h =
    ap (λ left. bit_xor sum (combination (numbers left) bits)) (drop_all i rows h) ∙ xor_zero_r sum
