use Rattle.std.proofs.Common.{List, ◌≡◌, ◌≢◌, ℕ, ◌+◌, ◌-◌, ◌^◌, ◌<◌, ◌≤◌, set, take, bit_xor, refl, sym, ap, ◌∙◌, subst, arith, inl, inr}
use Rattle.std.specs.Prelude.{slice_index}
use Rattle.std.proofs.lemmas.Bool.{cases_lt}
use Rattle.std.proofs.lemmas.List.{get_or-set_same, get_or-set_other, get_or-take, get_or_past, length-take}
use Rattle.std.proofs.lemmas.List.Elements.{All-set}
use Rattle.std.specs.Int.Bits.{xor_zero_l}
use Rattle.kk_field.specs.Field.{Modulus, field_product, frobenius}
use Rattle.kk_field.proofs.Residues.{field_product-below}
use Rattle.kk_linpoly.specs.LinPoly.{IsOver, composed}
use Rattle.kk_linpoly.proofs.Coefficients.{coefficient-lt}
use Rattle.kk_ore.proofs.Terms.{composed-none_right, composed-term_right}
use Rattle.kk_ore.proofs.Turns.{sum_at, IsOver-more}
use Rattle.kk_ore.proofs.Exact.{left_at, found}
use Rattle.kk_ore.proofs.low.cancel.Goals as goal

sum_none : (f : Modulus) → f.low < 2 ^ f.degree → (b remainder : List ℕ) (n : ℕ)
    → slice_index remainder n ≡ bit_xor (composed f (slice_index b) (slice_index (take 0 remainder)) n) (slice_index remainder n)
sum_none f low b remainder n =
    sym (ap (λ x. bit_xor x (slice_index remainder n)) (composed-none_right f low (slice_index b) (slice_index (take 0 remainder)) (λ i. refl) n)
    ∙ xor_zero_l (slice_index remainder n))

pub loop-s-init : goal.loop-s-init
loop-s-init g c =
    let f = c.ring-ring.result.now in
    let same = c.ring-ring.ensures.value in
    record {
      sum_is = λ n past. sum_none f c.ring-ring.ensures.irreducible.modulus.low_below c.args.b.now c.args.remainder.now n;
      agree = λ u over exact i less. absurd (omega (arith, less));
      over = subst (λ f. IsOver f.degree c.args.remainder.now) (sym same) c.requires.remainder_of_field;
      counted = omega (arith, c.inverse_of-inverse.ensures.cost, ap (λ f. f.degree) same);
    }

-- the places below one are as they were
front_past : (cs : List ℕ) (s i : ℕ) → s ≤ i → slice_index (take s cs) i ≡ 0
front_past cs s i past = get_or_past (take s cs) i 0 (omega (arith, past, length-take s cs))

front_same : (cs ds : List ℕ) (s : ℕ) → ((n : ℕ) → n < s → slice_index ds n ≡ slice_index cs n)
    → (i : ℕ) → i ≢ s → slice_index (take (s + 1) ds) i ≡ slice_index (take s cs) i
front_same cs ds s same i apart =
    elim (cases_lt i s) [
      | inl before ↦ get_or-take (s + 1) ds i 0 (omega arith) ∙ same i before ∙ sym (get_or-take s cs i 0 before)
      | inr past ↦ front_past ds (s + 1) i (omega (arith, apart, past)) ∙ sym (front_past cs s i past)
    ]

pub loop-s-preserved : goal.loop-s-preserved
loop-s-preserved g c =
    let f = c.ring-ring.result.now in
    let low = c.ring-ring.ensures.irreducible.modulus.low_below in
    let same = c.ring-ring.ensures.value in
    let inv = c.loop-s.invariant in
    let b = c.args.b.now in
    let s = c.loop-s.s in
    let x = c.mul-c.result in
    let a = c.args.remainder.now in
    let remainder = c.loop-s.remainder in
    let remainder' = c.add_term.new.remainder in
    let next = set remainder' s x in
    let q = take s remainder in
    let q' = take (s + 1) next in
    let inverse = c.inverse_of-inverse.result in
    let term = λ (j : ℕ). field_product f (slice_index b j) (frobenius f j x) in
    let untouched : (n : ℕ) → n ≢ s → slice_index next n ≡ slice_index remainder' n = λ n apart. get_or-set_other remainder' s n x 0 apart in
    let before : (n : ℕ) → n < s → slice_index next n ≡ slice_index remainder n =
    λ n less. untouched n (λ e. omega (arith, e, less)) ∙ c.add_term.ensures.before n less in
    let others = front_same remainder next s before in
    let placed : slice_index next s ≡ x = get_or-set_same remainder' s x 0 (omega (arith, c.add_term.array_long, c.loop-s-test.true, c.requires.fits)) in
    let here : slice_index q' s ≡ x = get_or-take (s + 1) next s 0 (omega arith) ∙ placed in
    let free : slice_index q s ≡ 0 = front_past remainder s s (omega arith) in
    let one : field_product f (slice_index b 0) inverse ≡ 1 =
    subst (λ f. field_product f (slice_index b 0) inverse ≡ 1) (sym same) c.inverse_of-inverse.ensures.product_is_one in
    let sum : (j : ℕ) → slice_index a (s + j) ≡ bit_xor (composed f (slice_index b) (slice_index q') (s + j)) (slice_index remainder' (s + j)) =
    λ j. sum_at (slice_index a (s + j)) (composed f (slice_index b) (slice_index q) (s + j)) (composed f (slice_index b) (slice_index q') (s + j))
    (slice_index remainder (s + j)) (slice_index remainder' (s + j)) (term j) (inv.sum_is (s + j) (omega arith))
    (composed-term_right f low (slice_index b) (slice_index q) (slice_index q') s j others free
    ∙ ap (λ y. bit_xor (composed f (slice_index b) (slice_index q) (s + j)) (field_product f (slice_index b j) (frobenius f j y))) here)
    (c.add_term.ensures.added j) in
    record {
      sum_is = λ n past.
          let place : s + (n - s) ≡ n = omega (arith, past) in
          subst (λ k. slice_index a k ≡ bit_xor (composed f (slice_index b) (slice_index q') k) (slice_index remainder' k)) place (sum (n - s))
          ∙ ap (bit_xor (composed f (slice_index b) (slice_index q') n)) (sym (untouched n (λ e. omega (arith, e, past))));
      agree = λ u over exact i less. elim (cases_lt i s) [
        | inl earlier ↦ before i earlier ∙ inv.agree u over exact i earlier
        | inr at ↦
            let place : i ≡ s = omega (arith, less, at) in
            let known : (i : ℕ) → i < s → slice_index q i ≡ slice_index u i =
            λ i less. get_or-take s remainder i 0 less ∙ inv.agree u over exact i less in
            let left = left_at f low a b q remainder u s exact (inv.sum_is s (omega arith)) known free in
            let coefficient : x ≡ slice_index u s =
            found f low (slice_index b 0) inverse (slice_index remainder s) (slice_index u s) x (coefficient-lt f.degree u over s) one left c.mul-c.ensures.value in
            ap (slice_index next) place ∙ placed ∙ coefficient ∙ ap (slice_index u) (sym place)
      ];
      over = All-set (λ c. c < 2 ^ f.degree) remainder' s x c.mul-c.ensures.below
          (IsOver-more f.degree remainder remainder' term s inv.over (λ j. field_product-below f low (slice_index b j) (frobenius f j x))
          c.add_term.ensures.before c.add_term.ensures.added);
      counted = omega (arith, inv.counted, c.mul-c.ensures.cost, c.add_term.ensures.cost);
    }
