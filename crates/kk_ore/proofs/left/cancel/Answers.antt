use Rattle.std.proofs.Common.{List, ◌≡◌, ◌≢◌, ℕ, ◌+◌, ◌-◌, ◌*◌, ◌^◌, ◌<◌, length, set, replicate, bit_xor, refl, sym, ap, ◌∙◌, subst, arith}
use Rattle.std.specs.Prelude.{slice_index}
use Rattle.std.proofs.Math.Pow.{pow_pos}
use Rattle.std.proofs.lemmas.List.{get_or-set_same, get_or-set_other, get_or_past, length-set}
use Rattle.std.proofs.lemmas.List.Elements.{All-set}
use Rattle.std.specs.Int.Bits.{xor_zero_l}
use Rattle.kk_field.specs.Field.{Modulus, field_product, frobenius}
use Rattle.kk_field.proofs.Residues.{zero-field_product, field_product-below}
use Rattle.kk_field.proofs.Elimination.{slice_index-zeros}
use Rattle.kk_linpoly.specs.LinPoly.{IsOver, composed}
use Rattle.kk_linpoly.proofs.Coefficients.{coefficient-lt, IsOver-from}
use Rattle.kk_ore.proofs.Terms.{composed-none_right, composed-term_right_before, composed-term_right}
use Rattle.kk_ore.proofs.Turns.{sum_more, ends_more, IsOver-more, left_leads, turns_split}
use Rattle.kk_ore.proofs.left.cancel.Goals as goal

-- no term so far
sum_none : (f : Modulus) → f.low < 2 ^ f.degree → (b remainder : List ℕ) (n : ℕ)
    → slice_index remainder n ≡ bit_xor (composed f (slice_index b) (slice_index (replicate 128 0)) n) (slice_index remainder n)
sum_none f low b remainder n =
    sym (ap (λ x. bit_xor x (slice_index remainder n)) (composed-none_right f low (slice_index b) (slice_index (replicate 128 0)) (slice_index-zeros 128) n)
    ∙ xor_zero_l (slice_index remainder n))

IsOver-zeros : (m : ℕ) → IsOver m (replicate 128 0)
IsOver-zeros m = IsOver-from m (replicate 128 0) (λ n. subst (λ x. x < 2 ^ m) (sym (slice_index-zeros 128 n)) (pow_pos m))

pub returns-then-places-eq0-clause-sum : goal.returns-then-places-eq0-clause-sum
returns-then-places-eq0-clause-sum g c =
    sum_none c.args.field.now (subst (λ f. f.low < 2 ^ f.degree) c.ring-ring.ensures.value c.ring-ring.ensures.irreducible.modulus.low_below)
    c.args.b.now c.args.remainder.now

pub returns-then-places-eq0-clause-quotient_of_field : goal.returns-then-places-eq0-clause-quotient_of_field
returns-then-places-eq0-clause-quotient_of_field g c = IsOver-zeros c.args.field.now.degree

pub loop-s-init : goal.loop-s-init
loop-s-init g c =
    let f = c.ring-ring.result.now in
    let low = c.ring-ring.ensures.irreducible.modulus.low_below in
    let same = c.ring-ring.ensures.value in
    record {
      sum_is = sum_none f low c.args.b.now c.args.remainder.now;
      free = λ n less. slice_index-zeros 128 n;
      ends = c.requires.ends;
      quotient_over = IsOver-zeros f.degree;
      remainder_over = subst (λ f. IsOver f.degree c.args.remainder.now) (sym same) c.requires.remainder_of_field;
      long = refl;
      counted = omega (arith, c.inverse_of-inverse.ensures.cost, ap (λ f. f.degree) same);
    }

pub loop-s-preserved : goal.loop-s-preserved
loop-s-preserved g c =
    let f = c.ring-ring.result.now in
    let low = c.ring-ring.ensures.irreducible.modulus.low_below in
    let same = c.ring-ring.ensures.value in
    let inv = c.loop-s.invariant in
    let b = c.args.b.now in
    let k = length b in
    let s = c.loop-s.s - 1 in
    let x = c.root2-c.result in
    let q = c.loop-s.quotient in
    let q' = set q s x in
    let remainder = c.loop-s.remainder in
    let remainder' = c.add_term.new.remainder in
    let lead = slice_index remainder (s + (k - 1)) in
    let term = λ (j : ℕ). field_product f (slice_index b j) (frobenius f j x) in
    let others = λ (i : ℕ) (apart : i ≢ s). get_or-set_other q s i x 0 apart in
    let here : slice_index q' s ≡ x = get_or-set_same q s x 0 (omega (arith, inv.long, c.loop-s.auto.s, c.loop-s-test.true, c.requires.fits, c.requires.some)) in
    let free : slice_index q s ≡ 0 = inv.free s (omega (arith, c.loop-s-test.true)) in
    let below : x < 2 ^ f.degree = subst (λ f. x < 2 ^ f.degree) (sym same) c.root2-c.ensures.below in
    let one : field_product f (slice_index b (k - 1)) c.inverse_of-inverse.result ≡ 1 =
    subst (λ f. field_product f (slice_index b (k - 1)) c.inverse_of-inverse.result ≡ 1) (sym same) c.inverse_of-inverse.ensures.product_is_one in
    let leads : term (k - 1) ≡ lead =
    left_leads f low (slice_index b (k - 1)) c.inverse_of-inverse.result lead x c.mul-ratio.result (k - 1)
    (coefficient-lt f.degree remainder inv.remainder_over (s + (k - 1))) one c.mul-ratio.ensures.value
    (subst (λ f. frobenius f (k - 1) x ≡ c.mul-ratio.result) (sym same) c.root2-c.ensures.root) in
    record {
      sum_is = sum_more (slice_index c.args.remainder.now) (composed f (slice_index b) (slice_index q)) (composed f (slice_index b) (slice_index q'))
          (slice_index remainder) (slice_index remainder') term s inv.sum_is
          (λ n before. composed-term_right_before f low (slice_index b) (slice_index q) (slice_index q') s n others before)
          (λ j. composed-term_right f low (slice_index b) (slice_index q) (slice_index q') s j others free
          ∙ ap (λ y. bit_xor (composed f (slice_index b) (slice_index q) (s + j)) (field_product f (slice_index b j) (frobenius f j y))) here)
          c.add_term.ensures.before c.add_term.ensures.added;
      free = λ n less. others n (λ e. omega (arith, e, less)) ∙ inv.free n (omega (arith, less));
      ends = ends_more (slice_index remainder) (slice_index remainder') term s k c.requires.some (λ n past. inv.ends n (omega (arith, past, c.loop-s-test.true)))
          c.add_term.ensures.added leads
          (λ j past. ap (λ y. field_product f y (frobenius f j x)) (get_or_past b j 0 past) ∙ zero-field_product f low (frobenius f j x));
      quotient_over = All-set (λ c. c < 2 ^ f.degree) q s x below inv.quotient_over;
      remainder_over = IsOver-more f.degree remainder remainder' term s inv.remainder_over (λ j. field_product-below f low (slice_index b j) (frobenius f j x))
          c.add_term.ensures.before c.add_term.ensures.added;
      long = length-set q s x ∙ inv.long;
      counted = omega (arith, inv.counted, c.mul-ratio.ensures.cost, c.root2-c.ensures.cost, c.add_term.ensures.cost, ap (λ f. f.degree) same, turns_split c.loop-s.s (f.degree + 1 + 2 * k) c.loop-s-test.true);
    }
