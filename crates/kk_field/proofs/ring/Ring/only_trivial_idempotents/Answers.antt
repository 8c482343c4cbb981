use Rattle.std.proofs.Common.{◌≡◌, ℕ, suc, ◌*◌, ◌%◌, ◌^◌, ◌<◌, ◌≤◌, List, bit_xor, refl, ap, sym, ◌∙◌, arith, subst}
use Rattle.std.proofs.Math.Pow.{pow_mono}
use Rattle.std.proofs.Math.Numerals.{add-one}
use Rattle.std.proofs.lemmas.Bool.{false≢true}
use Rattle.std.proofs.lemmas.Nat.{one_shl, pow_below}
use Rattle.kk_field.specs.Field.{Modulus, field_product}
use Rattle.kk_field.specs.Laws.{IsModulus, OnlyTrivialIdempotents}
use Rattle.kk_field.specs.Echelon.{InSpan, Inserts}
use Rattle.kk_field.proofs.Criterion.{artin_schreier, artin_schreier-xor, artin_schreier-one, artin_schreier-idempotent, idempotent-artin_schreier}
use Rattle.kk_field.proofs.Elimination.{Covers, Covers-none, Covers-more, more_in_kernel}
use Rattle.kk_field.proofs.ring.Ring.only_trivial_idempotents.Goals as goal

-- a sum of entries makes a further idempotent
not_only_trivial : (f : Modulus) → IsModulus f → (pivots : List ℕ) (i : ℕ) → 1 ≤ i → i < f.degree
    → Covers (artin_schreier f) pivots i → InSpan pivots (artin_schreier f (2 ^ i)) → OnlyTrivialIdempotents f → ⊥
not_only_trivial f h pivots i least most c s trivial =
    let a = more_in_kernel (artin_schreier f) (artin_schreier-xor f h) pivots i c s in
    let powers : 2 ^ suc i ≤ 2 ^ f.degree = pow_mono most in
    let two : 2 ^ 1 ≤ 2 ^ i = pow_mono least in
    absurd (omega (arith, a.2, two, trivial a.0 (omega (arith, a.1, powers)) (idempotent-artin_schreier f h a.0 a.3)))

-- what the code computes of X^i
image_is : (f : Modulus) (i r : ℕ) → i < 64 → r ≡ field_product f (1 * 2 ^ i % 18446744073709551616) (1 * 2 ^ i % 18446744073709551616)
    → bit_xor r (1 * 2 ^ i % 18446744073709551616) ≡ artin_schreier f (2 ^ i)
unfolding artin_schreier
image_is f i r within e =
    ap (λ x. bit_xor x (1 * 2 ^ i % 18446744073709551616)) e
    ∙ ap (λ x. bit_xor (field_product f x x) x) (one_shl i 64 within)

shift_below : (m i : ℕ) → i < m → m ≤ 64 → 1 * 2 ^ i % 18446744073709551616 < 2 ^ m
shift_below m i less most =
    let within : i < 64 = omega arith in
    omega (arith, one_shl i 64 within, pow_below i m less)

pub loop-i-init : goal.loop-i-init
loop-i-init c =
    let f = c.args.self.now in
    let h : IsModulus f = subst IsModulus c.self.view_is (record { at_least_one = c.self.invariant.0; low_below = c.self.invariant.2 }) in
    subst (λ pivots. Covers (artin_schreier f) pivots 1) (sym c.new-basis.ensures)
    (Covers-none (artin_schreier f) (artin_schreier-xor f h) 64 (artin_schreier-one f h))

pub product-requires-clause-a_below : goal.product-requires-clause-a_below
product-requires-clause-a_below c =
    subst (λ f. 1 * 2 ^ c.loop-i.i % 18446744073709551616 < 2 ^ f.degree) c.self.view_is
    (shift_below c.self.inside.m c.loop-i.i c.loop-i-test.true c.self.invariant.1)

pub product-requires-clause-b_below : goal.product-requires-clause-b_below
product-requires-clause-b_below c =
    subst (λ f. 1 * 2 ^ c.loop-i.i % 18446744073709551616 < 2 ^ f.degree) c.self.view_is
    (shift_below c.self.inside.m c.loop-i.i c.loop-i-test.true c.self.invariant.1)

pub returns-then-not-insert : goal.returns-then-not-insert
returns-then-not-insert c =
    let f = c.args.self.now in
    let i = c.loop-i.i in
    let h : IsModulus f = subst IsModulus c.self.view_is (record { at_least_one = c.self.invariant.0; low_below = c.self.invariant.2 }) in
    let degree : c.self.inside.m ≡ f.degree = ap (λ f. f.degree) c.self.view_is in
    let within : i < 64 = omega (arith, c.loop-i-test.true, c.self.invariant.1) in
    let sum = subst (InSpan c.loop-i.basis.pivots) (image_is f i c.product.result within c.product.ensures.value) c.if-not-insert.ensures.sum in (
      λ e. absurd (false≢true e),
      λ trivial. absurd (not_only_trivial f h c.loop-i.basis.pivots i c.loop-i.auto.i (omega (arith, degree, c.loop-i-test.true)) c.loop-i.invariant sum trivial),
    )

pub loop-i-preserved : goal.loop-i-preserved
loop-i-preserved c =
    let f = c.args.self.now in
    let i = c.loop-i.i in
    let h : IsModulus f = subst IsModulus c.self.view_is (record { at_least_one = c.self.invariant.0; low_below = c.self.invariant.2 }) in
    let within : i < 64 = omega (arith, c.loop-i-test.true, c.self.invariant.1) in
    let added = subst (Inserts c.loop-i.basis.pivots c.insert.new.self.pivots) (image_is f i c.product.result within c.product.ensures.value) c.if-not-insert.ensures.added in
    rw (add-one i)
    (Covers-more (artin_schreier f) (artin_schreier-xor f h) c.loop-i.basis.pivots c.insert.new.self.pivots i c.loop-i.invariant added)

pub returns : goal.returns
returns c =
    let f = c.args.self.now in
    let h : IsModulus f = subst IsModulus c.self.view_is (record { at_least_one = c.self.invariant.0; low_below = c.self.invariant.2 }) in
    let degree : c.self.inside.m ≡ f.degree = ap (λ f. f.degree) c.self.view_is in
    let all : c.loop-i.i ≡ f.degree = omega (arith, degree, c.self.invariant.0, c.loop-i.auto.i-end c.self.invariant.0) in (
      λ e a below idempotent.
          c.loop-i.invariant.kernel a (subst (λ i. a < 2 ^ i) (sym all) below) (artin_schreier-idempotent f h a idempotent),
      λ trivial. refl,
    )
