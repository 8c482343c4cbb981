use Rattle.std.proofs.Common.{◌≡◌, ℕ, ◌+◌, ◌-◌, ◌<◌, ◌≤◌, ◌^◌, ◌++◌, List, length, length-append, length-drop, take, drop, set, sym, ap, ◌∙◌, subst, arith, inl, inr}
use Rattle.std.specs.Prelude.{slice_index}
use Rattle.std.proofs.lemmas.Bool.{cases_lt}
use Rattle.std.proofs.lemmas.List.{get_or-set_same, get_or-set_other, get_or_append_left, get_or-append_right, get_or-drop, get_or_past, length-set, length-take-le}
use Rattle.kk_field.specs.Field.{Modulus}
use Rattle.kk_linpoly.specs.LinPoly.{SamePolynomial, raised}
use Rattle.kk_linpoly.specs.Storage.{IsStored}
use Rattle.kk_linpoly.proofs.Loops.{length-raised}
use Rattle.kk_linpoly.proofs.Stored.{count_of, IsStoredAs, stored_as, ends_of, ends_stored, IsOver-trimmed, length-trimmed_of}
use Rattle.kk_linpoly.proofs.Vanishings.{IsOver-raised}
use Rattle.kk_linpoly.proofs.lin_poly.LinPoly.raise.Given.{Over}
use Rattle.kk_linpoly.proofs.lin_poly.LinPoly.raise.Goals as goal
use Rattle.kk_linpoly.proofs.lin_poly.LinPoly.raise.Goals.{After-trimmed_len-self-inside}

-- the places below len are new, then there is the last one, and no other
places : (f : Modulus) (d len : ℕ) (cs new : List ℕ) (last : ℕ) → IsStored len cs → len ≤ 127 → length new ≡ length (take len cs)
    → ((k : ℕ) → k < length (take len cs) → slice_index new k ≡ slice_index (raised f d (take len cs)) k)
    → last ≡ slice_index (raised f d (take len cs)) (length (take len cs))
    → SamePolynomial (set (new ++ drop len cs) len last) (raised f d (take len cs))
places f d len cs new last stored fits long within last_is =
    let old = take len cs in
    let made = new ++ drop len cs in
    let count : length old ≡ len = length-take-le len cs (omega (arith, stored.whole, fits)) in
    let all : length made ≡ length cs = length-append new (drop len cs) ∙ omega (arith, long, count, length-drop len cs, stored.whole, fits) in
    record {
      coefficients = λ i. elim (cases_lt i len) [
        | inl before ↦
            get_or-set_other made len i last 0 (λ e. omega (arith, e, before))
            ∙ get_or_append_left new (drop len cs) 0 i (omega (arith, before, long, count)) ∙ within i (omega (arith, before, count))
        | inr past ↦ elim (cases_lt len i) [
          | inl after ↦
              let place : len + (i - len) ≡ i = omega (arith, past) in
              get_or-set_other made len i last 0 (λ e. omega (arith, e, after))
              ∙ get_or-append_right new (drop len cs) len i 0 (long ∙ count) past
              ∙ get_or-drop len cs (i - len) 0 ∙ ap (slice_index cs) place ∙ ends_stored len cs stored i past
              ∙ sym (get_or_past (raised f d old) i 0 (omega (arith, after, count, length-raised f d old)))
          | inr at ↦
              let place : i ≡ len = omega (arith, past, at) in
              ap (slice_index (set made len last)) place ∙ get_or-set_same made len last 0 (omega (arith, all, stored.whole, fits)) ∙ last_is
              ∙ ap (slice_index (raised f d old)) (count ∙ sym place)
        ]
      ];
    }

stored : (g : Over) (c : After-trimmed_len-self-inside g)
    → IsStoredAs c.trimmed_len-self-inside.result
    (set (c.raise_each-top.new.coefficients ++ drop c.self.inside.len c.self.inside.coefficients) c.self.inside.len c.raise_each-top.result)
    (raised c.args.field.now c.args.d c.args.self.now)
stored g c =
    let i = c.self.inside in
    let d = c.args.d in
    let cs = c.args.self.now in
    let new = c.raise_each-top.new.coefficients in
    let made = set (new ++ drop i.len i.coefficients) i.len c.raise_each-top.result in
    let count = count_of i.len i.coefficients cs c.self.invariant c.self.view_is in
    let few : i.len ≤ 127 = omega (arith, count, c.requires.fits) in
    let long : length new ≡ i.len = c.raise_each-top.auto.coefficients ∙ ap length c.self.view_is ∙ count in
    let same : SamePolynomial made (raised c.args.field.now d cs) =
    subst (λ f. SamePolynomial made (raised f d cs)) c.ring.ensures.value
    (subst (λ l. SamePolynomial made (raised c.ring.result.now d l)) c.self.view_is
    (places c.ring.result.now d i.len i.coefficients new c.raise_each-top.result c.self.invariant few c.raise_each-top.auto.coefficients
    c.raise_each-top.ensures.within c.raise_each-top.ensures.last)) in
    stored_as c.trimmed_len-self-inside.result (i.len + 1) made (raised c.args.field.now d cs)
    (length-set (new ++ drop i.len i.coefficients) i.len c.raise_each-top.result ∙ length-append new (drop i.len i.coefficients)
    ∙ omega (arith, long, few, length-drop i.len i.coefficients, c.self.invariant.whole))
    (omega (arith, few)) c.trimmed_len-self-inside.ensures.within c.trimmed_len-self-inside.ensures.front
    (ends_of made (raised c.args.field.now d cs) (i.len + 1) same (omega (arith, count, length-raised c.args.field.now d cs))) same

pub invariant_of-self : goal.invariant_of-self
invariant_of-self g c = (stored g (goal.at.invariant_of-self g c).After-trimmed_len-self-inside).stored

pub returns-clause-value : goal.returns-clause-value
returns-clause-value g c = (stored g (goal.at.returns-clause-value g c).After-trimmed_len-self-inside).value

pub returns-clause-of_field : goal.returns-clause-of_field
returns-clause-of_field g c =
    let f = c.args.field.now in
    let low = subst (λ f. f.low < 2 ^ f.degree) c.ring.ensures.value c.ring.ensures.irreducible.modulus.low_below in
    IsOver-trimmed f.degree _ (raised f c.args.d c.args.self.now)
    (stored g (goal.at.returns-clause-of_field g c).After-trimmed_len-self-inside).value (IsOver-raised f low c.args.self.now c.args.d)

pub returns-clause-len : goal.returns-clause-len
returns-clause-len g c =
    let f = c.args.field.now in
    omega (
      arith,
      length-raised f c.args.d c.args.self.now,
      length-trimmed_of _ (raised f c.args.d c.args.self.now) (stored g (goal.at.returns-clause-len g c).After-trimmed_len-self-inside).value,
    )
