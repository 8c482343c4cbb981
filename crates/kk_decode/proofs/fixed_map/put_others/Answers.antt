use Rattle.std.proofs.Common.{◌≡◌, ℕ, ◌+◌, ◌-◌, ◌*◌, ◌^◌, ◌<◌, List, [], length, take, replicate, get_or, set, slice_index, inl, inr, sym, ap, ◌∙◌, subst, arith, get_or-take}
use Rattle.std.proofs.Math.Pow.{pow-lt, pow_pos}
use Rattle.std.proofs.lemmas.Bool.{cases_lt}
use Rattle.std.proofs.lemmas.Nat.{one_shl}
use Rattle.std.proofs.lemmas.List.{get_or-set_same, get_or-set_other, get_or_append_left, length-set, length-take-le}
use Rattle.std.proofs.lemmas.List.Elements.{All-take, All-append, All-replicate}
use Rattle.kk_linpoly.specs.LinPoly.{IsOver}
use Rattle.kk_decode.specs.FixedMap.{column_value}
use Rattle.kk_decode.proofs.Columns.{column_value-same}
use Rattle.kk_decode.proofs.fixed_map.put_others.Goals as goal

pub column_values-values-requires-clause-x_below : goal.column_values-values-requires-clause-x_below
column_values-values-requires-clause-x_below g c =
    let i = c.loop-i.i in
    subst (λ x. x < 2 ^ c.args.field.now.degree) (sym (one_shl i 64 (omega (arith, c.loop-i-test.true, c.requires.within))))
    (pow-lt (omega (arith, c.loop-i-test.true, c.requires.points)))

pub loop-i-preserved : goal.loop-i-preserved
loop-i-preserved g c =
    let f = c.args.field.now in
    let k = c.args.k in
    let old = c.args.rows.now in
    let rows = c.loop-i.rows in
    let n = c.loop-i.i in
    let row = c.of.result in
    let inv = c.loop-i.invariant in
    let values = c.column_values-values.result in
    let P : ℕ → Type 0 = λ a. a < 2 ^ f.degree in
    let some : List ℕ = replicate {A = ℕ} (64 - length (take k values)) 0 in
    let over : IsOver f.degree row =
    subst (IsOver f.degree) (sym c.of.ensures.value)
    (All-append P (take k values) some (All-take P k values c.column_values-values.ensures.below) (All-replicate P (64 - length (take k values)) 0 (pow_pos f.degree))) in
    let room : n < length rows = omega (arith, inv.long, c.loop-i-test.true, c.requires.within) in
    let other : (j : ℕ) → j < n → get_or (set rows n row) j [] ≡ get_or rows j [] = λ j less. get_or-set_other rows n j row [] (λ e. omega (arith, e, less)) in
    let count : length (take k values) ≡ k = length-take-le k values (omega (arith, inv.past, c.loop-i-test.true, c.requires.within)) in
    let at_point : (d : ℕ) → d < k → slice_index row d ≡ column_value f old k d (2 ^ n) = λ d less.
    ap (λ r. slice_index r d) c.of.ensures.value ∙ get_or_append_left (take k values) some 0 d (omega (arith, less, count))
    ∙ get_or-take k values d 0 less ∙ c.column_values-values.ensures.values d less
    ∙ ap (column_value f rows k d) (one_shl n 64 (omega (arith, c.loop-i-test.true, c.requires.within)))
    ∙ column_value-same f rows old k d (2 ^ n) inv.first in
    record {
      long = length-set rows n row ∙ inv.long;
      past = omega (arith, inv.past);
      first = λ j less. other j (omega (arith, less, inv.past)) ∙ inv.first j less;
      of_field = λ j less. elim (cases_lt j n) [
        | inl before ↦ subst (IsOver f.degree) (sym (other j before)) (inv.of_field j before)
        | inr here ↦ let e : j ≡ n = omega (arith, less, here) in rw e (subst (IsOver f.degree) (sym (get_or-set_same rows n row [] room)) over)
      ];
      others = λ d j inside past less. elim (cases_lt j n) [
        | inl before ↦ ap (λ r. slice_index r d) (other j before) ∙ inv.others d j inside past before
        | inr here ↦
            let e : j ≡ n = omega (arith, less, here) in
            rw e (ap (λ r. slice_index r d) (get_or-set_same rows n row [] room) ∙ at_point d inside)
      ];
      counted = let step : n + 1 - k ≡ n - k + 1 = omega (arith, inv.past) in omega (arith, inv.counted, c.column_values-values.ensures.cost, ap (λ a. a * (k * (k + 1))) step);
    }
