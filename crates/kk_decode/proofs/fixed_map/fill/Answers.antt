use Rattle.std.proofs.Common.{◌≡◌, ℕ, ◌+◌, ◌-◌, ◌*◌, ◌^◌, ◌≤◌, [], length, get_or, refl, sym, ap, ◌∙◌, subst, arith}
use Rattle.kk_linpoly.specs.LinPoly.{IsOver}
use Rattle.kk_decode.specs.FixedMap.{column_value}
use Rattle.kk_decode.proofs.Columns.{column_value-same}
use Rattle.kk_decode.proofs.Costs.{map_cost}
use Rattle.kk_decode.proofs.fixed_map.fill.Goals as goal

pub returns-clause-fixed_map : goal.returns-clause-fixed_map
returns-clause-fixed_map g c told =
    let p = c.args.code.now in
    let f = c.args.field.now in
    let k = c.k-k.result in
    let rows = c.put_others.new.rows in
    let tested = c.put_weights.new.rows in
    let e = c.put_others.ensures in
    let k_is : k ≡ p.k = c.k-k.ensures.symbols in
    let l_is : c.l.result ≡ p.l = c.l.ensures.points in
    let units = c.if-not-are_units.ensures in
    let long : length rows ≡ 64 = e.count ∙ c.put_weights.ensures.count ∙ c.told-rows in
    let same : (d x : ℕ) → column_value p.field rows p.k d x ≡ column_value f tested k d x = λ d x.
    ap (λ q. column_value q rows p.k d x) (sym c.requires) ∙ ap (λ n. column_value f rows n d x) (sym k_is)
    ∙ column_value-same f rows tested k d x e.first in
    record {
      count = omega (arith, long, l_is, c.l.ensures.in_range.l_high, c.l.ensures.in_range.m_high);
      of_field = λ j less. subst (λ q. IsOver q.degree (get_or rows j [])) c.requires (e.of_field j (omega (arith, less, l_is)));
      one = λ d less. same d (2 ^ d) ∙ units.one refl d (omega (arith, less, k_is));
      zeros = λ d i less inside apart. same d (2 ^ i) ∙ units.zeros refl d i (omega (arith, less, k_is)) (omega (arith, inside, k_is)) apart;
      others = λ d i less past inside. same d (2 ^ i) ∙ sym (e.others d i (omega (arith, less, k_is)) (omega (arith, past, k_is)) (omega (arith, inside, l_is)));
    }

pub returns-clause-cost : goal.returns-clause-cost
returns-clause-cost g c =
    let p = c.args.code.now in
    let n = p.k * (p.k + 1) in
    let k_is : c.k-k.result ≡ p.k = c.k-k.ensures.symbols in
    let all : p.k * n + (p.l - p.k) * n ≡ p.l * n = map_cost p.l p.k c.k-k.ensures.in_range.k_high in
    let first = subst (λ k. c.put_weights.new.steps ≤ c.args.steps.now + (k + k * (4 * k + 2 * c.args.field.now.degree + 1))) k_is c.put_weights.ensures.cost in
    let units = subst (λ k. c.are_units.new.steps ≤ c.put_weights.new.steps + k * (k * (k + 1))) k_is c.are_units.ensures.cost in
    let others = subst (λ k. c.put_others.new.steps ≤ c.are_units.new.steps + (p.l - k) * (k * (k + 1))) k_is
    (subst (λ l. c.put_others.new.steps ≤ c.are_units.new.steps + (l - c.k-k.result) * (c.k-k.result * (c.k-k.result + 1))) c.l.ensures.points c.put_others.ensures.cost) in
    subst (λ q. c.put_others.new.steps ≤ c.args.steps.now + (p.k + p.k * (4 * p.k + 2 * q.degree + 1) + p.l * n)) c.requires
    (omega (arith, all, first, units, others))
