use Rattle.std.proofs.Common.{◌≡◌, ℕ, ◌^◌, ◌<◌, ◌≤◌, List, [], length, take, get_or, slice_index, inl, inr, sym, ap, ◌∙◌, subst, arith, get_or-take}
use Rattle.std.specs.Prelude.{Option, Some, IfSome, All}
use Rattle.std.proofs.lemmas.Bool.{cases_lt}
use Rattle.std.proofs.lemmas.List.{length-take, length-take-le}
use Rattle.std.proofs.lemmas.List.Elements.{All-take, All-from_get_or}
use Rattle.kk_linpoly.specs.LinPoly.{IsOver}
use Rattle.kk_linpoly.specs.Matrix.{row_product}
use Rattle.kk_code.specs.Codeword.{Parameters, IsInRange}
use Rattle.kk_decode.specs.FixedMap.{IsFixedMap, KeptMap}
use Rattle.kk_decode.proofs.Columns.{value_at_first, value_at_other}
use Rattle.kk_decode.proofs.fixed_map.FixedMap.message.Goals as goal

-- the map is that of the code
map_of : (p : Parameters) (held : Option Parameters) (rows : List (List ℕ)) → held ≡ Some p → IfSome held (λ q. IsFixedMap q rows) → IsFixedMap p rows
map_of p held rows same fixed = subst (λ (o : Option Parameters). IfSome o (λ q. IsFixedMap q rows)) same fixed

pub transform-requires-clause-matrix_of_field : goal.transform-requires-clause-matrix_of_field
transform-requires-clause-matrix_of_field c =
    let p = c.args.code.now in
    let rows = c.self.inside.rows in
    let l = c.l.result in
    let fixed = map_of p c.self.inside.code rows (ap (λ (m : KeptMap). m.code) c.self.view_is ∙ (c.serves.ensures c.if-not-serves.false).0)
    (c.self.invariant (ap (λ (m : KeptMap). m.tested) c.self.view_is ∙ (c.serves.ensures c.if-not-serves.false).1)) in
    All-from_get_or (IsOver c.args.field.now.degree) (take l rows) [] (λ j within.
    let less : j < l = omega (arith, within, length-take l rows) in
    subst (λ f. IsOver f.degree (get_or (take l rows) j [])) (sym c.requires.field)
    (subst (IsOver p.field.degree) (sym (get_or-take l rows j [] less)) (fixed.of_field j (omega (arith, less, c.l.ensures.points)))))

pub returns-clause-message : goal.returns-clause-message
returns-clause-message c =
    let p = c.args.code.now in
    let k = c.k.result in
    let image = c.transform.new.image in
    let range : IsInRange p = c.k.ensures.in_range in
    let k_is : k ≡ p.k = c.k.ensures.symbols in
    let lines : p.l ≤ length (take c.l.result c.self.inside.rows) =
    let fixed = map_of p c.self.inside.code c.self.inside.rows (ap (λ (m : KeptMap). m.code) c.self.view_is ∙ (c.serves.ensures c.if-not-serves.false).0)
    (c.self.invariant (ap (λ (m : KeptMap). m.tested) c.self.view_is ∙ (c.serves.ensures c.if-not-serves.false).1)) in
    omega (arith, length-take-le c.l.result c.self.inside.rows (omega (arith, fixed.count, c.l.ensures.points)), c.l.ensures.points) in
    let long : length (take k image) ≡ k = length-take-le k image (omega (arith, c.transform.ensures.len, k_is, range.k_high, range.l_high, range.m_high)) in
    record {
      len = ap length c.from_slice.ensures ∙ long ∙ k_is;
      symbols = subst (All (λ s. s < 2 ^ p.field.degree)) (sym c.from_slice.ensures) (All-from_get_or (λ s. s < 2 ^ p.field.degree) (take k image) 0 (λ j within.
          let less : j < k = omega (arith, within, long) in
          subst (λ f. get_or (take k image) j 0 < 2 ^ f.degree) c.requires.field
          (subst (λ s. s < 2 ^ c.args.field.now.degree) (sym (get_or-take k image j 0 less))
          (c.transform.ensures.below j (omega (arith, less, k_is, range.k_high, lines))))));
    }

pub returns-clause-values : goal.returns-clause-values
returns-clause-values c i inside =
    let p = c.args.code.now in
    let f = p.field in
    let rows = c.self.inside.rows in
    let l = c.l.result in
    let k = c.k.result in
    let values = c.args.values.now in
    let image = c.transform.new.image in
    let range : IsInRange p = c.k.ensures.in_range in
    let w = take k values in
    let fixed = map_of p c.self.inside.code rows (ap (λ (m : KeptMap). m.code) c.self.view_is ∙ (c.serves.ensures c.if-not-serves.false).0)
    (c.self.invariant (ap (λ (m : KeptMap). m.tested) c.self.view_is ∙ (c.serves.ensures c.if-not-serves.false).1)) in
    let k_is : k ≡ p.k = c.k.ensures.symbols in
    let l_is : l ≡ p.l = c.l.ensures.points in
    let count : length w ≡ p.k = length-take-le k values (omega (arith, c.told-values, k_is, range.k_high, range.l_high, range.m_high)) ∙ k_is in
    let lines : length (take l rows) ≡ l = length-take-le l rows (omega (arith, fixed.count, l_is)) in
    let at : (j : ℕ) → j < p.l → slice_index image j ≡ row_product f w (get_or rows j []) = λ j less.
    c.transform.ensures.values j (omega (arith, less, lines, l_is))
    ∙ ap (λ q. row_product q w (get_or (take l rows) j [])) c.requires.field
    ∙ ap (row_product f w) (get_or-take l rows j [] (omega (arith, less, l_is))) in
    let u = c.from_slice.result in
    let each : (j : ℕ) → j < p.k → slice_index u j ≡ row_product f w (get_or rows j []) = λ j less.
    ap (λ s. slice_index s j) c.from_slice.ensures ∙ get_or-take k image j 0 (omega (arith, less, k_is)) ∙ at j (omega (arith, less, range.k_high)) in
    let long : length u ≡ p.k = ap length c.from_slice.ensures ∙ length-take-le k image (omega (arith, c.transform.ensures.len, k_is, range.k_high, range.l_high, range.m_high)) ∙ k_is in
    let over : IsOver f.degree w = All-take (λ a. a < 2 ^ f.degree) k values c.requires.below in
    elim (cases_lt i p.k) [
      | inl first ↦ value_at_first p range.low rows fixed w u count over long each i first ∙ get_or-take k values i 0 (omega (arith, first, k_is))
      | inr other ↦
          value_at_other p range.low rows fixed w u count over long each i other inside ∙ sym (at i inside)
          ∙ c.agree.ensures c.if-not-agree.false i (omega (arith, other, k_is)) (omega (arith, inside, l_is))
    ]
