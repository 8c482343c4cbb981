use Rattle.std.proofs.Common.{◌≡◌, ◌+◌, ◌<◌, ◌≤◌, length, take, sym, ap, ◌∙◌, subst, arith, length-set}
use Rattle.std.specs.Prelude.{slice_set}
use Rattle.std.proofs.lemmas.List.{take_more_set}
use Rattle.kk_interp.specs.declared.bi_poly.BiPoly.{BiPoly}
use Rattle.kk_field.specs.Laws.{IsFieldModulus}
use Rattle.kk_interp.specs.BiPoly.{value_at}
use Rattle.kk_interp.specs.State.{IsKept}
use Rattle.kk_interp.specs.Steps.{Cancels}
use Rattle.kk_interp.proofs.Pairs.{at_least_from_false, IsCombined-sym, Cancels-none, Cancels-x, Cancels-y, Cancels-both_x, Cancels-both_y}
use Rattle.kk_interp.proofs.States.{IsKept-point, state}
use Rattle.kk_interp.proofs.interp.Interp.point.Given.{Over}
use Rattle.kk_interp.proofs.interp.Interp.point.Goals as goal
use Rattle.kk_interp.proofs.interp.Interp.point.Goals.{After-eval-w}

-- the tables are those of the field
same_field : (g : Over) (c : After-eval-w g) → c.self.inside.field ≡ c.args.field.now
same_field g c = ap (λ s. s.modulus) c.self.view_is ∙ sym c.requires.same_field

modulus : (g : Over) (c : After-eval-w g) → IsFieldModulus c.args.field.now
modulus g c = subst IsFieldModulus (same_field g c) c.self.invariant.1.field

-- what is kept after the point, where it takes the polynomials to q and h
kept : (g : Over) (c : After-eval-w g) (q h : BiPoly)
    → Cancels c.args.field.now c.self.inside.k c.eval-v.result c.eval-w.result c.self.inside.x_leading c.self.inside.y_leading q h
    → (length (slice_set c.self.inside.points c.self.inside.count (c.args.x, c.args.y)) ≡ 128)
    × IsKept (record {
      modulus = c.self.inside.field;
      k = c.self.inside.k;
      points = take (c.self.inside.count + 1) (slice_set c.self.inside.points c.self.inside.count (c.args.x, c.args.y));
      count = c.self.inside.count + 1;
      x_leading = q;
      y_leading = h;
    })
kept g c q h cancels =
    let s = state c.self.inside in
    let i = c.self.inside in
    let before = c.self.invariant.1 in
    let back = sym (same_field g c) in
    let v = c.eval-v.result in
    let w = c.eval-w.result in
    let room : s.count + 1 + s.k ≤ 128 =
    omega (arith, before.counted, subst (λ t. length t.points + 1 + t.k ≤ 128) (sym c.self.view_is) c.requires.room) in
    let inside : s.count < length i.points = omega (arith, c.self.invariant.0, before.k_at_least) in (
      length-set i.points s.count (c.args.x, c.args.y) ∙ c.self.invariant.0,
      IsKept-point s.modulus s.k s.count c.args.x c.args.y v w s.points _ s.x_leading s.y_leading q h
          (subst (λ f. v ≡ value_at f i.x_leading.qx i.x_leading.qy c.args.x c.args.y) back c.eval-v.ensures.value)
          (subst (λ f. w ≡ value_at f i.y_leading.qx i.y_leading.qy c.args.x c.args.y) back c.eval-w.ensures.value)
          (subst (λ f. Cancels f i.k v w i.x_leading i.y_leading q h) back cancels)
          (take_more_set i.points s.count (c.args.x, c.args.y) inside) room before,
    )

pub invariant_of-self : goal.invariant_of-self
invariant_of-self g c =
    let i = c.self.inside in
    let f = modulus g (goal.at.invariant_of-self g c).After-eval-w in
    kept g (goal.at.invariant_of-self g c).After-eval-w i.x_leading i.y_leading
    (subst (λ v. Cancels c.args.field.now i.k v c.eval-w.result i.x_leading i.y_leading i.x_leading i.y_leading) (sym c.in-0-eq0.is-0)
    (subst (λ w. Cancels c.args.field.now i.k 0 w i.x_leading i.y_leading i.x_leading i.y_leading) (sym c.in-0-eq0.is-1)
    (Cancels-none c.args.field.now f.modulus.low_below f.irreducible i.k i.x_leading i.y_leading)))

pub invariant_of-self-in-0-default : goal.invariant_of-self-in-0-default
invariant_of-self-in-0-default g c =
    let i = c.self.inside in
    let f = modulus g (goal.at.invariant_of-self-in-0-default g c).After-eval-w in
    kept g (goal.at.invariant_of-self-in-0-default g c).After-eval-w i.x_leading c.raise.new.self
    (subst (λ v. Cancels c.args.field.now i.k v c.eval-w.result i.x_leading i.y_leading i.x_leading c.raise.new.self) (sym c.in-0-default.is-0)
    (Cancels-y c.args.field.now f.modulus.low_below f.irreducible i.k c.eval-w.result i.x_leading i.y_leading c.raise.new.self
    c.eval-w.ensures.below c.in-0-default.is-1.1 c.raise.ensures.raised))

pub invariant_of-self-in_default-eq0 : goal.invariant_of-self-in_default-eq0
invariant_of-self-in_default-eq0 g c =
    let i = c.self.inside in
    let f = modulus g (goal.at.invariant_of-self-in_default-eq0 g c).After-eval-w in
    let new = c.raise-in_default-eq0 in
    kept g (goal.at.invariant_of-self-in_default-eq0 g c).After-eval-w new.new.self i.y_leading
    (subst (λ w. Cancels c.args.field.now i.k c.eval-v.result w i.x_leading i.y_leading new.new.self i.y_leading) (sym c.in_default-eq0.is-1)
    (Cancels-x c.args.field.now f.modulus.low_below f.irreducible i.k c.eval-v.result i.x_leading i.y_leading new.new.self
    c.eval-v.ensures.below c.in_default-eq0.is-0.1 new.ensures.raised))

pub invariant_of-self-then-x_is_least : goal.invariant_of-self-then-x_is_least
invariant_of-self-then-x_is_least g c =
    let i = c.self.inside in
    let f = modulus g (goal.at.invariant_of-self-then-x_is_least g c).After-eval-w in
    let sum = c.combine in
    let new = c.raise-then-x_is_least in
    kept g (goal.at.invariant_of-self-then-x_is_least g c).After-eval-w new.new.self sum.new.self
    (Cancels-both_x c.args.field.now f.modulus.low_below f.irreducible i.k c.eval-v.result c.eval-w.result i.x_leading i.y_leading sum.new.self new.new.self
    c.eval-v.ensures.below c.in_default.is-0.1 c.eval-w.ensures.below c.in_default.is-1.1
    (IsCombined-sym c.args.field.now c.eval-v.result i.y_leading c.eval-w.result i.x_leading sum.new.self sum.ensures.combined)
    (c.x_is_least.ensures.0 c.if-x_is_least.true) new.ensures.raised)

pub invariant_of-self-else-x_is_least : goal.invariant_of-self-else-x_is_least
invariant_of-self-else-x_is_least g c =
    let i = c.self.inside in
    let f = modulus g (goal.at.invariant_of-self-else-x_is_least g c).After-eval-w in
    let sum = c.combine-else-x_is_least in
    let new = c.raise-else-x_is_least in
    kept g (goal.at.invariant_of-self-else-x_is_least g c).After-eval-w sum.new.self new.new.self
    (Cancels-both_y c.args.field.now f.modulus.low_below f.irreducible i.k c.eval-v.result c.eval-w.result i.x_leading i.y_leading sum.new.self new.new.self
    c.eval-v.ensures.below c.in_default.is-0.1 c.eval-w.ensures.below c.in_default.is-1.1 sum.ensures.combined
    (at_least_from_false (length i.x_leading.qx) (length i.y_leading.qy + i.k) c.x_is_least.result c.x_is_least.ensures c.if-x_is_least.false)
    new.ensures.raised)
