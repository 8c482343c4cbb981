use Rattle.std.proofs.Common.{◌≡◌, ℕ, ◌*◌, ◌%◌, ◌^◌, ◌<◌, List, [], ◌∷◌, ◌++◌, length, sym, ap, ◌∙◌, subst, arith}
use Rattle.kk_linpoly.specs.LinPoly.{value}
use Rattle.kk_code.specs.Codeword.{Parameters, IsInRange, row_of, codeword}
use Rattle.kk_code.proofs.Values.{rows_more, rows_below, length-rows_below, point_is, length-codeword, codeword_below}
use Rattle.kk_code.proofs.TermSums.{value_at-point}
use Rattle.kk_code.proofs.encoder.Encoder.encode.Goals as goal

pub row-requires-clause-x_below : goal.row-requires-clause-x_below
row-requires-clause-x_below c =
    let p = c.args.self.now in
    let range : IsInRange p = subst IsInRange c.self.view_is c.l-l.ensures.in_range in
    let inside : c.loop-i.i < p.l = omega (arith, c.loop-i-test.true, c.l-l.ensures.points, ap (λ q. q.l) c.self.view_is) in
    let point = point_is p c.loop-i.i range inside in
    rw (point.0, ap (λ q. q.field.degree) c.self.view_is) point.1

pub row-requires-clause-y_below : goal.row-requires-clause-y_below
row-requires-clause-y_below c = rw (ap (λ q. q.field.degree) c.self.view_is) c.next-y.ensures.below

pub push-requires : goal.push-requires
push-requires c =
    let p = c.args.self.now in
    let range : IsInRange p = subst IsInRange c.self.view_is c.l-l.ensures.in_range in
    let inside : c.loop-i.i < p.l = omega (arith, c.loop-i-test.true, c.l-l.ensures.points, ap (λ q. q.l) c.self.view_is) in
    omega (arith, ap length c.loop-i.invariant.rows_are, length-rows_below p c.args.u.now c.loop-i.i, range.l_high, range.m_high, inside)

pub loop-i-preserved : goal.loop-i-preserved
loop-i-preserved c =
    let p = c.args.self.now in
    let u = c.args.u.now in
    let i = c.loop-i.i in
    let inv = c.loop-i.invariant in
    let y = c.next-y.result in
    let range : IsInRange p = subst IsInRange c.self.view_is c.l-l.ensures.in_range in
    let inside : i < p.l = omega (arith, c.loop-i-test.true, c.l-l.ensures.points, ap (λ q. q.l) c.self.view_is) in
    let point = point_is p i range inside in
    let y_is : y ≡ value p.field u (2 ^ i) = c.next-y.ensures.value u i inv.values ∙ value_at-point p range u i c.requires inside in
    record {
      rows_are = c.push.ensures ∙ ap (λ r. c.loop-i.rows ++ r ∷ []) (c.row.ensures ∙ ap (λ q. row_of q (1 * 2 ^ i % 2 ^ 64) y) c.self.view_is ∙ ap (λ x. row_of p x y) point.0)
          ∙ ap (λ rows. rows ++ row_of p (2 ^ i) y ∷ []) inv.rows_are
          ∙ ap (λ y. rows_below p u i ++ row_of p (2 ^ i) y ∷ []) y_is
          ∙ sym (rows_more p u i);
      elements = c.next-y.ensures.elements;
      values = c.next-y.ensures.after u i inv.values;
    }

all_rows : (p : Parameters) (u rows : List ℕ) (i : ℕ) → rows ≡ rows_below p u i → i ≡ p.l → rows ≡ codeword p u
all_rows p u rows i e at_end = e ∙ ap (rows_below p u) at_end

pub returns-clause-count : goal.returns-clause-count
returns-clause-count c =
    let p = c.args.self.now in
    let at_end : c.loop-i.i ≡ p.l = omega (arith, c.loop-i.auto.i-end, c.loop-i-test.false, c.l-l.ensures.points, ap (λ q. q.l) c.self.view_is) in
    ap length (all_rows p c.args.u.now c.loop-i.rows c.loop-i.i c.loop-i.invariant.rows_are at_end) ∙ length-codeword p c.args.u.now

pub returns-clause-below : goal.returns-clause-below
returns-clause-below c =
    let p = c.args.self.now in
    let range : IsInRange p = subst IsInRange c.self.view_is c.l-l.ensures.in_range in
    let at_end : c.loop-i.i ≡ p.l = omega (arith, c.loop-i.auto.i-end, c.loop-i-test.false, c.l-l.ensures.points, ap (λ q. q.l) c.self.view_is) in
    rw (all_rows p c.args.u.now c.loop-i.rows c.loop-i.i c.loop-i.invariant.rows_are at_end) (codeword_below p c.args.u.now range)
