use Rattle.std.proofs.Common.{◌*◌, ◌≤◌, ◌++◌, [], length, drop, get_or, replicate, arith, ap, ◌∙◌}
use Rattle.std.proofs.lemmas.List.{length-take-le}
use Rattle.std.proofs.lemmas.Grind.{div_ceil_times}
use Rattle.kk_linpoly.specs.declared.comb.TheConstants.{BLOCK}
use Rattle.kk_linpoly.proofs.Combs.{AreImages-none, AreImages-more, row_product-all}
use Rattle.kk_linpoly.proofs.matrix.transform.Goals as goal

pub loop-b-init : goal.loop-b-init
loop-b-init c =
    let matrix = c.args.matrix.now in
    let image = c.args.image.now in
    AreImages-none c.args.field.now c.args.vector.now matrix image (c.fill.new.self ++ drop (length matrix) image) c.requires.room
    (ap (λ front. front ++ drop (length matrix) image)
    (c.fill.ensures.after (λ y same. same) ∙ ap (λ n. replicate n 0) (length-take-le (length matrix) image c.requires.room)))

pub loop-b-preserved : goal.loop-b-preserved
loop-b-preserved c =
    let f = c.args.field.now in
    let vector = c.args.vector.now in
    let matrix = c.args.matrix.now in
    let b = c.loop-b.b in
    let before = c.loop-b.image in
    AreImages-more f vector matrix c.args.image.now before c.add_columns.new.image b c.loop-b.invariant
    (record {
      long = c.add_columns.ensures.len;
      values = c.add_columns.ensures.values;
      below = c.add_columns.ensures.below;
      others = c.add_columns.ensures.others;
    })

pub returns-clause-values : goal.returns-clause-values
returns-clause-values c j less =
    let vector = c.args.vector.now in
    let bounds = div_ceil_times (length vector) BLOCK (omega arith) in
    let enough : length vector ≤ BLOCK * c.loop-b.b =
    omega (arith, c.div_ceil-b-end.ensures, bounds.0, c.loop-b.auto.b-end, c.loop-b-test.false) in
    c.loop-b.invariant.values j less
    ∙ row_product-all c.args.field.now vector (get_or c.args.matrix.now j []) (BLOCK * c.loop-b.b) enough
