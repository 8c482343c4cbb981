use Rattle.std.proofs.Common.{◌≡◌, ◌*◌, [], get_or, arith, sym, ap, subst, ◌∙◌}
use Rattle.std.proofs.lemmas.List.{get_or_read}
use Rattle.kk_field.specs.Field.{residue}
use Rattle.kk_linpoly.specs.LinPoly.{IsOver}
use Rattle.kk_linpoly.specs.Matrix.{block_product}
use Rattle.kk_linpoly.proofs.Combs.{IsOver-mono, carryless, carryless-fits, residue-carryless, AreAdded-none, AreAdded-more}
use Rattle.kk_linpoly.proofs.comb.middle_add.Goals as goal

pub narrow_windows-windows-requires-clause-small : goal.narrow_windows-windows-requires-clause-small
narrow_windows-windows-requires-clause-small c =
    IsOver-mono c.args.field.now.degree 60 c.args.vector.now (omega (arith, c.requires.middle, c.requires.few)) c.requires.vector_of_field

pub middle_row_sum-requires-clause-small : goal.middle_row_sum-requires-clause-small
middle_row_sum-requires-clause-small c =
    let row = c.index-matrix-j.result in
    let row_is : row ≡ get_or c.args.matrix.now c.loop-j.j [] = get_or_read c.args.matrix.now c.loop-j.j row c.loop-j-test.true c.index-matrix-j.is [] in
    IsOver-mono c.args.field.now.degree (4 * c.args.places) row c.requires.middle
    (subst (IsOver c.args.field.now.degree) (sym row_is) (c.requires.matrix_of_field c.loop-j.j [] c.loop-j-test.true))

pub reduce_wide-requires : goal.reduce_wide-requires
reduce_wide-requires c =
    let f = c.args.field.now in
    let vector = c.args.vector.now in
    let row = c.index-matrix-j.result in
    let row_is : row ≡ get_or c.args.matrix.now c.loop-j.j [] = get_or_read c.args.matrix.now c.loop-j.j row c.loop-j-test.true c.index-matrix-j.is [] in
    let sum : c.middle_row_sum.result ≡ carryless f vector c.args.first row =
    c.middle_row_sum.ensures vector c.narrow_windows-windows.ensures (IsOver-mono f.degree 64 vector (omega (arith, c.requires.middle, c.requires.few)) c.requires.vector_of_field) in
    rw sum (carryless-fits f vector c.args.first row 64 (omega (arith, c.requires.middle, c.requires.few)) c.requires.vector_of_field
    (subst (IsOver f.degree) (sym row_is) (c.requires.matrix_of_field c.loop-j.j [] c.loop-j-test.true)))

pub loop-j-init : goal.loop-j-init
loop-j-init c = AreAdded-none c.args.field.now c.args.vector.now c.args.matrix.now c.args.first c.args.image.now

pub loop-j-preserved : goal.loop-j-preserved
loop-j-preserved c =
    let f = c.args.field.now in
    let vector = c.args.vector.now in
    let matrix = c.args.matrix.now in
    let first = c.args.first in
    let j = c.loop-j.j in
    let row = c.index-matrix-j.result in
    let reduced = c.reduce_wide.ensures in
    let row_is : row ≡ get_or matrix j [] = get_or_read matrix j row c.loop-j-test.true c.index-matrix-j.is [] in
    let sum : c.middle_row_sum.result ≡ carryless f vector first row =
    c.middle_row_sum.ensures vector c.narrow_windows-windows.ensures (IsOver-mono f.degree 64 vector (omega (arith, c.requires.middle, c.requires.few)) c.requires.vector_of_field) in
    AreAdded-more f vector matrix first c.args.image.now c.loop-j.image j c.reduce_wide.result (omega (arith, c.loop-j-test.true, c.requires.room))
    c.loop-j.invariant
    (reduced.value ∙ ap (residue f) sum ∙ residue-carryless f vector first row reduced.irreducible.modulus.low_below
    ∙ ap (block_product f vector first) row_is)
    reduced.below
