use Rattle.std.proofs.Common.{ℕ, List, ◌++◌, length, ap₂}
use Rattle.std.proofs.lemmas.List.{drop-replicate}
use Rattle.kk_linpoly.specs.declared.matrix.TheConstants.{MAX_COLUMNS}
use Rattle.kk_linpoly.proofs.matrix.MatrixRow.of.Goals as goal

pub returns : goal.returns
returns c = record {
  value = ap₂ (λ (xs : List ℕ) (ys : List ℕ). xs ++ ys) c.copy_from_slice.ensures.after (drop-replicate (length c.args.elements.now) MAX_COLUMNS 0);
}
