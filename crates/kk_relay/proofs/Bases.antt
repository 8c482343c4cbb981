-- The rows of a basis.
use Rattle.std.proofs.Common.{◌≡◌, ℕ, ◌+◌, ◌<◌, ◌≤◌, ◌^◌, true, false, eqb, List, [], ◌∷◌, ◌++◌, length, refl, ◌∙◌, arith, length-append}
use Rattle.std.proofs.lemmas.Bool.{eqb-true}
use Rattle.std.proofs.lemmas.Bool.Decides.{nat_tests}
use Rattle.std.proofs.lemmas.List.{length-map}
use Rattle.std.proofs.lemmas.List.Elements.{All-nil, All-push}
use Rattle.kk_rows.specs.Span.{in_span, innovative_after}
use Rattle.kk_rows.specs.declared.rows.Row.{Row}
use Rattle.kk_rows.specs.declared.row_space.TheConstants.{MAX_WIDTH}
use Rattle.kk_rows.specs.Rows.{numbers}
use Rattle.kk_rows.proofs.Dimensions.{dimension-le_width}
use Rattle.kk_rows.proofs.Independence.{independent-push}
use Rattle.kk_relay.specs.RelayState.{BasisState, no_rows, with_row, IsBasis, rank}

-- whether there are rows, seen as numbers
pub none_in : (rows : List Row) → eqb (length rows) 0 ≡ true → length (numbers rows) ≡ 0
none_in rows none = length-map rows (λ (row : Row). row.0) ∙ eqb-true (length rows) 0 none

pub some_in : (rows : List Row) → eqb (length rows) 0 ≡ false → 0 < length (numbers rows)
some_in rows some = let n : length (numbers rows) ≡ length rows = length-map rows (λ (row : Row). row.0) in grind (arith, nat_tests, n, some)

-- ---- one row more

pub with_row-inside : (basis : BasisState) (row : ℕ) → in_span basis.rows row ≡ true → with_row basis row ≡ basis
with_row-inside basis row inside = rw inside refl

pub with_row-outside : (basis : BasisState) (row : ℕ) → in_span basis.rows row ≡ false → with_row basis row ≡ record { width = basis.width; rows = basis.rows ++ row ∷ [] }
with_row-outside basis row outside = rw outside refl

pub IsBasis-none : (width : ℕ) → width ≤ MAX_WIDTH → IsBasis (no_rows width)
unfolding innovative_after
IsBasis-none width fits = record { fits = fits; below = All-nil (λ (row : ℕ). row < 2 ^ width); independent = refl }

pub IsBasis-push : (width : ℕ) (rows : List ℕ) (row : ℕ) → IsBasis (record { width = width; rows = rows }) → row < 2 ^ width → in_span rows row ≡ false → IsBasis (record { width = width; rows = rows ++ row ∷ [] })
IsBasis-push width rows row is small outside = record {
  fits = is.fits;
  below = All-push (λ (r : ℕ). r < 2 ^ width) rows row is.below small;
  independent = independent-push rows row is.independent outside;
}

-- a basis has no more rows than its width
pub rank-le_width : (basis : BasisState) → IsBasis basis → rank basis ≤ basis.width
rank-le_width basis is = omega (arith, is.independent, dimension-le_width basis.width basis.rows is.below)

pub rank-fits : (basis : BasisState) → IsBasis basis → rank basis ≤ MAX_WIDTH
rank-fits basis is = omega (arith, rank-le_width basis is, is.fits)

-- there is room for a row outside the span
pub rank-room : (width : ℕ) (rows : List ℕ) (row : ℕ) → IsBasis (record { width = width; rows = rows }) → row < 2 ^ width → in_span rows row ≡ false → length rows < MAX_WIDTH
rank-room width rows row is small outside =
    let more = rank-fits (record { width = width; rows = rows ++ row ∷ [] }) (IsBasis-push width rows row is small outside) in
    omega (arith, more, length-append rows (row ∷ []))
