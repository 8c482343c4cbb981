-- Sum, meet and distance of two subspaces, each given by rows that span it.
use Rattle.std.specs.Prelude.{ℕ, ◌+◌, ◌-◌, List, ◌++◌}
use Rattle.kk_rows.specs.Span.{dimension}

-- dim(U + V): the rows of both span the sum
abbrev pub sum_dimension : List ℕ → List ℕ → ℕ
sum_dimension us vs = dimension (us ++ vs)

-- dim(U ∩ V), which is dim U + dim V - dim(U + V)
abbrev pub meet_dimension : List ℕ → List ℕ → ℕ
meet_dimension us vs = dimension us + dimension vs - sum_dimension us vs

-- the subspace distance d(U, V) = dim(U + V) - dim(U ∩ V)
abbrev pub distance : List ℕ → List ℕ → ℕ
distance us vs = sum_dimension us vs - meet_dimension us vs
