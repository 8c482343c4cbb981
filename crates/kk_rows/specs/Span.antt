-- Spans over GF(2). A row is a whole number, bit i its coordinate i, and the sum of rows is the exclusive or.
use Rattle.std.specs.Prelude.{◌≡◌, ℕ, Bool, IsTrue, if◌then◌else◌, ◌||◌, ◌==◌, List, [], ◌∷◌, ◌++◌, length, bit_xor, All}

-- v is a sum of some of the rows
unfoldable pub in_span : List ℕ → ℕ → Bool
in_span [] v = v == 0
in_span (r ∷ rows) v = in_span rows v || in_span rows (bit_xor v r)

-- the rows that aren't in the span of the rows before them, where `before` stands before them all
unfoldable pub innovative_after : List ℕ → List ℕ → List ℕ
innovative_after before [] = []
innovative_after before (r ∷ rows) =
    if in_span before r then innovative_after (before ++ r ∷ []) rows
    else r ∷ innovative_after (before ++ r ∷ []) rows

-- the rows that aren't in the span of the rows before them, in order
abbrev pub innovative : List ℕ → List ℕ
innovative rows = innovative_after [] rows

-- the dimension of the span: how many rows aren't in the span of the rows before them
abbrev pub dimension : List ℕ → ℕ
dimension rows = length (innovative rows)

-- no row is in the span of the rows before it
abbrev pub IsIndependent : List ℕ → Type 0
IsIndependent rows = dimension rows ≡ length rows

-- each row of the one is in the span of the other
pub record HaveSameSpan (a b : List ℕ) : Type 0 where
  pub left_in_right : All (λ r. IsTrue (in_span b r)) a
  pub right_in_left : All (λ r. IsTrue (in_span a r)) b
