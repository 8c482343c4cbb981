-- What one point does to the polynomials.
use Rattle.std.specs.Prelude.{◌≡◌, ℕ, zero, suc, ◌+◌, ◌<◌, ◌≤◌, List, length, slice_index, bit_xor}
use Rattle.kk_field.specs.Field.{Modulus, field_product}
use Rattle.kk_linpoly.specs.LinPoly.{value}
use Rattle.kk_interp.specs.declared.bi_poly.BiPoly.{BiPoly}
use Rattle.kk_interp.specs.BiPoly.{IsPart, IsOfField, value_at}
use Rattle.kk_interp.specs.Pair.{IsPair, AreApart}

-- both parts have at most n coefficients
pub record IsShort (n : ℕ) (q : BiPoly) : Type 0 where
  pub x : length q.qx ≤ n
  pub y : length q.qy ≤ n

-- how many coefficients both parts have
abbrev pub size : BiPoly → ℕ
size q = length q.qx + length q.qy

-- one more, but 0 for 0
unfoldable pub grown : ℕ → ℕ
grown zero = zero
grown (suc n) = suc (suc n)

-- the value of the square plus d times a polynomial of the value v
abbrev pub raised_value : Modulus → ℕ → ℕ → ℕ
raised_value f d v = bit_xor (field_product f v v) (field_product f d v)

-- the sum of multiples of two values
abbrev pub combined_value : Modulus → ℕ → ℕ → ℕ → ℕ → ℕ
combined_value f a v b w = bit_xor (field_product f a v) (field_product f b w)

-- the square of a part plus d times it
pub record IsRaisedPart (f : Modulus) (d : ℕ) (cs new : List ℕ) : Type 0 where
  pub part : IsPart f.degree new
  pub grows : length new ≡ grown (length cs)
  pub first : slice_index new 0 ≡ field_product f d (slice_index cs 0)
  pub values : (x : ℕ) → value f new x ≡ raised_value f d (value f cs x)

-- the square of q plus d times q
pub record IsRaised (f : Modulus) (d : ℕ) (q new : BiPoly) : Type 0 where
  pub of_field : IsOfField f new.qx new.qy
  pub grows_x : length new.qx ≡ grown (length q.qx)
  pub grows_y : length new.qy ≡ grown (length q.qy)
  pub first_x : slice_index new.qx 0 ≡ field_product f d (slice_index q.qx 0)
  pub first_y : slice_index new.qy 0 ≡ field_product f d (slice_index q.qy 0)
  pub values : (x y : ℕ) → value_at f new.qx new.qy x y ≡ raised_value f d (value_at f q.qx q.qy x y)

-- a times a part plus b times another, where neither factor is 0: the longer part gives the length
pub record IsCombinedPart (f : Modulus) (a : ℕ) (cs : List ℕ) (b : ℕ) (ds new : List ℕ) : Type 0 where
  pub part : IsPart f.degree new
  pub left : length ds < length cs → length new ≡ length cs
  pub right : length cs < length ds → length new ≡ length ds
  pub at_most : (n : ℕ) → length cs ≤ n → length ds ≤ n → length new ≤ n
  pub first : slice_index new 0 ≡ combined_value f a (slice_index cs 0) b (slice_index ds 0)
  pub values : (x : ℕ) → value f new x ≡ combined_value f a (value f cs x) b (value f ds x)

-- a times q plus b times g
pub record IsCombined (f : Modulus) (a : ℕ) (q : BiPoly) (b : ℕ) (g new : BiPoly) : Type 0 where
  pub x : IsCombinedPart f a q.qx b g.qx new.qx
  pub y : IsCombinedPart f a q.qy b g.qy new.qy

-- both polynomials are 0 at (x, y)
pub record AreZero (f : Modulus) (x y : ℕ) (q g : BiPoly) : Type 0 where
  pub first : value_at f q.qx q.qy x y ≡ 0
  pub second : value_at f g.qx g.qy x y ≡ 0

-- The polynomials q and g become q' and g', which are 0 where q and g have the values v and w, and stay 0 where both
-- are. They are a pair for one point more.
pub record Cancels (f : Modulus) (k v w : ℕ) (q g q' g' : BiPoly) : Type 0 where
  pub pair : (points : ℕ) → IsPair f k points q g → IsPair f k (points + 1) q' g'
  pub apart : AreApart f q g → AreApart f q' g'
  pub here : (x y : ℕ) → value_at f q.qx q.qy x y ≡ v → value_at f g.qx g.qy x y ≡ w → AreZero f x y q' g'
  pub elsewhere : (x y : ℕ) → AreZero f x y q g → AreZero f x y q' g'
