-- Tables of an additive map by the bytes of its argument.
use Rattle.std.specs.Prelude.{◌≡◌, ℕ, zero, suc, ◌+◌, ◌*◌, ◌/◌, ◌%◌, ◌^◌, ◌<◌, List, length, slice_index, bit_xor}
use Rattle.kk_field.specs.Field.{Modulus, residue, field_product}
use Rattle.kk_tables.specs.declared.bytes.TheConstants.{ENTRIES}

-- the number whose byte n / 256 is n % 256, and whose other bytes are 0
abbrev pub byte_at : ℕ → ℕ
byte_at n = n % 256 * 2 ^ (8 * (n / 256))

-- the first n entries are the images of single bytes
pub record IsTableUpTo (image : ℕ → ℕ) (n : ℕ) (table : List ℕ) : Type 0 where
  pub long : length table ≡ ENTRIES
  pub entries : (k : ℕ) → k < n → slice_index table k ≡ image (byte_at k)

-- entry 256·i + v is the image of v·2^(8·i)
abbrev pub IsTableOf : (ℕ → ℕ) → List ℕ → Type 0
IsTableOf image table = IsTableUpTo image ENTRIES table

-- the sum of the entries of the lowest n bytes of x
unfoldable pub looked_up : List ℕ → ℕ → ℕ → ℕ
looked_up table zero x = 0
looked_up table (suc n) x = bit_xor (looked_up table n x) (slice_index table (256 * n + x / 2 ^ (8 * n) % 256))

-- `units` are the images of 2^0, 2^1, .. 2^63
pub record HasUnits (image : ℕ → ℕ) (units : List ℕ) : Type 0 where
  pub at : (j : ℕ) → j < 64 → slice_index units j ≡ image (2 ^ j)

-- the image of twice a number is X^times times its image, as residues
abbrev pub DoublesBy : Modulus → ℕ → (ℕ → ℕ) → Type 0
DoublesBy f times image = (x : ℕ) → image (x * 2) ≡ residue f (image x * 2 ^ times)

-- the remainder of `high` times X^m by the modulus
abbrev pub reduction : Modulus → ℕ → ℕ
reduction f high = residue f (high * 2 ^ f.degree)

-- the square of a residue
abbrev pub squared : Modulus → ℕ → ℕ
squared f a = field_product f a a
