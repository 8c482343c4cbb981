-- Sums of rows: the exclusive or as the addition of a vector space over GF(2).
use Rattle.std.proofs.Common.{◌≡◌, ℕ, sym, ap, ◌∙◌, bit_xor}
use Rattle.std.specs.Int.Bits.{xor_assoc, xor_self, xor_zero_r}
use Rattle.std.proofs.lemmas.Nat.{xor_comm}

-- a + b + b is a
pub xor_twice : (a b : ℕ) → bit_xor (bit_xor a b) b ≡ a
xor_twice a b = xor_assoc a b b ∙ ap (bit_xor a) (xor_self b) ∙ xor_zero_r a

-- a + (a + b) is b
pub xor_twice_left : (a b : ℕ) → bit_xor a (bit_xor a b) ≡ b
xor_twice_left a b = xor_comm a (bit_xor a b) ∙ ap (λ x. bit_xor x a) (xor_comm a b) ∙ xor_twice b a

pub xor_swap : (a b c : ℕ) → bit_xor (bit_xor a b) c ≡ bit_xor (bit_xor a c) b
xor_swap a b c = xor_assoc a b c ∙ ap (bit_xor a) (xor_comm b c) ∙ sym (xor_assoc a c b)

-- (a + c) + (b + c) is a + b
pub xor_shared : (a b c : ℕ) → bit_xor (bit_xor a c) (bit_xor b c) ≡ bit_xor a b
xor_shared a b c =
    sym (xor_assoc (bit_xor a c) b c) ∙ ap (λ x. bit_xor x c) (xor_swap a c b) ∙ xor_twice (bit_xor a b) c

-- (a + b) + (c + d) is (a + c) + (b + d)
pub xor_four : (a b c d : ℕ) → bit_xor (bit_xor a b) (bit_xor c d) ≡ bit_xor (bit_xor a c) (bit_xor b d)
xor_four a b c d =
    sym (xor_assoc (bit_xor a b) c d) ∙ ap (λ x. bit_xor x d) (xor_swap a b c) ∙ xor_assoc (bit_xor a c) b d
