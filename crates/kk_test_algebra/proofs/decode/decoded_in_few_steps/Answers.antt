use Rattle.std.proofs.Common.{ℕ, ◌*◌, ◌^◌, ap, arith}
use Rattle.kk_test_algebra.proofs.decode.decoded_in_few_steps.Goals as goal

pub returns-clause-eight_bits : goal.returns-clause-eight_bits
returns-clause-eight_bits g c wide = omega (arith, c.decode.ensures.cost, ap (λ (n : ℕ). 64 * n ^ 3) wide)

pub returns-clause-six_bits : goal.returns-clause-six_bits
returns-clause-six_bits g c wide = omega (arith, c.decode.ensures.cost, ap (λ (n : ℕ). 64 * n ^ 3) wide)
