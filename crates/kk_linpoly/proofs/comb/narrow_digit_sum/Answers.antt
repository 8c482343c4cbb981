use Rattle.std.proofs.Common.{ℕ, ◌+◌, [], get_or, slice_index, bit_xor, ap, ◌∙◌}
use Rattle.kk_linpoly.proofs.XorSums.{xor_sum-start, xor_sum-more}
use Rattle.kk_linpoly.proofs.comb.narrow_digit_sum.Goals as goal

pub loop-i-init : goal.loop-i-init
loop-i-init c = xor_sum-start (λ i. slice_index (get_or c.args.windows.now i []) (slice_index c.args.digits.now (c.args.first + i)))

pub loop-i-preserved : goal.loop-i-preserved
loop-i-preserved c =
    let term : ℕ → ℕ = λ i. slice_index (get_or c.args.windows.now i []) (slice_index c.args.digits.now (c.args.first + i)) in
    ap (λ x. bit_xor x (term c.loop-i.i)) c.loop-i.invariant ∙ xor_sum-more term c.loop-i.i
