use Rattle.std.proofs.Common.{◌≡◌, ℕ, ◌+◌, ◌*◌, ◌<◌, ap, sym, ◌∙◌, refl, arith, get_or}
use Rattle.kk_assemble.specs.FileBits.{file_bit, number_from}
use Rattle.kk_assemble.proofs.Numbers.{number_from-append, number_from_small}
use Rattle.kk_assemble.proofs.Cuts.{byte_of_file}
use Rattle.kk_assemble.proofs.file_bits.word_at.Goals as goal

pub loop-n-init : goal.loop-n-init
unfolding number_from
loop-n-init c = refl

pub overflow_mul-word : goal.overflow_mul-word
overflow_mul-word c =
    omega (arith, c.loop-n.invariant, number_from_small (file_bit c.args.file.now) (8 * c.args.at) (8 * c.loop-n.n) 56 (λ t. omega arith) (omega arith))

pub overflow_add-word : goal.overflow_add-word
overflow_add-word c =
    omega (arith, c.loop-n.invariant, number_from_small (file_bit c.args.file.now) (8 * c.args.at) (8 * c.loop-n.n) 56 (λ t. omega arith) (omega arith))

pub loop-n-preserved : goal.loop-n-preserved
loop-n-preserved c =
    let file = c.args.file.now in
    let at = c.args.at in
    let n = c.loop-n.n in
    let byte : get_or file (at + n) 0 < 256 = omega (arith, c.byte_at.ensures) in
    let place : 8 * at + 8 * n ≡ 8 * (at + n) = omega arith in
    let more : 8 * (n + 1) ≡ 8 * n + 8 = omega arith in
    let last : number_from (file_bit file) (8 * at + 8 * n) 8 ≡ get_or file (at + n) 0 = ap (λ (t : ℕ). number_from (file_bit file) t 8) place ∙ byte_of_file file (at + n) byte in
    sym
    (ap (number_from (file_bit file) (8 * at)) more
    ∙ number_from-append (file_bit file) (8 * at) (8 * n) 8
    ∙ omega (arith, last, c.loop-n.invariant, c.from.ensures, c.byte_at.ensures))
