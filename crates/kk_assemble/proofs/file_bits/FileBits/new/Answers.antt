use Rattle.std.proofs.Common.{◌≡◌, ℕ, ◌+◌, ◌-◌, ◌*◌, ◌/◌, ◌%◌, ◌^◌, ◌<◌, List, [], ◌++◌, length, sym, ap, ◌∙◌, arith}
use Rattle.kk_assemble.specs.Bits.{FilePlace, bits_of, bits_from}
use Rattle.kk_assemble.specs.FileBits.{file_bit, number_from}
use Rattle.kk_assemble.proofs.BitRows.{bits_of-number_from, first_bits}
use Rattle.kk_assemble.proofs.Places.{file_bit_below, file_read_ahead, whole_row}
use Rattle.kk_assemble.proofs.file_bits.FileBits.new.Goals as goal

-- the bits that are left of the first eight bytes
left_bits :
    (file : List ℕ) (at word dropped : ℕ) (empty pushed left : List ℕ) → word ≡ number_from (file_bit file) (8 * (at / 8)) 64 → empty ≡ [] → pushed ≡ empty ++ bits_of 64 word
    → dropped < 2 ^ (at % 8) → pushed ≡ bits_of (at % 8) dropped ++ left → left ≡ bits_from (file_bit file) at (64 - at % 8)
left_bits file at word dropped empty pushed left is none push below take =
    let whole : bits_from (file_bit file) (8 * (at / 8)) 64 ≡ bits_of (at % 8) dropped ++ left =
    sym (bits_of-number_from (file_bit file) (8 * (at / 8)) 64 (file_bit_below file))
    ∙ ap (bits_of 64) (sym is)
    ∙ ap (λ (row : List ℕ). row ++ bits_of 64 word) (sym none)
    ∙ sym push
    ∙ take in
    let place : 8 * (at / 8) + at % 8 ≡ at = omega arith in
    let parts = first_bits dropped left (file_bit file) (8 * (at / 8)) (at % 8) 64 (file_bit_below file) below (omega arith) whole in
    parts.1 ∙ ap (λ (t : ℕ). bits_from (file_bit file) t (64 - at % 8)) place

pub invariant_of-result : goal.invariant_of-result
invariant_of-result c =
    let file = c.args.file.now in
    let at = c.args.at in
    let left = c.take.new.self in
    let is = left_bits file at c.word_at.result c.take.result c.new-queue.result c.push.new.self left c.word_at.ensures c.new-queue.ensures c.push.ensures c.take.ensures.below c.take.ensures.bits in
    let row = whole_row (file_bit file) at (64 - at % 8) left is in
    file_read_ahead file at (at / 8 + 8) left row.1 (omega (arith, row.0))

pub returns : goal.returns
returns c =
    let file = c.args.file.now in
    let at = c.args.at in
    let left = c.take.new.self in
    let is = left_bits file at c.word_at.result c.take.result c.new-queue.result c.push.new.self left c.word_at.ensures c.new-queue.ensures c.push.ensures c.take.ensures.below c.take.ensures.bits in
    let row = whole_row (file_bit file) at (64 - at % 8) left is in
    let place : 8 * (at / 8 + 8) - length left ≡ at = omega (arith, row.0) in
    let make : ℕ → FilePlace = λ t. record { file = file; at = t } in
    ap make place
