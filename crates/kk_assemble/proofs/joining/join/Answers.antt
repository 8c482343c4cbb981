use Rattle.std.proofs.Common.{◌≡◌, ℕ, ◌+◌, ◌-◌, ◌*◌, ◌/◌, ◌%◌, ◌<◌, ◌≤◌, List, length, get_or, take, Some, sym, ap, ◌∙◌, arith}
use Rattle.std.proofs.lemmas.List.{get_or-take, length-take-le}
use Rattle.std.proofs.lemmas.List.FromFn.{fill_by_all}
use borrow.Rule.Slice.PartMut.{put_mid}
use Rattle.kk_assemble.specs.Bits.{MessagePlace}
use Rattle.kk_assemble.specs.FileBits.{number_from, message_bit}
use Rattle.kk_assemble.specs.Messages.{messages_or_empty}
use Rattle.kk_assemble.proofs.AllMessages.{all_messages-some, all_messages-none}
use Rattle.kk_assemble.proofs.Places.{message_bit_below}
use Rattle.kk_assemble.proofs.Words.{byte_of_word, written, length-written}
use Rattle.kk_assemble.proofs.joining.join.Goals as goal

pub returns-then-not-is_complete-clause-missing : goal.returns-then-not-is_complete-clause-missing
returns-then-not-is_complete-clause-missing c =
    all_messages-none c.args.answers.now (λ all. let complete = c.is_complete.ensures.1 all in absurd cc)

pub loop-i-preserved : goal.loop-i-preserved
loop-i-preserved c =
    let p = c.args.ticket.now.code in
    let messages = messages_or_empty c.args.answers.now in
    let bit = message_bit p messages in
    let i = c.loop-i.i in
    let out = c.loop-i.out in
    let bytes = c.copy_from_slice.new.self in
    let make : ℕ → MessagePlace = λ t. record { code = p; messages = messages; at = t } in
    let next : MessagePlace → MessagePlace = λ b. record { code = b.code; messages = b.messages; at = b.at + 64 } in
    let up : 64 * i + 64 ≡ 64 * (i + 1) = omega arith in
    let room : 8 * i + 8 ≤ length out = omega arith in
    let eight : length bytes ≡ 8 = ap length (c.copy_from_slice.ensures.after ∙ c.to_be_bytes.ensures) in
    let width : 8 * i + 8 - 8 * i ≡ 8 = omega arith in
    let word : c.word.result ≡ number_from bit (64 * i) 64 =
    c.word.ensures.number ∙ ap (λ (b : MessagePlace). number_from (message_bit b.code b.messages) b.at 64) c.loop-i.invariant.place in
    let here : (j : ℕ) → j < length bytes → get_or bytes j 0 ≡ number_from bit (8 * (8 * i + j)) 8 =
    λ j below.
    let place : 64 * i + 8 * j ≡ 8 * (8 * i + j) = omega arith in
    ap (λ (xs : List ℕ). get_or xs j 0) (c.copy_from_slice.ensures.after ∙ c.to_be_bytes.ensures)
    ∙ byte_of_word bit (64 * i) c.word.result j (message_bit_below p messages) word (omega (arith, eight))
    ∙ ap (λ (t : ℕ). number_from bit t 8) place in
    record {
      place = c.word.ensures.place ∙ ap next c.loop-i.invariant.place ∙ ap make up;
      long = length-written (8 * i) (8 * i + 8 - 8 * i) out bytes (omega (arith, room)) (omega (arith, eight)) ∙ c.loop-i.invariant.long;
      so_far = λ k below. written (λ j. number_from bit (8 * j) 8) (8 * i) (8 * i + 8 - 8 * i) out bytes (omega (arith, room)) c.loop-i.invariant.so_far here k (omega (arith, eight, below));
    }

pub returns-clause-file : goal.returns-clause-file
returns-clause-file c =
    let p = c.args.ticket.now.code in
    let messages = messages_or_empty c.args.answers.now in
    let bit = message_bit p messages in
    let out = c.loop-i.out in
    let words = length c.args.out.now / 8 in
    let end = length out % 8 in
    let bytes = c.copy_from_slice-2.new.self in
    let all : c.loop-i.i ≡ words = omega (arith, c.loop-i.auto.i-end, c.loop-i-test.false) in
    let word : c.word-2.result ≡ number_from bit (64 * words) 64 =
    c.word-2.ensures.number
    ∙ ap (λ (b : MessagePlace). number_from (message_bit b.code b.messages) b.at 64) c.loop-i.invariant.place
    ∙ ap (λ (i : ℕ). number_from bit (64 * i) 64) all in
    let last : bytes ≡ take end c.to_be_bytes-last.result = c.copy_from_slice-2.ensures.after in
    let eight : length c.to_be_bytes-last.result ≡ 8 = ap length c.to_be_bytes-last.ensures in
    let few : length bytes ≡ end = ap length last ∙ length-take-le end c.to_be_bytes-last.result (omega (arith, eight)) in
    let same : length out ≡ length c.args.out.now = omega (arith, c.loop-i.invariant.long, c.requires.room) in
    let here : (j : ℕ) → j < length bytes → get_or bytes j 0 ≡ number_from bit (8 * (8 * words + j)) 8 =
    λ j below.
    let place : 64 * words + 8 * j ≡ 8 * (8 * words + j) = omega arith in
    ap (λ (xs : List ℕ). get_or xs j 0) last
    ∙ get_or-take end c.to_be_bytes-last.result j 0 (omega (arith, few))
    ∙ ap (λ (xs : List ℕ). get_or xs j 0) c.to_be_bytes-last.ensures
    ∙ byte_of_word bit (64 * words) c.word-2.result j (message_bit_below p messages) word (omega (arith, few))
    ∙ ap (λ (t : ℕ). number_from bit t 8) place in
    let file = put_mid (8 * words) (length out - 8 * words) out bytes in
    let long : length file ≡ c.args.ticket.now.length =
    length-written (8 * words) (length out - 8 * words) out bytes (omega (arith, same)) (omega (arith, few, same)) ∙ c.loop-i.invariant.long in
    let before : (k : ℕ) → k < 8 * words → get_or out k 0 ≡ number_from bit (8 * k) 8 = λ k below. c.loop-i.invariant.so_far k (omega (arith, all)) in
    let byte_is : (k : ℕ) → k < c.args.ticket.now.length → get_or file k 0 ≡ number_from bit (8 * k) 8 =
    λ k below. written (λ j. number_from bit (8 * j) 8) (8 * words) (length out - 8 * words) out bytes (omega (arith, same)) before here k (omega (arith, few, same, c.requires.room)) in
    rw (all_messages-some c.args.answers.now (c.is_complete.ensures.0 c.if-not-is_complete.false))
    (ap Some (sym (fill_by_all (λ j. number_from bit (8 * j) 8) file c.args.ticket.now.length 0 long byte_is)))
