use Rattle.std.proofs.Common.{◌≡◌, ℕ, ◌+◌, ◌-◌, ◌*◌, ◌^◌, ◌<◌, ◌≤◌, List, [], length, get_or, subst, sym, ap, ◌∙◌, arith, length-append}
use Rattle.kk_code.specs.Codeword.{Parameters}
use Rattle.kk_assemble.specs.Bits.{MessagePlace, bits_of, bits_from, first_bit}
use Rattle.kk_assemble.specs.FileBits.{message_bit, number_from}
use Rattle.kk_assemble.specs.Messages.{messages_or_empty}
use Rattle.kk_assemble.proofs.BitRows.{length-bits_of}
use Rattle.kk_assemble.proofs.Places.{message_bit_below, messages_read_ahead, next_bit, pushed_row, symbol_fits, symbol_is, taken_row}
use Rattle.kk_assemble.proofs.message_bits.MessageBits.word.Goals as goal

pub push-requires-clause-below : goal.push-requires-clause-below
push-requires-clause-below c =
    let p = c.args.self.now.code in
    let inside = c.loop-self.self-inside in
    let m_is : c.m-m.result ≡ p.field.degree = c.m-m.ensures.degree ∙ ap (λ (place : MessagePlace). place.code.field.degree) c.self.view_is in
    rw (c.symbol_at.ensures, m_is) (symbol_fits p inside.answers.now inside.next.message inside.next.symbol c.loop-self.invariant.messages)

pub loop-self-smaller : goal.loop-self-smaller
loop-self-smaller c =
    let queue = c.loop-self.self-inside.queue in
    let longer : length c.push.new.self ≡ length queue + c.m-m.result =
    ap length c.push.ensures ∙ length-append queue (bits_of c.m-m.result c.symbol_at.result) ∙ ap (λ (n : ℕ). length queue + n) (length-bits_of c.m-m.result c.symbol_at.result) in
    omega (arith, longer, c.m-m.ensures.degree, c.m-m.ensures.in_range.m_low, c.len.ensures.count, c.loop-self-test.true)

pub loop-self-preserved : goal.loop-self-preserved
loop-self-preserved c =
    let p = c.args.self.now.code in
    let messages = c.args.self.now.messages in
    let at = c.args.self.now.at in
    let inside = c.loop-self.self-inside in
    let g = inside.next.message in
    let j = inside.next.symbol in
    let bit = message_bit p messages in
    let m = c.m-m.result in
    let m_is : m ≡ p.field.degree = c.m-m.ensures.degree ∙ ap (λ (place : MessagePlace). place.code.field.degree) c.self.view_is in
    let k_is : c.k-k.result ≡ p.k = c.k-k.ensures.symbols ∙ ap (λ (place : MessagePlace). place.code.k) c.self.view_is in
    let fits = subst (λ (all : List (List ℕ)). get_or (get_or all g []) j 0 < 2 ^ p.field.degree) c.loop-self.invariant.same (symbol_fits p inside.answers.now g j c.loop-self.invariant.messages) in
    let symbol : c.symbol_at.result ≡ number_from bit (at + length inside.queue) m =
    c.symbol_at.ensures
    ∙ ap (λ (all : List (List ℕ)). get_or (get_or all g []) j 0) c.loop-self.invariant.same
    ∙ symbol_is p messages g j c.loop-self.invariant.symbol_below fits
    ∙ ap (λ (t : ℕ). number_from bit t p.field.degree) (sym c.loop-self.invariant.place)
    ∙ ap (number_from bit (at + length inside.queue)) (sym m_is) in
    let row = pushed_row bit at m c.symbol_at.result inside.queue c.push.new.self (message_bit_below p messages) c.loop-self.invariant.queued symbol c.push.ensures in
    let h = c.next-self-inside.result.message in
    let i = c.next-self-inside.result.symbol in
    let next = subst (λ (k : ℕ). h * k + i ≡ g * k + j + 1) k_is c.next-self-inside.ensures.next in
    record {
      code = c.loop-self.invariant.code;
      same = c.loop-self.invariant.same;
      messages = c.loop-self.invariant.messages;
      symbol_below = omega (arith, k_is, c.next-self-inside.ensures.below);
      place = omega (arith, row.0, m_is, c.loop-self.invariant.place, next_bit p g j h i next);
      queued = row.1;
    }

pub invariant_of-self : goal.invariant_of-self
invariant_of-self c =
    let p = c.args.self.now.code in
    let messages = c.args.self.now.messages in
    let at = c.args.self.now.at in
    let inside = c.loop-self.self-inside in
    let left = c.take.new.self in
    let enough : 64 ≤ length inside.queue = omega (arith, c.loop-self-test.false, c.len.ensures.count) in
    let row = taken_row (message_bit p messages) at 64 c.take.result inside.queue left (message_bit_below p messages) c.loop-self.invariant.queued c.take.ensures.below enough c.take.ensures.bits in
    let is = subst (λ (all : List (List ℕ)). left ≡ bits_from (message_bit p all) (at + 64) (length left)) (sym c.loop-self.invariant.same) row.2 in
    rw c.loop-self.invariant.code
    (messages_read_ahead p inside.answers.now (at + 64) inside.next.message inside.next.symbol left c.loop-self.invariant.messages c.loop-self.invariant.symbol_below is (omega (arith, row.1, c.loop-self.invariant.place)))

pub returns-clause-number : goal.returns-clause-number
returns-clause-number c =
    let p = c.args.self.now.code in
    let messages = c.args.self.now.messages in
    let inside = c.loop-self.self-inside in
    let enough : 64 ≤ length inside.queue = omega (arith, c.loop-self-test.false, c.len.ensures.count) in
    let row = taken_row (message_bit p messages) c.args.self.now.at 64 c.take.result inside.queue c.take.new.self (message_bit_below p messages) c.loop-self.invariant.queued c.take.ensures.below enough c.take.ensures.bits in
    row.0

pub returns-clause-place : goal.returns-clause-place
returns-clause-place c =
    let p = c.args.self.now.code in
    let messages = c.args.self.now.messages in
    let at = c.args.self.now.at in
    let inside = c.loop-self.self-inside in
    let g = inside.next.message in
    let j = inside.next.symbol in
    let left = c.take.new.self in
    let enough : 64 ≤ length inside.queue = omega (arith, c.loop-self-test.false, c.len.ensures.count) in
    let row = taken_row (message_bit p messages) at 64 c.take.result inside.queue left (message_bit_below p messages) c.loop-self.invariant.queued c.take.ensures.below enough c.take.ensures.bits in
    let place : first_bit p g j - length left ≡ at + 64 = omega (arith, row.1, c.loop-self.invariant.place) in
    let make : Parameters → List (List ℕ) → ℕ → MessagePlace = λ q all t. record { code = q; messages = all; at = t } in
    ap (λ (q : Parameters). make q (messages_or_empty inside.answers.now) (first_bit q g j - length left)) c.loop-self.invariant.code
    ∙ ap (λ (all : List (List ℕ)). make p all (first_bit p g j - length left)) c.loop-self.invariant.same
    ∙ ap (make p messages) place
