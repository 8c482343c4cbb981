-- Cutting a file into messages, and joining them.
use Rattle.std.proofs.Common.{◌≡◌, ℕ, ◌+◌, ◌-◌, ◌*◌, ◌/◌, ◌%◌, ◌^◌, ◌<◌, ◌≤◌, List, [], length, get_or, map, All, Option, Some, sym, ap, ◌∙◌, zero-add, arith}
use Rattle.std.specs.List.{range_with_len}
use Rattle.std.specs.Int.{bit_at}
use Rattle.std.specs.Option.{option_map}
use Rattle.std.proofs.lemmas.List.Elements.{All-map}
use Rattle.std.proofs.lemmas.List.FromFn.{length-map-range_with_len, get_or-map-range_with_len, fill_by_all}
use Rattle.std.proofs.lemmas.Nat.{div_below, mod_below, div-add-mod', mul-le}
use Rattle.kk_code.specs.Codeword.{Parameters, IsInRange, IsMessage}
use Rattle.kk_code.specs.Ticket.{TicketFields, message_bits, generations}
use Rattle.kk_assemble.specs.FileBits.{file_bit, number_from, symbol_of, cut, message_bit, joined}
use Rattle.kk_assemble.specs.Laws.{cuts}
use Rattle.kk_assemble.specs.Messages.{all_messages}
use Rattle.kk_assemble.proofs.AllMessages.{all_messages-range}
use Rattle.kk_assemble.proofs.Places.{file_bit_below}
use Rattle.kk_assemble.proofs.Numbers.{number_from_below, same_numbers, bit_at-number_from, number_from-bit_at}

pub cut_is_message : (p : Parameters) (file : List ℕ) (g : ℕ) → IsMessage p (cut p file g)
cut_is_message p file g = record {
  len = length-map-range_with_len (symbol_of p file g) 0 p.k;
  symbols = All-map (λ s. s < 2 ^ p.field.degree) (symbol_of p file g) (range_with_len 0 p.k) (λ k d below. number_from_below (file_bit file) _ p.field.degree (file_bit_below file));
}

-- a message has a bit
pub message_bits_some : (p : Parameters) → IsInRange p → 0 < message_bits p
message_bits_some p in_range = mul-le 1 1 p.k p.field.degree in_range.k_low (omega (arith, in_range.m_low))

-- n things fit into boxes of b, as many as n / b rounded up
boxes_hold : (n b : ℕ) → 0 < b → n ≤ (n + (b - 1)) / b * b
boxes_hold n b some = omega arith

-- a bit of the file is in a message
in_messages : (t : TicketFields) (at : ℕ) → 0 < message_bits t.code → at < 8 * t.length → at / message_bits t.code < generations t
in_messages t at some within =
    div_below at (message_bits t.code) (generations t) some (omega (arith, boxes_hold (8 * t.length) (message_bits t.code) some))

-- where a bit of the file lies in its message
place : (k m at : ℕ) → 0 < k * m → (at / (k * m) * (k * m) + at % (k * m) / m * m) + at % (k * m) % m ≡ at
place k m at some = omega (arith, div-add-mod' at (k * m), div-add-mod' (at % (k * m)) m)

-- the messages have the bits of the file
pub message_bit-cuts : (t : TicketFields) (file : List ℕ) (at : ℕ) → IsInRange t.code → at < 8 * t.length → message_bit t.code (cuts t file) at ≡ file_bit file at
message_bit-cuts t file at in_range within =
    let p = t.code in
    let m = p.field.degree in
    let bits = message_bits p in
    let some : 0 < bits = message_bits_some p in_range in
    let m_some : 0 < m = omega (arith, in_range.m_low) in
    let g = at / bits in
    let j = at % bits / m in
    let i = at % bits % m in
    let g_below : g < generations t = in_messages t at some within in
    let j_below : j < p.k = div_below (at % bits) m p.k m_some (mod_below at bits some) in
    let i_below : i < m = mod_below (at % bits) m m_some in
    let message : get_or (cuts t file) g [] ≡ cut p file g = get_or-map-range_with_len (cut p file) 0 (generations t) g g [] g_below (zero-add g) in
    let symbol : get_or (cut p file g) j 0 ≡ symbol_of p file g j = get_or-map-range_with_len (symbol_of p file g) 0 p.k j j 0 j_below (zero-add j) in
    ap (λ (u : List ℕ). bit_at (get_or u j 0) (m - 1 - i)) message
    ∙ ap (λ (s : ℕ). bit_at s (m - 1 - i)) symbol
    ∙ bit_at-number_from (file_bit file) (g * bits + j * m) m i (file_bit_below file) i_below
    ∙ ap (file_bit file) (place p.k m at some)

-- byte i of a file by its bits
pub byte_of_file : (file : List ℕ) (i : ℕ) → get_or file i 0 < 256 → number_from (file_bit file) (8 * i) 8 ≡ get_or file i 0
byte_of_file file i byte = number_from-bit_at (get_or file i 0) (file_bit file) (8 * i) 8 (file_bit_below file) byte (λ n below.
    let byte_is : (8 * i + n) / 8 ≡ i = omega arith in
    let bit_is : (8 * i + n) % 8 ≡ n = omega arith in
    ap (λ (k : ℕ). bit_at (get_or file k 0) (7 - (8 * i + n) % 8)) byte_is ∙ ap (λ (k : ℕ). bit_at (get_or file i 0) (7 - k)) bit_is)

pub joined-cuts : (t : TicketFields) (file : List ℕ) → IsInRange t.code → length file ≡ t.length → All (λ b. b < 256) file → joined t.code t.length (cuts t file) ≡ file
joined-cuts t file in_range len bytes =
    sym (fill_by_all (λ i. number_from (message_bit t.code (cuts t file)) (8 * i) 8) file t.length 0 len (λ i below.
    sym (same_numbers (message_bit t.code (cuts t file)) (file_bit file) (8 * i) 8 (λ n within. message_bit-cuts t file (8 * i + n) in_range (omega arith))
    ∙ byte_of_file file i (bytes i 0 (omega arith)))))

-- answers that are the messages of a file make it
pub file_from_answers :
    (t : TicketFields) (file : List ℕ) (answer : ℕ → Option (List ℕ)) → IsInRange t.code → length file ≡ t.length → All (λ b. b < 256) file
    → ((g : ℕ) → g < generations t → answer g ≡ Some (cut t.code file g))
    → option_map (joined t.code t.length) (all_messages (map answer (range_with_len 0 (generations t)))) ≡ Some file
file_from_answers t file answer in_range len bytes each =
    ap (option_map (joined t.code t.length)) (all_messages-range answer (cut t.code file) 0 (generations t) (λ g above below. each g (omega arith)))
    ∙ ap Some (joined-cuts t file in_range len bytes)
