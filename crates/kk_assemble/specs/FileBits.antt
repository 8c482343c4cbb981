-- A file as bits, most significant first, cut into messages.
use Rattle.std.specs.Prelude.{ℕ, zero, suc, ◌+◌, ◌-◌, ◌*◌, ◌/◌, ◌%◌, List, [], map, slice_index}
use Rattle.std.specs.List.{range_with_len, slice_index_or}
use Rattle.std.specs.Int.{bit_at}
use Rattle.kk_code.specs.Codeword.{Parameters}
use Rattle.kk_code.specs.Ticket.{message_bits}

-- bit t of a file: bit 7 - t % 8 of byte t / 8, and 0 after the end
abbrev pub file_bit : List ℕ → ℕ → ℕ
file_bit file t = bit_at (slice_index file (t / 8)) (7 - t % 8)

-- the number whose n bits, most significant first, are bit at, bit (at + 1), ..
unfoldable pub number_from : (ℕ → ℕ) → ℕ → ℕ → ℕ
number_from bit at zero = 0
number_from bit at (suc n) = 2 * number_from bit at n + bit (at + n)

-- symbol j of generation g: the m bits of the file from g·k·m + j·m on
abbrev pub symbol_of : Parameters → List ℕ → ℕ → ℕ → ℕ
symbol_of p file g j = number_from (file_bit file) (g * message_bits p + j * p.field.degree) p.field.degree

-- the message of generation g
abbrev pub cut : Parameters → List ℕ → ℕ → List ℕ
cut p file g = map (symbol_of p file g) (range_with_len 0 p.k)

-- the bit of the messages at the place where `cut` puts bit t of the file
abbrev pub message_bit : Parameters → List (List ℕ) → ℕ → ℕ
message_bit p messages t =
    let in_message = t % message_bits p in
    bit_at (slice_index (slice_index_or messages (t / message_bits p) []) (in_message / p.field.degree)) (p.field.degree - 1 - in_message % p.field.degree)

-- the file of this many bytes whose bits are those of the messages
abbrev pub joined : Parameters → ℕ → List (List ℕ) → List ℕ
joined p len messages = map (λ i. number_from (message_bit p messages) (8 * i) 8) (range_with_len 0 len)
