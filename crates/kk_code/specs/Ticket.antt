-- A ticket: what sender, relays and receiver agree on outside the program, before a transmission.
use Rattle.std.specs.Prelude.{ℕ, zero, suc, ◌+◌, ◌-◌, ◌*◌, ◌/◌, ◌%◌, if◌then◌else◌, nat_lt, List, [], ◌∷◌, ◌++◌, codes}
use Rattle.std.specs.Fmt.{decimal}
use Rattle.kk_code.specs.Codeword.{Parameters}

-- the session that frames name, the code, and how many bytes the file has
pub record TicketFields : Type 0 where
  pub session : ℕ
  pub code : Parameters
  pub length : ℕ

-- how many bits a message carries: k symbols of m bits
abbrev pub message_bits : Parameters → ℕ
message_bits p = p.k * p.field.degree

-- how many messages the file takes: its bits by those of a message, rounded up
abbrev pub generations : TicketFields → ℕ
generations t = (8 * t.length + (message_bits t.code - 1)) / message_bits t.code

-- the ticket of the same session and code for a file of so many bytes
abbrev pub for_length : TicketFields → ℕ → TicketFields
for_length t n = record { session = t.session; code = t.code; length = n }

-- the character of a hexadecimal digit, 0-9 and a-f
abbrev pub hex_digit : ℕ → ℕ
hex_digit d = if nat_lt d 10 then 48 + d else 87 + d

-- n in w hexadecimal digits, the most significant first
unfoldable pub hex : ℕ → ℕ → List ℕ
hex zero n = []
hex (suc w) n = hex w (n / 16) ++ hex_digit (n % 16) ∷ []

-- the one text of a ticket
unfoldable pub ticket_text : TicketFields → List ℕ
ticket_text t =
    codes "kk1:" ++ hex 8 t.session ++ codes ":" ++ decimal t.code.field.degree ++ codes ":" ++ hex 16 t.code.field.low
    ++ codes ":" ++ decimal t.code.l ++ codes ":" ++ decimal t.code.k ++ codes ":" ++ decimal t.length

-- GF(8) with the modulus X^3 + X + 1, l = 3, k = 1, and a file of one byte: three generations
abbrev pub one_byte : TicketFields
one_byte = record { session = 1; code = record { field = record { degree = 3; low = 3 }; l = 3; k = 1 }; length = 1 }
