-- Worked tickets, good and bad. Their moduli X^3 + X + 1, X^2 + X + 1 and X^4 + X^2 + 1 are the numbers 11, 7 and 21.
use Rattle.std.specs.Prelude.{◌≡◌, refl, codes, Ok, Err}
use Rattle.std.specs.Fmt.{digits}
use Rattle.std.proofs.Common.{lit≤}
use Rattle.kk_field.specs.Polynomial.{product, product_below, irreducible, IsIrreducible}
use Rattle.kk_code.specs.Ticket.{TicketFields, ticket_text, hex, generations, one_byte}
use Rattle.kk_code.specs.TicketText.{range_fault, spelled, first_misshapen, is_hex, is_decimal, ticket_of, IsTicketText}
use Rattle.kk_code.specs.declared.fault.TicketFault.TheVariants.{Shape, Range, NotIrreducible, TooMany}

pub text_of_one_byte : ticket_text one_byte ≡ codes "kk1:00000001:3:0000000000000003:3:1:1"
unfolding ticket_text hex digits
text_of_one_byte = refl

pub three_generations : generations one_byte ≡ 3
three_generations = refl

-- that text is read as the ticket
pub one_byte_is_read : ticket_of (codes "kk1:00000001:3:0000000000000003:3:1:1") ≡ Ok one_byte
unfolding ticket_of first_misshapen is_hex is_decimal spelled range_fault irreducible product product_below
one_byte_is_read = refl

-- an empty file is no message
abbrev pub empty_file : TicketFields
empty_file = record { session = 1; code = one_byte.code; length = 0 }

pub empty_file_is_read : ticket_of (codes "kk1:00000001:3:0000000000000003:3:1:0") ≡ Ok empty_file
unfolding ticket_of first_misshapen is_hex is_decimal spelled range_fault irreducible product product_below
empty_file_is_read = refl

pub no_generations : generations empty_file ≡ 0
no_generations = refl

-- a leading zero in K, a capital letter in MOD, one part too few, one too many
pub leading_zero : ticket_of (codes "kk1:00000001:3:0000000000000003:3:01:1") ≡ Err (Shape 5)
unfolding ticket_of first_misshapen is_hex is_decimal
leading_zero = refl

pub capital_letter : ticket_of (codes "kk1:00000001:8:000000000000001B:4:2:1") ≡ Err (Shape 3)
unfolding ticket_of first_misshapen is_hex is_decimal
capital_letter = refl

pub missing_part : ticket_of (codes "kk1:00000001") ≡ Err (Shape 2)
unfolding ticket_of first_misshapen is_hex is_decimal
missing_part = refl

pub eighth_part : ticket_of (codes "kk1:00000001:3:0000000000000003:3:1:1:") ≡ Err (Shape 7)
unfolding ticket_of first_misshapen is_hex is_decimal
eighth_part = refl

-- a low part of degree m, and rows of 64 bits
pub long_low : ticket_of (codes "kk1:00000001:3:0000000000000008:3:1:1") ≡ Err (Range 3)
unfolding ticket_of first_misshapen is_hex is_decimal spelled range_fault
long_low = refl

pub wide_rows : ticket_of (codes "kk1:00000001:32:0000000000000009:32:16:1") ≡ Err (Range 4)
unfolding ticket_of first_misshapen is_hex is_decimal spelled range_fault
wide_rows = refl

-- X^4 + X^2 + 1 is the square of X^2 + X + 1
pub a_square : ticket_of (codes "kk1:00000001:4:0000000000000005:3:1:1") ≡ Err NotIrreducible
unfolding ticket_of first_misshapen is_hex is_decimal spelled range_fault irreducible product product_below
a_square = refl

-- the most messages, and one byte more
abbrev pub longest_file : TicketFields
longest_file = record { session = 1; code = record { field = record { degree = 2; low = 3 }; l = 1; k = 1 }; length = 4096 }

pub longest_file_is_read : ticket_of (codes "kk1:00000001:2:0000000000000003:1:1:4096") ≡ Ok longest_file
unfolding ticket_of first_misshapen is_hex is_decimal spelled range_fault irreducible product product_below
longest_file_is_read = refl

pub most_generations_of_longest : generations longest_file ≡ 16384
most_generations_of_longest = refl

pub longer_file : ticket_of (codes "kk1:00000001:2:0000000000000003:1:1:4097") ≡ Err (TooMany 16388)
unfolding ticket_of first_misshapen is_hex is_decimal spelled range_fault irreducible product product_below
longer_file = refl

-- Two symbols of eight bits a message. That X^8 + X^4 + X^3 + X + 1 is irreducible is a premise: it has too many products
-- to try here.
abbrev pub two_bytes : TicketFields
two_bytes = record { session = 1; code = record { field = record { degree = 8; low = 27 }; l = 4; k = 2 }; length = 1 }

pub two_bytes_a_message : IsIrreducible 283 → IsTicketText (codes "kk1:00000001:8:000000000000001b:4:2:1") two_bytes
unfolding first_misshapen is_hex is_decimal spelled range_fault
two_bytes_a_message irreducible = record { shape = refl; spells = refl; range = refl; irreducible = irreducible; few = lit≤ tt }
