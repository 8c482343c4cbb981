-- Facts about tickets.
use Rattle.std.proofs.Common.{◌+◌, ◌-◌, ◌*◌, ◌/◌, ◌^◌, ◌<◌, ◌≤◌, lit<, lit≤, arith}
use Rattle.std.proofs.Math.Nat.{lt-mul-div-succ}
use Rattle.std.proofs.lemmas.Nat.{mul-le, mul-lt}
use Rattle.kk_field.proofs.Irreducible.{eleven}
use Rattle.kk_code.specs.Ticket.{TicketFields, one_byte}
use Rattle.kk_code.specs.TicketText.{IsTicket}

pub one_byte_ticket : IsTicket one_byte
one_byte_ticket = record {
  session = lit< tt;
  code = record { m_low = lit≤ tt; m_high = lit≤ tt; low = lit< tt; l_low = lit≤ tt; l_high = lit≤ tt; k_low = lit≤ tt; k_high = lit≤ tt };
  narrow = record { m_high = lit≤ tt; wide = lit≤ tt };
  irreducible = eleven;
  few = lit≤ tt;
}

-- a message of k symbols has less than 2^11 bits, and so the file less than 2^22 bytes
pub length_below : (t : TicketFields) → IsTicket t → t.length < 2 ^ 22
length_below t h =
    let k = t.code.k in
    let m = t.code.field.degree in
    let bits : k * m ≤ 31 * 62 = mul-le k m 31 62 (omega (arith, h.code.k_high, h.code.l_high, h.narrow.wide)) h.narrow.m_high in
    let positive : 0 < k * m = mul-lt 0 0 k m (omega (arith, h.code.k_low)) (omega (arith, h.code.m_low)) in
    let all = 8 * t.length + (k * m - 1) in
    let reach : all < k * m * (all / (k * m) + 1) = lt-mul-div-succ all positive in
    let room : k * m * (all / (k * m) + 1) ≤ 31 * 62 * 16385 = mul-le (k * m) (all / (k * m) + 1) (31 * 62) 16385 bits (omega (arith, h.few)) in
    omega arith
