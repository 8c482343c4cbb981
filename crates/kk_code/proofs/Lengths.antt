-- How long a file is at most.
use Rattle.std.proofs.Common.{◌≡◌, ℕ, suc, ◌+◌, ◌-◌, ◌*◌, ◌/◌, ◌<◌, ◌≤◌, ◌↔◌, arith}
use Rattle.kk_code.specs.Codeword.{IsInRange}
use Rattle.kk_code.specs.Ticket.{TicketFields, message_bits, generations, for_length}
use Rattle.kk_code.specs.declared.ticket.TheConstants.{MAX_GENERATIONS}
use Rattle.std.proofs.Math.Nat.{le-div_iff_mul-le, div-lt_iff_lt-mul, suc-mul, mul-pos}

-- a file of n bytes takes at most g messages of so many bits exactly where they have room for its bits
pub longest : (g bits n : ℕ) → 0 < bits → (n ≤ g * bits / 8) ↔ ((8 * n + (bits - 1)) / bits ≤ g)
longest g bits n some =
    let room : (n ≤ g * bits / 8) ↔ (n * 8 ≤ g * bits) = le-div_iff_mul-le (omega arith) in
    let taken : ((8 * n + (bits - 1)) / bits < suc g) ↔ (8 * n + (bits - 1) < suc g * bits) = div-lt_iff_lt-mul some in
    let wide : suc g * bits ≡ g * bits + bits = suc-mul g bits in (
      λ few. let bound : (8 * n + (bits - 1)) / bits < suc g = taken.1 (omega (arith, room.0 few, wide, some)) in omega (arith, bound),
      λ least. room.1 (omega (arith, taken.0 (omega (arith, least)), wide, some)),
    )

pub longest_file : (t : TicketFields) (bytes n : ℕ) → IsInRange t.code → bytes ≡ MAX_GENERATIONS * message_bits t.code → (n ≤ bytes / 8) ↔ (generations (for_length t n) ≤ MAX_GENERATIONS)
longest_file t bytes n code is =
    let some : 0 < message_bits t.code = mul-pos code.k_low (omega (arith, code.m_low)) in
    rw is (longest MAX_GENERATIONS (message_bits t.code) n some)
