use Rattle.std.proofs.Common.{◌≡◌, ◌+◌, ◌-◌, ◌/◌, ◌^◌, ◌++◌}
use Rattle.arrayvec.specs.ArrayString.{array_string_len}
use Rattle.kk_code.specs.Ticket.{hex}
use Rattle.kk_code.proofs.writing.push_hex.Given as goal

-- the digits of the first i places
abbrev pub invariant-loop-i : goal.invariant-loop-i
invariant-loop-i l =
    (l.text.bytes ≡ l.initial.text.bytes ++ hex l.i (l.n / 16 ^ (l.width - l.i))) × (array_string_len l.text ≡ array_string_len l.initial.text + l.i)
