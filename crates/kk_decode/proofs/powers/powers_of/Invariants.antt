use Rattle.std.proofs.Common.{◌≡◌, ℕ, ◌+◌, ◌^◌, ◌<◌, ◌≤◌, length, slice_index}
use Rattle.kk_field.specs.Field.{frobenius}
use Rattle.kk_linpoly.specs.LinPoly.{IsOver}
use Rattle.kk_decode.proofs.powers.powers_of.Given as goal

abbrev pub invariant-loop-j : goal.invariant-loop-j
invariant-loop-j g l = record {
  long : length l.powers ≡ 64;
  power_is : l.power ≡ frobenius l.field l.j l.x;
  power_below : l.power < 2 ^ l.field.degree;
  done : (i : ℕ) → i < l.j → slice_index l.powers i ≡ frobenius l.field i l.x;
  over : IsOver l.field.degree l.powers;
  counted : l.steps ≤ l.fn.steps + l.j;
}
