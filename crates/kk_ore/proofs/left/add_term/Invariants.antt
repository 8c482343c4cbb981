use Rattle.std.proofs.Common.{◌≡◌, ◌+◌, ◌*◌, ◌^◌, ◌<◌, ◌≤◌}
use Rattle.std.specs.Prelude.{slice_index}
use Rattle.kk_field.specs.Field.{field_product, frobenius}
use Rattle.kk_ore.proofs.Adds.{AddsTerms}
use Rattle.kk_ore.proofs.left.add_term.Given as goal

abbrev pub invariant-loop-j : goal.invariant-loop-j
invariant-loop-j g l = record {
  power_is : l.power ≡ frobenius l.ring l.j l.c;
  power_below : l.power < 2 ^ l.ring.degree;
  adds : AddsTerms l.fn.remainder l.remainder l.s l.j (λ j. field_product l.ring (slice_index l.b j) (frobenius l.ring j l.c));
  counted : l.steps ≤ l.fn.steps + 2 * l.j;
}
