use Rattle.std.proofs.Common.{◌+◌, ◌*◌, ◌≤◌}
use Rattle.std.specs.Prelude.{slice_index}
use Rattle.kk_field.specs.Field.{field_product, frobenius}
use Rattle.kk_ore.proofs.Adds.{AddsTerms}
use Rattle.kk_ore.proofs.right.add_term.Given as goal

abbrev pub invariant-loop-j : goal.invariant-loop-j
invariant-loop-j g l = record {
  adds : AddsTerms l.fn.remainder l.remainder l.s l.j (λ j. field_product l.ring l.c (frobenius l.ring l.s (slice_index l.b j)));
  counted : l.steps ≤ l.fn.steps + l.j * (l.s + 1);
}
