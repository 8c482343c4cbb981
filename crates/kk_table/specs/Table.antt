-- A table as clauses see it.
use Rattle.std.specs.Prelude.{◌≡◌, ◌<◌, ◌≤◌}
use Rattle.atomic_table.specs.Seated.{TableId}
use Rattle.kk_machine.specs.declared.log.TheConstants.{MAX_WIDTH}
use Rattle.kk_table.specs.declared.view.Shape.{Shape}
use Rattle.kk_table.specs.Places.{place_of}
use Rattle.kk_code.specs.Ticket.{TicketFields, generations}
use Rattle.kk_code.specs.Codeword.{width}

-- Which table it is, and its size. Two tables are never equal.
pub record TableView : Type 0 where
  pub id : TableId
  pub shape : Shape

-- the size of the table of a transmission
abbrev pub shape_of : TicketFields → Shape
shape_of t = record { generations = generations t; width = width t.code }

-- what every table keeps
pub record IsTable (shape key : Shape) (id : TableId) : Type 0 where
  pub keyed : key ≡ shape
  pub sized : id.words ≡ place_of shape.width shape.generations 0
  pub fits : shape.width ≤ MAX_WIDTH
  pub some : 0 < shape.width
  pub no_slots : id.slots ≡ 0
