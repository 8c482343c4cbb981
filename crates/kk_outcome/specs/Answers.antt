-- What the data frames that a receiver took decode to.
use Rattle.std.specs.Prelude.{ℕ, Bool, Option, List, length, map, sum_by, is_some}
use Rattle.std.specs.List.{range_with_len}
use Rattle.std.specs.Option.{option_map}
use Rattle.kk_rows.specs.Span.{innovative, dimension}
use Rattle.kk_code.specs.Decoding.{answer}
use Rattle.kk_code.specs.Ticket.{TicketFields, generations}
use Rattle.kk_frame.specs.Generation.{rows_of}
use Rattle.kk_assemble.specs.FileBits.{joined}
use Rattle.kk_assemble.specs.Messages.{all_messages}
use Rattle.kk_workers.specs.declared.totals.Totals.{Totals}
use Rattle.kk_outcome.specs.Outcome.{unfrozen_totals}

-- the frozen space of generation g, by the rows that raised its dimension
abbrev pub frozen : List (ℕ × ℕ) → ℕ → List ℕ
frozen vectors g = innovative (rows_of g vectors)

-- the answer of each generation
abbrev pub answers : TicketFields → List (ℕ × ℕ) → List (Option (List ℕ))
answers t vectors = map (λ g. answer t.code (frozen vectors g)) (range_with_len 0 (generations t))

-- the file that these answers make, where each is a message
abbrev pub file_of : TicketFields → List (Option (List ℕ)) → Option (List ℕ)
file_of t found = option_map (joined t.code t.length) (all_messages found)

-- the file that the data frames make
abbrev pub file_text : TicketFields → List (ℕ × ℕ) → Option (List ℕ)
file_text t vectors = file_of t (answers t vectors)

-- of each generation the dimension of its space, and whether it has an answer
abbrev pub outcomes_of : TicketFields → List (ℕ × ℕ) → List (ℕ × Bool)
outcomes_of t vectors =
    map (λ g. (dimension (frozen vectors g), is_some (answer t.code (frozen vectors g)))) (range_with_len 0 (generations t))

-- How the inserts of the data frames are answered, all before any space is frozen: those that raise the dimension of a
-- space are innovative.
abbrev pub totals_of : TicketFields → List (ℕ × ℕ) → Totals
totals_of t vectors =
    unfrozen_totals (length vectors) (sum_by (λ g. dimension (frozen vectors g)) (range_with_len 0 (generations t)))
