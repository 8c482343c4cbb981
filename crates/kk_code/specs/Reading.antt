-- What `Ticket::read` answers.
use Rattle.std.specs.Prelude.{ℕ, List, Result, Ok, Err}
use Rattle.kk_code.specs.Ticket.{TicketFields}
use Rattle.kk_code.specs.TicketText.{IsFirstFault, IsTicketText}
use Rattle.kk_code.specs.declared.fault.TicketFault.{TicketFault}

-- a text with a fault
abbrev pub IsRefused : List ℕ → Type 0
IsRefused text = (fault : TicketFault) × IsFirstFault text fault

-- The answer to a text: the ticket that it is, or its first fault.
abbrev pub IsAnswer : List ℕ → Result TicketFields TicketFault → Type 0
IsAnswer text (Ok t) = IsTicketText text t
IsAnswer text (Err fault) = IsFirstFault text fault
