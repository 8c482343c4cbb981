-- The laws of codewords, and those of tickets and their texts, which the functions of `laws` prove.
use Rattle.std.specs.Prelude.{◌≡◌, ◌≢◌, ◌⊎◌, ◌↔◌, ◌+◌, ◌-◌, ◌*◌, ◌^◌, ◌<◌, ◌≤◌, ℕ, List, IsTrue, Some, None, Ok, Err}
use Rattle.kk_linpoly.specs.LinPoly.{value}
use Rattle.kk_rows.specs.Span.{in_span}
use Rattle.kk_rows.specs.Distance.{distance}
use Rattle.kk_code.specs.Codeword.{Parameters, IsCode, IsMessage, row_of, codeword}
use Rattle.kk_code.specs.Decoding.{Decodes, answer}
use Rattle.kk_code.specs.Ticket.{TicketFields, ticket_text}
use Rattle.kk_code.specs.TicketText.{IsTicket, IsTicketText, IsFirstFault, ticket_of}
use Rattle.kk_code.specs.declared.fault.TicketFault.{TicketFault}

-- what a text spells is a ticket
abbrev pub TextIsOfATicket : Type 0
TextIsOfATicket = (text : List ℕ) (t : TicketFields) → IsTicketText text t → IsTicket t

-- the text of a ticket spells that ticket
abbrev pub TicketHasItsText : Type 0
TicketHasItsText = (t : TicketFields) → IsTicket t → IsTicketText (ticket_text t) t

-- a ticket has no other text than `ticket_text`
abbrev pub TicketHasOneText : Type 0
TicketHasOneText = (text : List ℕ) (t : TicketFields) → IsTicketText text t → text ≡ ticket_text t

-- a text is a ticket, or it has a first fault
abbrev pub TextIsATicketOrFaulty : Type 0
TextIsATicketOrFaulty =
    (text : List ℕ) → ((t : TicketFields) × IsTicketText text t) ⊎ ((fault : TicketFault) × IsFirstFault text fault)

-- a text that is a ticket has no fault
abbrev pub TicketHasNoFault : Type 0
TicketHasNoFault = (text : List ℕ) (t : TicketFields) (fault : TicketFault) → IsTicketText text t → IsFirstFault text fault → ⊥

-- a text has at most one first fault
abbrev pub TextHasOneFault : Type 0
TextHasOneFault = (text : List ℕ) (fault other : TicketFault) → IsFirstFault text fault → IsFirstFault text other → fault ≡ other

-- `ticket_of` gives a ticket exactly where the text is that ticket, and a fault exactly where it is the first of the text
pub record TicketOfIsExact : Type 0 where
  pub ok : (text : List ℕ) (t : TicketFields) → (ticket_of text ≡ Ok t) ↔ IsTicketText text t
  pub err : (text : List ℕ) (fault : TicketFault) → (ticket_of text ≡ Err fault) ↔ IsFirstFault text fault

-- ---- codewords

-- the span of a codeword is the graph of its polynomial below 2^l
abbrev pub CodewordIsAGraph : Type 0
CodewordIsAGraph =
    (p : Parameters) → IsCode p → (u : List ℕ) (x y : ℕ) → y < 2 ^ p.field.degree
    → IsTrue (in_span (codeword p u) (row_of p x y)) ↔ ((x < 2 ^ p.l) × (y ≡ value p.field u x))

-- the codewords of different messages are at distance 2 (l - k + 1) at least
abbrev pub CodewordsAreFarApart : Type 0
CodewordsAreFarApart =
    (p : Parameters) → IsCode p → (u v : List ℕ) → IsMessage p u → IsMessage p v → u ≢ v
    → 2 * (p.l - p.k + 1) ≤ distance (codeword p u) (codeword p v)

-- at most one message decodes a space
abbrev pub DecodingIsUnique : Type 0
DecodingIsUnique = (p : Parameters) → IsCode p → (rows u v : List ℕ) → Decodes p rows u → Decodes p rows v → u ≡ v

-- the answer is u exactly where u decodes the space, and there is none exactly where no message does
pub record AnswerIsTheMessage : Type 0 where
  pub some : (p : Parameters) → IsCode p → (rows u : List ℕ) → (answer p rows ≡ Some u) ↔ Decodes p rows u
  pub none : (p : Parameters) → IsCode p → (rows : List ℕ) → (answer p rows ≡ None) ↔ ((u : List ℕ) → Decodes p rows u → ⊥)

-- A space within distance l - k + 1 of a codeword, one more than the radius, has no other answer than the codeword's message,
-- and none where it lies at that distance: every other codeword is farther than the radius.
pub record OneBeyondIsNeverWrong : Type 0 where
  pub same : (p : Parameters) → IsCode p → (rows u v : List ℕ) → IsMessage p u → distance (codeword p u) rows ≤ p.l - p.k + 1
      → answer p rows ≡ Some v → u ≡ v
  pub none : (p : Parameters) → IsCode p → (rows u : List ℕ) → IsMessage p u → distance (codeword p u) rows ≡ p.l - p.k + 1
      → answer p rows ≡ None
