-- The order in the words of `unpack`: its ticket, and how many pieces are taken at most.
use Rattle.std.proofs.Common.{◌≡◌, ◌∙◌, ℕ, List, Ok, ap, subst}
use Rattle.kk_code.specs.Ticket.{TicketFields}
use Rattle.kk_order.specs.Order.{Order, order_of}
use Rattle.kk_order.proofs.Refusals.{same_order}
use Rattle.kk_run_unpack.specs.Unpack.{max_pieces, unpack_form}

-- The words ask to unpack under this ticket, with at most so many pieces.
pub record NamesTicket (words : List (List ℕ)) (t : TicketFields) (most : ℕ) : Type 0 where
  pub order : Order
  pub ordered : order_of unpack_form words ≡ Ok order
  pub ticket : t ≡ order.ticket
  pub pieces : most ≡ max_pieces order

-- what is said of the ticket and the number of pieces that the words name holds by their order
pub named_once : (words : List (List ℕ)) (P : TicketFields → ℕ → Type 0) (t : TicketFields) (most : ℕ) (order : Order) → NamesTicket words t most
    → order_of unpack_form words ≡ Ok order → P t most → P order.ticket (max_pieces order)
named_once words P t most order named ordered holds =
    subst (λ (o : Order). P o.ticket (max_pieces o)) (same_order (order_of unpack_form words) named.order order named.ordered ordered)
    (subst (P named.order.ticket) named.pieces (subst (λ u. P u most) named.ticket holds))

-- the ticket and the number of an order that the words give
pub named_by : (words : List (List ℕ)) (order held : Order) (t : TicketFields) (most : ℕ) → order_of unpack_form words ≡ Ok order → t ≡ held.ticket
    → most ≡ max_pieces held → held ≡ order → NamesTicket words t most
named_by words order held t most ordered ticket pieces is = record {
  order = order;
  ordered = ordered;
  ticket = ticket ∙ ap (λ (o : Order). o.ticket) is;
  pieces = pieces ∙ ap (λ (o : Order). max_pieces o) is;
}
