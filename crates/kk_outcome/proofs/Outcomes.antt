-- What the logs of a receiver with no goal decode to, and how its inserts were answered: by the data frames that were taken.
use Rattle.std.proofs.Common.{◌≡◌, ℕ, zero, suc, ◌<◌, List, [], ◌∷◌, length, get_or, Option, None, refl, ap, sym, ◌∙◌, arith}
use Rattle.std.specs.Prelude.{map, sum_by}
use Rattle.std.specs.List.{range_with_len}
use Rattle.std.proofs.lemmas.List.{same_lists, length-map}
use Rattle.std.proofs.lemmas.List.FromFn.{length-map-range_with_len, get_or-map-range_with_len}
use Rattle.std.proofs.lemmas.List.Sums.{sum-map}
use Rattle.kk_rows.specs.Span.{dimension}
use Rattle.kk_rows.proofs.Dimensions.{dimension-same_span, in_span_innovative}
use Rattle.kk_outside.specs.Change.{Change}
use Rattle.kk_outside.specs.Gate.{GateTold}
use Rattle.kk_code.specs.Decoding.{answer}
use Rattle.kk_code.specs.Ticket.{TicketFields, generations}
use Rattle.kk_code.specs.TicketText.{IsTicket}
use Rattle.kk_decode.proofs.Answering.{answer-same_span}
use Rattle.kk_frame.specs.Generation.{rows_of}
use Rattle.kk_machine.specs.declared.log.Log.{Log}
use Rattle.kk_machine.specs.Spaces.{unseen}
use Rattle.kk_table.specs.Logs.{log_at}
use Rattle.kk_workers.specs.declared.plan.Plan.{Plan}
use Rattle.kk_workers.specs.Received.{all_taken, ReceivedView, HasOneHistory, AddUp}
use Rattle.kk_workers.proofs.Counting.{same_totals}
use Rattle.kk_workers.proofs.OneHistory.{log-spans, answer-taken}
use Rattle.kk_outcome.specs.Answers.{frozen, answers, totals_of}
use Rattle.kk_code.specs.Codeword.{IsCode}

-- a ticket's code is one that the laws of codewords speak of
pub ticket_code : (t : TicketFields) → IsTicket t → IsCode t.code
ticket_code t ticket = record {
  field = record {
    modulus = record { at_least_one = omega (arith, ticket.code.m_low); low_below = ticket.code.low };
    irreducible = ticket.irreducible;
  };
  l_high = ticket.code.l_high;
  k_high = ticket.code.k_high;
}

-- ---- lists by their places

pub map_at : {X Y : Type 0} (f : X → Y) (xs : List X) (i : ℕ) (d : Y) (x : X) → i < length xs → get_or (map f xs) i d ≡ f (get_or xs i x)
map_at f [] i d x near = absurd (omega (arith, near))
map_at f (y ∷ ys) zero d x near = refl
map_at f (y ∷ ys) (suc i) d x near = map_at f ys i d x (omega (arith, near))

-- ---- the run

module _ (t : TicketFields) (plan : Plan) (gates : List (Change GateTold)) (r : ReceivedView) (line : HasOneHistory t plan gates r) (sums : AddUp t plan gates r) where
  abbrev n : ℕ
  n = generations t

  abbrev vectors : List (ℕ × ℕ)
  vectors = all_taken t plan.limits gates

  -- an answer for each generation
  pub one_each : length r.answers ≡ n
  one_each = ap (λ (x : List (Option (List ℕ))). length x) line.answers ∙ length-map r.logs.logs (λ l. answer t.code l.rows) ∙ line.all_logs

  -- ---- with no goal

  module _ (no_goal : plan.goal ≡ None) where
    -- the answers
    pub answer_is : (g : ℕ) (d : Option (List ℕ)) → g < n → get_or r.answers g d ≡ answer t.code (frozen vectors g)
    answer_is g d near = answer-taken t plan gates r no_goal line g d near
        ∙ sym (answer-same_span t.code (frozen vectors g) (rows_of g vectors) (in_span_innovative (rows_of g vectors)))

    pub answers_are : r.answers ≡ answers t vectors
    answers_are =
        let f = λ (g : ℕ). answer t.code (frozen vectors g) in
        same_lists r.answers (map f (range_with_len 0 n)) (one_each ∙ sym (length-map-range_with_len f 0 n))
        (λ g d near. answer_is g d (omega (arith, near, one_each)) ∙ sym (get_or-map-range_with_len f 0 n g g d (omega (arith, near, one_each)) (omega arith)))

    -- the ranks
    pub rank_is : (g : ℕ) → g < n → length (log_at r.logs.logs g).rows ≡ dimension (frozen vectors g)
    rank_is g near =
        let l = log_at r.logs.logs g in
        sym (line.frozen g near).independent
        ∙ dimension-same_span l.rows (frozen vectors g) (λ x. log-spans t plan gates r no_goal line g near x ∙ sym (in_span_innovative (rows_of g vectors) x))

    -- the totals
    ranks_are : sum_by (λ (l : Log). length l.rows) r.logs.logs ≡ sum_by (λ g. dimension (frozen vectors g)) (range_with_len 0 n)
    ranks_are =
        let rank = λ (l : Log). length l.rows in
        let dim = λ (g : ℕ). dimension (frozen vectors g) in
        sym (sum-map rank r.logs.logs)
        ∙ ap (sum_by (λ k. k)) (same_lists (map rank r.logs.logs) (map dim (range_with_len 0 n))
        (length-map r.logs.logs rank ∙ line.all_logs ∙ sym (length-map-range_with_len dim 0 n))
        (λ g d near.
        let below : g < n = omega (arith, near, length-map r.logs.logs rank, line.all_logs) in
        map_at rank r.logs.logs g d unseen (omega (arith, below, line.all_logs)) ∙ rank_is g below ∙ sym (get_or-map-range_with_len dim 0 n g g d below (omega arith))))
        ∙ sum-map dim (range_with_len 0 n)

    pub totals_are : r.totals ≡ totals_of t vectors
    totals_are =
        let none = line.nobody_late no_goal in
        let ranks = sums.innovative ∙ ranks_are in
        same_totals sums.inserts ranks (omega (arith, sums.kinds, none, sums.inserts, ranks)) none
