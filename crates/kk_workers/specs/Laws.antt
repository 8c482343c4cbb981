-- The laws of a goal, which the functions of `laws` prove.
use Rattle.std.specs.Prelude.{◌≡◌, ◌⊎◌, ℕ, ◌+◌, ◌-◌, ◌*◌, ◌<◌, ◌≤◌, List, [], map, length, slice_index_or, Some}
use Rattle.std.specs.List.{range_with_len}
use Rattle.kk_rows.specs.Span.{dimension}
use Rattle.kk_rows.specs.Distance.{distance}
use Rattle.kk_outside.specs.Change.{Change}
use Rattle.kk_outside.specs.Gate.{GateTold}
use Rattle.kk_code.specs.Codeword.{Parameters, IsCode, IsMessage, codeword}
use Rattle.kk_code.specs.Decoding.{injected as injected_into, Decodes, answer}
use Rattle.kk_code.specs.Ticket.{TicketFields, generations}
use Rattle.kk_frame.specs.Generation.{rows_of}
use Rattle.kk_machine.specs.Inserts.{FrozenBy}
use Rattle.kk_workers.specs.declared.plan.Plan.{Plan}
use Rattle.kk_workers.specs.Received.{all_taken, ReceivedView, HasOneHistory}

-- At most t dimensions were injected into the rows of a message, where t is `tolerated`, and either the rows have k + 2·t
-- dimensions, or they lie within distance l - k of the message's codeword.
pub record IsTolerable (p : Parameters) (tolerated : ℕ) (rows u : List ℕ) : Type 0 where
  pub message : IsMessage p u
  pub injected : injected_into p rows u ≤ tolerated
  pub enough : (p.k + 2 * tolerated ≤ dimension rows) ⊎ (distance (codeword p u) rows ≤ p.l - p.k)

-- Rows that are tolerable (`IsTolerable`) decode to their message, and so do those of them that are frozen at the goal k + 2·t,
-- where t is `tolerated`.
abbrev pub FrozenRowsDecode : Type 0
FrozenRowsDecode =
    (p : Parameters) → IsCode p → (tolerated : ℕ) (frozen rows u : List ℕ) → FrozenBy frozen rows (Some (p.k + 2 * tolerated)) → IsTolerable p tolerated rows u
    → Decodes p frozen u × Decodes p rows u

-- A receiver with the goal k + 2·t, where t is `tolerated`, answers the messages that were sent, wherever tolerable rows
-- (`IsTolerable`) of its message came to each generation. All rows that came decode to the same messages, so a receiver
-- without a goal answers them too.
abbrev pub AnswersAreTheMessages : Type 0
AnswersAreTheMessages =
    (t : TicketFields) (plan : Plan) (gates : List (Change GateTold)) (r : ReceivedView) (tolerated : ℕ) (sent : List (List ℕ)) → IsCode t.code
    → plan.goal ≡ Some (t.code.k + 2 * tolerated) → HasOneHistory t plan gates r → length sent ≡ generations t
    → ((g : ℕ) → g < generations t → IsTolerable t.code tolerated (rows_of g (all_taken t plan.limits gates)) (slice_index_or sent g []))
    → (r.answers ≡ map Some sent)
    × (map (λ g. answer t.code (rows_of g (all_taken t plan.limits gates))) (range_with_len 0 (generations t)) ≡ map Some sent)
