-- At a goal the message that was sent is what is answered.
use Rattle.std.proofs.Common.{◌≡◌, ℕ, ◌+◌, ◌*◌, ◌<◌, ◌≤◌, true, List, [], map, length, get_or, Option, Some, refl, sym, ◌∙◌, subst, ⊎_elim, arith}
use Rattle.std.specs.Prelude.{All}
use Rattle.std.specs.List.{range_with_len}
use Rattle.std.proofs.lemmas.Option.{same_Some}
use Rattle.std.proofs.lemmas.List.{length-map, same_lists}
use Rattle.std.proofs.lemmas.List.Elements.{All-from_get_or, All-get_or}
use Rattle.std.proofs.lemmas.List.FromFn.{length-map-range_with_len, get_or-map-range_with_len}
use Rattle.kk_rows.specs.Span.{in_span, HaveSameSpan}
use Rattle.kk_rows.proofs.Spans.{in_span-each, in_span-contained, same_span_members}
use Rattle.kk_code.specs.Codeword.{Parameters, IsCode}
use Rattle.kk_code.specs.Decoding.{Decodes, answer}
use Rattle.kk_code.specs.Ticket.{generations}
use Rattle.kk_code.proofs.Enumeration.{answer_is_the_message}
use Rattle.kk_decode.proofs.Answering.{answer-same_span}
use Rattle.kk_decode.proofs.Losses.{part_is_within_the_radius}
use Rattle.kk_frame.specs.Generation.{rows_of}
use Rattle.kk_machine.specs.declared.log.Log.{Log}
use Rattle.kk_machine.specs.Spaces.{unseen}
use Rattle.kk_machine.specs.Inserts.{FrozenBy}
use Rattle.kk_table.specs.Logs.{log_at}
use Rattle.kk_workers.specs.Received.{all_taken}
use Rattle.kk_workers.specs.Laws.{IsTolerable, FrozenRowsDecode, AnswersAreTheMessages}
use Rattle.kk_workers.proofs.OneHistory.{map_at}

module _ (p : Parameters) (code : IsCode p) where
  rows_decode : (tolerated : ℕ) (rows u : List ℕ) → IsTolerable p tolerated rows u → Decodes p rows u
  rows_decode tolerated rows u is = record {
    message = is.message;
    within = ⊎_elim (λ many. part_is_within_the_radius p code rows rows u tolerated (in_span-each rows) is.injected many) (λ near. near) is.enough;
  }

  each_inside : (frozen rows : List ℕ) → ((x : ℕ) → in_span frozen x ≡ true → in_span rows x ≡ true) → All (λ r. in_span rows r ≡ true) frozen
  each_inside frozen rows inside =
      All-from_get_or (λ r. in_span rows r ≡ true) frozen 0 (λ i near. inside (get_or frozen i 0) (All-get_or (λ r. in_span frozen r ≡ true) frozen i 0 near (in_span-each frozen)))

  decodes_at : (goal : ℕ) (tolerated : ℕ) (frozen rows u : List ℕ) → goal ≡ p.k + 2 * tolerated → FrozenBy frozen rows (Some goal) → IsTolerable p tolerated rows u → Decodes p frozen u
  decodes_at goal tolerated frozen rows u at by is = ⊎_elim
      (λ (same : HaveSameSpan frozen rows).
      (answer_is_the_message.some p code frozen u).0
      (answer-same_span p frozen rows (same_span_members frozen rows same) ∙ (answer_is_the_message.some p code rows u).1 (rows_decode tolerated rows u is)))
      (λ (reached : (n : ℕ) × (Some goal ≡ Some n) × (n ≤ length frozen)). record {
        message = is.message;
        within = part_is_within_the_radius p code frozen rows u tolerated (each_inside frozen rows (in_span-contained frozen rows by.came)) is.injected
            (omega (arith, at, same_Some goal reached.0 reached.1, reached.2, by.independent));
      })
      by.enough

pub frozen_rows_decode : FrozenRowsDecode
frozen_rows_decode p code tolerated frozen rows u by is = (decodes_at p code (p.k + 2 * tolerated) tolerated frozen rows u refl by is, rows_decode p code tolerated rows u is)

pub answers_are_the_messages : AnswersAreTheMessages
answers_are_the_messages t plan gates r tolerated sent code goal line all tolerable =
    let n = generations t in
    let came : ℕ → List ℕ = λ g. rows_of g (all_taken t plan.limits gates) in
    let logged : Log → Option (List ℕ) = λ l. answer t.code l.rows in
    let both : (g : ℕ) → g < n → Decodes t.code (log_at r.logs.logs g).rows (get_or sent g []) × Decodes t.code (came g) (get_or sent g []) =
    λ g below. frozen_rows_decode t.code code tolerated (log_at r.logs.logs g).rows (came g) (get_or sent g []) (subst (FrozenBy (log_at r.logs.logs g).rows (came g)) goal (line.frozen g below)) (tolerable g below) in (
      line.answers ∙ same_lists (map logged r.logs.logs) (map Some sent)
          (length-map r.logs.logs logged ∙ line.all_logs ∙ sym all ∙ sym (length-map sent Some))
          (λ g d near.
          let below : g < n = omega (arith, near, length-map r.logs.logs logged, line.all_logs) in
          map_at logged r.logs.logs g d unseen (omega (arith, below, line.all_logs))
          ∙ (answer_is_the_message.some t.code code (log_at r.logs.logs g).rows (get_or sent g [])).1 (both g below).0
          ∙ sym (map_at Some sent g d [] (omega (arith, below, all)))),
      same_lists (map (λ g. answer t.code (came g)) (range_with_len 0 n)) (map Some sent)
          (length-map-range_with_len (λ g. answer t.code (came g)) 0 n ∙ sym all ∙ sym (length-map sent Some))
          (λ g d near.
          let below : g < n = omega (arith, near, length-map-range_with_len (λ g. answer t.code (came g)) 0 n) in
          get_or-map-range_with_len (λ g. answer t.code (came g)) 0 n g g d below (omega arith)
          ∙ (answer_is_the_message.some t.code code (came g) (get_or sent g [])).1 (both g below).1
          ∙ sym (map_at Some sent g d [] (omega (arith, below, all)))),
    )
