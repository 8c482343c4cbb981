-- The report by what a receiver holds, and a run as a whole.
use Rattle.std.proofs.Common.{◌≡◌, ◌⊎◌, inl, inr, ℕ, ◌<◌, Bool, List, [], ◌∷◌, ◌++◌, length, get_or, Option, None, is_some, refl, ap, sym, subst, ◌∙◌, arith}
use Rattle.std.specs.Prelude.{map, sum_by, ◌↔◌, IfSome, IsSomeAnd}
use Rattle.std.proofs.lemmas.List.{append-nil}
use Rattle.std.specs.List.{zip, range_with_len}
use Rattle.std.proofs.lemmas.List.{same_lists, length-map, get_or-map}
use Rattle.std.proofs.lemmas.List.FromFn.{length-map-range_with_len, get_or-map-range_with_len}
use Rattle.std.proofs.lemmas.Slice.Zip.{get_or-zip, length-zip}
use Rattle.kk_rows.specs.Span.{dimension}
use Rattle.kk_rows.specs.Space.{Space}
use Rattle.kk_code.specs.Decoding.{answer}
use Rattle.kk_code.specs.Codeword.{width}
use Rattle.kk_code.specs.Ticket.{TicketFields, generations}
use Rattle.kk_frame.specs.declared.gate_count.GateCount.{GateCount}
use Rattle.kk_outcome.specs.Answers.{frozen, answers, file_of, outcomes_of, totals_of}
use Rattle.kk_report.specs.Command.{RanThrough}
use Rattle.kk_report.specs.Report.{status_line, gate_line}
use Rattle.kk_outcome.specs.Outcome.{count_line, gate_lines_from, generation_lines, inserts_line, unfrozen_totals, received_lines}
use Rattle.kk_run_unpack.specs.Report.{outcome, outcomes, outcome_lines, outcome_report}
use Rattle.kk_run_unpack.proofs.Counted.{rank_is, ranks-spanned}
use Rattle.kk_report.proofs.Statuses.{IsStatusOf}
use Rattle.kk_report.proofs.Statuses.{at_three, told_through, decoded_or_through, four_alone}
use Rattle.kk_outcome.specs.Delivery.{IsDelivered}
use Rattle.kk_run_unpack.specs.Spaces.{AreSpanned, AreReceived, no_space}
use Rattle.kk_run_unpack.specs.Unpack.{vectors_of, counts_of, unpacked, ReadsUpToStop, FailsBeforeStop, LeavesRemainder, LeavesMore, report_of, IsReported}
use Rattle.kk_outside.specs.Change.{Change}
use Rattle.kk_outside.specs.Source.{SourceTold, bytes_read}
use Rattle.kk_outside.specs.Sink.{SinkTold, WasGiven}

-- what the report says of a generation
abbrev told_of : TicketFields → List (ℕ × ℕ) → ℕ → ℕ × Bool
told_of t vectors g = (dimension (frozen vectors g), is_some (answer t.code (frozen vectors g)))

outcomes-spanned : (t : TicketFields) (spaces : List Space) (found : List (Option (List ℕ))) (vectors : List (ℕ × ℕ)) → AreSpanned t spaces vectors → found ≡ answers t vectors → outcomes spaces found ≡ map (told_of t vectors) (range_with_len 0 (generations t))
outcomes-spanned t spaces found vectors spanned is_found =
    let a = λ (g : ℕ). answer t.code (frozen vectors g) in
    let many : length found ≡ generations t = ap length is_found ∙ length-map-range_with_len a 0 (generations t) in
    let pairs : length (zip spaces found) ≡ generations t = omega (arith, length-zip spaces found, spanned.count, many) in
    same_lists (outcomes spaces found) (map (told_of t vectors) (range_with_len 0 (generations t)))
    (length-map (zip spaces found) outcome ∙ pairs ∙ sym (length-map-range_with_len (told_of t vectors) 0 (generations t)))
    (λ g d within.
    let below : g < generations t = omega (arith, length-map (zip spaces found) outcome, pairs) in
    let pair = get_or-zip spaces found g (no_space, None) (omega (arith, spanned.count)) (omega (arith, many)) in
    let its_answer : get_or found g None ≡ a g = ap (λ (l : List (Option (List ℕ))). get_or l g None) is_found ∙ get_or-map-range_with_len a 0 (generations t) g g None below (omega arith) in
    get_or-map outcome (zip spaces found) g (no_space, None) d (omega (arith, pairs))
    ∙ ap outcome pair
    ∙ ap (λ (n : ℕ). (n, is_some (get_or found g None))) (rank_is (width t.code) (get_or spaces g no_space) vectors g (spanned.each g below))
    ∙ ap (λ (o : Option (List ℕ)). (dimension (frozen vectors g), is_some o)) its_answer
    ∙ sym (get_or-map-range_with_len (told_of t vectors) 0 (generations t) g g d below (omega arith)))

-- the lines by the spaces and answers are those of the capture
lines_are : (t : TicketFields) (most : ℕ) (source : Change SourceTold) (counted : GateCount) (spaces : List Space) (found : List (Option (List ℕ))) → AreReceived t most source counted spaces → found ≡ answers t (vectors_of t most (bytes_read source)) → outcome_lines counted spaces found ≡ received_lines (counts_of t most (bytes_read source) ∷ []) (outcomes_of t (vectors_of t most (bytes_read source))) (totals_of t (vectors_of t most (bytes_read source)))
lines_are t most source counted spaces found received answered =
    let bytes = bytes_read source in
    let vectors = vectors_of t most bytes in
    let counts = counts_of t most bytes in
    let told = outcomes_of t vectors in
    let many : length spaces ≡ length told = received.spanned.count ∙ sym (length-map-range_with_len (told_of t vectors) 0 (generations t)) in
    let gate : gate_line 0 counted ≡ gate_lines_from 0 (counts ∷ []) = ap (gate_line 0) received.counts ∙ sym (append-nil (gate_line 0 counts)) in
    let lines = outcomes-spanned t spaces found vectors received.spanned answered in
    let inserts : unfrozen_totals counted.frames (sum_by (λ space. dimension space.rows) spaces) ≡ totals_of t vectors =
    ap (λ (c : GateCount). unfrozen_totals c.frames (sum_by (λ (space : Space). dimension space.rows) spaces)) received.counts
    ∙ ap (unfrozen_totals (length vectors)) (ranks-spanned t spaces vectors received.spanned) in
    ap (λ n. count_line n ++ gate_line 0 counted ++ generation_lines (outcomes spaces found) ++ inserts_line (unfrozen_totals counted.frames (sum_by (λ (space : Space). dimension space.rows) spaces))) many
    ∙ ap (λ l. count_line (length told) ++ l ++ generation_lines (outcomes spaces found) ++ inserts_line (unfrozen_totals counted.frames (sum_by (λ (space : Space). dimension space.rows) spaces))) gate
    ∙ ap (λ l. count_line (length told) ++ gate_lines_from 0 (counts ∷ []) ++ generation_lines l ++ inserts_line (unfrozen_totals counted.frames (sum_by (λ (space : Space). dimension space.rows) spaces))) lines
    ∙ ap (λ totals. count_line (length told) ++ gate_lines_from 0 (counts ∷ []) ++ generation_lines told ++ inserts_line totals) inserts

-- the report by the spaces and answers is that of the capture
outcome_report-received : (t : TicketFields) (most status : ℕ) (source : Change SourceTold) (counted : GateCount) (spaces : List Space) (found : List (Option (List ℕ))) → AreReceived t most source counted spaces → found ≡ answers t (vectors_of t most (bytes_read source)) → (status ≡ 3) ⊎ RanThrough status → outcome_report status counted spaces found ≡ report_of t most (bytes_read source) status
outcome_report-received t most status source counted spaces found received answered (inl three) =
    let P : ℕ → Type 0 = λ s. outcome_report s counted spaces found ≡ report_of t most (bytes_read source) s in
    subst P (sym three) (ap (λ l. l ++ status_line 3) (lines_are t most source counted spaces found received answered))
outcome_report-received t most status source counted spaces found received answered (inr (inl zero_)) =
    let P : ℕ → Type 0 = λ s. outcome_report s counted spaces found ≡ report_of t most (bytes_read source) s in
    subst P (sym zero_) (ap (λ l. l ++ status_line 0) (lines_are t most source counted spaces found received answered))
outcome_report-received t most status source counted spaces found received answered (inr (inr five)) =
    let P : ℕ → Type 0 = λ s. outcome_report s counted spaces found ≡ report_of t most (bytes_read source) s in
    subst P (sym five) refl

-- an answer for each generation
pub one_each : (t : TicketFields) (found : List (Option (List ℕ))) (vectors : List (ℕ × ℕ)) → found ≡ answers t vectors → length found ≡ generations t
one_each t found vectors answered =
    ap length answered ∙ length-map-range_with_len (λ g. answer t.code (frozen vectors g)) 0 (generations t)

-- ---- the run as a whole

-- the file is that of the data frames
pub unpacked-is : (t : TicketFields) (most : ℕ) (bytes : List ℕ) → unpacked t most bytes ≡ file_of t (answers t (vectors_of t most bytes))
unfolding unpacked
unpacked-is t most bytes = refl

-- what holds of a run under this ticket
pub record IsRun (t : TicketFields) (most status : ℕ) (source : Change SourceTold) (file report : Change SinkTold) : Type 0 where
  pub not_decoded : (status ≡ 4 → ⊥) → ((status ≡ 3) ↔ (unpacked t most (bytes_read source) ≡ None))
  pub read_to_stop : (status ≡ 4 → ⊥) → ReadsUpToStop t most source
  pub failed_before_stop : status ≡ 4 → FailsBeforeStop t most source
  pub remainder : (status ≡ 4 → ⊥) → IfSome source.old.left (λ bytes. LeavesRemainder t most bytes source)
  pub more_left : status ≡ 4 → IfSome source.old.left (λ bytes. LeavesMore t most bytes source)
  pub written : RanThrough status → IsSomeAnd (unpacked t most (bytes_read source)) (λ text. WasGiven text file)
  pub reported : IsReported t most (bytes_read source) status file report

-- the source was read up to the stop
pub IsRun-received : (t : TicketFields) (most told status : ℕ) (source : Change SourceTold) (file report : Change SinkTold) (counted : GateCount) (spaces : List Space) (found : List (Option (List ℕ))) → AreReceived t most source counted spaces → found ≡ answers t (vectors_of t most (bytes_read source)) → IsDelivered (file_of t found) told file → WasGiven (outcome_report told counted spaces found) report → IsStatusOf told status → IsRun t most status source file report
IsRun-received t most told status source file report counted spaces found received answered delivered given same =
    let three = at_three told status same in
    let four : status ≡ 4 → ⊥ = λ four. four_alone status four (decoded_or_through told status delivered.no_other same) in
    let text = unpacked-is t most (bytes_read source) ∙ sym (ap (file_of t) answered) in
    record {
      not_decoded = λ _. rw text (λ e. delivered.not_decoded.0 (three.0 e), λ none. three.1 (delivered.not_decoded.1 none));
      read_to_stop = λ _. received.read;
      failed_before_stop = λ e. absurd (four e);
      remainder = λ _. received.left;
      more_left = λ e. absurd (four e);
      written = λ is. rw text (delivered.written (told_through told status same is));
      reported = record {
        told = told;
        same_or_five = same;
        five = λ can is. delivered.output_fault can (told_through told status same is);
        given = subst (λ l. WasGiven l report) (outcome_report-received t most told source counted spaces found received answered delivered.no_other) given;
      };
    }
