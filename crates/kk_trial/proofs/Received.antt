-- What a receiver takes of all gates of a trial.
use Rattle.std.proofs.Common.{ℕ, ◌<◌, List, sym, subst, ◌∙◌}
use Rattle.std.proofs.lemmas.List.Sorted.{length_permutation}
use Rattle.kk_rows.specs.Span.{HaveSameSpan}
use Rattle.kk_rows.proofs.Spans.{same_span_members, HaveSameSpan-from_members}
use Rattle.kk_code.specs.Ticket.{generations}
use Rattle.kk_frame.specs.Generation.{rows_of}
use Rattle.kk_trial.specs.Trial.{made_file, received_rows, trial_frames, all_dealt}
use Rattle.kk_trial.specs.Laws.{AreReceived, TrialIsReceived}
use Rattle.kk_trial.proofs.Dealt.{all_dealt-permuted}
use Rattle.kk_trial.proofs.Rows.{received_rows_have_the_loss, trial_decodes_within_radius}
use Rattle.kk_trial.proofs.Frames.{trial_frames_are_frames, dealing_keeps_rows}
use Rattle.kk_trial.proofs.Gates.{trial_gates_give_all}

same_span-trans : (a b c : List ℕ) → HaveSameSpan a b → HaveSameSpan b c → HaveSameSpan a c
same_span-trans a b c one other = HaveSameSpan-from_members a c (λ x. same_span_members a b one x ∙ same_span_members b c other x)

pub trial_is_received : TrialIsReceived
trial_is_received t channel n word limits ticket possible some idle many =
    let frames = trial_frames t channel word in
    let all = all_dealt n frames in
    let as_received : (g : ℕ) (rows : List ℕ) → g < generations t → HaveSameSpan rows (rows_of g all) → HaveSameSpan rows (received_rows t channel word g) = λ g rows below same.
    same_span-trans rows (rows_of g all) (received_rows t channel word g) same (dealing_keeps_rows t channel word n g some below).spans in
    let received : AreReceived t channel (made_file t.length word) all = record {
      count = length_permutation frames all (all_dealt-permuted n frames some) ∙ (trial_frames_are_frames t channel word ticket possible).count;
      ranks = λ g rows below same. (received_rows_have_the_loss t channel word g ticket possible).rank rows (as_received g rows below same);
      answers = λ g rows below few same. trial_decodes_within_radius t channel word g rows ticket possible few (as_received g rows below same);
    } in
    subst (AreReceived t channel (made_file t.length word)) (sym (trial_gates_give_all t channel n word limits ticket possible idle many).all) received
