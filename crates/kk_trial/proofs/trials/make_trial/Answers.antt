use Rattle.std.proofs.Common.{ℕ, length, sym, ap, subst, ◌∙◌}
use Rattle.std.specs.Prelude.{All}
use Rattle.kk_outside.specs.Generator.{after_words, word_at}
use Rattle.kk_frame.specs.Frame.{Vector, IsFrame}
use Rattle.kk_frame.specs.FrameView.{pairs}
use Rattle.kk_trial.specs.Trial.{file_words, made_file}
use Rattle.kk_trial.specs.Laws.{IsPossible}
use Rattle.kk_trial.proofs.Files.{made_file_has_its_length}
use Rattle.kk_trial.proofs.Frames.{trial_frames_are_frames}
use Rattle.kk_trial.proofs.trials.make_trial.Goals as goal

pub pass_file-requires-clause-whole : goal.pass_file-requires-clause-whole
pass_file-requires-clause-whole g c =
    let word = word_at (g.R.Rng.stream c.args.rng.now) in
    ap length (c.deref.ensures.value ∙ c.in_ok-file.ensures.file ∙ ap (λ (n : ℕ). made_file n word) c.length.ensures.length)
    ∙ (made_file_has_its_length c.args.ticket.now.length word).0

pub deal-requires-clause-frames : goal.deal-requires-clause-frames
deal-requires-clause-frames g c =
    let t = c.args.ticket.now in
    let start = g.R.Rng.stream c.args.rng.now in
    let word = word_at start in
    let words = c.in_ok-file.ensures.words ∙ ap (λ (n : ℕ). after_words (file_words n) start) c.length.ensures.length in
    let file = c.deref.ensures.value ∙ c.in_ok-file.ensures.file ∙ ap (λ (n : ℕ). made_file n word) c.length.ensures.length in
    let possible : IsPossible t c.args.channel = record { erase = c.requires.erase; inject = c.requires.inject } in
    let are = trial_frames_are_frames t c.args.channel word c.length.ensures.ticket possible in
    subst (All (λ f. IsFrame t (Vector f.0 f.1))) (sym (ap pairs c.deref-2.ensures.value ∙ c.in_ok-frames.ensures.frames start words file)) are.in_range
