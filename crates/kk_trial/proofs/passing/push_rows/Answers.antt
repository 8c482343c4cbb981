use Rattle.std.proofs.Common.{ℕ, List, [], ◌∷◌, ◌++◌, take, get_or, sym, ap, ◌∙◌, append_assoc}
use Rattle.std.proofs.lemmas.List.{map-append}
use Rattle.kk_rows.specs.Rows.{numbers}
use Rattle.kk_rows.specs.declared.rows.Row.{Row}
use Rattle.kk_frame.specs.FrameView.{pairs}
use Rattle.kk_trial.proofs.Passed.{own_frames, own_frames-more}
use Rattle.kk_trial.proofs.passing.push_rows.Goals as goal

pub loop-row-preserved : goal.loop-row-preserved
loop-row-preserved c =
    let g = c.args.generation in
    let rows = c.args.rows.now in
    let i = c.loop-row.row-index in
    let row = get_or rows i (record { 0 = 0 }) in
    let before = pairs c.args.frames.now.items in
    let front = own_frames g (take i (numbers rows)) in
    let last : List (ℕ × ℕ) = (g, row.0) ∷ [] in
    ap pairs c.in_ok-push.ensures.items
    ∙ map-append (λ (f : ℕ × Row). (f.0, f.1.0)) c.loop-row.frames.items ((g, row) ∷ [])
    ∙ ap (λ (l : List (ℕ × ℕ)). l ++ last) c.loop-row.invariant
    ∙ append_assoc before front last
    ∙ ap (λ (l : List (ℕ × ℕ)). before ++ l) (sym (own_frames-more g rows i (record { 0 = 0 }) c.loop-row-test.true))
