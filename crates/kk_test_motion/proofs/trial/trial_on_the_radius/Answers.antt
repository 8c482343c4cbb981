use Rattle.std.proofs.Common.{ℕ, ◌+◌, ◌-◌, ◌/◌, ◌≤◌, List, Result, Ok, Err, Some, refl, sym, ap, ◌∙◌, arith}
use Rattle.std.specs.Prelude.{IfOk, flat_map}
use Rattle.kk_rows.proofs.Spans.{HaveSameSpan-from_members}
use Rattle.kk_code.specs.Codeword.{Parameters}
use Rattle.kk_code.specs.Decoding.{answer}
use Rattle.kk_assemble.specs.FileBits.{cut}
use Rattle.kk_outside.specs.GateState.{GateState}
use Rattle.kk_outside.specs.Generator.{word_at}
use Rattle.kk_frame.specs.declared.frame.TheConstants.{FRAME_BYTES}
use Rattle.kk_frame.specs.Events.{taken}
use Rattle.kk_frame.specs.Generation.{rows_of}
use Rattle.kk_trial.specs.Trial.{trial_gates}
use Rattle.kk_trial.specs.Laws.{IsPossible}
use Rattle.kk_trial.specs.declared.operator_channel.OperatorChannel.{OperatorChannel}
use Rattle.kk_trial.proofs.Received.{trial_is_received}
use Rattle.kk_test_motion.proofs.trial.trial_on_the_radius.Goals as goal

IfOk-both : {T E : Type 0} (P Q R : T → Type 0) (r : Result T E) → IfOk r P → IfOk r Q → ((x : T) → P x → Q x → R x) → IfOk r R
IfOk-both P Q R (Ok x) p q f = f x p q
IfOk-both P Q R (Err e) p q f = tt

pub make_trial-requires : goal.make_trial-requires
make_trial-requires g c =
    let code = ap (λ (p : Parameters). p.l) c.code-code.ensures.code in
    record {
      erase = omega (arith, code);
      inject = omega (arith, code, c.code-code.ensures.ticket.code.l_high);
      some = c.requires;
    }

pub returns : goal.returns
returns g c = λ number limits below idle most.
    let t = c.args.ticket.now in
    let n = c.args.gates in
    let word = word_at (g.R.Rng.stream c.args.rng.now) in
    let half = (c.l.result - c.k.result) / 2 in
    let channel : OperatorChannel = record { erase = half; inject = half } in
    let l = ap (λ (p : Parameters). p.l) c.code-code.ensures.code in
    let k = ap (λ (p : Parameters). p.k) c.code-code.ensures.code in
    let ticket = c.code-code.ensures.ticket in
    let possible : IsPossible t channel = record { erase = omega (arith, l); inject = omega (arith, l, ticket.code.l_high) } in
    let few : half + half ≤ t.code.l - t.code.k = omega (arith, l, k) in
    let received = trial_is_received t channel n word limits ticket possible c.requires (omega (arith, idle)) (omega (arith, most)) in
    IfOk-both _ _ _ c.make_trial.result c.make_trial.ensures.file c.make_trial.ensures.gates (λ trial file gates.
    let rows : List GateState → List ℕ = λ gs. rows_of number (flat_map (λ gate. taken FRAME_BYTES t limits gate.left) gs) in
    ap (λ (gs : List GateState). answer t.code (rows gs)) gates
    ∙ received.answers number (rows (trial_gates t channel n word)) below few (HaveSameSpan-from_members _ _ (λ x. refl))
    ∙ ap (λ (f : List ℕ). Some (cut t.code f number)) (sym file))
