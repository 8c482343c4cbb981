use Rattle.std.proofs.Common.{◌≡◌, ℕ, List, ◌++◌, append_assoc, ap, ◌∙◌}
use Rattle.std.specs.Prelude.{codes}
use Rattle.std.specs.Fmt.{decimal}
use Rattle.kk_report.specs.Report.{gate_line}
use Rattle.kk_run_relay.proofs.relaying.relay_lines.Goals as goal

joined : (g a b c d e f h : List ℕ) → g ++ (a ++ b ++ c ++ d ++ e ++ f ++ h) ≡ g ++ a ++ b ++ c ++ d ++ e ++ f ++ h
joined g a b c d e f h = simp append_assoc

pub returns-clause-text : goal.returns-clause-text
returns-clause-text c =
    let r = c.args.relayed.now in
    let gate = c.as_str.ensures.value ∙ c.gate_line.ensures in
    let relay = c.as_str-2.ensures.value ∙ c.relay_line.ensures.text in
    c.push_str-2.ensures.bytes
    ∙ ap (λ (b : List ℕ). b ++ c.as_str-2.result.now) (c.push_str.ensures.bytes ∙ ap (λ (b : List ℕ). b ++ c.as_str.result.now) c.new-lines.ensures ∙ gate)
    ∙ ap (λ (b : List ℕ). gate_line 0 r.gate ++ b) relay
    ∙ joined (gate_line 0 r.gate) (codes "relayed frames ") (decimal r.gate.frames) (codes " innovative ") (decimal r.innovative) (codes " sent ") (decimal r.sent) (codes "\n")
