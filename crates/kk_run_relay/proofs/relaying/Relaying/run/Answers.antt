use Rattle.std.proofs.Common.{◌≡◌, inl, ℕ, List, Some, Err, refl, ap, sym, subst, ◌∙◌}
use Rattle.rand_core.specs.Steps.{stream_of, steps_u32}
use Rattle.rand_core.specs.Stream.{Stream}
use Rattle.rand_chacha.specs.ChaCha.{next_word}
use Rattle.kk_outside.specs.Change.{Change, change}
use Rattle.kk_outside.specs.Gate.{GateTold, events_told}
use Rattle.kk_outside.specs.Outlet.{OutletTold, IsCutShort, append_datagrams}
use Rattle.kk_outside.specs.Sink.{SinkTold, WasGiven}
use Rattle.kk_relay.specs.RelayState.{BasisState, rank}
use Rattle.kk_relay.specs.declared.relayed.RelayFault.{RelayFault}
use Rattle.kk_relay.specs.declared.relayed.RelayFault.TheVariants.{Gate, Outlet}
use Rattle.std.specs.Prelude.{sum_by}
use Rattle.kk_report.specs.Refusal.{status_of, refusal_text}
use Rattle.kk_report.specs.Report.{concluded_text}
use Rattle.kk_order.specs.Seed.{stream_with}
use Rattle.kk_run_relay.specs.Relay.{Relaying, RelaysBy, refusal_of}
use Rattle.kk_run_relay.proofs.Runs.{list_by, lines_by, cut_all_by, relays_done, relays_gate_failed, relays_outlet_failed}
use Rattle.kk_report.proofs.Statuses.{through_told}
use Rattle.kk_run_relay.proofs.relaying.Relaying.run.Goals as goal

pub returns-in-Ok : goal.returns-in-Ok
returns-in-Ok g c =
    let o = c.self.inside in
    let order : Relaying = record { ticket = o.ticket; seed = Some o.seed; rate = o.rate; limits = o.limits } in
    let gate = change (g.G.Gate.told c.args.gate.now) (g.G.Gate.told c.relay_all-relayed.new.gate) in
    let report = change (g.P.Sink.told c.args.report.now) (g.P.Sink.told c.conclude.new.report) in
    let outlet = change (g.O.Outlet.told c.args.outlet.now) (g.O.Outlet.told c.relay_all-relayed.new.outlet) in
    let words : stream_of (steps_u32 (next_word 10)) c.from_seed-rng.result ≡ stream_with (Some o.seed) = ap (stream_of (steps_u32 (next_word 10))) c.from_seed-rng.ensures in
    let h = c.in-Ok.ensures in
    let list = list_by order (stream_of (steps_u32 (next_word 10)) c.from_seed-rng.result) (events_told gate) words in
    let lines = lines_by order (stream_of (steps_u32 (next_word 10)) c.from_seed-rng.result) (events_told gate) c.in-Ok.relayed.gate c.in-Ok.relayed.innovative c.in-Ok.relayed.sent words h.counts
    (h.innovative ∙ ap (λ (l : List BasisState). sum_by rank l) (h.rows (λ e. cc))) h.number in
    record {
      relays = subst (λ (r : Relaying). RelaysBy r gate report outlet c.conclude.result) c.self.view_is (relays_done order gate report outlet c.conclude.result (h.gate_fault.kept (λ e. cc)) (h.outlet_fault.kept (λ e. cc)) h.asked (h.stop (λ e. cc))
          (h.sent (λ e. cc) ∙ ap (append_datagrams (g.O.Outlet.told c.args.outlet.now).sends) list)
          (through_told 0 c.conclude.result (inl refl) c.conclude.ensures.same_or_five) (λ can. c.conclude.ensures.five can refl)
          (subst (λ (l : List ℕ). WasGiven (concluded_text 0 l) report) (c.as_str.ensures.value ∙ c.relay_lines.ensures.text ∙ lines) c.conclude.ensures.given));
    }

pub returns : goal.returns
returns g c = record { relays = subst (λ (r : Relaying). RelaysBy r gate report outlet c.refuse.result) c.self.view_is (by c.in-Err.fault refl) }
  where
    order : Relaying
    order = record { ticket = c.self.inside.ticket; seed = Some c.self.inside.seed; rate = c.self.inside.rate; limits = c.self.inside.limits }

    gate : Change GateTold
    gate = change (g.G.Gate.told c.args.gate.now) (g.G.Gate.told c.relay_all-relayed.new.gate)

    outlet : Change OutletTold
    outlet = change (g.O.Outlet.told c.args.outlet.now) (g.O.Outlet.told c.relay_all-relayed.new.outlet)

    report : Change SinkTold
    report = change (g.P.Sink.told c.args.report.now) (g.P.Sink.told c.refuse.new.report)

    rng : Stream
    rng = stream_of (steps_u32 (next_word 10)) c.from_seed-rng.result

    words : rng ≡ stream_with order.seed
    words = ap (stream_of (steps_u32 (next_word 10))) c.from_seed-rng.ensures

    by : (fault : RelayFault) → c.in-Err.fault ≡ fault → RelaysBy order gate report outlet c.refuse.result
    by Gate at =
        let failed : c.relay_all-relayed.result ≡ Err Gate = c.in-Err.is ∙ ap (λ (f : RelayFault). Err f) at in
        let other : c.relay_all-relayed.result ≡ Err Outlet → ⊥ = λ e. let both = sym failed ∙ e in cc in
        let h = c.relay_all-relayed.ensures in
        let why = c.refusal_of.ensures ∙ ap refusal_of at in
        relays_gate_failed order gate report outlet c.refuse.result (h.gate_fault.rose failed) (h.outlet_fault.kept other) h.asked (h.stop other)
        (h.sent other ∙ ap (append_datagrams outlet.old.sends) (list_by order rng (events_told gate) words))
        (c.refuse.ensures.status ∙ ap status_of why) (subst (λ r. WasGiven (refusal_text r) report) why c.refuse.ensures.given)
    by Outlet at =
        let failed : c.relay_all-relayed.result ≡ Err Outlet = c.in-Err.is ∙ ap (λ (f : RelayFault). Err f) at in
        let other : c.relay_all-relayed.result ≡ Err Gate → ⊥ = λ e. let both = sym failed ∙ e in cc in
        let h = c.relay_all-relayed.ensures in
        let why = c.refusal_of.ensures ∙ ap refusal_of at in
        relays_outlet_failed order gate report outlet c.refuse.result (h.gate_fault.kept other) (h.outlet_fault.rose failed) h.asked
        (subst (IsCutShort outlet) (list_by order rng (events_told gate) words) (h.cut_short failed)) (cut_all_by order rng outlet gate.old.left words (h.cut_short_of_all failed))
        (c.refuse.ensures.status ∙ ap status_of why) (subst (λ r. WasGiven (refusal_text r) report) why c.refuse.ensures.given)
