-- What a run of `relay` comes to.
use Rattle.std.proofs.Common.{◌≡◌, ℕ, ◌<◌, ◌++◌, inl, inr, List, length, Option, Some, None, refl, ap, subst, ◌∙◌, arith}
use Rattle.std.specs.Prelude.{◌↔◌, IfSome, codes, sum_by}
use Rattle.std.specs.Fmt.{decimal}
use Rattle.rand_core.specs.Stream.{Stream}
use Rattle.kk_outside.specs.Causes.{CanCount, Rose}
use Rattle.kk_outside.specs.Change.{Change}
use Rattle.kk_outside.specs.Gate.{GateTold, events_told}
use Rattle.kk_outside.specs.Generator.{word_at}
use Rattle.kk_outside.specs.Outlet.{OutletTold, IsCutShort, append_datagrams}
use Rattle.kk_outside.specs.Sink.{SinkTold, SinkFailed, WasGiven}
use Rattle.kk_outside.specs.declared.event.Event.{Event}
use Rattle.kk_frame.specs.declared.frame.TheConstants.{FRAME_BYTES}
use Rattle.kk_frame.specs.declared.gate_count.GateCount.{GateCount}
use Rattle.kk_frame.specs.Asking.{AsksUpToStop, StopsThere}
use Rattle.kk_frame.specs.Events.{counts}
use Rattle.kk_relay.specs.Relaying.{relayed, relay_list}
use Rattle.kk_relay.specs.RelayState.{relay_after, rank}
use Rattle.kk_report.specs.declared.refusal.Refusal.TheVariants.{Input, Outlet}
use Rattle.kk_report.specs.Command.{RanThrough}
use Rattle.kk_report.specs.Refusal.{refusal_text}
use Rattle.kk_report.specs.Report.{gate_line, concluded_text}
use Rattle.kk_order.specs.Seed.{stream_with}
use Rattle.kk_run_relay.specs.Relay.{Relaying, ordered_list, relay_lines, frames_taken, RelaysBy}
use Rattle.kk_report.proofs.Statuses.{not_through}

rose_below : (old new : ℕ) → CanCount old → Rose old new → old < new
rose_below old new can rose = omega (arith, can, rose)

-- the list by the words of the order's seed
pub list_by : (order : Relaying) (words : Stream) (events : List Event) → words ≡ stream_with order.seed → relay_list order.ticket order.limits order.rate (word_at words) events ≡ ordered_list order events
unfolding ordered_list
list_by order words events are = ap (λ (s : Stream). relay_list order.ticket order.limits order.rate (word_at s) events) are

-- the lines by the counts
pub lines_by : (order : Relaying) (words : Stream) (events : List Event) (gate : GateCount) (innovative sent : ℕ) → words ≡ stream_with order.seed → gate ≡ counts FRAME_BYTES order.ticket order.limits events → innovative ≡ sum_by rank (relay_after order.ticket (frames_taken order events)) → sent ≡ length (relayed order.rate (word_at words) (frames_taken order events))
    → gate_line 0 gate ++ codes "relayed frames " ++ decimal gate.frames ++ codes " innovative " ++ decimal innovative ++ codes " sent " ++ decimal sent ++ codes "\n" ≡ relay_lines order events
unfolding relay_lines
lines_by order words events gate innovative sent are is_gate is_innovative is_sent =
    ap (λ (c : GateCount). gate_line 0 c ++ codes "relayed frames " ++ decimal c.frames ++ codes " innovative " ++ decimal innovative ++ codes " sent " ++ decimal sent ++ codes "\n") is_gate
    ∙ ap (λ (n : ℕ). gate_line 0 (counts FRAME_BYTES order.ticket order.limits events) ++ codes "relayed frames " ++ decimal (counts FRAME_BYTES order.ticket order.limits events).frames ++ codes " innovative " ++ decimal n ++ codes " sent " ++ decimal sent ++ codes "\n") is_innovative
    ∙ ap (λ (n : ℕ). gate_line 0 (counts FRAME_BYTES order.ticket order.limits events) ++ codes "relayed frames " ++ decimal (counts FRAME_BYTES order.ticket order.limits events).frames ++ codes " innovative " ++ decimal (sum_by rank (relay_after order.ticket (frames_taken order events))) ++ codes " sent " ++ decimal n ++ codes "\n") (is_sent ∙ ap (λ (s : Stream). length (relayed order.rate (word_at s) (frames_taken order events))) are)

-- all was sent
pub relays_done : (order : Relaying) (gate : Change GateTold) (report : Change SinkTold) (outlet : Change OutletTold) (status : ℕ)
    → gate.new.faults ≡ gate.old.faults → outlet.new.faults ≡ outlet.old.faults
    → AsksUpToStop order.ticket order.limits gate → StopsThere order.ticket order.limits gate
    → outlet.new.sends ≡ append_datagrams outlet.old.sends (ordered_list order (events_told gate))
    → RanThrough status → (CanCount report.old.faults → (status ≡ 5) ↔ SinkFailed report)
    → WasGiven (concluded_text 0 (relay_lines order (events_told gate))) report
    → RelaysBy order gate report outlet status
relays_done order gate report outlet status gate_kept outlet_kept asked stop sent is five given = record {
  input_fault = λ can. (λ four. absurd (not_through 4 status refl four is), λ rose. absurd (omega (arith, rose, gate_kept)));
  outlet_fault = λ can. (λ seven. absurd (not_through 7 status refl seven is), λ rose. absurd (omega (arith, rose, outlet_kept)));
  output_fault = λ can done. five can;
  no_other_status = inr (inr is);
  asked = asked;
  stop = λ _. stop;
  sent = λ _. sent;
  cut_short = λ seven. absurd (not_through 7 status refl seven is);
  cut_short_of_all = λ seven. absurd (not_through 7 status refl seven is);
  gate_refused = λ four. absurd (not_through 4 status refl four is);
  outlet_refused = λ seven. absurd (not_through 7 status refl seven is);
  reported = λ _. given;
}

-- the gate failed
pub relays_gate_failed : (order : Relaying) (gate : Change GateTold) (report : Change SinkTold) (outlet : Change OutletTold) (status : ℕ)
    → Rose gate.old.faults gate.new.faults → outlet.new.faults ≡ outlet.old.faults
    → AsksUpToStop order.ticket order.limits gate → StopsThere order.ticket order.limits gate
    → outlet.new.sends ≡ append_datagrams outlet.old.sends (ordered_list order (events_told gate))
    → status ≡ 4 → WasGiven (refusal_text Input) report
    → RelaysBy order gate report outlet status
relays_gate_failed order gate report outlet status rose outlet_kept asked stop sent is given = record {
  input_fault = λ can. (λ _. rose_below gate.old.faults gate.new.faults can rose, λ _. is);
  outlet_fault = λ can. (λ seven. absurd (omega (arith, seven, is)), λ fell. absurd (omega (arith, fell, outlet_kept)));
  output_fault = λ can done. absurd (not_through 4 status refl is done);
  no_other_status = inl is;
  asked = asked;
  stop = λ _. stop;
  sent = λ _. sent;
  cut_short = λ seven. absurd (omega (arith, seven, is));
  cut_short_of_all = λ seven. absurd (omega (arith, seven, is));
  gate_refused = λ _. record { tells = is; given = given };
  outlet_refused = λ seven. absurd (omega (arith, seven, is));
  reported = λ done. absurd (not_through 4 status refl is done);
}

-- the outlet failed
pub relays_outlet_failed : (order : Relaying) (gate : Change GateTold) (report : Change SinkTold) (outlet : Change OutletTold) (status : ℕ)
    → gate.new.faults ≡ gate.old.faults → Rose outlet.old.faults outlet.new.faults
    → AsksUpToStop order.ticket order.limits gate
    → IsCutShort outlet (ordered_list order (events_told gate)) → IfSome gate.old.left (λ events. IsCutShort outlet (ordered_list order events))
    → status ≡ 7 → WasGiven (refusal_text Outlet) report
    → RelaysBy order gate report outlet status
relays_outlet_failed order gate report outlet status gate_kept rose asked cut cut_all is given = record {
  input_fault = λ can. (λ four. absurd (omega (arith, four, is)), λ fell. absurd (omega (arith, fell, gate_kept)));
  outlet_fault = λ can. (λ _. rose_below outlet.old.faults outlet.new.faults can rose, λ _. is);
  output_fault = λ can done. absurd (not_through 7 status refl is done);
  no_other_status = inr (inl is);
  asked = asked;
  stop = λ other. absurd (other is);
  sent = λ other. absurd (other is);
  cut_short = λ _. cut;
  cut_short_of_all = λ _. cut_all;
  gate_refused = λ four. absurd (omega (arith, four, is));
  outlet_refused = λ _. record { tells = is; given = given };
  reported = λ done. absurd (not_through 7 status refl is done);
}

-- what holds of a list holds of the same one, in each case
pub cut_all_by : (order : Relaying) (words : Stream) (outlet : Change OutletTold) (left : Option (List Event)) → words ≡ stream_with order.seed → IfSome left (λ events. IsCutShort outlet (relay_list order.ticket order.limits order.rate (word_at words) events)) → IfSome left (λ events. IsCutShort outlet (ordered_list order events))
cut_all_by order words outlet None are cut = tt
cut_all_by order words outlet (Some events) are cut = subst (IsCutShort outlet) (list_by order words events are) cut
