-- The answers that a log keeps.
use Rattle.std.specs.Prelude.{◌+◌, [], ◌∷◌, ◌++◌}
use Rattle.kk_outside.specs.declared.event.Event.TheVariants as event
use Rattle.kk_outside.specs.declared.event_log.LastEvent.{LastEvent}
use Rattle.kk_outside.specs.declared.event_log.LastEvent.TheVariants.{NoEvent, Datagram, Quiet, Fault, Over}
use Rattle.kk_outside.specs.EventsTold.{EventsTold}

abbrev pub events_logged : LastEvent → EventsTold
events_logged NoEvent = record { events = []; overs = 0 }
events_logged (Datagram bytes before) = record before.value { events = before.value.events ++ event.Datagram bytes.value ∷ [] }
events_logged (Quiet before) = record before.value { events = before.value.events ++ event.Quiet ∷ [] }
events_logged (Fault before) = record before.value { events = before.value.events ++ event.Fault ∷ [] }
events_logged (Over before) = record before.value { overs = before.value.overs + 1 }
