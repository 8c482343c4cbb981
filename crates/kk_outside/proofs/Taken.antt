-- What a gate tells, and what an outlet tells, over one call after another.
use Rattle.std.proofs.Common.{◌≡◌, ◌≤◌, ℕ, List, [], ◌∷◌, ◌++◌, length, drop, map, Option, Some, None, Result, Ok, Err, refl, ap, sym, ◌∙◌, append_assoc, arith}
use Rattle.std.proofs.lemmas.List.{append-nil, drop_at, map-append}
use Rattle.kk_outside.specs.Change.{Change, change}
use Rattle.kk_outside.specs.declared.event.Event.{Event}
use Rattle.kk_outside.specs.declared.got.Got.{Got}
use Rattle.kk_outside.specs.declared.got.Got.TheVariants as got
use Rattle.kk_outside.specs.Gate.{GateTold, prepend_events, events_of, events_told, TellsFrom, TookEvents}
use Rattle.kk_outside.specs.Outlet.{Send, Sent, Failed, append_datagrams, append_failing, datagrams_sent}

prepend_events-prepend_events : (a b : List Event) (o : Option (List Event)) → prepend_events a (prepend_events b o) ≡ prepend_events (a ++ b) o
prepend_events-prepend_events a b None = refl
prepend_events-prepend_events a b (Some xs) = ap Some (sym (append_assoc a b xs))

prepend_events-nil : (o : Option (List Event)) → prepend_events [] o ≡ o
prepend_events-nil None = refl
prepend_events-nil (Some xs) = refl

-- events that were taken, and then others
pub TookEvents-append : (a b : List Event) (start now end : GateTold) → TookEvents a (change start now) → TookEvents b (change now end) → TookEvents (a ++ b) (change start end)
TookEvents-append a b start now end first second = record {
  logged = second.logged ∙ ap (λ (l : List Event). l ++ b) first.logged ∙ append_assoc start.events a b;
  left = first.left ∙ ap (λ (o : Option (List Event)). prepend_events a o) second.left ∙ prepend_events-prepend_events a b end.left;
}

pub TookEvents-nothing : (now : GateTold) → TookEvents [] (change now now)
TookEvents-nothing now = record {
  logged = sym (append-nil now.events);
  left = sym (prepend_events-nil now.left);
}

-- one call
pub TookEvents-next : {E : Type 0} (gate : Change GateTold) (result : Result Got E) (buf : List ℕ) → TellsFrom gate result buf → TookEvents (events_of result buf) gate
TookEvents-next gate result buf tells = record { logged = tells.logged; left = tells.first }

-- the events that were taken are those that the calls told
pub events_told-took : (events : List Event) (gate : Change GateTold) → TookEvents events gate → events_told gate ≡ events
events_told-took events gate took =
    ap (λ (l : List Event). drop (length gate.old.events) l) took.logged ∙ drop_at gate.old.events events (length gate.old.events) refl

few_events : {E : Type 0} (result : Result Got E) (buf : List ℕ) → length (events_of result buf) ≤ 1
few_events (Ok (got.Datagram n)) buf = omega arith
few_events (Ok got.Quiet) buf = omega arith
few_events (Ok got.Over) buf = omega arith
few_events (Err e) buf = omega arith

-- one call tells one event at most
pub events_told-next : {E : Type 0} (gate : Change GateTold) (result : Result Got E) (buf : List ℕ) → TellsFrom gate result buf → length (events_told gate) ≤ 1
events_told-next gate result buf tells =
    omega (arith, ap length (events_told-took (events_of result buf) gate (TookEvents-next gate result buf tells)), few_events result buf)

-- datagrams that were sent, and then others
pub append_datagrams-append : (o : List Send) (a b : List (List ℕ)) → append_datagrams (append_datagrams o a) b ≡ append_datagrams o (a ++ b)
append_datagrams-append o a b = append_assoc o (map Sent a) (map Sent b) ∙ ap (λ (l : List Send). o ++ l) (sym (map-append Sent a b))

pub append_datagrams-nil : (o : List Send) → append_datagrams o [] ≡ o
append_datagrams-nil o = append-nil o

-- and then one that failed
pub append_failing-append : (o : List Send) (a b : List (List ℕ)) → append_failing (append_datagrams o a) b ≡ append_failing o (a ++ b)
append_failing-append o a b = ap (λ (l : List Send). l ++ Failed ∷ []) (append_datagrams-append o a b)

pub append_failing-nil : (o : List Send) → append_failing o [] ≡ o ++ Failed ∷ []
append_failing-nil o = ap (λ (l : List Send). l ++ Failed ∷ []) (append_datagrams-nil o)

pub datagrams_sent-append : (a b : List Send) → datagrams_sent (a ++ b) ≡ datagrams_sent a ++ datagrams_sent b
datagrams_sent-append [] b = refl
datagrams_sent-append (Sent datagram ∷ a) b = ap (λ (l : List (List ℕ)). datagram ∷ l) (datagrams_sent-append a b)
datagrams_sent-append (Failed ∷ a) b = datagrams_sent-append a b

pub datagrams_sent-failed : (a : List Send) → datagrams_sent (a ++ Failed ∷ []) ≡ datagrams_sent a
datagrams_sent-failed a = datagrams_sent-append a (Failed ∷ []) ∙ append-nil (datagrams_sent a)
