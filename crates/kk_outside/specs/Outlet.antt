-- What an outlet tells, and what a send does to that.
use Rattle.std.specs.Prelude.{◌≡◌, ℕ, ◌<◌, List, [], ◌∷◌, ◌++◌, map, length, take, Result, Ok, Err, OnOk, OnErr}
use Rattle.kk_outside.specs.Change.{Change}

-- what one send came to: the datagram was sent, or the outlet failed
pub data Send : Type 0 where
  Sent : (datagram : List ℕ) → Send
  Failed : Send

-- all sends so far, in order, and how often the outlet failed
pub record OutletTold : Type 0 where
  pub sends : List Send
  pub faults : ℕ

-- its count of faults rose
abbrev pub OutletFailed : Change OutletTold → Type 0
OutletFailed outlet = outlet.old.faults < outlet.new.faults

-- these sends, and then one of each of these datagrams
abbrev pub append_datagrams : List Send → List (List ℕ) → List Send
append_datagrams sends datagrams = sends ++ map Sent datagrams

-- these sends, then one of each of these datagrams, and at last one that failed
abbrev pub append_failing : List Send → List (List ℕ) → List Send
append_failing sends datagrams = append_datagrams sends datagrams ++ Failed ∷ []

-- the datagrams that were sent
abbrev pub datagrams_sent : List Send → List (List ℕ)
datagrams_sent [] = []
datagrams_sent (Sent datagram ∷ sends) = datagram ∷ datagrams_sent sends
datagrams_sent (Failed ∷ sends) = datagrams_sent sends

-- what a send of this datagram came to
abbrev pub send_of : {T E : Type 0} → Result T E → List ℕ → Send
send_of (Ok x) datagram = Sent datagram
send_of (Err e) datagram = Failed

-- one send: at `Ok` the datagram was sent, else the outlet failed
pub record SendsTo {T E : Type 0} (outlet : Change OutletTold) (result : Result T E) (datagram : List ℕ) : Type 0 where
  pub sent : OnOk result (outlet.new.sends ≡ append_datagrams outlet.old.sends (datagram ∷ []))
  pub failed : OnErr result (outlet.new.sends ≡ outlet.old.sends ++ Failed ∷ [])

-- Fewer of these datagrams were sent than there are, from the front; then a send failed, and it was the last.
pub record IsCutShort (outlet : Change OutletTold) (datagrams : List (List ℕ)) : Type 0 where
  pub number : ℕ
  pub few : number < length datagrams
  pub sent : outlet.new.sends ≡ append_failing outlet.old.sends (take number datagrams)
