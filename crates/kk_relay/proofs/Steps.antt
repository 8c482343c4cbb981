-- A relay that takes one data frame more, and those that come after it.
use Rattle.std.proofs.Common.{◌≡◌, ℕ, ◌+◌, ◌-◌, ◌<◌, ◌≤◌, List, [], ◌∷◌, ◌++◌, length, take, get_or, refl, ap, sym, subst, ◌∙◌, arith, append_assoc, length-append, drop, take-append-drop, ◌*◌, add-one}
use Rattle.std.proofs.Math.Nat.{mul-suc}
use Rattle.std.proofs.Math.ListN.{set}
use Rattle.std.proofs.lemmas.List.{append-nil, take_at, take_all, take-append-le}
use Rattle.rand_core.specs.Stream.{Stream}
use Rattle.kk_outside.specs.Change.{change}
use Rattle.kk_outside.specs.Outlet.{OutletTold}
use Rattle.kk_code.specs.Codeword.{width}
use Rattle.kk_code.specs.Ticket.{TicketFields, generations}
use Rattle.kk_relay.specs.Progress.{AreSent, AreCut, HasRelayed, BreaksOff}
use Rattle.kk_relay.specs.RelayState.{BasisState, no_rows, with_row, relay_after}
use Rattle.kk_relay.specs.Relaying.{held, emissions, combinations, sent_for, sent_after, relayed}
use Rattle.kk_outside.specs.Generator.{after_words, word_at}
use Rattle.kk_relay.proofs.Relays.{length-combinations, length-sent_for, sent_after-cons, sent_after-nil, relayed-append, relayed-push, relay_after-push, get_or-relay_after}
use Rattle.kk_relay.proofs.Sends.{AreSent-append, AreSent-same, AreCut-append, AreCut-same, AreCut-more}

emissions-none : (rate : ℕ) (rows : List ℕ) → length rows ≡ 0 → emissions rate rows ≡ 0
emissions-none rate [] none = refl
emissions-none rate (row ∷ rows) none = absurd (omega (arith, none))

emissions-some : (rate : ℕ) (rows : List ℕ) → 0 < length rows → emissions rate rows ≡ rate
emissions-some rate [] some = absurd (omega (arith, some))
emissions-some rate (row ∷ rows) some = refl

-- a run before any data frame
pub HasRelayed-start : (t : TicketFields) (rate : ℕ) (start : Stream) (now : OutletTold) (relay : List BasisState) → relay ≡ relay_after t [] → AreSent t start 0 [] (change now now) start → relayed rate (word_at start) [] ≡ [] → HasRelayed t rate start [] (change now now) relay start
HasRelayed-start t rate start now relay none sent nothing = record {
  holds = none;
  sent = AreSent-same t start 0 [] (relayed rate (word_at start) []) (change now now) start (sym nothing) sent;
}

-- the data frame (g, row) comes after the data frames `before`
module _ (t : TicketFields) (rate : ℕ) (start : Stream) (before : List (ℕ × ℕ)) (g row : ℕ) (origin now end : OutletTold) (relay next : List BasisState) (rows : List ℕ) (words later : Stream) (so_far : HasRelayed t rate start before (change origin now) relay words) (within : g < generations t) (added : next ≡ set relay g (with_row (get_or relay g (no_rows 0)) row)) (are : rows ≡ (get_or next g (no_rows 0)).rows) where
  holds : next ≡ relay_after t (before ++ (g, row) ∷ [])
  holds =
      added
      ∙ ap (λ (l : List BasisState). set l g (with_row (get_or l g (no_rows 0)) row)) so_far.holds
      ∙ ap (λ (b : BasisState). set (relay_after t before) g (with_row b row)) (get_or-relay_after t before g (no_rows 0) within)
      ∙ sym (relay_after-push t before g row within)

  rows_held : rows ≡ held (before ++ (g, row) ∷ []) g
  rows_held =
      are
      ∙ ap (λ (l : List BasisState). (get_or l g (no_rows 0)).rows) holds
      ∙ ap (λ (b : BasisState). b.rows) (get_or-relay_after t (before ++ (g, row) ∷ []) g (no_rows 0) within)

  drawn : words ≡ after_words (length (relayed rate (word_at start) before)) start
  drawn = so_far.sent.drawn ∙ ap (λ (n : ℕ). after_words n start) (omega arith)

  whole : (n : ℕ) → emissions rate rows ≡ n → relayed rate (word_at start) before ++ combinations (word_at start) g rows (length (relayed rate (word_at start) before)) n ≡ relayed rate (word_at start) (before ++ (g, row) ∷ [])
  whole n count =
      let first = length (relayed rate (word_at start) before) in
      ap (λ (k : ℕ). relayed rate (word_at start) before ++ combinations (word_at start) g rows first k) (sym count)
      ∙ ap (λ (l : List ℕ). relayed rate (word_at start) before ++ combinations (word_at start) g l first (emissions rate l)) rows_held
      ∙ sym (relayed-push rate (word_at start) before (g, row))

  counted : (n : ℕ) → emissions rate rows ≡ n → length (relayed rate (word_at start) (before ++ (g, row) ∷ [])) ≡ length (relayed rate (word_at start) before) + n
  counted n count =
      let first = length (relayed rate (word_at start) before) in
      let sent = combinations (word_at start) g rows first n in
      omega (arith, ap length (whole n count), length-append (relayed rate (word_at start) before) sent, length-combinations (word_at start) g rows first n)

  -- the width of its generation's rows is that of the ticket's code
  pub width_held : (get_or next g (no_rows 0)).width ≡ width t.code
  width_held =
      ap (λ (l : List BasisState). (get_or l g (no_rows 0)).width) holds
      ∙ ap (λ (b : BasisState). b.width) (get_or-relay_after t (before ++ (g, row) ∷ []) g (no_rows 0) within)

  pub count-none : length rows ≡ 0 → length (relayed rate (word_at start) (before ++ (g, row) ∷ [])) ≡ length (relayed rate (word_at start) before) + 0
  count-none none = counted 0 (emissions-none rate rows none)

  pub count-some : 0 < length rows → length (relayed rate (word_at start) (before ++ (g, row) ∷ [])) ≡ length (relayed rate (word_at start) before) + rate
  count-some some = counted rate (emissions-some rate rows some)

  -- nothing is sent
  pub HasRelayed-none : length rows ≡ 0 → HasRelayed t rate start (before ++ (g, row) ∷ []) (change origin now) next words
  HasRelayed-none none = record {
    holds = holds;
    sent = AreSent-same t start 0 _ _ (change origin now) words (sym (append-nil (relayed rate (word_at start) before)) ∙ whole 0 (emissions-none rate rows none)) so_far.sent;
  }

  -- all combinations were sent
  pub HasRelayed-some : 0 < length rows → ((s : Stream) (f : ℕ) → words ≡ after_words f s → AreSent t s f (combinations (word_at s) g rows f rate) (change now end) later) → HasRelayed t rate start (before ++ (g, row) ∷ []) (change origin end) next later
  HasRelayed-some some sends =
      let first = length (relayed rate (word_at start) before) in
      let sent = combinations (word_at start) g rows first rate in
      record {
        holds = holds;
        sent = AreSent-same t start 0 _ _ (change origin end) later (whole rate (emissions-some rate rows some))
            (AreSent-append t start 0 first (relayed rate (word_at start) before) sent origin now end words later so_far.sent (omega arith) (sends start first drawn));
      }

  -- the send of one failed
  pub BreaksOff-some : 0 < length rows → ((s : Stream) (f : ℕ) → words ≡ after_words f s → (n : ℕ) × AreCut t s f n (combinations (word_at s) g rows f rate) (change now end) later) → BreaksOff t rate start (before ++ (g, row) ∷ []) (change origin end) next later
  BreaksOff-some some fails =
      let first = length (relayed rate (word_at start) before) in
      let sent = combinations (word_at start) g rows first rate in
      let frames = before ++ (g, row) ∷ [] in
      let count : length frames ≡ length before + 1 = length-append before ((g, row) ∷ []) in
      let all : take (length before + 1) frames ≡ frames = take_all (length before + 1) frames (omega (arith, count)) in
      let front : take (length before + 1 - 1) frames ≡ before = ap (λ (n : ℕ). take n frames) (omega arith) ∙ take_at before ((g, row) ∷ []) (length before) refl in
      let cut = fails start first drawn in
      record {
        count = length before + 1;
        some = omega arith;
        within = omega (arith, count);
        holds = holds ∙ ap (relay_after t) (sym all);
        number = first + cut.0;
        cut = AreCut-same t start 0 (first + cut.0) _ _ (change origin end) later (whole rate (emissions-some rate rows some))
            (AreCut-append t start 0 first cut.0 (relayed rate (word_at start) before) sent origin now end words later so_far.sent (omega arith) cut.1);
        after = omega (arith, ap (λ l. length (relayed rate (word_at start) l)) front);
        before = omega (arith, ap (λ l. length (relayed rate (word_at start) l)) all, cut.1.few, count-some some, length-combinations (word_at start) g rows first rate);
      }

-- ---- more data frames than those up to the one at which a send failed

pub BreaksOff-more : (t : TicketFields) (rate : ℕ) (start : Stream) (frames more : List (ℕ × ℕ)) (origin now : OutletTold) (relay : List BasisState) (words : Stream) → BreaksOff t rate start frames (change origin now) relay words → BreaksOff t rate start (frames ++ more) (change origin now) relay words
BreaksOff-more t rate start frames more origin now relay words off =
    let word = word_at start in
    let sent = relayed rate word frames in
    let others = sent_after rate word (length sent) frames more in
    let front = take-append-le off.count frames more off.within in
    let fewer = take-append-le (off.count - 1) frames more (omega (arith, off.within)) in
    record {
      count = off.count;
      some = off.some;
      within = omega (arith, off.within, length-append frames more);
      holds = off.holds ∙ ap (relay_after t) (sym front);
      number = off.number;
      cut = AreCut-same t start 0 off.number (sent ++ others) (relayed rate word (frames ++ more)) (change origin now) words (sym (relayed-append rate word frames more))
          (AreCut-more t start 0 off.number sent others origin now words off.cut);
      after = omega (arith, off.after, ap (λ l. length (relayed rate word l)) fewer);
      before = omega (arith, off.before, ap (λ l. length (relayed rate word l)) front);
    }

-- ---- the data frames of a batch

-- the first i + 1 of them
pub batch_step : (before batch : List (ℕ × ℕ)) (i : ℕ) (frame : ℕ × ℕ) → take (i + 1) batch ≡ take i batch ++ frame ∷ [] → (before ++ take i batch) ++ frame ∷ [] ≡ before ++ take (i + 1) batch
batch_step before batch i frame more = append_assoc before (take i batch) (frame ∷ []) ∙ ap (λ (l : List (ℕ × ℕ)). before ++ l) (sym more)

-- a send failed, for frame i of a batch
pub BreaksOff-batch : (t : TicketFields) (rate : ℕ) (start : Stream) (before batch all : List (ℕ × ℕ)) (i : ℕ) (frame : ℕ × ℕ) (origin now : OutletTold) (relay : List BasisState) (words : Stream) → take (i + 1) batch ≡ take i batch ++ frame ∷ [] → batch ≡ all → BreaksOff t rate start ((before ++ take i batch) ++ frame ∷ []) (change origin now) relay words → BreaksOff t rate start (before ++ all) (change origin now) relay words
BreaksOff-batch t rate start before batch all i frame origin now relay words more whole off =
    let rest = drop (i + 1) batch in
    let parts : ((before ++ take i batch) ++ frame ∷ []) ++ rest ≡ before ++ all =
    ap (λ (l : List (ℕ × ℕ)). l ++ rest) (batch_step before batch i frame more)
    ∙ append_assoc before (take (i + 1) batch) rest
    ∙ ap (λ (l : List (ℕ × ℕ)). before ++ l) (take-append-drop (i + 1) batch ∙ whole) in
    subst (λ l. BreaksOff t rate start l (change origin now) relay words) parts (BreaksOff-more t rate start ((before ++ take i batch) ++ frame ∷ []) rest origin now relay words off)

pub few_more : (sent more rate i : ℕ) → sent ≤ rate * i → more ≤ rate → sent + more ≤ rate * (i + 1)
few_more sent more rate i few one = let product : rate * (i + 1) ≡ rate * i + rate = ap (λ (n : ℕ). rate * n) (add-one i) ∙ mul-suc rate i ∙ omega arith in omega (arith, few, one, product)

-- at most `rate` are sent for each data frame
sent_after-few : (rate : ℕ) (word : ℕ → ℕ) (first : ℕ) (before frames : List (ℕ × ℕ)) → length (sent_after rate word first before frames) ≤ rate * length frames
sent_after-few rate word first before [] = omega (arith, ap length (sent_after-nil rate word first before))
sent_after-few rate word first before (frame ∷ frames) =
    let sent = sent_for rate word first before frame in
    let next = first + length sent in
    let others = sent_after rate word next (before ++ frame ∷ []) frames in
    omega (arith, ap length (sent_after-cons rate word first before frame frames), length-append sent others, few_more (length others) (length sent) rate (length frames) (sent_after-few rate word next (before ++ frame ∷ []) frames) (length-sent_for rate word first before frame), mul-suc rate (length frames), ap (λ (n : ℕ). rate * n) (add-one (length frames)))

pub relayed-few : (rate : ℕ) (word : ℕ → ℕ) (frames : List (ℕ × ℕ)) → length (relayed rate word frames) ≤ rate * length frames
relayed-few rate word frames = sent_after-few rate word 0 [] frames
