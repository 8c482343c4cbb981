-- Pieces that go to a sink by way of a block, one after another.
use Rattle.std.proofs.Common.{◌≡◌, ℕ, ◌+◌, ◌<◌, List, [], ◌++◌, length, take, Result, Ok, Err, refl, ap, sym, subst, ◌∙◌, arith, append_assoc, length-append}
use Rattle.std.proofs.lemmas.List.{append-nil, take-append-le}
use Rattle.std.proofs.Math.Seq.{take-append-add}
use Rattle.std.specs.Prelude.{OnOk}
use Rattle.kk_outside.specs.Change.{Change, change}
use Rattle.kk_outside.specs.Sink.{SinkTold, append_bytes, append_failing, FailsWithin, WritesAllTo}
use Rattle.kk_outside.proofs.Known.{append_bytes-nil, append_failing-append}
use Rattle.kk_report.specs.Block.{IsPending, Goes, Adds}

-- the sink failed within a text
abbrev pub IsCut : Change SinkTold → List ℕ → Type 0
IsCut sink text = FailsWithin sink text

-- and so within a longer one
pub IsCut-append : (sink : Change SinkTold) (text more : List ℕ) → IsCut sink text → IsCut sink (text ++ more)
IsCut-append sink text more cut = (
  cut.0,
  omega (arith, cut.1, length-append text more),
  cut.2 ∙ ap (append_failing sink.old.written) (sym (take-append-le cut.0 text more (omega (arith, cut.1)))),
)

-- the write of the block failed
IsCut-write : (start old new : SinkTold) (block text : List ℕ) → IsPending (change start old) block text → IsCut (change old new) block → IsCut (change start new) text
IsCut-write start old new block text pending failed =
    let n = failed.0 in
    let out = pending.out in
    subst (IsCut (change start new)) (sym pending.parts) (
      length out + n,
      omega (arith, failed.1, length-append out block),
      failed.2
          ∙ ap (λ o. append_failing o (take n block)) pending.written
          ∙ append_failing-append start.written out (take n block)
          ∙ ap (append_failing start.written) (sym (take-append-add out block n)),
    )

Goes-cut : {T E : Type 0} {e : E} (sink : Change SinkTold) (block text : List ℕ) → IsCut sink text → Goes {T = T} sink (Err e) block text
Goes-cut sink block text cut = record { all = tt; part = cut }

pub Adds-write : {T E : Type 0} {e : E} (old new : SinkTold) (held holds : List ℕ) → IsCut (change old new) held → Adds {T = T} old new held holds (Err e) []
Adds-write old new held holds failed = λ start text pending.
    Goes-cut (change start new) holds (text ++ []) (IsCut-append (change start new) text [] (IsCut-write start old new held text pending failed))

-- a piece failed, with whichever error
pub Adds-err : {T U E : Type 0} {d e : E} (old new : SinkTold) (held holds piece : List ℕ) → Adds {T = T} old new held holds (Err d) piece → Adds {T = U} old new held holds (Err e) piece
Adds-err old new held holds piece adds = λ start text pending. Goes-cut (change start new) holds (text ++ piece) (adds start text pending).part

-- the first of two pieces failed
pub Adds-stopped : {T U E : Type 0} {e d : E} (old new : SinkTold) (held holds first second : List ℕ) → Adds {T = T} old new held holds (Err e) first → Adds {T = U} old new held holds (Err d) (first ++ second)
Adds-stopped old new held holds first second adds = λ start text pending.
    let cut = IsCut-append (change start new) (text ++ first) second (adds start text pending).part in
    Goes-cut (change start new) holds (text ++ (first ++ second)) (subst (IsCut (change start new)) (append_assoc text first second) cut)

-- a piece was added to any text that was pending, and nothing failed
abbrev pub Added : SinkTold → SinkTold → List ℕ → List ℕ → List ℕ → Type 0
Added old new held holds piece =
    (start : SinkTold) (text : List ℕ) → IsPending (change start old) held text → IsPending (change start new) holds (text ++ piece)

pub Added-ok : {T E : Type 0} {x : T} (old new : SinkTold) (held holds piece : List ℕ) → Adds {E = E} old new held holds (Ok x) piece → Added old new held holds piece
Added-ok old new held holds piece adds = λ start text pending. (adds start text pending).all

pub Adds-ok : {T E : Type 0} {x : T} (old new : SinkTold) (held holds piece : List ℕ) → Added old new held holds piece → Adds {E = E} old new held holds (Ok x) piece
Adds-ok old new held holds piece added = λ start text pending. record { all = added start text pending; part = tt }

pub Added-nothing : (now : SinkTold) (block : List ℕ) → Added now now block block []
Added-nothing now block = λ start text pending. subst (IsPending (change start now) block) (sym (append-nil text)) pending

-- one piece, and then another
pub Adds-after : {T E : Type 0} (old now new : SinkTold) (held holding holds : List ℕ) (result : Result T E) (first second : List ℕ) → Added old now held holding first → Adds now new holding holds result second → Adds old new held holds result (first ++ second)
Adds-after old now new held holding holds result first second one two = λ start text pending.
    subst (Goes (change start new) result holds) (append_assoc text first second) (two start (text ++ first) (one start text pending))

pub Added-after : (old now new : SinkTold) (held holding holds first second : List ℕ) → Added old now held holding first → Added now new holding holds second → Added old new held holds (first ++ second)
Added-after old now new held holding holds first second one two = λ start text pending.
    subst (IsPending (change start new) holds) (append_assoc text first second) (two start (text ++ first) (one start text pending))

-- a text that went by way of a block from its beginning, and of which nothing waits
pub WritesAllTo-added : {T E : Type 0} (old new : SinkTold) (holds : List ℕ) (result : Result T E) (text : List ℕ) → Adds old new [] holds result text → OnOk result (holds ≡ []) → WritesAllTo (change old new) result text
WritesAllTo-added old new holds (Ok x) text adds empty =
    let pending : IsPending (change old old) [] [] = record { out = []; parts = refl; written = sym (append_bytes-nil old.written) } in
    let all = (adds old [] pending).all in
    let whole : all.out ≡ text = sym (append-nil all.out) ∙ ap (λ l. all.out ++ l) (sym empty) ∙ sym all.parts in
    record { all = all.written ∙ ap (append_bytes old.written) whole; part = tt }
WritesAllTo-added old new holds (Err e) text adds empty =
    let pending : IsPending (change old old) [] [] = record { out = []; parts = refl; written = sym (append_bytes-nil old.written) } in
    record { all = tt; part = (adds old [] pending).part }
