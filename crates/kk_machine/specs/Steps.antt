-- The words of a generation, and what one atomic step on one of them does and tells.
use Rattle.std.specs.Prelude.{◌≡◌, ℕ, ◌^◌, ◌<◌, ◌==◌, Bool, true, false, not, if◌then◌else◌, List, [], ◌∷◌, ◌++◌, All, slice_index_or, Option, Some, None}
use Rattle.kk_rows.specs.Span.{in_span, IsIndependent}
use Rattle.kk_machine.specs.declared.log.TheConstants.{CLOSED}
use Rattle.kk_machine.specs.declared.log.Log.{Log}
use Rattle.kk_machine.specs.declared.call.Call.{Call}
use Rattle.kk_machine.specs.declared.call.Call.TheVariants.{Insert, Freeze, Peek}
use Rattle.kk_machine.specs.declared.call.Reply.{Reply}
use Rattle.kk_machine.specs.Spaces.{log, reply_to, log_after}

-- the word after the rows
abbrev pub mark : Bool → ℕ
mark closed = if closed then CLOSED else 0

-- the words of a log: its rows, the mark where it is closed, and zeros
abbrev pub word_at : Log → ℕ → ℕ
word_at l place = slice_index_or (l.rows ++ mark l.closed ∷ []) place 0

-- independent rows below 2^width
pub record IsLog (width : ℕ) (l : Log) : Type 0 where
  pub below : All (λ row. row < 2 ^ width) l.rows
  pub independent : IsIndependent l.rows

-- the rows of s are a prefix of the log's, and s is the whole log where s is closed
pub record Sees (l s : Log) : Type 0 where
  pub rest : List ℕ
  pub begins : l.rows ≡ s.rows ++ rest
  pub whole : s.closed ≡ true → l ≡ s

-- what is seen, with what the word after its rows tells
abbrev pub sight_after : Log → ℕ → Log
sight_after s word =
    if word == 0 then s else (if word == CLOSED then log s.rows true else log (s.rows ++ word ∷ []) s.closed)

-- the word after an exchange of 0 for `new` that found `found`
abbrev pub exchanged : ℕ → ℕ → ℕ
exchanged found new = if found == 0 then new else found

-- the call would change the log if it is open
abbrev pub changes : Log → Call → Bool
changes s (Insert g row) = not (in_span s.rows row.0)
changes s (Freeze g) = true
changes s (Peek g) = false

-- the word that makes the call's change
abbrev pub new_word : Call → ℕ
new_word (Insert g row) = row.0
new_word (Freeze g) = CLOSED
new_word (Peek g) = 0

-- the word for which a step exchanges 0: the call's, or 0 again where the step only loads
abbrev pub stored : Bool → Call → ℕ
stored changing call = if changing then new_word call else 0

-- the reply to the call, where the step decides it. It does so where what it found shows that the log is closed, or that
-- the rows seen are all; then a load decides a call that changes nothing, and an exchange the call that it makes
abbrev pub decided : Bool → Log → ℕ → Call → Option Reply
decided changing s found call =
    if found == CLOSED then Some (reply_to (log s.rows true) call)
    else (if found == 0 then (if changing then Some (reply_to (log s.rows false) call) else (if changes (log s.rows false) call then None else Some (reply_to (log s.rows false) call)))
    else None)

-- the log after a step for the call
abbrev pub log_then : Log → Call → Option Reply → Log
log_then l call None = l
log_then l call (Some reply) = log_after l call
