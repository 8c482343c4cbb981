-- What a finished table leaves.
use Rattle.std.specs.Prelude.{◌≡◌, ℕ, ◌≤◌, ◌<◌, List, [], length, Contains, slice_index_or}
use Rattle.kk_machine.specs.declared.log.TheConstants.{MAX_WIDTH}
use Rattle.kk_machine.specs.declared.log.Log.{Log}
use Rattle.kk_machine.specs.declared.call.Entry.{Entry}
use Rattle.kk_machine.specs.Spaces.{unseen}
use Rattle.kk_machine.specs.Steps.{IsLog, Sees, word_at}
use Rattle.kk_machine.specs.History.{log_of, Legal, own}
use Rattle.kk_machine.specs.Inserts.{StandsBefore}
use Rattle.kk_machine.specs.Sights.{Seen, HaveWidth}
use Rattle.kk_table.specs.declared.view.Shape.{Shape}
use Rattle.kk_table.specs.declared.view.Known.{Known}
use Rattle.kk_table.specs.Places.{place_of}
use Rattle.kk_table.specs.Rule.{sight, numbers_of}
use Rattle.kk_table.specs.Worlds.{HasMoves}

-- the records of the passes, in the order of taking back, and the logs by generation
pub record LogsView : Type 0 where
  pub shape : Shape
  pub records : List Known
  pub logs : List Log

-- the log of generation g among these, which are by generation
abbrev pub log_at : List Log → ℕ → Log
log_at logs g = slice_index_or logs g unseen

-- One legal history has the calls of the records, each record's in its order, and no others. Its logs are these, of
-- independent rows below 2^width. A record had seen the beginning of each log, and the whole of it where it knew it
-- closed. All calls of the passes that a record's note names stand before its own. The steps that were made are moves of the
-- pure machine, which decide these calls.
pub record IsHistoryOf (shape : Shape) (records : List Known) (logs : ℕ → Log) (h : List Entry) : Type 0 where
  pub legal : Legal h
  pub nobody_else : (n : ℕ) → (Contains (numbers_of records) n → ⊥) → own n h ≡ []
  pub calls : (r : Known) → Contains records r → own r.number h ≡ r.calls
  pub logs_are : (g : ℕ) → g < shape.generations → log_of g h ≡ logs g
  pub are_logs : (g : ℕ) → g < shape.generations → IsLog shape.width (logs g)
  pub seen : (r : Known) → Contains records r → (g : ℕ) → g < shape.generations → Sees (logs g) (sight r g)
  pub noted : (r : Known) → Contains records r → (m : ℕ) → Contains r.note m → StandsBefore m r.number h
  pub by : HasMoves shape h

-- one legal history has the calls of the records, and its logs are these (`IsHistoryOf`)
pub record IsLogs (shape : Shape) (records : List Known) (logs : List Log) : Type 0 where
  pub all : length logs ≡ shape.generations
  pub history : List Entry
  pub is_history : IsHistoryOf shape records (log_at logs) history

-- the words of a generation are those of the log
pub record Shows (shape : Shape) (words : List ℕ) (g : ℕ) (l : Log) : Type 0 where
  pub fits : shape.width ≤ MAX_WIDTH
  pub in_range : g < shape.generations
  pub size : length words ≡ place_of shape.width shape.generations 0
  pub is_log : IsLog shape.width l
  pub placed : (p : ℕ) → p ≤ shape.width → slice_index_or words (place_of shape.width g p) 0 ≡ word_at l p

-- the first n logs are read off the words, and the others are not begun
pub record IsRead (shape : Shape) (words : List ℕ) (n : ℕ) (logs : List Seen) : Type 0 where
  pub all : length logs ≡ shape.generations
  pub widths : HaveWidth shape.width logs
  pub read : (j : ℕ) (d : Seen) → j < n → (l : Log) → Shows shape words j l → (slice_index_or logs j d).log ≡ l
  pub fresh : (j : ℕ) (d : Seen) → n ≤ j → j < shape.generations → (slice_index_or logs j d).log ≡ unseen
