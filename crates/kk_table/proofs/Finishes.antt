-- The end of a table.
use Rattle.std.proofs.Common.{◌≡◌, ℕ, ◌+◌, ◌<◌, ◌≤◌, List, [], length, get_or, set, sym, ap, ◌∙◌, subst, arith, length-set, get_or-set_same, get_or-set_other}
use Rattle.std.proofs.lemmas.List.{get_or-map, length-map}
use mathlib.Core.Logic.{dite}
use native.Mathlib.Decide.{ℕ_discrete}
use Rattle.atomic_table.specs.Table.{Me, Final, Seen}
use Rattle.kk_machine.specs.declared.log.Log.{Log}
use Rattle.kk_machine.specs.declared.call.Entry.{Entry}
use Rattle.kk_machine.specs.Steps.{IsLog, Sees}
use Rattle.kk_machine.specs.History.{log_of}
use Rattle.kk_machine.specs.Spaces.{unseen}
use Rattle.kk_machine.proofs.Worlds.{get_or-replicate_same}
use Rattle.kk_table.specs.declared.view.Shape.{Shape}
use Rattle.kk_table.specs.declared.view.Known.{Known}
use Rattle.kk_table.specs.declared.view.View.{View}
use Rattle.kk_table.specs.declared.view.View.TheVariants.{Founder}
use Rattle.kk_machine.specs.Sights.{Seen as SightView, seen, logs_of}
use Rattle.kk_table.specs.Rule.{Holds, sight}
use Rattle.kk_table.specs.Founder.{FounderView, records_in, IsFresh}
use Rattle.kk_table.specs.Logs.{log_at, IsHistoryOf, IsLogs, Shows, IsRead}
use Rattle.kk_table.proofs.Seats.{IsEnd, ends}
use Rattle.std.proofs.lemmas.List.Elements.{All-set}

pub ends_as : (key shape : Shape) (id given : ℕ) (me : Me (Unit {0}) View) (words : List ℕ) (slots : List (Unit {0})) → key ≡ shape → me ≡ (Founder shape.generations given (records_in me.0), [])
    → given ≤ length (records_in me.0) → Final (Seen (Holds key) id me.0) words slots → IsEnd shape (records_in me.0) words
ends_as key shape id given me words slots same knows all final =
    ends shape id shape.generations given (records_in me.0) words slots
    (subst (λ (x : Shape × View). Final (Seen (Holds x.0) id x.1) words slots) (λ i. (same i, (knows i).0)) final) all

pub shows_of : (shape : Shape) (records : List Known) (words : List ℕ) → shape.width ≤ 63 → (end : IsEnd shape records words) → (g : ℕ) → g < shape.generations → Shows shape words g (log_of g end.history)
shows_of shape records words fits end g near = record {
  fits = fits;
  in_range = near;
  size = end.size;
  is_log = end.is_history.are_logs g near;
  placed = λ p inside. end.placed g p near inside;
}

same_logs : (shape : Shape) (records : List Known) (f f' : ℕ → Log) (h : List Entry) → ((g : ℕ) → g < shape.generations → f g ≡ f' g) → IsHistoryOf shape records f h → IsHistoryOf shape records f' h
same_logs shape records f f' h same is = record {
  legal = is.legal;
  nobody_else = is.nobody_else;
  calls = is.calls;
  logs_are = λ g near. is.logs_are g near ∙ same g near;
  are_logs = λ g near. subst (IsLog shape.width) (same g near) (is.are_logs g near);
  seen = λ r has g near. subst (λ (x : Log). Sees x (sight r g)) (same g near) (is.seen r has g near);
  noted = is.noted;
  by = is.by;
}

pub all_read : (shape : Shape) (records : List Known) (words : List ℕ) (logs : List SightView) → shape.width ≤ 63 → (end : IsEnd shape records words) → IsRead shape words shape.generations logs
    → IsLogs shape records (logs_of logs)
all_read shape records words logs fits end is = record {
  all = length-map logs (λ (s : SightView). s.log) ∙ is.all;
  history = end.history;
  is_history = same_logs shape records (λ g. log_of g end.history) (log_at (logs_of logs)) end.history
      (λ g near. sym (get_or-map (λ (s : SightView). s.log) logs g blank unseen (subst (λ (n : ℕ). g < n) (sym is.all) near) ∙ is.read g blank near (log_of g end.history) (shows_of shape records words fits end g near)))
      end.is_history;
}
  where
    blank : SightView
    blank = seen 0 unseen

pub read_none : (shape : Shape) (words : List ℕ) (logs : List SightView) → IsFresh shape.width shape.generations logs → IsRead shape words 0 logs
read_none shape words logs is = record {
  all = is.all;
  widths = is.widths;
  read = λ j d h. absurd (omega arith);
  fresh = λ j d more near. sym (get_or-map (λ (s : SightView). s.log) logs j d unseen (subst (λ (n : ℕ). j < n) (sym is.all) near)) ∙ ap (λ (l : List Log). get_or l j unseen) is.nothing ∙ get_or-replicate_same shape.generations j unseen;
}

pub read_more : (shape : Shape) (words : List ℕ) (n : ℕ) (logs : List SightView) (s : SightView) → n < shape.generations → IsRead shape words n logs → s.width ≡ shape.width
    → ((l : Log) → Shows shape words n l → s.log ≡ l) → IsRead shape words (n + 1) (set logs n s)
read_more shape words n logs s near is wide reads = record {
  all = length-set logs n s ∙ is.all;
  widths = All-set (λ (x : SightView). x.width ≡ shape.width) logs n s wide is.widths;
  read = λ j d h l shows. dite (ℕ_discrete j n)
      (λ e. subst (λ (x : ℕ). Shows shape words x l → (get_or (set logs n s) x d).log ≡ l) (sym e) (λ sh. ap (λ (x : SightView). x.log) (get_or-set_same logs n s d (subst (λ (k : ℕ). n < k) (sym is.all) near)) ∙ reads l sh) shows)
      (λ ne. ap (λ (x : SightView). x.log) (get_or-set_other logs n j s d ne) ∙ is.read j d (omega arith) l shows);
  fresh = λ j d more inside. ap (λ (x : SightView). x.log) (get_or-set_other logs n j s d (λ e. omega arith)) ∙ is.fresh j d (omega arith) inside;
}

pub finished : (key shape own : Shape) (id given out : ℕ) (me : Me (Unit {0}) View) (words : List ℕ) (slots : List (Unit {0})) (f : FounderView) → key ≡ shape → own ≡ shape
    → me ≡ (Founder own.generations given (records_in me.0), []) → given ≡ f.given → records_in me.0 ≡ f.records → out + length f.records ≡ f.given → out ≤ 0
    → Final (Seen (Holds key) id me.0) words slots → IsEnd shape (records_in me.0) words
finished key shape own id given out me words slots f same mine knows given_is records_are counts none final =
    let all : given ≤ length (records_in me.0) = omega (arith, given_is, ap (λ (l : List Known). length l) records_are, counts, none) in
    subst (λ (s : Shape). IsEnd s (records_in me.0) words) mine (ends_as key own id given me words slots (same ∙ sym mine) knows all final)
