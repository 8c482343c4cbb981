-- A pass and its seat after one step.
use Rattle.std.proofs.Common.{◌≡◌, ℕ, ◌<◌, Bool, true, List, [], length, get_or, set, sym, ap, ◌∙◌, subst, length-set, Option}
use Rattle.std.proofs.lemmas.List.{map-set, get_or-map, length-map}
use Rattle.std.proofs.lemmas.List.Elements.{All-set}
use Rattle.atomic_table.specs.Table.{Me}
use Rattle.kk_machine.specs.declared.log.Log.{Log}
use Rattle.kk_machine.specs.declared.call.Call.{Call}
use Rattle.kk_machine.specs.declared.call.Reply.{Reply}
use Rattle.kk_machine.specs.Spaces.{unseen, generation_of}
use Rattle.kk_machine.specs.declared.log.TheConstants.{CLOSED}
use Rattle.kk_machine.specs.Steps.{IsLog, sight_after, exchanged, stored, changes, decided}
use Rattle.kk_machine.specs.Sights.{Seen, seen, logs_of}
use Rattle.kk_table.specs.declared.view.Shape.{Shape}
use Rattle.kk_table.specs.declared.view.Known.{Known}
use Rattle.kk_table.specs.declared.view.View.{View}
use Rattle.kk_table.specs.declared.view.View.TheVariants.{Pass}
use Rattle.kk_table.specs.Rule.{sight, known_after, Tried}
use Rattle.kk_table.specs.Pass.{known_in, IsPass}

-- what the view has seen of a generation is what is kept of it
pub sight_kept : (shape : Shape) (number : ℕ) (me : Me (Unit {0}) View) (sights : List Seen) (g : ℕ) (d : Seen) → IsPass shape number me sights → g < shape.generations
    → sight (known_in me.0) g ≡ (get_or sights g d).log
sight_kept shape number me sights g d is near =
    ap (λ (l : List Log). get_or l g unseen) is.sights ∙ get_or-map (λ (s : Seen). s.log) sights g d unseen (subst (λ (n : ℕ). g < n) (sym is.all) near)

pub length_seen : (shape : Shape) (number : ℕ) (me : Me (Unit {0}) View) (sights : List Seen) → IsPass shape number me sights → length (known_in me.0).seen ≡ shape.generations
length_seen shape number me sights is = ap (λ (l : List Log). length l) is.sights ∙ length-map sights (λ (s : Seen). s.log) ∙ is.all

pub step_taken : (shape : Shape) (number : ℕ) (me me' : Me (Unit {0}) View) (sights : List Seen) (changing : Bool) (call : Call) (found : ℕ) → IsPass shape number me sights
    → Tried shape.width changing call me.0 found me'.0
    → (me'.0 ≡ Pass (known_after changing call (known_in me.0) found)) × IsLog shape.width (sight (known_after changing call (known_in me.0) found) (generation_of call))
    × ((sight (known_in me.0) (generation_of call)).closed ≡ true → found ≡ CLOSED)
step_taken shape number me me' sights changing call found is tried = subst (λ (v : View). Tried shape.width changing call v found me'.0) (ap (λ (m : Me (Unit {0}) View). m.0) is.knows) tried

pub passes_on : (shape : Shape) (number : ℕ) (me me' : Me (Unit {0}) View) (sights : List Seen) (g : ℕ) (old new : Seen) (changing : Bool) (call : Call) (found left : ℕ) → IsPass shape number me sights
    → g ≡ generation_of call → g < shape.generations → Tried shape.width changing call me.0 found me'.0 → me'.1 ≡ [] → old ≡ get_or sights g old → left ≡ exchanged found (stored changing call)
    → new ≡ seen old.width (sight_after old.log left) → IsPass shape number me' (set sights g new)
passes_on shape number me me' sights g old new changing call found left is same near tried none at left_is told =
    let k = known_in me.0 in
    let after = (step_taken shape number me me' sights changing call found is tried).0 in
    let there : g < length sights = subst (λ (n : ℕ). g < n) (sym is.all) near in
    let kept : sight k g ≡ old.log = sight_kept shape number me sights g old is near ∙ ap (λ (s : Seen). s.log) (sym at) in
    record {
      knows = λ i. ((after ∙ sym (ap (λ (v : View). Pass (known_in v)) after)) i, none i);
      numbered = ap (λ (v : View). (known_in v).number) after ∙ is.numbered;
      sights = subst (λ (v : View). (known_in v).seen ≡ logs_of (set sights g new)) (sym after)
          (subst (λ (x : ℕ). set k.seen x (sight_after (sight k x) (exchanged found (stored changing call))) ≡ logs_of (set sights g new)) same
          (ap (λ (x : Log × ℕ). set k.seen g (sight_after x.0 x.1)) (λ i. (kept i, sym left_is i)) ∙ ap (λ (x : Seen). set k.seen g x.log) (sym told)
          ∙ ap (λ (l : List Log). set l g new.log) is.sights ∙ sym (map-set (λ (s : Seen). s.log) sights g new)));
      widths = All-set (λ (s : Seen). s.width ≡ shape.width) sights g new (ap (λ (s : Seen). s.width) told ∙ ap (λ (s : Seen). s.width) at ∙ is.widths g old there) is.widths;
      all = length-set sights g new ∙ is.all;
    }

-- One step of a pass for a call, which found some word: an exchange where the call would change the log seen, and else a
-- load. It answers the call where it decides it.
abbrev pub IsStep : Call → Known → Option Reply → Known → Type 0
IsStep call k reply k' =
    let s = sight k (generation_of call) in
    (found : ℕ) × (reply ≡ decided (changes s call) s found call) × (k' ≡ known_after (changes s call) call k found)
    × (s.closed ≡ true → found ≡ CLOSED)

pub makes_step : (shape : Shape) (number : ℕ) (me me' : Me (Unit {0}) View) (sights : List Seen) (g : ℕ) (old : Seen) (changing : Bool) (call : Call) (found : ℕ) (reply : Option Reply) → IsPass shape number me sights
    → g ≡ generation_of call → g < shape.generations → Tried shape.width changing call me.0 found me'.0 → old ≡ get_or sights g old
    → changing ≡ changes old.log call → reply ≡ decided changing old.log found call → IsStep call (known_in me.0) reply (known_in me'.0)
makes_step shape number me me' sights g old changing call found reply is same near tried at change reply_is =
    let k = known_in me.0 in
    let taken = step_taken shape number me me' sights changing call found is tried in
    let kept : sight k (generation_of call) ≡ old.log =
    ap (λ (x : ℕ). sight k x) (sym same) ∙ sight_kept shape number me sights g old is near ∙ ap (λ (s : Seen). s.log) (sym at) in
    let change' : changing ≡ changes (sight k (generation_of call)) call = change ∙ ap (λ (x : Log). changes x call) (sym kept) in (
      found,
      reply_is ∙ (λ i. decided (change' i) (sym kept i) found call),
      ap (λ (v : View). known_in v) taken.0 ∙ ap (λ (b : Bool). known_after b call k found) change',
      taken.2,
    )
