-- The atomic steps of a table are moves of the pure machine.
use Rattle.std.proofs.Common.{◌≡◌, ◌≢◌, ℕ, zero, suc, ◌+◌, ◌<◌, ◌≤◌, ⊎_elim, Bool, true, false, List, [], ◌∷◌, ◌++◌, length, get_or, set, replicate, sym, refl, ap, ◌∙◌, subst, true≢false, cond, arith, length-set, length-append, append-nil, get_or-set_same, get_or-set_other, ◌⊎◌, inl, inr}
use Rattle.std.proofs.lemmas.List.{length-replicate, get_or-replicate, get_or_append_left}
use mathlib.Core.Logic.{dite}
use mathlib.Core.Option.{some, some-injective, some-ne-none}
use native.Mathlib.Decide.{ℕ_discrete}
use lib.ListN.{get_elem?}
use Rattle.atomic_table.proofs.Lists.{at_set}
use Rattle.kk_machine.specs.declared.log.Log.{Log}
use Rattle.kk_machine.specs.declared.log.TheConstants.{CLOSED}
use Rattle.kk_machine.specs.declared.call.Call.{Call}
use Rattle.kk_machine.specs.declared.call.Call.TheVariants.{Insert, Freeze, Peek}
use Rattle.kk_machine.specs.declared.call.Entry.{Entry}
use Rattle.kk_machine.specs.declared.moves.Move.{Move}
use Rattle.kk_machine.specs.declared.moves.Move.TheVariants.{Look}
use Rattle.kk_machine.specs.Spaces.{unseen, generation_of, IsInWidth}
use Rattle.kk_machine.specs.Steps.{exchanged, stored, decided, changes, sight_after}
use Rattle.kk_machine.specs.History.{log_of, entries}
use Rattle.kk_machine.specs.World.{World, Actor, new_world, nobody, newcomer as new_actor, actor, sight as sight_of, word, words_of, next_word, tried, MayTry, run, history, AllMay}
use Rattle.kk_machine.proofs.Logs.{closed_found}
use Rattle.kk_machine.proofs.Turns.{exchanged_other}
use Rattle.kk_machine.proofs.Worlds.{length_sight, get_or-replicate_same, tried_actor, tried_actor_other, tried_length, tried_width, tried_words, tried_words_other, AllMay-push, run-push, history-push}
use Rattle.kk_table.specs.declared.view.Shape.{Shape}
use Rattle.kk_table.specs.declared.view.Known.{Known}
use Rattle.kk_table.specs.declared.view.View.{View}
use Rattle.kk_table.specs.declared.view.View.TheVariants.{Founder, Pass, Spent}
use Rattle.kk_table.specs.Places.{place_of}
use Rattle.kk_table.specs.Rule.{sight, known_after, newcomer, founder_first, IsAllowed}
use Rattle.kk_table.specs.Worlds.{IsActor, IsWorldOf, IsReached}
use Rattle.kk_table.specs.Moves.{IsMove, exchange_of, move_of, next_place, BeginsAsWorld, StepsAreMoves, GiftsAreMoves, ReturnsAreMoves}
use Rattle.kk_table.proofs.Places.{place_inside, places_apart}
use Rattle.kk_table.proofs.Tries.{pass_fits}

-- what the actor of a pass has seen
seen_by : (shape : Shape) (words : List ℕ) (views : List View) (w : World) (n : ℕ) (k : Known) (g : ℕ) → IsWorldOf shape words views w → get_elem? views n ≡ some (Pass k)
    → sight_of w n g ≡ sight k g
seen_by shape words views w n k g is at = ap (λ (l : List Log). get_or l g unseen) (is.actors n (Pass k) at).1

-- the word that it finds
found_by : (shape : Shape) (words : List ℕ) (views : List View) (w : World) (n : ℕ) (k : Known) (call : Call) → IsWorldOf shape words views w → get_elem? views n ≡ some (Pass k)
    → generation_of call < shape.generations → length (sight k (generation_of call)).rows ≤ shape.width → (f : ℕ) → get_or words (next_place shape k call) 0 ≡ f → next_word w n call ≡ f
found_by shape words views w n k call is at near room f found =
    let g = generation_of call in
    ap (λ (x : Log). word w g (length x.rows)) (seen_by shape words views w n k g is at) ∙ is.placed g (length (sight k g).rows) near room ∙ found

tried_count : (w : World) (n : ℕ) (by : Bool) (call : Call) → length (tried w n by call).actors ≡ length w.actors
unfolding tried
tried_count w n by call =
    let g = generation_of call in
    let s = sight_of w n g in
    length-set w.actors n (record { live = true; seen = set (actor w n).seen g (sight_after s (exchanged (next_word w n call) (stored by call))) })

-- a load or an exchange in the world is the step of the pass, where it leaves the same word
tried_leads : (shape : Shape) (words : List ℕ) (views : List View) (w : World) (n : ℕ) (k : Known) (changing by : Bool) (call : Call)
    → length words ≡ place_of shape.width shape.generations 0 → IsWorldOf shape words views w → get_elem? views n ≡ some (Pass k) → generation_of call < shape.generations
    → length (sight k (generation_of call)).rows ≤ shape.width → (f : ℕ) → get_or words (next_place shape k call) 0 ≡ f
    → exchanged f (stored by call) ≡ exchanged f (stored changing call)
    → IsWorldOf shape (set words (next_place shape k call) (exchanged f (stored changing call))) (set views n (Pass (known_after changing call k f))) (tried w n by call)
tried_leads shape words views w n k changing by call size is at near room f found same =
    let g = generation_of call in
    let s = sight k g in
    let p = length s.rows in
    let i = next_place shape k call in
    let now = exchanged f (stored changing call) in
    let later = tried w n by call in
    let k' = known_after changing call k f in
    let me = is.actors n (Pass k) at in
    let sees : sight_of w n g ≡ s = seen_by shape words views w n k g is at in
    let there : g < length w.words = subst (λ (m : ℕ). g < m) (sym is.generations) near in
    let left : exchanged (next_word w n call) (stored by call) ≡ now =
    ap (λ (x : ℕ). exchanged x (stored by call)) (found_by shape words views w n k call is at near room f found) ∙ same in
    let here : words_of later g ≡ set (words_of w g) p now = tried_words w n by call there ∙ (λ t. set (words_of w g) (length (sees t).rows) (left t)) in
    let inside : i < length words = subst (λ (x : ℕ). i < x) (sym size) (place_inside shape.width shape.generations g p near room) in
    let after = tried_actor w n by call me.0 in
    let mine : IsActor (Pass k') (actor later n) = (ap (λ (a : Actor). a.live) after, ap (λ (a : Actor). a.seen) after ∙ (λ t. set (me.1 t) g (sight_after (sees t) (left t)))) in
    record {
      width = tried_width w n by call ∙ is.width;
      generations = tried_length w n by call ∙ is.generations;
      places = λ j close. dite (ℕ_discrete j g)
          (λ e. subst (λ (x : ℕ). length (words_of later x) ≡ shape.width + 1) (sym e) (ap (λ (x : List ℕ). length x) here ∙ length-set (words_of w g) p now ∙ is.places g near))
          (λ ne. ap (λ (x : List ℕ). length x) (tried_words_other w n by call j ne) ∙ is.places j close);
      placed = λ j q close in_place. dite (ℕ_discrete j g)
          (λ e. subst (λ (x : ℕ). word later x q ≡ get_or (set words i now) (place_of shape.width x q) 0) (sym e)
          (ap (λ (x : List ℕ). get_or x q 0) here
          ∙ dite (ℕ_discrete q p)
          (λ eq. subst (λ (x : ℕ). get_or (set (words_of w g) p now) x 0 ≡ get_or (set words i now) (place_of shape.width g x) 0) (sym eq)
          (get_or-set_same (words_of w g) p now 0 (omega (arith, is.places g near, room)) ∙ sym (get_or-set_same words i now 0 inside)))
          (λ ne. get_or-set_other (words_of w g) p q now 0 ne ∙ is.placed g q near in_place
          ∙ sym (get_or-set_other words i (place_of shape.width g q) now 0 (places_apart shape.width g p g q room in_place (λ _. ne))))))
          (λ ne. ap (λ (x : List ℕ). get_or x q 0) (tried_words_other w n by call j ne) ∙ is.placed j q close in_place
          ∙ sym (get_or-set_other words i (place_of shape.width j q) now 0 (places_apart shape.width g p j q room in_place (λ e. absurd (ne e)))));
      counted = tried_count w n by call ∙ is.counted ∙ sym (length-set views n (Pass k'));
      actors = λ m v e. ⊎_elim
          (λ (t : (m ≡ n) × (Pass k' ≡ v)). subst (λ (x : ℕ × View). IsActor x.1 (actor later x.0)) (λ j. (sym t.0 j, t.1 j)) mine)
          (λ (t : (m ≢ n) × (get_elem? views m ≡ some v)). subst (IsActor v) (sym (tried_actor_other w n by call m t.0)) (is.actors m v t.1))
          (at_set views n m (Pass k') v e);
    }

-- what it decides
tried_decides : (shape : Shape) (words : List ℕ) (views : List View) (w : World) (n : ℕ) (k : Known) (by : Bool) (call : Call) → IsWorldOf shape words views w → get_elem? views n ≡ some (Pass k)
    → generation_of call < shape.generations → length (sight k (generation_of call)).rows ≤ shape.width → (f : ℕ) → get_or words (next_place shape k call) 0 ≡ f
    → entries n call (decided by (sight_of w n (generation_of call)) (next_word w n call) call) ≡ entries n call (decided by (sight k (generation_of call)) f call)
tried_decides shape words views w n k by call is at near room f found =
    let sees = seen_by shape words views w n k (generation_of call) is at in
    let next = found_by shape words views w n k call is at near room f found in
    λ t. entries n call (decided by (sees t) (next t) call)

looks_allowed : (shape : Shape) (words : List ℕ) (views : List View) (w : World) (n : ℕ) (k : Known) (call : Call) → 0 < n → IsWorldOf shape words views w → get_elem? views n ≡ some (Pass k)
    → generation_of call < shape.generations → IsInWidth shape.width call → MayTry w n false call
looks_allowed shape words views w n k call some_pass is at near fits = record {
  pass = record { alive = (is.actors n (Pass k) at).0; not_founder = some_pass };
  generation = subst (λ (m : ℕ). generation_of call < m) (sym is.generations) near;
  row = subst (λ (m : ℕ). IsInWidth m call) (sym is.width) fits;
  not_closed = λ e. absurd (true≢false (sym e));
  would_change = λ e. absurd (true≢false (sym e));
}

exchanges_allowed : (shape : Shape) (words : List ℕ) (views : List View) (w : World) (n : ℕ) (k : Known) (call : Call) → 0 < n → IsWorldOf shape words views w → get_elem? views n ≡ some (Pass k)
    → generation_of call < shape.generations → IsInWidth shape.width call → (sight k (generation_of call)).closed ≡ false → changes (sight k (generation_of call)) call ≡ true → MayTry w n true call
exchanges_allowed shape words views w n k call some_pass is at near fits unclosed change =
    let sees = seen_by shape words views w n k (generation_of call) is at in
    record {
      pass = record { alive = (is.actors n (Pass k) at).0; not_founder = some_pass };
      generation = subst (λ (m : ℕ). generation_of call < m) (sym is.generations) near;
      row = subst (λ (m : ℕ). IsInWidth m call) (sym is.width) fits;
      not_closed = λ e. ap (λ (x : Log). x.closed) sees ∙ unclosed;
      would_change = λ e. ap (λ (x : Log). changes x call) sees ∙ change;
    }

-- an exchange that is allowed
exchanges : (shape : Shape) (words : List ℕ) (views : List View) (w : World) (n : ℕ) (k : Known) (call : Call) → length words ≡ place_of shape.width shape.generations 0 → 0 < n
    → IsWorldOf shape words views w → get_elem? views n ≡ some (Pass k) → generation_of call < shape.generations → IsAllowed shape.width true call (sight k (generation_of call))
    → length (sight k (generation_of call)).rows ≤ shape.width → (f : ℕ) → get_or words (next_place shape k call) 0 ≡ f → (sight k (generation_of call)).closed ≡ false
    → IsMove shape (set words (next_place shape k call) (exchanged f (stored true call))) (set views n (Pass (known_after true call k f))) w
    (exchange_of n call) (entries n call (decided true (sight k (generation_of call)) f call))
exchanges shape words views w n k (Insert g row) size some_pass is at near can room f found unclosed = record {
  may = exchanges_allowed shape words views w n k (Insert g row) some_pass is at near can.0 unclosed (can.1 refl);
  decides = tried_decides shape words views w n k true (Insert g row) is at near room f found;
  leads = tried_leads shape words views w n k true true (Insert g row) size is at near room f found refl;
}
exchanges shape words views w n k (Freeze g) size some_pass is at near can room f found unclosed = record {
  may = exchanges_allowed shape words views w n k (Freeze g) some_pass is at near can.0 unclosed (can.1 refl);
  decides = tried_decides shape words views w n k true (Freeze g) is at near room f found;
  leads = tried_leads shape words views w n k true true (Freeze g) size is at near room f found refl;
}
exchanges shape words views w n k (Peek g) size some_pass is at near can room f found unclosed = absurd (true≢false (sym (can.1 refl)))

-- a load, or an exchange that does what a load does
looks : (shape : Shape) (words : List ℕ) (views : List View) (w : World) (n : ℕ) (k : Known) (changing : Bool) (call : Call) → length words ≡ place_of shape.width shape.generations 0 → 0 < n
    → IsWorldOf shape words views w → get_elem? views n ≡ some (Pass k) → generation_of call < shape.generations → IsInWidth shape.width call
    → length (sight k (generation_of call)).rows ≤ shape.width → (f : ℕ) → get_or words (next_place shape k call) 0 ≡ f
    → exchanged f (stored false call) ≡ exchanged f (stored changing call) → decided false (sight k (generation_of call)) f call ≡ decided changing (sight k (generation_of call)) f call
    → IsMove shape (set words (next_place shape k call) (exchanged f (stored changing call))) (set views n (Pass (known_after changing call k f))) w
    (Look n call) (entries n call (decided changing (sight k (generation_of call)) f call))
looks shape words views w n k changing call size some_pass is at near fits room f found same decides = record {
  may = looks_allowed shape words views w n k call some_pass is at near fits;
  decides = tried_decides shape words views w n k false call is at near room f found ∙ ap (entries n call) decides;
  leads = tried_leads shape words views w n k changing false call size is at near room f found same;
}

pub steps_are_moves : StepsAreMoves
steps_are_moves shape h given records words views w n k changing call is world at near can f found = by changing can
  where
    fit : (0 < n) × (length (sight k (generation_of call)).rows ≤ shape.width)
    fit = let t = pass_fits shape h given records words views is n k at in
        (t.0, length_sight shape.width (log_of (generation_of call) h) (sight k (generation_of call)) (is.logs (generation_of call) near) (t.1.seen (generation_of call) near))

    mark : (sight k (generation_of call)).closed ≡ true → f ≡ CLOSED
    mark shut = let t = pass_fits shape h given records words views is n k at in
        sym found ∙ is.placed (generation_of call) (length (sight k (generation_of call)).rows) near fit.1
        ∙ closed_found shape.width (log_of (generation_of call) h) (sight k (generation_of call)) is.fits (is.logs (generation_of call) near) (t.1.seen (generation_of call) near) shut

    choose : (b : Bool) → (sight k (generation_of call)).closed ≡ b
        → IsMove shape (set words (next_place shape k call) (exchanged f (stored true call))) (set views n (Pass (known_after true call k f))) w
        (cond b (Look n call) (exchange_of n call)) (entries n call (decided true (sight k (generation_of call)) f call))
        → IsMove shape (set words (next_place shape k call) (exchanged f (stored true call))) (set views n (Pass (known_after true call k f))) w
        (move_of true n (sight k (generation_of call)) call) (entries n call (decided true (sight k (generation_of call)) f call))
    choose b e = subst (λ (x : Bool). IsMove shape (set words (next_place shape k call) (exchanged f (stored true call))) (set views n (Pass (known_after true call k f))) w
        (cond x (Look n call) (exchange_of n call)) (entries n call (decided true (sight k (generation_of call)) f call))) (sym e)

    at_mark : (b : Bool) → (sight k (generation_of call)).closed ≡ b → IsAllowed shape.width true call (sight k (generation_of call))
        → IsMove shape (set words (next_place shape k call) (exchanged f (stored true call))) (set views n (Pass (known_after true call k f))) w
        (move_of true n (sight k (generation_of call)) call) (entries n call (decided true (sight k (generation_of call)) f call))
    at_mark true e may =
        let m = mark e in
        let full : f ≢ 0 = λ z. omega (arith, m, z) in
        choose true e (looks shape words views w n k true call is.size fit.0 world at near may.0 fit.1 f found
        (exchanged_other f (stored false call) full ∙ sym (exchanged_other f (stored true call) full))
        (subst (λ (x : ℕ). decided false (sight k (generation_of call)) x call ≡ decided true (sight k (generation_of call)) x call) (sym m) refl))
    at_mark false e may = choose false e (exchanges shape words views w n k call is.size fit.0 world at near may fit.1 f found e)

    by : (b : Bool) → IsAllowed shape.width b call (sight k (generation_of call))
        → IsMove shape (set words (next_place shape k call) (exchanged f (stored b call))) (set views n (Pass (known_after b call k f))) w
        (move_of b n (sight k (generation_of call)) call) (entries n call (decided b (sight k (generation_of call)) f call))
    by true may = at_mark (sight k (generation_of call)).closed refl may
    by false may = looks shape words views w n k false call is.size fit.0 world at near may.0 fit.1 f found refl refl

pub at_end : (l : List View) (a b : View) (j : ℕ) → get_elem? (l ++ a ∷ []) j ≡ some b → (get_elem? l j ≡ some b) ⊎ ((j ≡ length l) × (a ≡ b))
at_end [] a b zero e = inr (refl, some-injective a b e)
at_end [] a b (suc j) e = absurd (some-ne-none b (sym e))
at_end (x ∷ xs) a b zero e = inl e
at_end (x ∷ xs) a b (suc j) e = ⊎_elim (λ t. inl t) (λ (t : (j ≡ length xs) × (a ≡ b)). inr (ap suc t.0, t.1)) (at_end xs a b j e)

actor_push : (actors : List Actor) (new : Actor) (n : ℕ) → n < length actors → get_or (actors ++ new ∷ []) n nobody ≡ get_or actors n nobody
actor_push actors new n inside = get_or_append_left actors (new ∷ []) nobody n inside

actor_last : (actors : List Actor) (new : Actor) → get_or (actors ++ new ∷ []) (length actors) nobody ≡ new
actor_last [] new = refl
actor_last (x ∷ xs) new = actor_last xs new

view_inside : (views : List View) (n : ℕ) (v : View) → get_elem? views n ≡ some v → n < length views
view_inside [] n v at = absurd (some-ne-none v (sym at))
view_inside (x ∷ xs) zero v at = omega arith
view_inside (x ∷ xs) (suc n) v at = omega (arith, view_inside xs n v at)

-- the founder's actor stays live whatever the founder knows
founder_stays : (views : List View) (w : World) (generations given given' : ℕ) (records records' : List Known) (n : ℕ) (v : View) → get_elem? views 0 ≡ some (Founder generations given records)
    → ((m : ℕ) (u : View) → get_elem? views m ≡ some u → IsActor u (actor w m)) → get_elem? (set views 0 (Founder generations given' records')) n ≡ some v → IsActor v (actor w n)
founder_stays views w generations given given' records records' n v first actors e = ⊎_elim
    (λ (t : (n ≡ 0) × (Founder generations given' records' ≡ v)). subst (λ (x : ℕ × View). IsActor x.1 (actor w x.0)) (λ j. (sym t.0 j, t.1 j)) (actors 0 (Founder generations given records) first))
    (λ (t : (n ≢ 0) × (get_elem? views n ≡ some v)). actors n v t.1)
    (at_set views 0 n (Founder generations given' records') v e)

pub gifts_are_moves : GiftsAreMoves
gifts_are_moves shape h given records words views w is world few =
    let left = Founder shape.generations (given + 1) records in
    let set0 = set views 0 left in
    let k = newcomer shape.generations given records in
    let new = new_actor (length w.words) in
    let long : length set0 ≡ length w.actors = length-set views 0 left ∙ sym world.counted in
    record {
      may = omega (arith, few, world.counted, is.counted);
      decides = refl;
      leads = record {
        width = world.width;
        generations = world.generations;
        places = world.places;
        placed = world.placed;
        counted = length-append w.actors (new ∷ []) ∙ ap (λ (m : ℕ). m + 1) (sym long) ∙ sym (length-append set0 (Pass k ∷ []));
        actors = λ n v e. ⊎_elim
            (λ (old : get_elem? set0 n ≡ some v). subst (IsActor v) (sym (actor_push w.actors new n (subst (λ (m : ℕ). n < m) long (view_inside set0 n v old))))
            (founder_stays views w _ _ _ _ _ n v is.founder world.actors old))
            (λ (t : (n ≡ length set0) × (Pass k ≡ v)). subst (λ (x : ℕ × View). IsActor x.1 (get_or (w.actors ++ new ∷ []) x.0 nobody)) (λ j. (sym (t.0 ∙ long) j, t.1 j))
            (subst (IsActor (Pass k)) (sym (actor_last w.actors new)) (refl, ap (λ (m : ℕ). replicate m unseen) world.generations)))
            (at_end set0 (Pass k) v n e);
      };
    }

pub returns_are_moves : ReturnsAreMoves
returns_are_moves shape h given records words views w n k is world at =
    let both = Founder shape.generations given (records ++ k ∷ []) in
    let set0 = set views 0 both in
    let me = world.actors n (Pass k) at in
    let gone : Actor = record { live = false; seen = (actor w n).seen } in
    let inside : n < length w.actors = subst (λ (m : ℕ). n < m) (sym world.counted) (view_inside views n (Pass k) at) in
    record {
      may = record { alive = me.0; not_founder = (pass_fits shape h given records words views is n k at).0 };
      decides = refl;
      leads = record {
        width = world.width;
        generations = world.generations;
        places = world.places;
        placed = world.placed;
        counted = length-set w.actors n gone ∙ world.counted ∙ sym (length-set views 0 both) ∙ sym (length-set set0 n Spent);
        actors = λ m v e. ⊎_elim
            (λ (t : (m ≡ n) × (Spent ≡ v)). subst (λ (x : ℕ × View). IsActor x.1 (get_or (set w.actors n gone) x.0 nobody)) (λ j. (sym t.0 j, t.1 j))
            (ap (λ (a : Actor). a.live) (get_or-set_same w.actors n gone nobody inside)))
            (λ (t : (m ≢ n) × (get_elem? set0 m ≡ some v)). subst (IsActor v) (sym (get_or-set_other w.actors n m gone nobody t.0)) (founder_stays views w _ _ _ _ _ m v is.founder world.actors t.1))
            (at_set set0 n m Spent v e);
      };
    }

alone : (first v : View) (n : ℕ) → get_elem? (first ∷ []) n ≡ some v → (n ≡ 0) × (first ≡ v)
alone first v zero e = (refl, some-injective first v e)
alone first v (suc n) e = absurd (some-ne-none v (sym e))

pub begins_as_world : BeginsAsWorld
begins_as_world shape =
    let zeros = replicate (shape.width + 1) 0 in
    let row : (g : ℕ) → g < shape.generations → words_of (new_world shape.generations shape.width) g ≡ zeros = λ g near. get_or-replicate shape.generations g zeros [] near in
    record {
      width = refl;
      generations = length-replicate shape.generations zeros;
      places = λ g near. ap (λ (x : List ℕ). length x) (row g near) ∙ length-replicate (shape.width + 1) 0;
      placed = λ g p near in_place. ap (λ (x : List ℕ). get_or x p 0) (row g near) ∙ get_or-replicate_same (shape.width + 1) p 0
          ∙ sym (get_or-replicate_same (place_of shape.width shape.generations 0) (place_of shape.width g p) 0);
      counted = refl;
      actors = λ n v e. let t = alone (founder_first shape) v n e in subst (λ (x : ℕ × View). IsActor x.1 (actor (new_world shape.generations shape.width) x.0)) (λ j. (sym t.0 j, t.1 j)) refl;
    }

-- one move more
pub reached_more : (shape : Shape) (h : List Entry) (words words' : List ℕ) (views views' : List View) (m : Move) (more : List Entry) (reached : IsReached shape h words views)
    → IsMove shape words' views' (run (new_world shape.generations shape.width) reached.by.moves) m more → IsReached shape (h ++ more) words' views'
reached_more shape h words words' views views' m more reached step =
    let first = new_world shape.generations shape.width in
    let ms = reached.by.moves in
    record {
      by = record {
        moves = ms ++ m ∷ [];
        may = AllMay-push first ms m reached.by.may step.may;
        decided = history-push first ms m ∙ (λ t. reached.by.decided t ++ step.decides t);
      };
      world = subst (IsWorldOf shape words' views') (sym (run-push first ms m)) step.leads;
    }

-- the same for a move that decides nothing
pub reached_silently : (shape : Shape) (h : List Entry) (words words' : List ℕ) (views views' : List View) (m : Move) (reached : IsReached shape h words views)
    → IsMove shape words' views' (run (new_world shape.generations shape.width) reached.by.moves) m [] → IsReached shape h words' views'
reached_silently shape h words words' views views' m reached step =
    subst (λ (x : List Entry). IsReached shape x words' views') (append-nil h) (reached_more shape h words words' views views' m [] reached step)

pub reached_first : (shape : Shape) → IsReached shape [] (replicate (place_of shape.width shape.generations 0) 0) (founder_first shape ∷ [])
unfolding run history AllMay
reached_first shape = record { by = record { moves = []; may = tt; decided = refl }; world = begins_as_world shape }
