-- The world's fields after a load or an exchange, after a split and after a join.
use Rattle.std.proofs.Common.{◌≡◌, ℕ, zero, suc, replicate, ◌+◌, ◌<◌, ◌≤◌, ◌^◌, Bool, true, false, List, [], ◌∷◌, ◌++◌, length, get_or, set, sym, refl, ap, ◌∙◌, subst, arith, length-set, All}
use Rattle.std.proofs.lemmas.List.{map-set, map-append, get_or-map, length-map, length-replicate}
use Rattle.std.proofs.lemmas.List.Elements.{All-set}
use Rattle.std.specs.declared.alloc.Global.{Global}
use Rattle.std.specs.declared.vec.Vec.{Vec}
use Rattle.std.specs.Vec.{with_item}
use Rattle.kk_machine.specs.declared.call.Call.{Call}
use Rattle.kk_machine.specs.declared.call.Entry.{Entry}
use Rattle.kk_machine.specs.declared.log.Log.{Log}
use Rattle.kk_machine.specs.declared.moves.Move.TheVariants.{Split, Join}
use Rattle.kk_machine.specs.declared.world.Actor.{Actor as KeptActor}
use Rattle.kk_machine.specs.Spaces.{Spaces, unseen, new_spaces, generation_of, log_in, with_log}
use Rattle.kk_machine.specs.Sights.{Seen, seen}
use Rattle.kk_machine.specs.Steps.{IsLog, sight_after, exchanged, stored}
use Rattle.kk_machine.specs.World.{World, Actor, nobody, new_world, actor, sight, words_of, word, next_word, with_actors, tried, moved, IsPass, MayTry, IsShaped, IsOf}
use Rattle.kk_machine.specs.Worlds.{words_in, actor_in, actors_in, IsWorld}
use Rattle.kk_machine.proofs.Worlds.{Keeps, tried_keeps, moved_keeps, tried_sight_is_log, live_is_there, begins_shaped, begins_is_of}
use Rattle.kk_machine.proofs.Turns.{All-push}

abbrev pub world_of : ℕ → List (Vec ℕ Global) → List KeptActor → World
world_of width words actors = record { width = width; words = words_in words; actors = actors_in actors }

abbrev pub kept_actor : Bool → Spaces → KeptActor
kept_actor live seen = record { live = live; seen = seen }

-- what an attempt finds: its word f at place p of generation g, for which it leaves x, in the vector v; and its actor k
pub record Attempt (width : ℕ) (words : List (Vec ℕ Global)) (actors : List KeptActor) (now : World) (a : ℕ) (changing : Bool) (call : Call)
    (g p f x : ℕ) (v : Vec ℕ Global) (k : KeptActor) : Type 0 where
  pub is_world : IsWorld width words actors
  pub view_is : world_of width words actors ≡ now
  pub may : MayTry now a changing call
  pub at : g ≡ generation_of call
  pub place : p ≡ length (sight now a g).rows
  pub found : f ≡ word now g p
  pub left : x ≡ exchanged f (stored changing call)
  pub vector_is : v ≡ get_or words g v
  pub actor_is : k ≡ get_or actors a k

abbrev pub new_actor : Bool → List Log → Actor
new_actor live seen = record { live = live; seen = seen }

pub attempt_of : {width : ℕ} {words : List (Vec ℕ Global)} {actors : List KeptActor} {now : World} {a : ℕ} {changing : Bool} {call : Call} {g p f x : ℕ} {v : Vec ℕ Global} {k : KeptActor}
    {s : Seen} → IsWorld width words actors → world_of width words actors ≡ now → MayTry now a changing call → g ≡ generation_of call
    → s ≡ seen now.width (sight now a g) → p ≡ length s.log.rows → f ≡ word now g p → x ≡ exchanged f (stored changing call)
    → v ≡ get_or words g v → k ≡ get_or actors a k → Attempt width words actors now a changing call g p f x v k
attempt_of is view may at sight_is place found left vector actor = record {
  is_world = is;
  view_is = view;
  may = may;
  at = at;
  place = place ∙ ap (λ (s : Seen). length s.log.rows) sight_is;
  found = found;
  left = left;
  vector_is = vector;
  actor_is = actor;
}

actor_kept : (width : ℕ) (words : List (Vec ℕ Global)) (actors : List KeptActor) (a : ℕ) (k : KeptActor) → a < length actors → k ≡ get_or actors a k
    → actor (world_of width words actors) a ≡ actor_in k
actor_kept width words actors a k inside is = get_or-map actor_in actors a k nobody inside ∙ ap actor_in (sym is)

kept_live : (actors : List KeptActor) (a : ℕ) → (get_or (actors_in actors) a nobody).live ≡ true → a < length actors
kept_live actors a alive = subst (λ (n : ℕ). a < n) (length-map actors actor_in) (live_is_there (actors_in actors) a alive)

abbrev pub HaveWidths : ℕ → List KeptActor → Type 0
HaveWidths width actors = All (λ a. a.seen.width ≡ width) actors

-- a world that comes from one with the invariant by what keeps it has the invariant
is_world_after : (width : ℕ) (words words' : List (Vec ℕ Global)) (actors actors' : List KeptActor) (w' : World) → IsWorld width words actors
    → ((h : List Entry) → IsShaped (world_of width words actors) → IsOf h (world_of width words actors) → (h' : List Entry) × Keeps h (world_of width words actors) h' w')
    → world_of width words' actors' ≡ w' → length words' ≡ length words → HaveWidths width actors' → IsWorld width words' actors'
is_world_after width words words' actors actors' w' is keeps same long widths =
    let k = keeps is.reached.0 is.shaped is.reached.1 in
    record {
      some_width = is.some_width;
      few = subst (λ (n : ℕ). n < 2 ^ 32) (sym long) is.few;
      shaped = subst IsShaped (sym same) k.1.shaped;
      reached = (k.0, subst (IsOf k.0) (sym same) k.1.is_of);
      widths = widths;
    }

-- what an attempt leaves for its generation's next word
abbrev left_there : World → ℕ → Bool → Call → ℕ
left_there w a changing call = exchanged (next_word w a call) (stored changing call)

-- what it tells the actor is the log's next word
telling_there : (width : ℕ) (words : List (Vec ℕ Global)) (actors : List KeptActor) (a : ℕ) (changing : Bool) (call : Call) (k : KeptActor)
    → IsWorld width words actors → MayTry (world_of width words actors) a changing call → k ≡ get_or actors a k
    → (generation_of call < length k.seen.logs)
    × IsLog k.seen.width (sight_after (log_in k.seen (generation_of call)) (left_there (world_of width words actors) a changing call))
telling_there width words actors a changing call k is may k_is =
    let w = world_of width words actors in
    let g = generation_of call in
    let x = left_there w a changing call in
    let inside = kept_live actors a may.pass.alive in
    let e = actor_kept width words actors a k inside k_is in
    let log_then = tried_sight_is_log is.reached.0 w a changing call is.shaped is.reached.1 may in
    let wide : k.seen.width ≡ width = ap (λ (o : KeptActor). o.seen.width) k_is ∙ is.widths a k inside in (
      subst (λ (n : ℕ). g < n) (sym (is.shaped.sights a may.pass.alive) ∙ ap (λ (o : Actor). length o.seen) e) may.generation,
      subst (λ (n : ℕ). IsLog n (sight_after (log_in k.seen g) x)) (sym wide)
          (subst (λ (o : Actor). IsLog width (sight_after (get_or o.seen g unseen) x)) e log_then),
    )

-- the fields that it leaves are those of the world that tried
attempted_there : (width : ℕ) (words : List (Vec ℕ Global)) (actors : List KeptActor) (a : ℕ) (changing : Bool) (call : Call) (v : Vec ℕ Global) (k : KeptActor) (s' : Spaces)
    → MayTry (world_of width words actors) a changing call → k ≡ get_or actors a k → v ≡ get_or words (generation_of call) v
    → s' ≡ with_log k.seen (generation_of call) (sight_after (log_in k.seen (generation_of call)) (left_there (world_of width words actors) a changing call))
    → world_of width
    (set words (generation_of call) (with_item v (length (sight (world_of width words actors) a (generation_of call)).rows) (left_there (world_of width words actors) a changing call)))
    (set actors a (kept_actor k.live s'))
    ≡ tried (world_of width words actors) a changing call
unfolding tried
attempted_there width words actors a changing call v k s' may k_is v_is s_is =
    let w = world_of width words actors in
    let g = generation_of call in
    let x = left_there w a changing call in
    let p = length (sight w a g).rows in
    let items = λ (u : Vec ℕ Global). u.items in
    let in_words : g < length words = subst (λ (n : ℕ). g < n) (length-map words items) may.generation in
    let in_actors = kept_live actors a may.pass.alive in
    let e = actor_kept width words actors a k in_actors k_is in
    let words_same : words_in (set words g (with_item v p x)) ≡ set w.words g (set (words_of w g) p x) =
    map-set items words g (with_item v p x) ∙ ap (λ (l : List ℕ). set w.words g (set l p x)) (ap items v_is ∙ sym (get_or-map items words g v [] in_words)) in
    let told : List Log → List Log = λ l. set l g (sight_after (get_or l g unseen) x) in
    let mine : actor_in (kept_actor k.live s') ≡ new_actor true (told (actor w a).seen) =
    λ i. new_actor ((ap (λ (o : Actor). o.live) (sym e) ∙ may.pass.alive) i) ((ap (λ (s : Spaces). s.logs) s_is ∙ ap (λ (o : Actor). told o.seen) (sym e)) i) in
    let actors_same : actors_in (set actors a (kept_actor k.live s')) ≡ set w.actors a (new_actor true (told (actor w a).seen)) =
    map-set actor_in actors a (kept_actor k.live s') ∙ ap (λ (o : Actor). set w.actors a o) mine in
    λ i. record { width = width; words = words_same i; actors = actors_same i }

-- the move is allowed in the world that the fields show, and the places are those that it names
may_there : {width : ℕ} {words : List (Vec ℕ Global)} {actors : List KeptActor} {now : World} {a : ℕ} {changing : Bool} {call : Call} {g p f x : ℕ} {v : Vec ℕ Global} {k : KeptActor}
    → Attempt width words actors now a changing call g p f x v k → MayTry (world_of width words actors) a changing call
may_there {a = a} {changing = changing} {call = call} t = subst (λ (w : World). MayTry w a changing call) (sym t.view_is) t.may

places_there : {width : ℕ} {words : List (Vec ℕ Global)} {actors : List KeptActor} {now : World} {a : ℕ} {changing : Bool} {call : Call} {g p f x : ℕ} {v : Vec ℕ Global} {k : KeptActor}
    → Attempt width words actors now a changing call g p f x v k
    → ◌≡◌ {A = World × ℕ × ℕ × ℕ}
    (world_of width words actors, generation_of call, length (sight (world_of width words actors) a (generation_of call)).rows, left_there (world_of width words actors) a changing call)
    (now, g, p, x)
places_there {width} {words} {actors} {now} {a} {changing} {call} {g} {p} {f} {x} t =
    let w = world_of width words actors in
    let p_is : p ≡ length (sight w a (generation_of call)).rows = t.place ∙ (λ i. length (sight (sym t.view_is i) a (t.at i)).rows) in
    let f_is : f ≡ next_word w a call = t.found ∙ (λ i. word (sym t.view_is i) (t.at i) (p_is i)) in
    let x_is : x ≡ left_there w a changing call = t.left ∙ ap (λ (n : ℕ). exchanged n (stored changing call)) f_is in
    λ i. (t.view_is i, sym t.at i, sym p_is i, sym x_is i)

pub telling : {width : ℕ} {words : List (Vec ℕ Global)} {actors : List KeptActor} {now : World} {a : ℕ} {changing : Bool} {call : Call} {g p f x : ℕ} {v : Vec ℕ Global} {k : KeptActor}
    → Attempt width words actors now a changing call g p f x v k → (g < length k.seen.logs) × IsLog k.seen.width (sight_after (log_in k.seen g) x)
telling {width} {words} {actors} {now} {a} {changing} {call} {k = k} t =
    subst (λ (n : World × ℕ × ℕ × ℕ). (n.1 < length k.seen.logs) × IsLog k.seen.width (sight_after (log_in k.seen n.1) n.3)) (places_there t)
    (telling_there width words actors a changing call k t.is_world (may_there t) t.actor_is)

pub attempted : {width : ℕ} {words : List (Vec ℕ Global)} {actors : List KeptActor} {now : World} {a : ℕ} {changing : Bool} {call : Call} {g p f x : ℕ} {v : Vec ℕ Global} {k : KeptActor}
    → Attempt width words actors now a changing call g p f x v k → (s' : Spaces) → s' ≡ with_log k.seen g (sight_after (log_in k.seen g) x)
    → world_of width (set words g (with_item v p x)) (set actors a (kept_actor k.live s')) ≡ tried now a changing call
attempted {width} {words} {actors} {now} {a} {changing} {call} {v = v} {k = k} t s' s_is =
    subst (λ (n : World × ℕ × ℕ × ℕ). v ≡ get_or words n.1 v → s' ≡ with_log k.seen n.1 (sight_after (log_in k.seen n.1) n.3)
    → world_of width (set words n.1 (with_item v n.2 n.3)) (set actors a (kept_actor k.live s')) ≡ tried n.0 a changing call) (places_there t)
    (attempted_there width words actors a changing call v k s' (may_there t) t.actor_is) t.vector_is s_is

pub attempt_keeps : {width : ℕ} {words : List (Vec ℕ Global)} {actors : List KeptActor} {now : World} {a : ℕ} {changing : Bool} {call : Call} {g p f x : ℕ} {v : Vec ℕ Global} {k : KeptActor}
    → Attempt width words actors now a changing call g p f x v k → (s' : Spaces) → s' ≡ with_log k.seen g (sight_after (log_in k.seen g) x)
    → IsWorld width (set words g (with_item v p x)) (set actors a (kept_actor k.live s'))
attempt_keeps {width} {words} {actors} {now} {a} {changing} {call} {g} {p} {f} {x} {v} {k} t s' s_is =
    let w = world_of width words actors in
    let inside = kept_live actors a (may_there t).pass.alive in
    is_world_after width words (set words g (with_item v p x)) actors (set actors a (kept_actor k.live s')) (tried w a changing call) t.is_world
    (λ h shaped of. (_, tried_keeps h w a changing call shaped of (may_there t)))
    (attempted t s' s_is ∙ ap (λ (n : World). tried n a changing call) (sym t.view_is))
    (length-set words g (with_item v p x))
    (All-set (λ (o : KeptActor). o.seen.width ≡ width) actors a (kept_actor k.live s')
    (ap (λ (s : Spaces). s.width) s_is ∙ ap (λ (o : KeptActor). o.seen.width) t.actor_is ∙ t.is_world.widths a k inside) t.is_world.widths)

-- a newcomer more
pub split_keeps : (width : ℕ) (words : List (Vec ℕ Global)) (actors actors' : List KeptActor) (s : Spaces) → IsWorld width words actors
    → length (actors_in actors) < 2 ^ 32 → s ≡ new_spaces (length words) width → actors' ≡ actors ++ kept_actor true s ∷ []
    → (world_of width words actors' ≡ moved (world_of width words actors) Split) × IsWorld width words actors'
split_keeps width words actors actors' s is few s_is more =
    let w = world_of width words actors in
    let items = λ (u : Vec ℕ Global). u.items in
    let same : world_of width words actors' ≡ moved w Split =
    ap (world_of width words) more
    ∙ ap (λ (l : List Actor). with_actors w l) (map-append actor_in actors (kept_actor true s ∷ [])
    ∙ ap (λ (l : List Log). actors_in actors ++ new_actor true l ∷ []) (ap (λ (o : Spaces). o.logs) s_is ∙ ap (λ (n : ℕ). replicate n unseen) (sym (length-map words items)))) in (
      same,
      is_world_after width words words actors actors' (moved w Split) is (λ h shaped of. (_, moved_keeps h w Split shaped of few)) same refl
          (subst (HaveWidths width) (sym more) (All-push (λ (o : KeptActor). o.seen.width ≡ width) actors (kept_actor true s) is.widths (ap (λ (o : Spaces). o.width) s_is))),
    )

-- an actor less
pub join_keeps : (width : ℕ) (words : List (Vec ℕ Global)) (actors : List KeptActor) (now : World) (a : ℕ) (k : KeptActor) → IsWorld width words actors
    → world_of width words actors ≡ now → IsPass now a → k ≡ get_or actors a k
    → (world_of width words (set actors a (kept_actor false k.seen)) ≡ moved now (Join a)) × IsWorld width words (set actors a (kept_actor false k.seen))
join_keeps width words actors now a k is view_is pass k_is =
    let w = world_of width words actors in
    let here : IsPass w a = subst (λ (n : World). IsPass n a) (sym view_is) pass in
    let inside = kept_live actors a here.alive in
    let e = actor_kept width words actors a k inside k_is in
    let same : world_of width words (set actors a (kept_actor false k.seen)) ≡ moved w (Join a) =
    ap (λ (l : List Actor). with_actors w l) (map-set actor_in actors a (kept_actor false k.seen)
    ∙ ap (λ (o : Actor). set w.actors a (new_actor false o.seen)) (sym e)) in (
      same ∙ ap (λ (n : World). moved n (Join a)) view_is,
      is_world_after width words words actors (set actors a (kept_actor false k.seen)) (moved w (Join a)) is (λ h shaped of. (_, moved_keeps h w (Join a) shaped of here)) same refl
          (All-set (λ (o : KeptActor). o.seen.width ≡ width) actors a (kept_actor false k.seen)
          (ap (λ (o : KeptActor). o.seen.width) k_is ∙ is.widths a k inside) is.widths),
    )

-- the founder alone, and all words 0
pub new_is_world : (generations width : ℕ) (words : List (Vec ℕ Global)) (actors : List KeptActor) (s : Spaces) → 1 ≤ width → width ≤ 63 → generations < 2 ^ 32
    → words_in words ≡ replicate generations (replicate (width + 1) 0) → s ≡ new_spaces generations width → actors ≡ kept_actor true s ∷ []
    → (world_of width words actors ≡ new_world generations width) × IsWorld width words actors
new_is_world generations width words actors s some fits few words_are s_is actors_are =
    let items = λ (u : Vec ℕ Global). u.items in
    let same : world_of width words actors ≡ new_world generations width =
    λ i. record { width = width; words = words_are i; actors = (ap actors_in actors_are ∙ ap (λ (o : Spaces). new_actor true o.logs ∷ []) s_is) i } in
    let long : length words ≡ generations = sym (length-map words items) ∙ ap (λ (l : List (List ℕ)). length l) words_are ∙ length-replicate generations (replicate (width + 1) 0) in (
      same,
      record {
        some_width = some;
        few = subst (λ (n : ℕ). n < 2 ^ 32) (sym long) few;
        shaped = subst IsShaped (sym same) (begins_shaped generations width fits);
        reached = ([], subst (IsOf []) (sym same) (begins_is_of generations width));
        widths = subst (HaveWidths width) (sym actors_are) (λ j d h. alone width (kept_actor true s) (ap (λ (o : Spaces). o.width) s_is) j d h);
      },
    )
  where
    alone : (width : ℕ) (k : KeptActor) → k.seen.width ≡ width → HaveWidths width (k ∷ [])
    alone width k is zero d h = is
    alone width k is (suc j) d h = absurd (omega arith)

-- a place of a generation is one of its vector
pub place_is_there : (width : ℕ) (words : List (Vec ℕ Global)) (actors : List KeptActor) (now : World) (g place : ℕ) (v : Vec ℕ Global) → IsWorld width words actors
    → world_of width words actors ≡ now → g < length now.words → place ≤ now.width → v ≡ get_or words g v → place < length v.items
place_is_there width words actors now g place v is view_is inside fits v_is =
    let items = λ (u : Vec ℕ Global). u.items in
    let there : g < length (words_in words) = subst (λ (n : World). g < length n.words) (sym view_is) inside in
    let fits_there : place ≤ width = subst (λ (n : World). place ≤ n.width) (sym view_is) fits in
    let long : length (words_of (world_of width words actors) g) ≡ width + 1 = is.shaped.places g there in
    let mine : words_of (world_of width words actors) g ≡ v.items = get_or-map items words g v [] (subst (λ (n : ℕ). g < n) (length-map words items) there) ∙ ap items (sym v_is) in
    omega (arith, long, fits_there, ap (λ (l : List ℕ). length l) mine)
