-- Every list of moves.
use Rattle.std.proofs.Common.{◌≡◌, ◌≢◌, ℕ, zero, suc, ◌+◌, ◌^◌, All, ◌<◌, ◌≤◌, ◌⊎◌, inl, inr, ⊎_elim, ne_eqb, Bool, true, false, List, [], ◌∷◌, ◌++◌, length, get_or, set, take, replicate, sym, refl, ap, ◌∙◌, subst, true≢false, arith, append-nil, append_assoc, length-append, length-set, get_or-set_same, get_or-set_other}
use Rattle.std.proofs.lemmas.List.{take_more, length-replicate, get_or-replicate}
use mathlib.Core.Logic.{dite}
use native.Mathlib.Decide.{ℕ_discrete}
use Rattle.kk_rows.specs.Span.{IsIndependent, innovative_after}
use Rattle.kk_rows.proofs.Independence.{independent-front}
use Rattle.kk_rows.proofs.Dimensions.{dimension-le_width}
use Rattle.kk_machine.specs.declared.log.Log.{Log}
use Rattle.kk_machine.specs.declared.call.Call.{Call}
use Rattle.kk_machine.specs.declared.call.Call.TheVariants.{Insert, Freeze}
use Rattle.kk_machine.specs.declared.call.Entry.{Entry}
use Rattle.kk_machine.specs.declared.moves.Move.{Move}
use Rattle.kk_machine.specs.declared.moves.Move.TheVariants.{Look, Put, Shut, Split, Join}
use Rattle.kk_machine.specs.Spaces.{log, unseen, generation_of}
use Rattle.kk_machine.specs.Steps.{word_at, IsLog, Sees, sight_after, exchanged, stored}
use Rattle.kk_machine.specs.History.{log_of, LegalAfter, entries}
use Rattle.kk_machine.specs.World.{World, Actor, new_world, newcomer, nobody, actor, sight, words_of, word, next_word, tried, tried_reply, moved, decided_by, May, MayTry, run, history, AllMay, IsShaped, IsOf, StandsFrom}
use Rattle.kk_machine.specs.Laws.{EveryRunIsLegal}
use Rattle.kk_machine.proofs.Turns.{seen_after}
use Rattle.kk_machine.proofs.Advances.{advance}

-- as many rows as fit
pub length_log : (w : ℕ) (l : Log) → IsLog w l → length l.rows ≤ w
length_log w l is = subst (λ (n : ℕ). n ≤ w) is.independent (dimension-le_width w l.rows is.below)

pub length_sight : (w : ℕ) (l s : Log) → IsLog w l → Sees l s → length s.rows ≤ w
length_sight w l s is sees = omega (arith, length_log w l is, ap (λ (x : List ℕ). length x) sees.begins, length-append s.rows sees.rest)

pub live_is_there : (actors : List Actor) (a : ℕ) → (get_or actors a nobody).live ≡ true → a < length actors
live_is_there [] a e = absurd (true≢false (sym e))
live_is_there (x ∷ xs) zero e = omega arith
live_is_there (x ∷ xs) (suc a) e = omega (arith, live_is_there xs a e)

-- what the actor that tries is afterwards
abbrev after_trying : World → ℕ → Bool → Call → Actor
after_trying w a changing call =
    let g = generation_of call in
    record { live = true; seen = set (actor w a).seen g (seen_after changing (sight w a g) (next_word w a call) call) }

pub tried_actor : (w : World) (a : ℕ) (changing : Bool) (call : Call) → (actor w a).live ≡ true → actor (tried w a changing call) a ≡ after_trying w a changing call
unfolding tried
tried_actor w a changing call alive = get_or-set_same w.actors a (after_trying w a changing call) nobody (live_is_there w.actors a alive)

pub tried_actor_other : (w : World) (a : ℕ) (changing : Bool) (call : Call) (b : ℕ) → b ≢ a → actor (tried w a changing call) b ≡ actor w b
unfolding tried
tried_actor_other w a changing call b ne = get_or-set_other w.actors a b (after_trying w a changing call) nobody ne

pub tried_length : (w : World) (a : ℕ) (changing : Bool) (call : Call) → length (tried w a changing call).words ≡ length w.words
unfolding tried
tried_length w a changing call =
    let g = generation_of call in
    length-set w.words g (set (words_of w g) (length (sight w a g).rows) (exchanged (next_word w a call) (stored changing call)))

pub tried_width : (w : World) (a : ℕ) (changing : Bool) (call : Call) → (tried w a changing call).width ≡ w.width
unfolding tried
tried_width w a changing call = refl

pub tried_words : (w : World) (a : ℕ) (changing : Bool) (call : Call) → generation_of call < length w.words
    → words_of (tried w a changing call) (generation_of call) ≡ set (words_of w (generation_of call)) (length (sight w a (generation_of call)).rows) (exchanged (next_word w a call) (stored changing call))
unfolding tried
tried_words w a changing call inside =
    let g = generation_of call in
    get_or-set_same w.words g (set (words_of w g) (length (sight w a g).rows) (exchanged (next_word w a call) (stored changing call))) [] inside

pub tried_words_other : (w : World) (a : ℕ) (changing : Bool) (call : Call) (k : ℕ) → k ≢ generation_of call → words_of (tried w a changing call) k ≡ words_of w k
unfolding tried
tried_words_other w a changing call k ne =
    let g = generation_of call in
    get_or-set_other w.words g k (set (words_of w g) (length (sight w a g).rows) (exchanged (next_word w a call) (stored changing call))) [] ne

tried_shaped : (w : World) (a : ℕ) (changing : Bool) (call : Call) → IsShaped w → MayTry w a changing call → IsShaped (tried w a changing call)
tried_shaped w a changing call shaped may =
    let g = generation_of call in
    let p = length (sight w a g).rows in
    let now = exchanged (next_word w a call) (stored changing call) in
    let long = tried_length w a changing call in
    let wide : (tried w a changing call).width ≡ w.width = tried_width w a changing call in
    record {
      fits = subst (λ (n : ℕ). n ≤ 63) (sym wide) shaped.fits;
      places = λ k inside.
          let in_old : k < length w.words = subst (λ (n : ℕ). k < n) long inside in
          dite (ℕ_discrete k g)
          (λ e. subst (λ (j : ℕ). length (words_of (tried w a changing call) j) ≡ (tried w a changing call).width + 1) (sym e)
          (ap (λ (x : List ℕ). length x) (tried_words w a changing call may.generation) ∙ length-set (words_of w g) p now ∙ shaped.places g may.generation ∙ ap (λ (n : ℕ). n + 1) (sym wide)))
          (λ ne. ap (λ (x : List ℕ). length x) (tried_words_other w a changing call k ne) ∙ shaped.places k in_old ∙ ap (λ (n : ℕ). n + 1) (sym wide));
      sights = λ b alive. dite (ℕ_discrete b a)
          (λ e. subst (λ (c : ℕ). length (actor (tried w a changing call) c).seen ≡ length (tried w a changing call).words) (sym e)
          (ap (λ (x : Actor). length x.seen) (tried_actor w a changing call may.pass.alive)
          ∙ length-set (actor w a).seen g (seen_after changing (sight w a g) (next_word w a call) call) ∙ shaped.sights a may.pass.alive ∙ sym long))
          (λ ne. let same = tried_actor_other w a changing call b ne in
          ap (λ (x : Actor). length x.seen) same ∙ shaped.sights b (sym (ap (λ (x : Actor). x.live) same) ∙ alive) ∙ sym long);
    }

tried_is_of : (h : List Entry) (w : World) (a : ℕ) (changing : Bool) (call : Call) → IsShaped w → IsOf h w → MayTry w a changing call
    → IsOf (h ++ entries a call (tried_reply w a changing call)) (tried w a changing call)
tried_is_of h w a changing call shaped is may =
    let g = generation_of call in
    let s = sight w a g in
    let p = length s.rows in
    let f = next_word w a call in
    let now = exchanged f (stored changing call) in
    let later = tried w a changing call in
    let h' = h ++ entries a call (tried_reply w a changing call) in
    let long = tried_length w a changing call in
    let wide : later.width ≡ w.width = tried_width w a changing call in
    let log_g = is.logs g may.generation in
    let sees = is.seen a g may.pass.alive may.generation in
    let room : p ≤ w.width = length_sight w.width (log_of g h) s log_g sees in
    let step = advance w.width h a changing s call shaped.fits is.legal log_g sees may.row may.would_change f (is.words g p may.generation room) in
    let old : (k : ℕ) → k < length later.words → k < length w.words = λ k inside. subst (λ (n : ℕ). k < n) long inside in
    record {
      legal = step.legal;
      logs = λ k inside. subst (λ (n : ℕ). IsLog n (log_of k h')) (sym wide) (step.logs k (is.logs k (old k inside)));
      words = λ k q inside in_place.
          let in_old : q ≤ w.width = subst (λ (n : ℕ). q ≤ n) wide in_place in
          dite (ℕ_discrete k g)
          (λ e. subst (λ (j : ℕ). word later j q ≡ word_at (log_of j h') q) (sym e)
          (ap (λ (x : List ℕ). get_or x q 0) (tried_words w a changing call may.generation)
          ∙ dite (ℕ_discrete q p)
          (λ eq. subst (λ (x : ℕ). get_or (set (words_of w g) p now) x 0 ≡ word_at (log_of g h') x) (sym eq)
          (get_or-set_same (words_of w g) p now 0 (omega (arith, shaped.places g may.generation, room)) ∙ sym step.here))
          (λ ne. get_or-set_other (words_of w g) p q now 0 ne ∙ is.words g q may.generation in_old ∙ sym (step.elsewhere g q (λ _. ne)))))
          (λ ne. ap (λ (x : List ℕ). get_or x q 0) (tried_words_other w a changing call k ne) ∙ is.words k q (old k inside) in_old ∙ sym (step.elsewhere k q (λ e. absurd (ne e))));
      seen = λ b k alive inside. dite (ℕ_discrete b a)
          (λ e. subst (λ (c : ℕ). Sees (log_of k h') (sight later c k)) (sym e)
          (subst (λ (x : Actor). Sees (log_of k h') (get_or x.seen k unseen)) (sym (tried_actor w a changing call may.pass.alive))
          (dite (ℕ_discrete k g)
          (λ ek. subst (λ (j : ℕ). Sees (log_of j h') (get_or (set (actor w a).seen g (seen_after changing s f call)) j unseen)) (sym ek)
          (subst (Sees (log_of g h')) (sym (get_or-set_same (actor w a).seen g (seen_after changing s f call) unseen (subst (λ (n : ℕ). g < n) (sym (shaped.sights a may.pass.alive)) may.generation))) step.mine))
          (λ ne. subst (Sees (log_of k h')) (sym (get_or-set_other (actor w a).seen g k (seen_after changing s f call) unseen ne))
          (step.sees k (sight w a k) (is.seen a k may.pass.alive (old k inside)))))))
          (λ ne. let same = tried_actor_other w a changing call b ne in
          subst (λ (x : Actor). Sees (log_of k h') (get_or x.seen k unseen)) (sym same)
          (step.sees k (sight w b k) (is.seen b k (sym (ap (λ (x : Actor). x.live) same) ∙ alive) (old k inside))));
    }

-- what is seen of a log is a log
pub sight_is_log : (w : ℕ) (l s : Log) → IsLog w l → Sees l s → IsLog w s
sight_is_log w l s is sees = record {
  below = All-front (λ x. x < 2 ^ w) s.rows sees.rest (subst (All (λ x. x < 2 ^ w)) sees.begins is.below);
  independent = independent-front s.rows sees.rest (subst IsIndependent sees.begins is.independent);
}
  where
    All-front : (P : ℕ → Type 0) (xs ys : List ℕ) → All P (xs ++ ys) → All P xs
    All-front P [] ys all k d h = absurd (omega arith)
    All-front P (x ∷ xs) ys all zero d h = all 0 d (omega arith)
    All-front P (x ∷ xs) ys all (suc k) d h = All-front P xs ys (λ j e g. all (suc j) e (omega arith)) k d (omega arith)

-- what an actor has seen after it tried is a log
pub tried_sight_is_log : (h : List Entry) (w : World) (a : ℕ) (changing : Bool) (call : Call) → IsShaped w → IsOf h w → MayTry w a changing call
    → IsLog w.width (sight_after (sight w a (generation_of call)) (exchanged (next_word w a call) (stored changing call)))
tried_sight_is_log h w a changing call shaped is may =
    let g = generation_of call in
    let log_g = is.logs g may.generation in
    let sees = is.seen a g may.pass.alive may.generation in
    let room = length_sight w.width (log_of g h) (sight w a g) log_g sees in
    let step = advance w.width h a changing (sight w a g) call shaped.fits is.legal log_g sees may.row may.would_change (next_word w a call)
    (is.words g (length (sight w a g).rows) may.generation room) in
    sight_is_log w.width _ _ (step.logs g log_g) step.mine

exchanged_full : (f new : ℕ) → f ≢ 0 → exchanged f new ≡ f
exchanged_full f new some = rw (ne_eqb f 0 some) refl

pub sees_nothing : (l : Log) → Sees l unseen
sees_nothing l = record { rest = l.rows; begins = refl; whole = λ shut. absurd (true≢false (sym shut)) }

pub get_or-replicate_same : {A : Type 0} (n k : ℕ) (x : A) → get_or (replicate n x) k x ≡ x
get_or-replicate_same zero k x = refl
get_or-replicate_same (suc n) zero x = refl
get_or-replicate_same (suc n) (suc k) x = get_or-replicate_same n k x

one_more : (actors : List Actor) (new : Actor) (b : ℕ) → (get_or (actors ++ new ∷ []) b nobody).live ≡ true
    → (get_or (actors ++ new ∷ []) b nobody ≡ new) ⊎ (((get_or actors b nobody).live ≡ true) × ((get_or (actors ++ new ∷ []) b nobody).seen ≡ (get_or actors b nobody).seen))
one_more [] new zero alive = inl refl
one_more [] new (suc b) alive = inr (alive, refl)
one_more (x ∷ xs) new zero alive = inr (alive, refl)
one_more (x ∷ xs) new (suc b) alive = one_more xs new b alive

one_less : (actors : List Actor) (a : ℕ) (seen : List Log) (b : ℕ) → (get_or (set actors a (record { live = false; seen = seen })) b nobody).live ≡ true
    → ((get_or actors b nobody).live ≡ true) × ((get_or (set actors a (record { live = false; seen = seen })) b nobody).seen ≡ (get_or actors b nobody).seen)
one_less [] a seen b alive = (alive, refl)
one_less (x ∷ xs) zero seen zero alive = absurd (true≢false (sym alive))
one_less (x ∷ xs) zero seen (suc b) alive = (alive, refl)
one_less (x ∷ xs) (suc a) seen zero alive = (alive, refl)
one_less (x ∷ xs) (suc a) seen (suc b) alive = one_less xs a seen b alive

first_alone : (first : Actor) (a : ℕ) → (get_or (first ∷ []) a nobody).live ≡ true → get_or (first ∷ []) a nobody ≡ first
first_alone first zero alive = refl
first_alone first (suc a) alive = absurd (true≢false (sym alive))

pub one_zero : (q : ℕ) → ◌≡◌ {A = ℕ} (get_or (0 ∷ []) q 0) 0
one_zero zero = refl
one_zero (suc q) = refl

pub nothing_is_independent : IsIndependent []
unfolding innovative_after
nothing_is_independent = refl

tried_stands : (h : List Entry) (w : World) (a : ℕ) (changing : Bool) (call : Call) → IsShaped w → IsOf h w → MayTry w a changing call → StandsFrom w (tried w a changing call)
tried_stands h w a changing call shaped is may k q inside in_place some =
    let g = generation_of call in
    let p = length (sight w a g).rows in
    let f = next_word w a call in
    let now = exchanged f (stored changing call) in
    let room : p ≤ w.width = length_sight w.width (log_of g h) (sight w a g) (is.logs g may.generation) (is.seen a g may.pass.alive may.generation) in
    dite (ℕ_discrete k g)
    (λ e. subst (λ (j : ℕ). word w j q ≢ 0 → word (tried w a changing call) j q ≡ word w j q) (sym e)
    (λ full. ap (λ (x : List ℕ). get_or x q 0) (tried_words w a changing call may.generation)
    ∙ dite (ℕ_discrete q p)
    (λ eq. subst (λ (x : ℕ). word w g x ≢ 0 → get_or (set (words_of w g) p now) x 0 ≡ word w g x) (sym eq)
    (λ filled. get_or-set_same (words_of w g) p now 0 (omega (arith, shaped.places g may.generation, room)) ∙ exchanged_full f (stored changing call) filled) full)
    (λ ne. get_or-set_other (words_of w g) p q now 0 ne)) some)
    (λ ne. ap (λ (x : List ℕ). get_or x q 0) (tried_words_other w a changing call k ne))

-- what a move keeps
pub record Keeps (h : List Entry) (w : World) (h' : List Entry) (w' : World) : Type 0 where
  pub shaped : IsShaped w'
  pub is_of : IsOf h' w'
  pub stands : StandsFrom w w'
  pub long : length w'.words ≡ length w.words
  pub wide : w'.width ≡ w.width

pub tried_keeps : (h : List Entry) (w : World) (a : ℕ) (changing : Bool) (call : Call) → IsShaped w → IsOf h w → MayTry w a changing call
    → Keeps h w (h ++ entries a call (tried_reply w a changing call)) (tried w a changing call)
tried_keeps h w a changing call shaped is may = record {
  shaped = tried_shaped w a changing call shaped may;
  is_of = tried_is_of h w a changing call shaped is may;
  stands = tried_stands h w a changing call shaped is may;
  long = tried_length w a changing call;
  wide = tried_width w a changing call;
}

-- the actors change alone, and each live one is an old one with its sight, or has seen nothing
people_keep : (h : List Entry) (w : World) (actors : List Actor) → IsShaped w → IsOf h w
    → ((b : ℕ) → (get_or actors b nobody).live ≡ true → ((get_or actors b nobody) ≡ newcomer (length w.words)) ⊎ (((actor w b).live ≡ true) × ((get_or actors b nobody).seen ≡ (actor w b).seen)))
    → Keeps h w h (record { width = w.width; words = w.words; actors = actors })
people_keep h w actors shaped is each = record {
  shaped = record {
    fits = shaped.fits;
    places = shaped.places;
    sights = λ b alive. ⊎_elim
        (λ new. ap (λ (x : Actor). length x.seen) new ∙ length-replicate (length w.words) unseen)
        (λ old. ap (λ (x : List Log). length x) old.1 ∙ shaped.sights b old.0)
        (each b alive);
  };
  is_of = record {
    legal = is.legal;
    logs = is.logs;
    words = is.words;
    seen = λ b k alive inside. ⊎_elim
        (λ new. subst (Sees (log_of k h)) (sym (ap (λ (x : Actor). get_or x.seen k unseen) new ∙ get_or-replicate_same (length w.words) k unseen)) (sees_nothing (log_of k h)))
        (λ old. subst (λ x. Sees (log_of k h) (get_or x k unseen)) (sym old.1) (is.seen b k old.0 inside))
        (each b alive);
  };
  stands = λ k q inside in_place some. refl;
  long = refl;
  wide = refl;
}

pub moved_keeps : (h : List Entry) (w : World) (m : Move) → IsShaped w → IsOf h w → May w m → Keeps h w (h ++ decided_by w m) (moved w m)
moved_keeps h w (Look a call) shaped is may = tried_keeps h w a false call shaped is may
moved_keeps h w (Put a g row) shaped is may = tried_keeps h w a true (Insert g row) shaped is may
moved_keeps h w (Shut a g) shaped is may = tried_keeps h w a true (Freeze g) shaped is may
moved_keeps h w Split shaped is may =
    subst (λ (x : List Entry). Keeps h w x (moved w Split)) (sym (append-nil h))
    (people_keep h w (w.actors ++ newcomer (length w.words) ∷ []) shaped is (λ b alive. one_more w.actors (newcomer (length w.words)) b alive))
moved_keeps h w (Join a) shaped is may =
    subst (λ (x : List Entry). Keeps h w x (moved w (Join a))) (sym (append-nil h))
    (people_keep h w (set w.actors a (record { live = false; seen = (actor w a).seen })) shaped is (λ b alive. inr (one_less w.actors a (actor w a).seen b alive)))

stands_through : (w x y : World) → length x.words ≡ length w.words → x.width ≡ w.width → StandsFrom w x → StandsFrom x y → StandsFrom w y
stands_through w x y long wide first second k q inside in_place some =
    let same = first k q inside in_place some in
    second k q (subst (λ (n : ℕ). k < n) (sym long) inside) (subst (λ (n : ℕ). q ≤ n) (sym wide) in_place) (λ e. some (sym same ∙ e)) ∙ same

run_keeps : (h : List Entry) (w : World) (ms : List Move) → IsShaped w → IsOf h w → AllMay w ms → Keeps h w (h ++ history w ms) (run w ms)
unfolding run history AllMay
run_keeps h w [] shaped is may =
    subst (λ (x : List Entry). Keeps h w x w) (sym (append-nil h))
    (record { shaped = shaped; is_of = is; stands = λ k q inside in_place some. refl; long = refl; wide = refl })
run_keeps h w (m ∷ ms) shaped is may =
    let one = moved_keeps h w m shaped is may.0 in
    let more = run_keeps (h ++ decided_by w m) (moved w m) ms one.shaped one.is_of may.1 in
    subst (λ (x : List Entry). Keeps h w x (run (moved w m) ms)) (append_assoc h (decided_by w m) (history (moved w m) ms))
    (record {
      shaped = more.shaped;
      is_of = more.is_of;
      stands = stands_through w (moved w m) (run (moved w m) ms) one.long one.wide one.stands more.stands;
      long = more.long ∙ one.long;
      wide = more.wide ∙ one.wide;
    })

run-append : (w : World) (ms more : List Move) → run w (ms ++ more) ≡ run (run w ms) more
unfolding run
run-append w [] more = refl
run-append w (m ∷ ms) more = run-append (moved w m) ms more

may_first : (w : World) (ms more : List Move) → AllMay w (ms ++ more) → AllMay w ms
unfolding AllMay
may_first w [] more may = tt
may_first w (m ∷ ms) more may = (may.0, may_first (moved w m) ms more may.1)

may_then : (w : World) (ms more : List Move) → AllMay w (ms ++ more) → AllMay (run w ms) more
unfolding AllMay run
may_then w [] more may = may
may_then w (m ∷ ms) more may = may_then (moved w m) ms more may.1

pub AllMay-push : (w : World) (ms : List Move) (m : Move) → AllMay w ms → May (run w ms) m → AllMay w (ms ++ m ∷ [])
unfolding AllMay run
AllMay-push w [] m all may = (may, tt)
AllMay-push w (x ∷ xs) m all may = (all.0, AllMay-push (moved w x) xs m all.1 may)

pub run-push : (w : World) (ms : List Move) (m : Move) → run w (ms ++ m ∷ []) ≡ moved (run w ms) m
unfolding run
run-push w ms m = run-append w ms (m ∷ [])

pub history-push : (w : World) (ms : List Move) (m : Move) → history w (ms ++ m ∷ []) ≡ history w ms ++ decided_by (run w ms) m
unfolding history run
history-push w [] m = append-nil (decided_by w m)
history-push w (x ∷ xs) m = ap (λ (l : List Entry). decided_by w x ++ l) (history-push (moved w x) xs m) ∙ sym (append_assoc (decided_by w x) (history (moved w x) xs) (decided_by (run (moved w x) xs) m))

-- one move more of a list
pub run-take_more : (w : World) (ms : List Move) (i : ℕ) (d : Move) (now : World) → i < length ms → (now ≡ run w (take i ms)) × AllMay w (take i ms)
    → May now (get_or ms i d) → (moved now (get_or ms i d) ≡ run w (take (i + 1) ms)) × AllMay w (take (i + 1) ms)
run-take_more w ms i d now inside so_far may =
    subst (λ (l : List Move). (moved now (get_or ms i d) ≡ run w l) × AllMay w l) (sym (take_more ms i d inside)) (
      ap (λ (v : World). moved v (get_or ms i d)) so_far.0 ∙ sym (run-push w (take i ms) (get_or ms i d)),
      AllMay-push w (take i ms) (get_or ms i d) so_far.1 (subst (λ (v : World). May v (get_or ms i d)) so_far.0 may),
    )

-- a move leaves the width and the number of generations
pub moved_size : (w : World) (m : Move) → ((moved w m).width ≡ w.width) × (length (moved w m).words ≡ length w.words)
moved_size w (Look a call) = (tried_width w a false call, tried_length w a false call)
moved_size w (Put a g row) = (tried_width w a true (Insert g row), tried_length w a true (Insert g row))
moved_size w (Shut a g) = (tried_width w a true (Freeze g), tried_length w a true (Freeze g))
moved_size w Split = (refl, refl)
moved_size w (Join a) = (refl, refl)

pub begins_shaped : (generations width : ℕ) → width ≤ 63 → IsShaped (new_world generations width)
begins_shaped generations width fits = record {
  fits = fits;
  places = λ g inside. ap (λ (x : List ℕ). length x) (get_or-replicate generations g (replicate (width + 1) 0) [] (subst (λ (n : ℕ). g < n) (length-replicate generations (replicate (width + 1) 0)) inside)) ∙ length-replicate (width + 1) 0;
  sights = λ a alive. ap (λ (x : Actor). length x.seen) (first_alone (newcomer generations) a alive) ∙ length-replicate generations unseen ∙ sym (length-replicate generations (replicate (width + 1) 0));
}

pub begins_is_of : (generations width : ℕ) → IsOf [] (new_world generations width)
unfolding log_of LegalAfter
begins_is_of generations width = record {
  legal = tt;
  logs = λ g inside. record { below = λ k d h. absurd (omega arith); independent = nothing_is_independent };
  words = λ g q inside in_place. ap (λ (x : List ℕ). get_or x q 0) (get_or-replicate generations g (replicate (width + 1) 0) [] (subst (λ (n : ℕ). g < n) (length-replicate generations (replicate (width + 1) 0)) inside)) ∙ get_or-replicate_same (width + 1) q 0 ∙ sym (one_zero q);
  seen = λ a g alive inside. subst (Sees (log [] false)) (sym (ap (λ (x : Actor). get_or x.seen g unseen) (first_alone (newcomer generations) a alive) ∙ get_or-replicate_same generations g unseen)) (sees_nothing (log [] false));
}

pub every_run_is_legal : EveryRunIsLegal
every_run_is_legal generations width ms more some fits may =
    let w = new_world generations width in
    let one = run_keeps [] w ms (begins_shaped generations width fits) (begins_is_of generations width) (may_first w ms more may) in
    let two = run_keeps (history w ms) (run w ms) more one.shaped one.is_of (may_then w ms more may) in
    (one.is_of, subst (StandsFrom (run w ms)) (sym (run-append w ms more)) two.stands)
