-- The founder gives passes and takes them back; the beginning and the end.
use Rattle.std.proofs.Common.{◌≡◌, ◌≢◌, ℕ, zero, suc, ◌+◌, ◌^◌, ◌<◌, ◌≤◌, Bool, true, false, List, [], ◌∷◌, ◌++◌, length, get_or, set, filter, cond, ◌==◌, replicate, Contains, sym, refl, ap, ◌∙◌, subst, inl, inr, ⊎_elim, true≢false, arith, length-set, length-append, eq-eqb, ne_eqb, append-nil}
use Rattle.std.proofs.lemmas.List.{length-replicate, set-get_or}
use Rattle.std.proofs.lemmas.List.Elements.{Contains-append_left, Contains-append_right, Contains-append_cases}
use mathlib.Core.Logic.{dite}
use mathlib.Core.Option.{some, some-injective, some-ne-none}
use native.Mathlib.Decide.{ℕ_discrete, dec_le}
use lib.ListN.{get_elem?}
use Rattle.atomic_table.specs.Table.{Me, keeps, Allows, Splits, Joins, opening, Final, Seen}
use Rattle.atomic_table.proofs.Lists.{at_set, set_else, set_here, set_again, at_longer}
use Rattle.kk_machine.specs.declared.call.Entry.{Entry}
use Rattle.kk_machine.specs.Steps.{word_at, Sees}
use Rattle.kk_machine.specs.History.{log_of, LegalAfter, own}
use Rattle.kk_machine.specs.Spaces.{unseen}
use Rattle.kk_table.specs.declared.view.Shape.{Shape}
use Rattle.kk_table.specs.declared.view.Known.{Known}
use Rattle.kk_table.specs.declared.view.View.{View}
use Rattle.kk_table.specs.declared.view.View.TheVariants.{Founder, Pass, Spent}
use Rattle.kk_table.specs.Places.{place_of}
use Rattle.kk_table.specs.Rule.{numbers_of, newcomer, founder_first, founder_after, given_by, founder_with, FitsKnown, FitsView, spent_as_one, count_spent, IsKept, Holds, IsCounted}
use Rattle.kk_table.specs.Logs.{IsHistoryOf}
use Rattle.kk_machine.specs.Inserts.{StandsBefore}
use Rattle.kk_machine.specs.Sights.{Seen as SightView}
use Rattle.kk_table.specs.Founder.{records_in, IsFounder}
use Rattle.kk_machine.proofs.Worlds.{sees_nothing, get_or-replicate_same, one_zero, nothing_is_independent}
use Rattle.kk_table.specs.Worlds.{IsReached}
use Rattle.kk_table.proofs.Tries.{not_spent, inside, one_view}
use Rattle.kk_table.proofs.Moves.{at_end, gifts_are_moves, returns_are_moves, reached_silently, reached_first}

is_founder : View → Bool
is_founder (Founder gens given records) = true
is_founder (Pass k) = false
is_founder Spent = false

founder_not_spent : (gens given : ℕ) (records : List Known) → Founder gens given records ≡ Spent → ⊥
unfolding is_founder
founder_not_spent gens given records e = true≢false (ap is_founder e)

-- the parts of a founder's view
given_of : View → ℕ
given_of (Founder gens given records) = given
given_of (Pass k) = 0
given_of Spent = 0

records_of : View → List Known
records_of (Founder gens given records) = records
records_of (Pass k) = []
records_of Spent = []

same_given : {a b c d : ℕ} {r q : List Known} → Founder a b r ≡ Founder c d q → b ≡ d
unfolding given_of
same_given e = ap given_of e

same_records : {a b c d : ℕ} {r q : List Known} → Founder a b r ≡ Founder c d q → r ≡ q
unfolding records_of
same_records e = ap records_of e

count-append : (views : List View) (v : View) → count_spent (views ++ v ∷ []) ≡ count_spent views + spent_as_one v
count-append [] v = omega arith
count-append (x ∷ xs) v = omega (arith, count-append xs v)

count-set : (views : List View) (n : ℕ) (v w : View) → get_elem? views n ≡ some v → count_spent (set views n w) + spent_as_one v ≡ count_spent views + spent_as_one w
count-set [] n v w at = absurd (some-ne-none v (sym at))
count-set (x ∷ xs) zero v w at = omega (arith, ap spent_as_one (some-injective x v at))
count-set (x ∷ xs) (suc n) v w at = omega (arith, count-set xs n v w at)

cons_not_nil : {A : Type 0} {x : A} {xs : List A} → x ∷ xs ≡ [] → ⊥
cons_not_nil {xs = xs} e = let n : suc (length xs) ≡ 0 = ap (λ (l : List _). length l) e in omega arith

own_none_before : (m n : ℕ) (h : List Entry) → own n h ≡ [] → StandsBefore m n h
unfolding own StandsBefore
own_none_before m n [] e = tt
own_none_before m n (x ∷ xs) e = dite (ℕ_discrete x.number n)
    (λ is. absurd (cons_not_nil (sym (ap (λ b. cond b (x ∷ filter (λ y. y.number == n) xs) (filter (λ y. y.number == n) xs)) (eq-eqb x.number n is)) ∙ e)))
    (λ ne. ((λ is. absurd (ne is)), own_none_before m n xs (sym (ap (λ b. cond b (x ∷ filter (λ y. y.number == n) xs) (filter (λ y. y.number == n) xs)) (ne_eqb x.number n ne)) ∙ e)))

contains_map : (records : List Known) (m : ℕ) → Contains (numbers_of records) m → (r : Known) × Contains records r × (r.number ≡ m)
contains_map [] m (k, h, e) = absurd (omega arith)
contains_map (x ∷ xs) m (zero, h, e) = (x, (zero, omega arith, refl), e)
contains_map (x ∷ xs) m (suc k, h, e) = let t = contains_map xs m (k, omega arith, e) in (t.0, (suc t.1.0, omega (arith, t.1.1), t.1.2), t.2)

map_contains : (records : List Known) (r : Known) → Contains records r → Contains (numbers_of records) r.number
map_contains [] r (k, h, e) = absurd (omega arith)
map_contains (x ∷ xs) r (zero, h, e) = (zero, omega arith, ap (λ (y : Known). y.number) e)
map_contains (x ∷ xs) r (suc k, h, e) = let t = map_contains xs r (k, omega arith, e) in (suc t.0, omega (arith, t.1), t.2)

-- who fits still does where no view that was spent is another
known_stays : (shape : Shape) (h : List Entry) (views views' : List View) (n : ℕ) (r : Known)
    → ((m : ℕ) → get_elem? views m ≡ some Spent → get_elem? views' m ≡ some Spent) → FitsKnown shape h views n r → FitsKnown shape h views' n r
known_stays shape h views views' n r spent fit = record {
  numbered = fit.numbered;
  calls = fit.calls;
  sights = fit.sights;
  seen = fit.seen;
  noted = λ m has. (spent m (fit.noted m has).0, (fit.noted m has).1);
}

view_stays : (shape : Shape) (h : List Entry) (views views' : List View) (records more : List Known) (n : ℕ) (v : View)
    → ((m : ℕ) → get_elem? views m ≡ some Spent → get_elem? views' m ≡ some Spent) → FitsView shape h views records n v → FitsView shape h views' (records ++ more) n v
view_stays shape h views views' records more n (Founder gens given records') spent fit = absurd fit
view_stays shape h views views' records more n (Pass k) spent fit = known_stays shape h views views' n k spent fit
view_stays shape h views views' records more n Spent spent fit =
    let t = contains_map records n fit in
    subst (Contains (numbers_of (records ++ more))) t.2 (map_contains (records ++ more) t.0 (Contains-append_left records more t.0 t.1))

founder_is_first : (shape : Shape) (h : List Entry) (given : ℕ) (records : List Known) (words : List ℕ) (views : List View) → IsKept shape h given records words views
    → (id gens given' : ℕ) (records' : List Known) → get_elem? views id ≡ some (Founder gens given' records') → id ≡ 0
founder_is_first shape h given records words views is zero gens given' records' at = refl
founder_is_first shape h given records words views is (suc n) gens given' records' at = absurd (is.passes n _ at)

gives_kept : (shape : Shape) (h : List Entry) (given : ℕ) (records : List Known) (words : List ℕ) (views : List View) → IsKept shape h given records words views
    → IsKept shape h (given + 1) records words (set views 0 (Founder shape.generations (given + 1) records) ++ Pass (newcomer shape.generations given records) ∷ [])
gives_kept shape h given records words views is =
    let left = Founder shape.generations (given + 1) records in
    let k = newcomer shape.generations given records in
    let set0 = set views 0 left in
    let views' = set0 ++ Pass k ∷ [] in
    let spent : (m : ℕ) → get_elem? views m ≡ some Spent → get_elem? views' m ≡ some Spent = λ m gone.
    at_longer set0 (Pass k ∷ []) m Spent (set_else views 0 m left (λ e. founder_not_spent _ _ _ (one_view views 0 _ Spent is.founder (subst (λ (x : ℕ). get_elem? views x ≡ some Spent) e gone))) ∙ gone) in
    let new : (m : ℕ) → suc m ≡ length views → FitsKnown shape h views' (suc m) k = λ m e. record {
      numbered = omega (arith, is.counted);
      calls = is.strangers (suc m) (inr (omega (arith, is.counted)));
      sights = length-replicate shape.generations unseen;
      seen = λ g near. subst (Sees (log_of g h)) (sym (get_or-replicate_same shape.generations g unseen)) (sees_nothing (log_of g h));
      noted = λ j has. let t = contains_map records j has in
          (spent j (subst (λ (x : ℕ). get_elem? views x ≡ some Spent) t.2 (is.recorded t.0 t.1).0), own_none_before j (suc m) h (is.strangers (suc m) (inr (omega (arith, is.counted)))));
    } in
    record {
      fits = is.fits;
      legal = is.legal;
      logs = is.logs;
      size = is.size;
      first = is.first;
      placed = is.placed;
      founder = at_longer set0 (Pass k ∷ []) 0 left (set_here views 0 left (omega (arith, is.counted)));
      counted = omega (arith, length-append set0 (Pass k ∷ []), length-set views 0 left, is.counted);
      spent = omega (arith, count-append set0 (Pass k), count-set views 0 _ left is.founder, is.spent);
      passes = λ m v e. ⊎_elim
          (λ old. subst (λ (rs : List Known). FitsView shape h views' rs (suc m) v) (append-nil records)
          (view_stays shape h views views' records [] (suc m) v spent (is.passes m v (sym (set_else views 0 (suc m) left (λ z. omega arith)) ∙ old))))
          (λ (t : (suc m ≡ length set0) × (Pass k ≡ v)). subst (FitsView shape h views' records (suc m)) t.1 (new m (t.0 ∙ length-set views 0 left)))
          (at_end set0 (Pass k) v (suc m) e);
      recorded = λ r has. let was = is.recorded r has in (spent r.number was.0, known_stays shape h views views' r.number r spent was.1);
      strangers = λ n far. is.strangers n (⊎_elim (λ z. inl z) (λ (l : given + 1 < n). inr (omega arith)) far);
    }

pub gives : {S : Type 0} (shape : Shape) (id gens given : ℕ) (records : List Known) → given + 1 < 2 ^ 32
    → Splits {S = S} (Holds shape) id (Founder gens given records) (Founder gens (given + 1) records) (Pass (newcomer gens given records))
gives {S} shape id gens given records few s (h, given', records', is, reached) at =
    let first = founder_is_first shape h given' records' s.words s.views is id gens given records at in
    let same : Founder shape.generations given' records' ≡ Founder gens given records = one_view s.views 0 _ _ is.founder (subst (λ (x : ℕ). get_elem? s.views x ≡ some (Founder gens given records)) first at) in (
      h,
      given' + 1,
      records',
      subst (λ (x : View). IsKept shape h (given' + 1) records' s.words (set s.views id (founder_after x) ++ given_by x ∷ [])) same
          (subst (λ (x : ℕ). IsKept shape h (given' + 1) records' s.words (set s.views x (Founder shape.generations (given' + 1) records') ++ Pass (newcomer shape.generations given' records') ∷ [])) (sym first)
          (gives_kept shape h given' records' s.words s.views is)),
      subst (λ (x : View). IsReached shape h s.words (set s.views id (founder_after x) ++ given_by x ∷ [])) same
          (subst (λ (x : ℕ). IsReached shape h s.words (set s.views x (Founder shape.generations (given' + 1) records') ++ Pass (newcomer shape.generations given' records') ∷ [])) (sym first)
          (reached_silently shape h s.words _ s.views _ _ reached
          (gifts_are_moves shape h given' records' s.words s.views _ is reached.world (subst (λ (x : ℕ). x + 1 < 2 ^ 32) (sym (same_given same)) few)))),
    )

alone : (k r : Known) → Contains (k ∷ []) r → k ≡ r
alone k r (zero, h, e) = e
alone k r (suc n, h, e) = absurd (omega arith)

takes_kept : (shape : Shape) (h : List Entry) (given : ℕ) (records : List Known) (words : List ℕ) (views : List View) → IsKept shape h given records words views
    → (other : ℕ) (k : Known) → other ≢ 0 → get_elem? views other ≡ some (Pass k)
    → IsKept shape h given (records ++ k ∷ []) words (set (set views 0 (Founder shape.generations given (records ++ k ∷ []))) other Spent)
takes_kept shape h given records words views is zero k ne at = absurd (ne refl)
takes_kept shape h given records words views is (suc n) k ne at =
    let other = suc n in
    let both = Founder shape.generations given (records ++ k ∷ []) in
    let set0 = set views 0 both in
    let views' = set set0 other Spent in
    let fit : FitsKnown shape h views other k = is.passes n (Pass k) at in
    let at0 : get_elem? set0 other ≡ some (Pass k) = set_else views 0 other both ne ∙ at in
    let spent : (m : ℕ) → get_elem? views m ≡ some Spent → get_elem? views' m ≡ some Spent = λ m gone.
    let not0 : m ≢ 0 = λ e. founder_not_spent _ _ _ (one_view views 0 _ Spent is.founder (subst (λ (x : ℕ). get_elem? views x ≡ some Spent) e gone)) in
    let not_it : m ≢ other = λ e. not_spent k (one_view views other (Pass k) Spent at (subst (λ (x : ℕ). get_elem? views x ≡ some Spent) e gone)) in
    set_else set0 other m Spent not_it ∙ (set_else views 0 m both not0 ∙ gone) in
    let last : Contains (records ++ k ∷ []) k = Contains-append_right records (k ∷ []) k (0, omega arith, refl) in
    let now_spent : get_elem? views' other ≡ some Spent = set_here set0 other Spent (inside set0 other (Pass k) at0) in
    record {
      fits = is.fits;
      legal = is.legal;
      logs = is.logs;
      size = is.size;
      first = is.first;
      placed = is.placed;
      founder = set_else set0 other 0 Spent (λ e. ne (sym e)) ∙ set_here views 0 both (omega (arith, is.counted));
      counted = length-set set0 other Spent ∙ length-set views 0 both ∙ is.counted;
      spent = omega (arith, count-set set0 other (Pass k) Spent at0, count-set views 0 _ both is.founder, is.spent, length-append records (k ∷ []));
      passes = λ m v e. ⊎_elim
          (λ (t : (suc m ≡ other) × (Spent ≡ v)). subst (λ (x : ℕ × View). FitsView shape h views' (records ++ k ∷ []) x.0 x.1) (λ j. (sym t.0 j, t.1 j))
          (subst (Contains (numbers_of (records ++ k ∷ []))) fit.numbered (map_contains (records ++ k ∷ []) k last)))
          (λ (t : (suc m ≢ other) × (get_elem? set0 (suc m) ≡ some v)).
          view_stays shape h views views' records (k ∷ []) (suc m) v spent (is.passes m v (sym (set_else views 0 (suc m) both (λ z. omega arith)) ∙ t.1)))
          (at_set set0 other (suc m) Spent v e);
      recorded = λ r has. ⊎_elim
          (λ old. let was = is.recorded r old in (spent r.number was.0, known_stays shape h views views' r.number r spent was.1))
          (λ it. let same : k ≡ r = alone k r it in
          subst (λ (x : Known). (get_elem? views' x.number ≡ some Spent) × FitsKnown shape h views' x.number x) same
          (subst (λ (x : ℕ). (get_elem? views' x ≡ some Spent) × FitsKnown shape h views' x k) (sym fit.numbered) (now_spent, known_stays shape h views views' other k spent fit)))
          (Contains-append_cases records (k ∷ []) r has);
      strangers = is.strangers;
    }

pub takes : {S : Type 0} (shape : Shape) (id gens given : ℕ) (records : List Known) (other : ℕ) (k : Known)
    → Joins {S = S} (Holds shape) id (Founder gens given records) other (Pass k) (Founder gens given (records ++ k ∷ [])) Spent
takes {S} shape id gens given records other k s (h, given', records', is, reached) at apart there =
    let first = founder_is_first shape h given' records' s.words s.views is id gens given records at in
    let same : Founder shape.generations given' records' ≡ Founder gens given records = one_view s.views 0 _ _ is.founder (subst (λ (x : ℕ). get_elem? s.views x ≡ some (Founder gens given records)) first at) in
    let at_other : get_elem? s.views other ≡ some (Pass k) = sym (set_else s.views id other (Founder gens given (records ++ k ∷ [])) apart) ∙ there in
    let ne : other ≢ 0 = λ e. apart (e ∙ sym first) in (
      h,
      given',
      records' ++ k ∷ [],
      subst (λ (x : View). IsKept shape h given' (records' ++ k ∷ []) s.words (set (set s.views id (founder_with x (Pass k))) other Spent)) same
          (subst (λ (x : ℕ). IsKept shape h given' (records' ++ k ∷ []) s.words (set (set s.views x (Founder shape.generations given' (records' ++ k ∷ []))) other Spent)) (sym first)
          (takes_kept shape h given' records' s.words s.views is other k ne at_other)),
      subst (λ (x : View). IsReached shape h s.words (set (set s.views id (founder_with x (Pass k))) other Spent)) same
          (subst (λ (x : ℕ). IsReached shape h s.words (set (set s.views x (Founder shape.generations given' (records' ++ k ∷ []))) other Spent)) (sym first)
          (reached_silently shape h s.words _ s.views _ _ reached (returns_are_moves shape h given' records' s.words s.views _ other k is reached.world at_other))),
    )

pub starts : (S : Type 0) (shape : Shape) (words : List ℕ) → shape.width ≤ 63 → words ≡ replicate (place_of shape.width shape.generations 0) 0
    → Holds {S = S} shape (opening words [] (founder_first shape))
unfolding log_of LegalAfter own
starts S shape words fits zeros = (
  [],
  0,
  [],
  record {
    fits = fits;
    legal = tt;
    logs = λ g near. record { below = λ k d h. absurd (omega arith); independent = nothing_is_independent };
    size = ap (λ (x : List ℕ). length x) zeros ∙ length-replicate (place_of shape.width shape.generations 0) 0;
    first = ap (λ (x : List ℕ). get_or x 0 0) zeros ∙ get_or-replicate_same (place_of shape.width shape.generations 0) 0 0;
    placed = λ g p near in_place. ap (λ (x : List ℕ). get_or x (place_of shape.width g p) 0) zeros ∙ get_or-replicate_same (place_of shape.width shape.generations 0) (place_of shape.width g p) 0 ∙ sym (one_zero p);
    founder = refl;
    counted = refl;
    spent = refl;
    passes = λ n v e. absurd (some-ne-none v (sym e));
    recorded = λ r (k, h, e). absurd (omega arith);
    strangers = λ n far. refl;
  },
  subst (λ (x : List ℕ). IsReached shape [] x (founder_first shape ∷ [])) (sym zeros) (reached_first shape),
)

spent-le : (views : List View) → count_spent views ≤ length views
spent-le [] = omega arith
spent-le (Founder gens given records ∷ xs) = omega (arith, spent-le xs)
spent-le (Pass k ∷ xs) = omega (arith, spent-le xs)
spent-le (Spent ∷ xs) = omega (arith, spent-le xs)

all_spent : (views : List View) → count_spent views ≡ length views → (n : ℕ) → n < length views → get_elem? views n ≡ some Spent
all_spent [] e n h = absurd (omega arith)
all_spent (Founder gens given records ∷ xs) e n h = absurd (omega (arith, spent-le xs))
all_spent (Pass k ∷ xs) e n h = absurd (omega (arith, spent-le xs))
all_spent (Spent ∷ xs) e zero h = refl
all_spent (Spent ∷ xs) e (suc n) h = all_spent xs (omega arith) n (omega arith)

others_spent : (views : List View) (gens given : ℕ) (records : List Known) → get_elem? views 0 ≡ some (Founder gens given records) → count_spent views + 1 ≡ length views
    → (n : ℕ) → suc n < length views → get_elem? views (suc n) ≡ some Spent
others_spent [] gens given records at e n h = absurd (omega arith)
others_spent (x ∷ xs) gens given records at e n h =
    let first : spent_as_one x ≡ 0 = ap spent_as_one (some-injective x _ at) in
    all_spent xs (omega arith) n (omega arith)

no_more : (views : List View) (gens given : ℕ) (records : List Known) → get_elem? views 0 ≡ some (Founder gens given records) → count_spent views + 1 ≤ length views
no_more [] gens given records at = absurd (some-ne-none _ (sym at))
no_more (x ∷ xs) gens given records at =
    let first : spent_as_one x ≡ 0 = ap spent_as_one (some-injective x _ at) in
    omega (arith, spent-le xs)

ends_kept : (shape : Shape) (h : List Entry) (given : ℕ) (records : List Known) (words : List ℕ) (views : List View) → IsKept shape h given records words views
    → IsReached shape h words views → given ≤ length records → IsHistoryOf shape records (λ g. log_of g h) h
ends_kept shape h given records words views is reached all = record {
  legal = is.legal;
  nobody_else = λ n out. nobody n out;
  calls = λ r has. (is.recorded r has).1.calls;
  logs_are = λ g near. refl;
  are_logs = is.logs;
  seen = λ r has. (is.recorded r has).1.seen;
  noted = λ r has m has_m. ((is.recorded r has).1.noted m has_m).1;
  by = reached.by;
}
  where
    nobody : (n : ℕ) → (Contains (numbers_of records) n → ⊥) → own n h ≡ []
    nobody zero out = is.strangers zero (inl refl)
    nobody (suc n) out = dite (dec_le (suc n) given)
        (λ le. absurd (out (is.passes n Spent (others_spent views _ _ _ is.founder (omega (arith, is.spent, is.counted, no_more views _ _ _ is.founder, all)) n (omega (arith, is.counted))))))
        (λ more. is.strangers (suc n) (inr (omega arith)))

-- the words at the end, the records of the founder, and a history
pub record IsEnd (shape : Shape) (records : List Known) (words : List ℕ) : Type 0 where
  pub history : List Entry
  pub is_history : IsHistoryOf shape records (λ g. log_of g history) history
  pub size : length words ≡ place_of shape.width shape.generations 0
  pub placed : (g p : ℕ) → g < shape.generations → p ≤ shape.width → get_or words (place_of shape.width g p) 0 ≡ word_at (log_of g history) p

pub ends : {S : Type 0} (shape : Shape) (id gens given : ℕ) (records : List Known) (words : List ℕ) (slots : List S)
    → Final (Seen (Holds shape) id (Founder gens given records)) words slots → given ≤ length records → IsEnd shape records words
ends {S} shape id gens given records words slots (s, ((h, given', records', is, reached), at), same_words, long, homes) all =
    let first = founder_is_first shape h given' records' s.words s.views is id gens given records at in
    let same : Founder shape.generations given' records' ≡ Founder gens given records = one_view s.views 0 _ _ is.founder (subst (λ (x : ℕ). get_elem? s.views x ≡ some (Founder gens given records)) first at) in
    let all' : given' ≤ length records' = subst (λ (x : ℕ × List Known). x.0 ≤ length x.1) (λ i. (sym (same_given same) i, sym (same_records same) i)) all in
    record {
      history = h;
      is_history = subst (λ (x : List Known). IsHistoryOf shape x (λ g. log_of g h) h) (same_records same) (ends_kept shape h given' records' s.words s.views is reached all');
      size = ap (λ (x : List ℕ). length x) (sym same_words) ∙ is.size;
      placed = λ g p near in_place. ap (λ (x : List ℕ). get_or x (place_of shape.width g p) 0) (sym same_words) ∙ is.placed g p near in_place;
    }

pub counts : {S : Type 0} (shape : Shape) (slots id gens given : ℕ) (records : List Known)
    → Allows {S = S} (Holds shape) slots id (Founder gens given records, []) 0 (λ n. n) (λ found after. (after ≡ (Founder gens given records, [])) × (length records ≤ given))
counts {S} shape slots id gens given records s (h, given', records', is, reached) long at small =
    let v = Founder gens given records in
    let first = founder_is_first shape h given' records' s.words s.views is id gens given records at in
    let same : Founder shape.generations given' records' ≡ v = one_view s.views 0 _ _ is.founder (subst (λ (x : ℕ). get_elem? s.views x ≡ some v) first at) in
    let few : length records' ≤ given' = omega (arith, no_more s.views _ _ _ is.founder, is.spent, is.counted) in
    let few' : length records ≤ given = subst (λ (x : ℕ × List Known). length x.1 ≤ x.0) (λ i. (same_given same i, same_records same i)) few in (
      v,
      keeps,
      tt,
      (
        h,
        given',
        records',
        subst (λ (x : List ℕ × List View). IsKept shape h given' records' x.0 x.1) (λ i. (sym (set-get_or s.words 0 0) i, sym (set_again s.views id v at) i)) is,
        subst (λ (x : List ℕ × List View). IsReached shape h x.0 x.1) (λ i. (sym (set-get_or s.words 0 0) i, sym (set_again s.views id v at) i)) reached,
      ),
      (refl, few'),
    )

-- the same at a view that is known
pub counts_as : (key : Shape) (slots id : ℕ) (me : Me (Unit {0}) View) (gens given : ℕ) (records : List Known) → me ≡ (Founder gens given records, [])
    → Allows (Holds key) slots id me 0 (λ n. n) (λ found after. (after ≡ me) × IsCounted me.0)
counts_as key slots id me gens given records e =
    subst (λ (m : Me (Unit {0}) View). Allows (Holds key) slots id m 0 (λ n. n) (λ found after. (after ≡ m) × IsCounted m.0)) (sym e) (counts {S = Unit {0}} key slots id gens given records)

pub gives_as : (key : Shape) (id : ℕ) (v : View) (gens given : ℕ) (records : List Known) → given + 1 < 2 ^ 32 → v ≡ Founder gens given records
    → Splits {S = Unit {0}} (Holds key) id v (founder_after v) (given_by v)
gives_as key id v gens given records few e =
    subst (λ (x : View). Splits {S = Unit {0}} (Holds key) id x (founder_after x) (given_by x)) (sym e) (gives {S = Unit {0}} key id gens given records few)

pub takes_as : (key : Shape) (id : ℕ) (v : View) (gens given : ℕ) (records : List Known) (other : ℕ) (w : View) (k : Known) → v ≡ Founder gens given records → w ≡ Pass k
    → Joins {S = Unit {0}} (Holds key) id v other w (founder_with v w) Spent
takes_as key id v gens given records other w k e f =
    subst (λ (x : View × View). Joins {S = Unit {0}} (Holds key) id x.0 other x.1 (founder_with x.0 x.1) Spent) (λ i. (sym e i, sym f i)) (takes {S = Unit {0}} key id gens given records other k)

pub after_join : (shape : Shape) (me pass_me me' : Me (Unit {0}) View) (passes given taken : ℕ) (spare : List (List SightView)) (k : Known) → IsFounder shape me passes given taken spare → pass_me ≡ (Pass k, [])
    → me' ≡ (founder_with me.0 pass_me.0, []) → me' ≡ (Founder shape.generations given (records_in me.0 ++ k ∷ []), [])
after_join shape me pass_me me' passes given taken spare k is pass e =
    e ∙ ap (λ (m : Me (Unit {0}) View). (founder_with m.0 pass_me.0, [])) is.knows ∙ ap (λ (m : Me (Unit {0}) View). (founder_with (Founder shape.generations given (records_in me.0)) m.0, [])) pass

pub founder_took : (shape : Shape) (me me' me'' : Me (Unit {0}) View) (passes given taken : ℕ) (spare : List (List SightView)) (k : Known) → IsFounder shape me passes given taken spare
    → me' ≡ (Founder shape.generations given (records_in me.0 ++ k ∷ []), []) → me'' ≡ me' → IsCounted me'.0 → IsFounder shape me'' passes given (taken + 1) spare
founder_took shape me me' me'' passes given taken spare k is e same counted =
    let e' : me'' ≡ (Founder shape.generations given (records_in me.0 ++ k ∷ []), []) = same ∙ e in
    let count : length (records_in me.0 ++ k ∷ []) ≤ given = subst (λ (m : Me (Unit {0}) View). IsCounted m.0) e counted in
    let more = length-append (records_in me.0) (k ∷ []) in
    subst (λ (m : Me (Unit {0}) View). IsFounder shape m passes given (taken + 1) spare) (sym e') (record {
      knows = refl;
      counted = omega (arith, more, is.counted);
      within = omega (arith, more, is.counted, count);
      few = is.few;
      spares = is.spares;
    })
