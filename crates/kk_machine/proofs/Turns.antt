-- What one step on a word of a generation does to its log and to what is seen of it.
use Rattle.std.proofs.Common.{◌≡◌, ℕ, zero, suc, ◌^◌, ◌<◌, ◌≤◌, ◌≢◌, Bool, true, false, not, true≢false, if◌then◌else◌, List, [], ◌∷◌, ◌++◌, length, get_or, All, Some, None, sym, refl, ap, ◌∙◌, subst, arith, append-nil, append_assoc, ne_eqb, lt_of_lt_of_le, pow_mono}
use Rattle.kk_rows.specs.Span.{in_span}
use Rattle.kk_rows.proofs.Spans.{in_span-zero}
use Rattle.kk_rows.proofs.Independence.{independent-push}
use Rattle.kk_machine.specs.declared.log.TheConstants.{CLOSED}
use Rattle.kk_machine.specs.declared.log.Log.{Log}
use Rattle.kk_machine.specs.declared.call.Call.{Call}
use Rattle.kk_machine.specs.declared.call.Call.TheVariants.{Insert, Freeze, Peek}
use Rattle.kk_machine.specs.declared.call.Reply.{Reply}
use Rattle.kk_machine.specs.Spaces.{log, reply_to, log_after, IsInWidth}
use Rattle.kk_machine.specs.Steps.{mark, word_at, IsLog, Sees, sight_after, exchanged, changes, stored, decided, log_then}
use Rattle.kk_machine.proofs.Logs.{Found, a_row, the_mark, nothing, found, not_both}

-- the log before and after, what the stepper has seen before and after, and the place with its word after
pub record Turn (w : ℕ) (l l' s' : Log) (place word : ℕ) : Type 0 where
  pub is_log : IsLog w l'
  pub word_here : word_at l' place ≡ word
  pub word_else : (q : ℕ) → q ≢ place → word_at l' q ≡ word_at l q
  pub others : (o : Log) → Sees l o → Sees l' o
  pub mine : Sees l' s'

pub Sees-itself : (l : Log) → Sees l l
Sees-itself l = record { rest = []; begins = sym (append-nil l.rows); whole = λ _. refl }

same_turn : (w : ℕ) (l s' : Log) (place word : ℕ) → IsLog w l → word_at l place ≡ word → Sees l s' → Turn w l l s' place word
same_turn w l s' place word is here mine = record { is_log = is; word_here = here; word_else = λ q n. refl; others = λ o sees. sees; mine = mine }

word_after : (xs ys : List ℕ) (m : ℕ) → get_or (xs ++ m ∷ ys) (length xs) 0 ≡ m
word_after [] ys m = refl
word_after (x ∷ xs) ys m = word_after xs ys m

word_grown : (xs : List ℕ) (r q : ℕ) → q ≢ length xs → get_or ((xs ++ r ∷ []) ++ 0 ∷ []) q 0 ≡ get_or (xs ++ 0 ∷ []) q 0
word_grown [] r zero n = absurd (n refl)
word_grown [] r (suc zero) n = refl
word_grown [] r (suc (suc q)) n = refl
word_grown (x ∷ xs) r zero n = refl
word_grown (x ∷ xs) r (suc q) n = word_grown xs r q (λ e. n (ap suc e))

word_shut : (xs : List ℕ) (m q : ℕ) → q ≢ length xs → get_or (xs ++ m ∷ []) q 0 ≡ get_or (xs ++ 0 ∷ []) q 0
word_shut [] m zero n = absurd (n refl)
word_shut [] m (suc q) n = refl
word_shut (x ∷ xs) m zero n = refl
word_shut (x ∷ xs) m (suc q) n = word_shut xs m q (λ e. n (ap suc e))

-- who has seen an open log sees it when it grows or is closed
sees_more : (xs more : List ℕ) (c : Bool) (o : Log) → Sees (log xs false) o → Sees (log (xs ++ more) c) o
sees_more xs more c o sees = record {
  rest = sees.rest ++ more;
  begins = ap (λ ys. ys ++ more) sees.begins ∙ append_assoc o.rows sees.rest more;
  whole = λ shut. absurd (not_both shut (sym (ap (λ (x : Log). x.closed) (sees.whole shut))));
}

pub All-push : {A : Type 0} (P : A → Type 0) (xs : List A) (x : A) → All P xs → P x → All P (xs ++ x ∷ [])
All-push P [] x all here zero d h = here
All-push P [] x all here (suc k) d h = absurd (omega arith)
All-push P (y ∷ ys) x all here zero d h = all 0 d (omega arith)
All-push P (y ∷ ys) x all here (suc k) d h = All-push P ys x (λ j e g. all (suc j) e (omega arith)) here k d (omega arith)

grows : (w : ℕ) (xs : List ℕ) (r : ℕ) → IsLog w (log xs false) → r < 2 ^ w → in_span xs r ≡ false
    → Turn w (log xs false) (log (xs ++ r ∷ []) false) (log (xs ++ r ∷ []) false) (length xs) r
grows w xs r is below outside = record {
  is_log = record { below = All-push (λ x. x < 2 ^ w) xs r is.below below; independent = independent-push xs r is.independent outside };
  word_here = ap (λ ys. get_or ys (length xs) 0) (append_assoc xs (r ∷ []) (0 ∷ [])) ∙ word_after xs (0 ∷ []) r;
  word_else = λ q n. word_grown xs r q n;
  others = λ o sees. sees_more xs (r ∷ []) false o sees;
  mine = Sees-itself _;
}

shuts : (w : ℕ) (xs : List ℕ) → IsLog w (log xs false) → Turn w (log xs false) (log xs true) (log xs true) (length xs) CLOSED
shuts w xs is = record {
  is_log = record { below = is.below; independent = is.independent };
  word_here = word_after xs [] CLOSED;
  word_else = λ q n. word_shut xs CLOSED q n;
  others = λ o sees. subst (λ ys. Sees (log ys true) o) (append-nil xs) (sees_more xs [] true o sees);
  mine = Sees-itself _;
}

closed_stays : (xs : List ℕ) (call : Call) → log_after (log xs true) call ≡ log xs true
closed_stays xs (Insert g row) = refl
closed_stays xs (Freeze g) = refl
closed_stays xs (Peek g) = refl

pub outside_is_some : (rows : List ℕ) (r : ℕ) → in_span rows r ≡ false → 0 < r
outside_is_some rows zero e = absurd (not_both (in_span-zero rows) e)
outside_is_some rows (suc r) e = omega arith

none_some : {A : Type 0} {x : A} → None ≡ Some x → ⊥
none_some e = cc

some_same : {A : Type 0} {x y : A} → Some x ≡ Some y → x ≡ y
some_same e = cc

open_answer : (changing b : Bool) (s : Log) (call : Call) (r : Reply) → (if changing then Some (reply_to s call) else (if b then None else Some (reply_to s call))) ≡ Some r → r ≡ reply_to s call
open_answer true b s call r e = sym (some_same e)
open_answer false true s call r e = absurd (none_some e)
open_answer false false s call r e = sym (some_same e)

-- a row is neither of the marks
decided_row : (changing : Bool) (s : Log) (f : ℕ) (call : Call) → 0 < f → f < CLOSED → decided changing s f call ≡ None
decided_row changing s f call some less = rw (ne_eqb f CLOSED (λ e. omega arith), ne_eqb f 0 (λ e. omega arith)) refl

pub exchanged_row : (f new : ℕ) → 0 < f → exchanged f new ≡ f
exchanged_row f new some = rw (ne_eqb f 0 (λ e. omega arith)) refl

pub sight_row : (s : Log) (f : ℕ) → 0 < f → f < CLOSED → sight_after s f ≡ log (s.rows ++ f ∷ []) s.closed
sight_row s f some less = rw (ne_eqb f 0 (λ e. omega arith), ne_eqb f CLOSED (λ e. omega arith)) refl

abbrev pub seen_after : Bool → Log → ℕ → Call → Log
seen_after changing s f call = sight_after s (exchanged f (stored changing call))

-- the log after the step
abbrev pub log_left : Bool → Log → Log → ℕ → Call → Log
log_left changing l s f call = log_then l call (decided changing s f call)

-- the step keeps what it has to, at what it found
abbrev pub Turns : ℕ → Bool → Log → Log → Call → ℕ → Type 0
Turns w changing l s call f = Turn w l (log_left changing l s f call) (seen_after changing s f call) (length s.rows) (exchanged f (stored changing call))

turn_row : (w : ℕ) (changing : Bool) (l s : Log) (call : Call) (f : ℕ) → IsLog w l → word_at l (length s.rows) ≡ f
    → (rest : List ℕ) → l.rows ≡ s.rows ++ f ∷ rest → 0 < f → f < CLOSED → s.closed ≡ false → Turns w changing l s call f
turn_row w changing l s call f is here rest e some less unseen =
    rw (decided_row changing s f call some less, exchanged_row f (stored changing call) some, sight_row s f some less)
    (same_turn w l (log (s.rows ++ f ∷ []) s.closed) (length s.rows) f is here
    (record { rest = rest; begins = e ∙ sym (append_assoc s.rows (f ∷ []) rest); whole = λ seen. absurd (not_both seen unseen) }))

turn_mark : (w : ℕ) (changing : Bool) (rows : List ℕ) (c : Bool) (call : Call) → IsLog w (log rows true) → Turns w changing (log rows true) (log rows c) call CLOSED
turn_mark w changing rows c call is =
    subst (λ x. Turn w (log rows true) x (log rows true) (length rows) CLOSED) (sym (closed_stays rows call))
    (same_turn w (log rows true) (log rows true) (length rows) CLOSED is (word_after rows [] CLOSED) (Sees-itself _))

-- a load that finds 0
unchanged : (rows : List ℕ) (call : Call) → log_left false (log rows false) (log rows false) 0 call ≡ log rows false
unchanged rows (Insert g row) = at (in_span rows row.0) refl
  where
    at : (b : Bool) → in_span rows row.0 ≡ b → log_left false (log rows false) (log rows false) 0 (Insert g row) ≡ log rows false
    at true e = rw (e, e) refl
    at false e = rw e refl
unchanged rows (Freeze g) = refl
unchanged rows (Peek g) = refl

turn_load : (w : ℕ) (rows : List ℕ) (call : Call) → IsLog w (log rows false) → Turns w false (log rows false) (log rows false) call 0
turn_load w rows call is =
    subst (λ x. Turn w (log rows false) x (log rows false) (length rows) 0) (sym (unchanged rows call))
    (same_turn w (log rows false) (log rows false) (length rows) 0 is (word_after rows [] 0) (Sees-itself _))

pub not_true : (b : Bool) → not b ≡ true → b ≡ false
not_true true is = absurd (true≢false (sym is))
not_true false is = refl

turn_change : (w : ℕ) (rows : List ℕ) (call : Call) → w ≤ 63 → IsLog w (log rows false) → IsInWidth w call → changes (log rows false) call ≡ true → Turns w true (log rows false) (log rows false) call 0
turn_change w rows (Insert g row) fits is below change =
    let outside : in_span rows row.0 ≡ false = not_true (in_span rows row.0) change in
    let some : 0 < row.0 = outside_is_some rows row.0 outside in
    let less : row.0 < CLOSED = lt_of_lt_of_le below (pow_mono fits) in
    rw (outside, sight_row (log rows false) row.0 some less) (grows w rows row.0 is below outside)
turn_change w rows (Freeze g) fits is below change = shuts w rows is
turn_change w rows (Peek g) fits is below change = absurd (true≢false (sym change))

turn_open : (w : ℕ) (changing : Bool) (rows : List ℕ) (call : Call) → w ≤ 63 → IsLog w (log rows false) → IsInWidth w call
    → (changing ≡ true → changes (log rows false) call ≡ true)
    → Turns w changing (log rows false) (log rows false) call 0
turn_open w true rows call fits is below change = turn_change w rows call fits is below (change refl)
turn_open w false rows call fits is below change = turn_load w rows call is

turn_at : (w : ℕ) (changing : Bool) (l s : Log) (call : Call) (f : ℕ) → w ≤ 63 → IsLog w l → word_at l (length s.rows) ≡ f
    → IsInWidth w call → (changing ≡ true → changes s call ≡ true) → Found l s f → Turns w changing l s call f
turn_at w changing l s call f fits is here below change (a_row rest e some less unseen) = turn_row w changing l s call f is here rest e some less unseen
turn_at w changing l s call f fits is here below change (the_mark e m) =
    subst (λ (x : Log × ℕ). Turns w changing x.0 s call x.1) (λ i. (sym e i, sym m i)) (turn_mark w changing s.rows s.closed call (subst (IsLog w) e is))
turn_at w changing l s call f fits is here below change (nothing e unseen z) =
    let same : s ≡ log s.rows false = λ i. log s.rows (unseen i) in
    let all : l ≡ log s.rows false = e ∙ same in
    subst (λ (x : Log × (Log × ℕ)). Turns w changing x.0 x.1.0 call x.1.1) (λ i. (sym all i, (sym same i, sym z i)))
    (turn_open w changing s.rows call fits (subst (IsLog w) all is) below (λ c. subst (λ x. changes x call ≡ true) same (change c)))

pub turn : (w : ℕ) (changing : Bool) (l s : Log) (call : Call) → w ≤ 63 → IsLog w l → Sees l s
    → IsInWidth w call → (changing ≡ true → changes s call ≡ true) → Turns w changing l s call (word_at l (length s.rows))
turn w changing l s call fits is sees below change = turn_at w changing l s call (word_at l (length s.rows)) fits is refl below change (found w l s fits is sees)

-- a decided call is answered as one thread is
answer_at : (changing : Bool) (l s : Log) (call : Call) (f : ℕ) → Found l s f → (r : Reply) → decided changing s f call ≡ Some r → r ≡ reply_to l call
answer_at changing l s call f (a_row rest e some less unseen) r d = absurd (none_some (sym (decided_row changing s f call some less) ∙ d))
answer_at changing l s call f (the_mark e m) r d =
    let d' : Some (reply_to (log s.rows true) call) ≡ Some r = subst (λ x. decided changing s x call ≡ Some r) m d in
    sym (some_same d') ∙ ap (λ x. reply_to x call) (sym e)
answer_at changing l s call f (nothing e unseen z) r d =
    let d' : decided changing s 0 call ≡ Some r = subst (λ x. decided changing s x call ≡ Some r) z d in
    let same : s ≡ log s.rows false = λ i. log s.rows (unseen i) in
    open_answer changing (changes (log s.rows false) call) (log s.rows false) call r d' ∙ ap (λ x. reply_to x call) (sym (e ∙ same))

pub answer : (w : ℕ) (changing : Bool) (l s : Log) (call : Call) → w ≤ 63 → IsLog w l → Sees l s
    → (r : Reply) → decided changing s (word_at l (length s.rows)) call ≡ Some r → r ≡ reply_to l call
answer w changing l s call fits is sees r d = answer_at changing l s call (word_at l (length s.rows)) (found w l s fits is sees) r d

pub sight_other : (s : Log) (f : ℕ) → f ≢ 0 → f ≢ CLOSED → sight_after s f ≡ log (s.rows ++ f ∷ []) s.closed
sight_other s f some mark = rw (ne_eqb f 0 some, ne_eqb f CLOSED mark) refl

pub decided_other : (changing : Bool) (s : Log) (f : ℕ) (call : Call) → f ≢ 0 → f ≢ CLOSED → decided changing s f call ≡ None
decided_other changing s f call full mark = rw (ne_eqb f CLOSED mark, ne_eqb f 0 full) refl

pub exchanged_other : (f new : ℕ) → f ≢ 0 → exchanged f new ≡ f
exchanged_other f new full = rw (ne_eqb f 0 full) refl
