-- The order in the words, by what each step of its computation answers.
use Rattle.std.proofs.Common.{◌≡◌, Result, ◌∙◌, ℕ, ◌+◌, ◌≤◌, Bool, true, false, cond, not, ◌&&◌, ◌||◌, refl, sym, ap, arith, List, [], ◌∷◌, map, length, Option, Some, None, Ok, Err, option_map, nat_lt, subst, true≢false}
use Rattle.std.specs.Prelude.{IfSome, find, is_some, unwrap_or}
use Rattle.std.specs.Borrow.{Bor}
use Rattle.std.specs.List.{list_all, list_any}
use Rattle.std.specs.Option.{option_map_or}
use Rattle.std.proofs.lemmas.Bool.{leb-true, ltb-false}
use Rattle.std.proofs.lemmas.Option.{same_Some}
use Rattle.clap.specs.Walk.{Text}
use Rattle.kk_code.specs.Ticket.{TicketFields}
use Rattle.kk_code.specs.TicketText.{ticket_of}
use Rattle.kk_code.specs.declared.fault.TicketFault.{TicketFault}
use Rattle.kk_forms.specs.Form.{Form, is_sound as has_sound_words}
use Rattle.kk_forms.specs.Request.{Request, has_option, is_named, is_of_form, matches_by, request_by, request_from, under}
use Rattle.kk_forms.proofs.Matches.{find_seen}
use Rattle.kk_order.specs.declared.bound.TheConstants.{MAX_NAME_BYTES}
use Rattle.kk_order.specs.declared.bound.Bound.{Bound as CodeBound}
use Rattle.kk_order.specs.Seed.{seed_of}
use Rattle.kk_order.specs.Order.{AreKept, Bound, Cause, FitsLine, has_short_name, is_sound, IsKept, Order, OrderForm, Words, Ticket, first_broken, bound_of, first_cause, has_too_many, is_outside, lacks_seed, limit_of, order_found, order_of, order_under, order_unless, order_with, seed_name, ticket_text_in, number_of}

-- an order came of the words
abbrev is_ok : Result Order Cause → Bool
is_ok (Ok order) = true
is_ok (Err cause) = false

-- ---- what comes of the words

pub not_of_form : (form : OrderForm) (words : List Text) → request_by form.words words ≡ None → order_of form words ≡ Err Words
unfolding order_of
not_of_form form words none = ap (order_found form) none

pub of_form : (form : OrderForm) (words : List Text) (found : Request) → request_by form.words words ≡ Some found
    → order_of form words ≡ order_with form found (ticket_of (ticket_text_in form.ticket found.texts))
unfolding order_of
of_form form words found some = ap (order_found form) some

pub no_ticket : (form : OrderForm) (words : List Text) (found : Request) (fault : TicketFault) → request_by form.words words ≡ Some found
    → ticket_of (ticket_text_in form.ticket found.texts) ≡ Err fault → order_of form words ≡ Err (Ticket fault)
no_ticket form words found fault some wrong = of_form form words found some ∙ ap (order_with form found) wrong

pub by_broken : (form : OrderForm) (words : List Text) (found : Request) (t : TicketFields) (broken : Option Cause) → request_by form.words words ≡ Some found
    → ticket_of (ticket_text_in form.ticket found.texts) ≡ Ok t → broken ≡ first_broken form (order_under t found)
    → order_of form words ≡ order_unless (order_under t found) broken
by_broken form words found t broken some ticket is =
    of_form form words found some ∙ ap (order_with form found) ticket ∙ ap (order_unless (order_under t found)) (sym is)

-- the order that is made of what is found
pub order_made : (t : TicketFields) (found : Request) (seed : Option (List ℕ)) (order : Order)
    → order ≡ record { ticket = t; texts = found.texts; seed = seed; numbers = found.numbers } → seed ≡ seed_of (under found.options seed_name)
    → order ≡ order_under t found
order_made t found seed order is same =
    is ∙ ap (λ s. record { ticket = t; texts = found.texts; seed = s; numbers = found.numbers }) same

-- ---- what is broken first

-- a test of what is seen of the arguments
pub any_seen : {X Y : Type 0} (see : X → Y) (p : Y → Bool) (xs : List X) → list_any (λ x. p (see x)) xs ≡ list_any p (map see xs)
any_seen see p [] = refl
any_seen see p (x ∷ xs) = ap (λ b. p (see x) || b) (any_seen see p xs)

-- the first bound that is broken, by what is seen of the bounds
pub bound_seen : (order : Order) (bounds : List CodeBound) (found : Option (Bor CodeBound))
    → option_map (λ bound. bound.now) found ≡ find (λ bound. is_outside order (bound_of bound)) bounds
    → find (is_outside order) (map bound_of bounds) ≡ option_map (λ bound. bound_of bound.now) found
bound_seen order bounds found is = find_seen bound_of (is_outside order) bounds ∙ ap (option_map bound_of) (sym is) ∙ parts found
  where
    parts : (o : Option (Bor CodeBound)) → option_map bound_of (option_map (λ bound. bound.now) o) ≡ option_map (λ bound. bound_of bound.now) o
    parts None = refl
    parts (Some bound) = refl

pub first_is : (form : OrderForm) (order : Order) (lacks many : Bool) (broken : Option Bound)
    → lacks_seed form order ≡ lacks → find (is_outside order) form.bounds ≡ broken → has_too_many form.listeners order ≡ many
    → first_broken form order ≡ first_cause lacks broken many
unfolding first_broken
first_is form order lacks many broken a b c =
    ap (λ l. first_cause l (find (is_outside order) form.bounds) (has_too_many form.listeners order)) a
    ∙ ap (λ o. first_cause lacks o (has_too_many form.listeners order)) b ∙ ap (first_cause lacks broken) c

-- ---- an order that breaks nothing

-- nothing is told where there is a seed, no range is broken, and there are not too many addresses
nothing_told : (lacks many : Bool) (broken : Option Bound) → first_cause lacks broken many ≡ None → (lacks ≡ false) × ((broken ≡ None) × (many ≡ false))
nothing_told true many broken e = absurd (true≢false (ap is_some e))
nothing_told false many (Some bound) e = absurd (true≢false (ap is_some e))
nothing_told false true None e = absurd (true≢false (ap is_some e))
nothing_told false false None e = (refl, (refl, refl))

nothing_broken : (form : OrderForm) (order : Order) → first_broken form order ≡ None
    → (lacks_seed form order ≡ false) × ((find (is_outside order) form.bounds ≡ None) × (has_too_many form.listeners order ≡ false))
unfolding first_broken
nothing_broken form order none = nothing_told (lacks_seed form order) (has_too_many form.listeners order) (find (is_outside order) form.bounds) none

both_true : (a b : Bool) → (a && b) ≡ true → (a ≡ true) × (b ≡ true)
both_true true b e = (refl, e)
both_true false b e = absurd (true≢false (sym e))

both_false : (a b : Bool) → (a || b) ≡ false → (a ≡ false) × (b ≡ false)
both_false true b e = absurd (true≢false e)
both_false false b e = (refl, e)

within : (least most : ℕ) (number : Option ℕ) → option_map_or (λ n. nat_lt n least || nat_lt most n) number false ≡ false
    → IfSome number (λ n. (least ≤ n) × (n ≤ most))
within least most None e = record {}
within least most (Some n) e =
    let kept = both_false (nat_lt n least) (nat_lt most n) e in
    (omega (arith, ltb-false n least kept.0), omega (arith, ltb-false most n kept.1))

all_kept : (order : Order) (bounds : List Bound) → find (is_outside order) bounds ≡ None → AreKept order bounds
all_kept order [] e = record {}
all_kept order (bound ∷ others) e = go (is_outside order bound) refl (all_kept order others) e
  where
    go : (outside : Bool) → is_outside order bound ≡ outside → (find (is_outside order) others ≡ None → AreKept order others)
        → cond outside (Some bound) (find (is_outside order) others) ≡ None → IsKept order bound × AreKept order others
    go true is below e = absurd (true≢false (ap is_some e))
    go false is below e = (within bound.least (limit_of order.ticket bound.most) (under order.numbers bound.name) is, below e)

pub bounds_kept : (form : OrderForm) (order : Order) → first_broken form order ≡ None → AreKept order form.bounds
bounds_kept form order none = all_kept order form.bounds (nothing_broken form order none).1.0

few : (listeners : Option ℕ) (order : Order) → has_too_many listeners order ≡ false → IfSome listeners (λ n. length order.texts ≤ n + 1)
few None order e = record {}
few (Some n) order e = omega (arith, ltb-false (n + 1) (length order.texts) e)

pub listeners_kept : (form : OrderForm) (order : Order) → first_broken form order ≡ None → IfSome form.listeners (λ n. length order.texts ≤ n + 1)
listeners_kept form order none = few form.listeners order (nothing_broken form order none).1.1

there : (has is : Bool) → (has && not is) ≡ false → has ≡ true → is ≡ true
there true true e has = refl
there true false e has = absurd (true≢false e)
there false is e has = absurd (true≢false (sym has))

pub seed_kept : (form : OrderForm) (order : Order) → first_broken form order ≡ None → has_option form.words seed_name ≡ true → is_some order.seed ≡ true
seed_kept form order none has = there (has_option form.words seed_name) (is_some order.seed) (nothing_broken form order none).0 has

-- a number that an order has
pub number_is : (order : Order) (name : Text) (number : Option ℕ) (n : ℕ) → number ≡ under order.numbers name → number ≡ Some n → n ≡ number_of order name
number_is order name number n is some = sym (ap (λ m. unwrap_or m 0) (sym is ∙ some))

-- ---- a cause fits into a line of a report

short_found : (p : Bound → Bool) (bounds : List Bound) (bound : Bound) → list_all has_short_name bounds ≡ true → find p bounds ≡ Some bound
    → has_short_name bound ≡ true
short_found p [] bound short e = absurd (true≢false (sym (ap is_some e)))
short_found p (b ∷ others) bound short e = go (p b) (both_true _ _ short) (short_found p others bound) e
  where
    go : (passes : Bool) → (has_short_name b ≡ true) × (list_all has_short_name others ≡ true)
        → (list_all has_short_name others ≡ true → find p others ≡ Some bound → has_short_name bound ≡ true)
        → cond passes (Some b) (find p others) ≡ Some bound → has_short_name bound ≡ true
    go true short below e = ap has_short_name (sym (same_Some _ _ e)) ∙ short.0
    go false short below e = below short.1 e

pub sound_parts : (form : OrderForm) → is_sound form ≡ true → (has_sound_words form.words ≡ true) × (list_all has_short_name form.bounds ≡ true)
sound_parts form sound = both_true _ _ sound

cause_fits : (lacks many : Bool) (broken : Option Bound) (cause : Cause) → ((bound : Bound) → broken ≡ Some bound → has_short_name bound ≡ true)
    → first_cause lacks broken many ≡ Some cause → FitsLine cause
cause_fits true many broken cause short e = subst FitsLine (same_Some _ _ e) (record {})
cause_fits false many (Some bound) cause short e = subst FitsLine (same_Some _ _ e) (leb-true (length bound.name) MAX_NAME_BYTES (short bound refl))
cause_fits false true None cause short e = subst FitsLine (same_Some _ _ e) (record {})
cause_fits false false None cause short e = absurd (true≢false (sym (ap is_some e)))

pub broken_fits : (form : OrderForm) (order : Order) (cause : Cause) → is_sound form ≡ true → Some cause ≡ first_broken form order → FitsLine cause
unfolding first_broken
broken_fits form order cause sound e =
    cause_fits (lacks_seed form order) (has_too_many form.listeners order) (find (is_outside order) form.bounds) cause
    (λ bound. short_found (is_outside order) form.bounds bound (sound_parts form sound).1) (sym e)

-- ---- the first word

-- words that ask for something by a form begin with its name
pub found_named : (form : Form) (words : List Text) (found : Request) → request_by form words ≡ Some found → is_named form words ≡ true
unfolding is_of_form
found_named form words found some = (both_true (is_named form words) _ (go (is_of_form form words) some)).0
  where
    go : (of : Bool) → cond of (Some (request_from form (matches_by form words))) None ≡ Some found → of ≡ true
    go true e = refl
    go false e = absurd (true≢false (sym (ap is_some e)))

-- words that have an order are of its form
ordered_of_form : (form : OrderForm) (words : List Text) (order : Order) → order_of form words ≡ Ok order → is_of_form form.words words ≡ true
unfolding order_of
ordered_of_form form words order ordered = go (is_of_form form.words words) ordered
  where
    go : (of : Bool) → order_found form (cond of (Some (request_from form.words (matches_by form.words words))) None) ≡ Ok order → of ≡ true
    go true e = refl
    go false e = absurd (true≢false (sym (ap is_ok e)))

-- and begin with its name
pub ordered_named : (form : OrderForm) (words : List Text) (order : Order) → order_of form words ≡ Ok order → is_named form.words words ≡ true
unfolding is_of_form
ordered_named form words order ordered = (both_true (is_named form.words words) _ (ordered_of_form form words order ordered)).0
