-- The rules of a sound form, one argument after the other: clap's command of the form is simple, it takes the words in which
-- it finds no fault, and what is required of it was given.
use Rattle.std.proofs.Common.{◌≡◌, ◌∙◌, ℕ, ◌+◌, ◌<◌, ◌≤◌, Bool, true, false, not, cond, ◌&&◌, ◌||◌, refl, sym, ap, ap₂, subst, arith, List, [], ◌∷◌, map, length, Option, Some, None, true≢false, eq-eqb}
use Rattle.std.specs.Prelude.{count_by, is_some}
use Rattle.std.specs.List.{list_all, list_any}
use Rattle.std.specs.Str.{bytes_eq}
use Rattle.std.proofs.lemmas.Bool.{ltb-true, or_from, or_left, or_parts, or_right}
use Rattle.std.proofs.lemmas.List.Sums.{sum_by-cons}
use Rattle.std.proofs.lemmas.Slice.Eq.{bytes_eq-Decides}
use Rattle.clap.specs.Lexer.{usize_max}
use Rattle.clap.specs.Walk.{Row, Rule, Text, is_early_multiple, nothing_held, walk, walk_from}
use Rattle.clap.specs.Simple.{App, argument_words, built, entered, filled, filled_from, index_after, is_simple, matches_of, with_index}
use Rattle.clap.specs.Takes.{built_takes, default_passes, entered_passes, is_given, level_passes, settle_passes, takes, walk_passes}
use Rattle.clap.specs.Faults.{fault_of, is_simple_and_free}
use Rattle.clap.proofs.FaultLemmas.{leaf_fault}
use Rattle.clap.proofs.TakesLemmas.{leaf_takes}
use Rattle.clap.proofs.WalkLemmas.{both}
use Rattle.kk_forms.specs.Form.{Argument, Word, Words, TextOption, NumberOption, NumberWord, Form, app_of_form, has_many_last, has_own_names, is_called, is_many, is_positional, is_sound, name_of, rule_of_argument}
use Rattle.kk_forms.proofs.Given.{and, filled as filled_rows, level_filled, wants_value}
use Rattle.kk_forms.proofs.Taken.{level_taken}

-- ---- facts of each rule

-- a rule as clap fills it in, where it stands at place i if it stands at one
abbrev built_rule : ℕ → Argument → Rule
built_rule i a = with_index i (filled (rule_of_argument a))

-- what holds of the rule of each argument
each_rule : (p : Rule → Bool) → ((a : Argument) (i : ℕ) → p (built_rule i a) ≡ true) → (i : ℕ) (args : List Argument)
    → list_all p (filled_from i (map rule_of_argument args)) ≡ true
each_rule p one i [] = refl
each_rule p one i (a ∷ args) = and _ _ (one a i) (each_rule p one (index_after i (rule_of_argument a)) args)

simple_rule : (a : Argument) → (rule_of_argument a).is_simple ≡ true
simple_rule (Word name) = refl
simple_rule other = refl

simple_rules : (args : List Argument) → list_all (λ r. r.is_simple) (map rule_of_argument args) ≡ true
simple_rules [] = refl
simple_rules (a ∷ args) = and _ _ (simple_rule a) (simple_rules args)

simple_built : (a : Argument) (i : ℕ) → (built_rule i a).is_simple ≡ true
simple_built (Word name) i = refl
simple_built other i = refl

free_built : (a : Argument) (i : ℕ) → (built_rule i a).is_free ≡ true
free_built (Word name) i = refl
free_built other i = refl

default_built : (a : Argument) (i : ℕ) → default_passes (built_rule i a) ≡ true
default_built (Word name) i = refl
default_built other i = refl

-- ---- only the last word may be several

-- what counts one
abbrev pub one : Bool → ℕ
one b = cond b 1 0

index_built : (a : Argument) (i : ℕ) → is_some (built_rule i a).index ≡ is_positional a
index_built (Word name) i = refl
index_built other i = refl

next_index : (a : Argument) (i : ℕ) → i < usize_max → index_after i (rule_of_argument a) ≡ i + one (is_positional a)
next_index (Word name) i below = omega (arith, below)
next_index (Words name) i below = omega (arith, below)
next_index (NumberWord name) i below = omega (arith, below)
next_index (TextOption name) i below = omega arith
next_index (NumberOption name default) i below = omega arith

counted : (i : ℕ) (args : List Argument) → count_by (λ r. is_some r.index) (filled_from i (map rule_of_argument args)) ≡ count_by is_positional args
counted i [] = refl
counted i (a ∷ args) =
    let rest = filled_from (index_after i (rule_of_argument a)) (map rule_of_argument args) in
    sum_by-cons (λ (r : Rule). one (is_some r.index)) (built_rule i a) rest
    ∙ ap₂ (λ m n. m + n) (ap one (index_built a i)) (counted (index_after i (rule_of_argument a)) args)
    ∙ sym (sum_by-cons (λ a. one (is_positional a)) a args)

none_counted : (args : List Argument) → list_any is_positional args ≡ false → count_by is_positional args ≡ 0
none_counted [] e = refl
none_counted (a ∷ args) e =
    let p = or_parts (is_positional a) (list_any is_positional args) e in
    sum_by-cons (λ a. one (is_positional a)) a args ∙ ap₂ (λ m n. m + n) (ap one p.0) (none_counted args p.1)

-- words that may be several are the last that clap counts
last_counted : (n i : ℕ) (a : Argument) (args : List Argument) → (not (is_many a) || not (list_any is_positional args)) ≡ true
    → i + (one (is_positional a) + count_by is_positional args) ≡ n + 1 → is_many a ≡ true → n ≡ i
last_counted n i (Words name) args alone count many = go (list_any is_positional args) refl alone
  where
    go : (b : Bool) → list_any is_positional args ≡ b → (not true || not b) ≡ true → n ≡ i
    go true is e = absurd (true≢false (sym e))
    go false is e = omega (arith, count, none_counted args is)
last_counted n i (Word name) args alone count many = absurd (true≢false (sym many))
last_counted n i other args alone count many = absurd (true≢false (sym many))

not_early : (n i : ℕ) (a : Argument) → (is_many a ≡ true → n ≡ i) → is_early_multiple n (built_rule i a) ≡ false
not_early n i (Words name) last = ap not (eq-eqb n i (last refl))
not_early n i (Word name) last = refl
not_early n i other last = refl

none_early : (n i : ℕ) (args : List Argument) → has_many_last args ≡ true → i + count_by is_positional args ≡ n + 1 → i + length args ≤ usize_max
    → list_any (is_early_multiple n) (filled_from i (map rule_of_argument args)) ≡ false
none_early n i [] last count below = refl
none_early n i (a ∷ args) last count below =
    let p = both (not (is_many a) || not (list_any is_positional args)) _ last in
    let step : index_after i (rule_of_argument a) ≡ i + one (is_positional a) = next_index a i (omega (arith, below)) in
    let most : one (is_positional a) ≤ 1 = at_most_one (is_positional a) in
    let sum = sum_by-cons (λ a. one (is_positional a)) a args in
    let all : i + (one (is_positional a) + count_by is_positional args) ≡ n + 1 = sym (ap (λ k. i + k) sum) ∙ count in
    or_from _ _ (not_early n i a (last_counted n i a args p.0 all))
    (none_early n (index_after i (rule_of_argument a)) args p.1 (omega (arith, step, all)) (omega (arith, step, most, below)))
  where
    at_most_one : (b : Bool) → one b ≤ 1
    at_most_one true = omega arith
    at_most_one false = omega arith

-- ---- clap's command of a sound form

module _ (form : Form) (sound : is_sound form ≡ true) where
  in_order : list_any (is_early_multiple (count_by (λ r. is_some r.index) (filled_from 1 (map rule_of_argument form.arguments)))) (filled_from 1 (map rule_of_argument form.arguments)) ≡ false
  in_order =
      let others = both (has_many_last form.arguments) _ (both (has_own_names form.arguments) _ sound).1 in
      let below : length form.arguments < usize_max = ltb-true (length form.arguments) usize_max others.1 in
      let count = counted 1 form.arguments in
      none_early _ 1 form.arguments others.0 (omega (arith, count)) (omega (arith, below))

  pub simple : is_simple (app_of_form form) ≡ true
  simple =
      let rules = simple_rules form.arguments in
      let ready = each_rule (λ r. r.is_simple) simple_built 1 form.arguments in
      and _ _ (and _ _ rules refl) (and _ _ (and _ _ ready (ap not in_order)) refl)

  pub simple_and_free : is_simple_and_free (app_of_form form) ≡ true
  simple_and_free = and _ _ simple (and _ _ (each_rule (λ r. r.is_free) free_built 1 form.arguments) refl)

  -- where clap finds no fault in the words, it takes them
  pub taken : (words : List Text) → fault_of (app_of_form form) words ≡ [] → takes (app_of_form form) words ≡ true
  taken words e =
      let a = app_of_form form in
      let level = sym (leaf_fault (built a) nothing_held (argument_words a words) refl) ∙ e in
      and _ _ simple (leaf_takes (built a) nothing_held (argument_words a words) refl
      (level_taken form.name (map rule_of_argument form.arguments) (argument_words a words)
      (each_rule (λ r. r.is_free) free_built 1 form.arguments) (each_rule default_passes default_built 1 form.arguments) level))

-- ---- what is required

-- an argument that may not be left out
abbrev pub is_required : Argument → Bool
is_required (NumberOption name default) = false
is_required other = true

required_rule : (a : Argument) (i : ℕ) → (built_rule i a).required ≡ is_required a
required_rule (Word name) i = refl
required_rule other i = refl

id_rule : (a : Argument) (i : ℕ) → (built_rule i a).id ≡ name_of a
id_rule (Word name) i = refl
id_rule other i = refl

-- each argument that is required was given
abbrev pub has_required : List Row → List Argument → Bool
has_required rows args = list_all (λ a. not (is_required a) || is_given (name_of a) rows) args

required_rules : (rows : List Row) (i : ℕ) (args : List Argument)
    → list_all (λ r. not r.required || is_given r.id rows) (filled_from i (map rule_of_argument args)) ≡ true → has_required rows args ≡ true
required_rules rows i [] e = refl
required_rules rows i (a ∷ args) e =
    let r = built_rule i a in
    let p = both (not r.required || is_given r.id rows) _ e in
    let here : (not (is_required a) || is_given (name_of a) rows) ≡ true =
    sym (ap (λ b. not b || is_given r.id rows) (required_rule a i) ∙ ap (λ id. not (is_required a) || is_given id rows) (id_rule a i)) ∙ p.0 in
    and _ _ here (required_rules rows (index_after i (rule_of_argument a)) args p.1)

-- a command with no subcommand takes no more than its own level
leaf_level : (a : App) (words : List Text) → a.subs ≡ [] → built_takes a nothing_held words ≡ true → level_passes a.top [] nothing_held words false ≡ true
leaf_level a words none e = go (walk a.top.rules [] nothing_held words).stopped (sym (ap (λ subs. built_takes (record a { subs = subs }) nothing_held words) none) ∙ e)
  where
    go : (stop : Option (Text × List Text))
        → (entered_passes (record a { subs = [] }) stop && level_passes a.top [] nothing_held words (is_some (entered (record a { subs = [] }) stop))) ≡ true
        → level_passes a.top [] nothing_held words false ≡ true
    go None e = e
    go (Some p) e = e

module _ (form : Form) (words : List Text) (taken : takes (app_of_form form) words ≡ true) where
  level : level_passes (built (app_of_form form)).top [] nothing_held (argument_words (app_of_form form) words) false ≡ true
  level =
      let a = app_of_form form in
      leaf_level (built a) (argument_words a words) refl (both (is_simple a) _ taken).1

  -- each argument that is required was given
  pub taken_required : has_required (matches_of (app_of_form form) words) form.arguments ≡ true
  taken_required =
      let s = (built (app_of_form form)).top in
      let given = argument_words (app_of_form form) words in
      let end = (walk s.rules [] nothing_held given).held in
      let p = both (walk_passes s [] (walk_from nothing_held) given) _ level in
      let q = both (settle_passes s.rules s.args_override_self end) _ p.1 in
      let r = both (list_all default_passes s.rules) _ q.1 in
      required_rules (matches_of (app_of_form form) words) 1 form.arguments (both (list_all (λ a. a.is_free) s.rules) _ r.1).1

  -- each row of the matches has a value, and numbers where it is one of a number
  pub taken_filled : (q : Text → Bool) → list_all (wants_value q) (filled_from 1 (map rule_of_argument form.arguments)) ≡ true
      → filled_rows q (matches_of (app_of_form form) words) ≡ true
  taken_filled q wants = level_filled q (built (app_of_form form)).top (argument_words (app_of_form form) words) wants level

-- ---- which values are numbers

abbrev is_number : Argument → Bool
is_number (NumberOption name default) = true
is_number (NumberWord name) = true
is_number other = false

-- the argument is a word of this name that is a number
abbrev pub is_number_word : Text → Argument → Bool
is_number_word name (NumberWord other) = bytes_eq other name
is_number_word name other = false

want_one : (q : Text → Bool) (a : Argument) (i : ℕ) → (not (q (name_of a)) || is_number a) ≡ true → wants_value q (built_rule i a) ≡ true
want_one q (Word name) i e = e
want_one q other i e = e

wants_each : (q : Text → Bool) (i : ℕ) (args : List Argument) → list_all (λ a. not (q (name_of a)) || is_number a) args ≡ true
    → list_all (wants_value q) (filled_from i (map rule_of_argument args)) ≡ true
wants_each q i [] e = refl
wants_each q i (a ∷ args) e =
    let p = both (not (q (name_of a)) || is_number a) _ e in
    and _ _ (want_one q a i p.0) (wants_each q (index_after i (rule_of_argument a)) args p.1)

abbrev pub no_numbers : Text → Bool
no_numbers id = false

pub wants_texts : (args : List Argument) → list_all (wants_value no_numbers) (filled_from 1 (map rule_of_argument args)) ≡ true
wants_texts args = wants_each no_numbers 1 args (each args)
  where
    each : (args : List Argument) → list_all (λ a. not (no_numbers (name_of a)) || is_number a) args ≡ true
    each [] = refl
    each (a ∷ args) = each args

-- only numbers have this name
abbrev only_numbers : Text → List Argument → Bool
only_numbers name args = list_all (λ a. not (is_called name a) || is_number a) args

none_called : (name : Text) (args : List Argument) → list_any (is_called name) args ≡ false → only_numbers name args ≡ true
none_called name [] e = refl
none_called name (a ∷ args) e =
    let p = or_parts (is_called name a) (list_any (is_called name) args) e in
    and _ _ (or_left _ _ (ap not p.0)) (none_called name args p.1)

any_weaker : (p q : Argument → Bool) → ((a : Argument) → p a ≡ true → q a ≡ true) → (args : List Argument) → list_any p args ≡ true → list_any q args ≡ true
any_weaker p q weaker [] e = e
any_weaker p q weaker (a ∷ args) e = go (p a) refl e (any_weaker p q weaker args)
  where
    go : (b : Bool) → p a ≡ b → (b || list_any p args) ≡ true → (list_any p args ≡ true → list_any q args ≡ true) → (q a || list_any q args) ≡ true
    go true is e below = or_left _ _ (weaker a is)
    go false is e below = or_right _ _ (below e)

-- a word that is a number is called so, and is a number
word_called : (name : Text) (a : Argument) → is_number_word name a ≡ true → is_called name a ≡ true
word_called name (NumberWord other) e = e
word_called name (Word other) e = absurd (true≢false (sym e))
word_called name other e = absurd (true≢false (sym e))

word_number : (name : Text) (a : Argument) → is_number_word name a ≡ true → is_number a ≡ true
word_number name (NumberWord other) e = refl
word_number name (Word other) e = absurd (true≢false (sym e))
word_number name other e = absurd (true≢false (sym e))

not_true : (b : Bool) → not b ≡ true → b ≡ false
not_true true e = absurd (true≢false (sym e))
not_true false e = refl

-- where no two arguments have the same name, only numbers have that of a word that is a number
only_named : (name : Text) (args : List Argument) → has_own_names args ≡ true → list_any (is_number_word name) args ≡ true → only_numbers name args ≡ true
only_named name [] own e = refl
only_named name (a ∷ args) own e =
    let p = both (not (list_any (is_called (name_of a)) args)) _ own in
    go p.0 (is_number_word name a) refl e (only_named name args p.1)
  where
    -- a name that another argument has is not that of this one
    other : not (list_any (is_called (name_of a)) args) ≡ true → (b : Bool) → is_called name a ≡ b → list_any (is_called name) args ≡ true → b ≡ false
    other own true is e =
        absurd (true≢false (sym own ∙ ap not (subst (λ n. list_any (is_called n) args ≡ true) (sym ((bytes_eq-Decides (name_of a) name).0 is)) e)))
    other own false is e = refl

    go : not (list_any (is_called (name_of a)) args) ≡ true → (b : Bool) → is_number_word name a ≡ b → (b || list_any (is_number_word name) args) ≡ true
        → (list_any (is_number_word name) args ≡ true → only_numbers name args ≡ true)
        → ((not (is_called name a) || is_number a) && only_numbers name args) ≡ true
    go own true is e below =
        let called = (bytes_eq-Decides (name_of a) name).0 (word_called name a is) in
        let none : list_any (is_called name) args ≡ false = subst (λ n. list_any (is_called n) args ≡ false) called (not_true _ own) in
        and _ _ (or_right _ _ (word_number name a is)) (none_called name args none)
    go own false is e below =
        let named = any_weaker (is_number_word name) (is_called name) (word_called name) args e in
        and _ _ (or_left _ _ (ap not (other own (is_called name a) refl named))) (below e)

-- the values of a word that is a number are numbers
pub wants_numbers : (form : Form) (name : Text) → is_sound form ≡ true → list_any (is_number_word name) form.arguments ≡ true
    → list_all (wants_value (λ id. bytes_eq id name)) (filled_from 1 (map rule_of_argument form.arguments)) ≡ true
wants_numbers form name sound e =
    wants_each (λ id. bytes_eq id name) 1 form.arguments (only_named name form.arguments (both (has_own_names form.arguments) _ sound).0 e)
