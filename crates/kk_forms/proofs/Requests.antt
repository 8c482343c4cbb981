-- What a request has, by the form: its texts, its required options, and the numbers that are always there.
use Rattle.std.proofs.Common.{◌≡◌, ◌∙◌, ℕ, ◌+◌, ◌≤◌, Bool, true, false, cond, not, ◌&&◌, ◌||◌, refl, sym, ap, subst, arith, List, [], ◌∷◌, map, length, Option, Some, None, Result, Err, option_map, true≢false}
use Rattle.std.specs.Prelude.{String, count_by, find, is_some, slice_get, string_bytes, unwrap_or}
use Rattle.std.specs.declared.alloc.Global.{Global}
use Rattle.std.specs.List.{cons_option, list_any}
use Rattle.std.specs.Option.{option_or}
use Rattle.std.specs.Str.{bytes_eq}
use Rattle.std.proofs.lemmas.Bool.{or_left, or_parts, or_right}
use Rattle.std.proofs.lemmas.List.{length-append}
use Rattle.std.proofs.lemmas.List.Sums.{sum_by-cons}
use Rattle.std.proofs.lemmas.Slice.Eq.{bytes_eq-Decides}
use Rattle.clap.specs.Simple.{matches_of}
use Rattle.clap.specs.Takes.{is_given, takes}
use Rattle.clap.specs.Walk.{Row, Text, all_of, first_of}
use Rattle.clap.proofs.WalkLemmas.{both}
use Rattle.kk_forms.specs.Form.{Argument, Word, Words, TextOption, NumberOption, NumberWord, Form, app_of_form, is_many, is_sound, name_of}
use Rattle.kk_forms.specs.Request.{HasTexts, IsCount, Request, has_option, has_sure_number, has_text, is_named, is_of_form, is_option, is_sure_number, matches_by, number_at, number_given, numbers_in, option_at, options_in, request_by, request_from, texts_at, texts_in, under}
use Rattle.kk_forms.specs.declared.fault.WordsFault.{WordsFault}
use Rattle.kk_forms.specs.declared.fault.WordsFault.TheVariants.{Alloc, Words as NotOfForm}
use Rattle.kk_forms.proofs.Given.{filled, given_first, given_number, given_values, has_some}
use Rattle.kk_forms.proofs.Rules.{has_required, is_number_word, is_required, no_numbers, one, taken_filled, taken_required, wants_numbers, wants_texts}

-- ---- entries under a name

-- one more entry hides none
more_under : {X : Type 0} (entry : Option (Text × X)) (entries : List (Text × X)) (name : Text) → is_some (under entries name) ≡ true
    → is_some (under (cons_option entry entries) name) ≡ true
more_under None entries name some = some
more_under (Some entry) entries name some = go (bytes_eq entry.0 name)
  where
    go : (b : Bool) → is_some (option_map (λ (e : Text × _). e.1) (cond b (Some entry) (find (λ e. bytes_eq e.0 name) entries))) ≡ true
    go true = refl
    go false = some

-- an entry stands under its name
first_under : {X : Type 0} (value : Option X) (other name : Text) (entries : List (Text × X)) → is_some value ≡ true → bytes_eq other name ≡ true
    → is_some (under (cons_option (option_map (λ v. (other, v)) value) entries) name) ≡ true
first_under None other name entries some named = absurd (true≢false (sym some))
first_under (Some v) other name entries some named = rw named refl

-- what is there stands
some_or : (given default : Option ℕ) → is_some default ≡ true → is_some (option_or given default) ≡ true
some_or None default e = e
some_or (Some n) default e = refl

-- ---- the parts of a request, from rows in which each argument that is given has a value

module _ (rows : List Row) (q : Text → Bool) (full : filled q rows ≡ true) where
  -- the argument was given, if it may not be left out
  abbrev is_there : Argument → Bool
  is_there a = not (is_required a) || is_given (name_of a) rows

  -- a word has a text, and words that may be several have one or more
  fewest : (a : Argument) → is_there a ≡ true → one (has_text a) ≤ length (texts_at rows a)
  fewest (Word name) given = omega arith
  fewest (Words name) given = go (unwrap_or (all_of name rows) []) (given_values q name rows full given)
    where
      go : (vs : List Text) → has_some vs ≡ true → 1 ≤ length vs
      go [] e = absurd (true≢false (sym e))
      go (v ∷ vs) e = omega arith
  fewest other given = omega arith

  exactly : (a : Argument) → is_many a ≡ false → length (texts_at rows a) ≡ one (has_text a)
  exactly (Words name) e = absurd (true≢false e)
  exactly (Word name) e = refl
  exactly other e = refl

  least_texts : (args : List Argument) → has_required rows args ≡ true → count_by has_text args ≤ length (texts_in args rows)
  least_texts [] given = omega arith
  least_texts (a ∷ args) given =
      let p = both (is_there a) _ given in
      let here = fewest a p.0 in
      let others = least_texts args p.1 in
      let count : count_by has_text (a ∷ args) ≡ one (has_text a) + count_by has_text args = sum_by-cons (λ a. one (has_text a)) a args in
      let long : length (texts_in (a ∷ args) rows) ≡ length (texts_at rows a) + length (texts_in args rows) = length-append (texts_at rows a) (texts_in args rows) in
      omega (arith, here, others, count, long)

  exact_texts : (args : List Argument) → list_any is_many args ≡ false → length (texts_in args rows) ≡ count_by has_text args
  exact_texts [] e = refl
  exact_texts (a ∷ args) e =
      let p = or_parts (is_many a) (list_any is_many args) e in
      let here = exactly a p.0 in
      let others = exact_texts args p.1 in
      let count : count_by has_text (a ∷ args) ≡ one (has_text a) + count_by has_text args = sum_by-cons (λ a. one (has_text a)) a args in
      let long : length (texts_in (a ∷ args) rows) ≡ length (texts_at rows a) + length (texts_in args rows) = length-append (texts_at rows a) (texts_in args rows) in
      omega (arith, here, others, count, long)

  pub texts_there : (args : List Argument) → has_required rows args ≡ true → IsCount (list_any is_many args) (count_by has_text args) (length (texts_in args rows))
  texts_there args given = go (list_any is_many args) refl
    where
      go : (b : Bool) → list_any is_many args ≡ b → IsCount b (count_by has_text args) (length (texts_in args rows))
      go true is = least_texts args given
      go false is = exact_texts args is

  one_option : (a : Argument) (name : Text) (others : List (Text × Text)) → is_there a ≡ true → is_option name a ≡ true
      → is_some (under (cons_option (option_at rows a) others) name) ≡ true
  one_option (TextOption other) name others given e = first_under (first_of other rows) other name others (given_first q other rows full given) e
  one_option (Word other) name others given e = absurd (true≢false (sym e))
  one_option other name others given e = absurd (true≢false (sym e))

  -- a required option is there
  pub options_there : (args : List Argument) (name : Text) → has_required rows args ≡ true → list_any (is_option name) args ≡ true
      → is_some (under (options_in args rows) name) ≡ true
  options_there [] name given e = absurd (true≢false (sym e))
  options_there (a ∷ args) name given e =
      let p = both (is_there a) _ given in
      go p.0 (is_option name a) refl e (options_there args name p.1)
    where
      go : is_there a ≡ true → (b : Bool) → is_option name a ≡ b → (b || list_any (is_option name) args) ≡ true
          → (list_any (is_option name) args ≡ true → is_some (under (options_in args rows) name) ≡ true) → is_some (under (options_in (a ∷ args) rows) name) ≡ true
      go here true is e below = one_option a name (options_in args rows) here is
      go here false is e below = more_under (option_at rows a) (options_in args rows) name (below e)

  one_number : (a : Argument) (name : Text) (others : List (Text × ℕ)) → (is_number_word name a ≡ true → is_some (number_given rows name) ≡ true)
      → is_sure_number name a ≡ true → is_some (under (cons_option (number_at rows a) others) name) ≡ true
  one_number (NumberOption other default) name others given e =
      let p = both (bytes_eq other name) _ e in
      first_under (option_or (number_given rows other) default) other name others (some_or _ default p.1) p.0
  one_number (NumberWord other) name others given e =
      first_under (number_given rows other) other name others
      (subst (λ n. is_some (number_given rows n) ≡ true) (sym ((bytes_eq-Decides other name).0 e)) (given e)) e
  one_number (Word other) name others given e = absurd (true≢false (sym e))
  one_number other name others given e = absurd (true≢false (sym e))

  -- a number that has a default is there, and so is one that is a word, where it was given
  pub numbers_there : (args : List Argument) (name : Text) → (list_any (is_number_word name) args ≡ true → is_some (number_given rows name) ≡ true)
      → list_any (is_sure_number name) args ≡ true → is_some (under (numbers_in args rows) name) ≡ true
  numbers_there [] name given e = absurd (true≢false (sym e))
  numbers_there (a ∷ args) name given e = go (is_sure_number name a) refl e (numbers_there args name (λ word. given (or_right _ _ word)))
    where
      go : (b : Bool) → is_sure_number name a ≡ b → (b || list_any (is_sure_number name) args) ≡ true
          → (list_any (is_sure_number name) args ≡ true → is_some (under (numbers_in args rows) name) ≡ true) → is_some (under (numbers_in (a ∷ args) rows) name) ≡ true
      go true is e below = one_number a name (numbers_in args rows) (λ word. given (or_left _ _ word)) is
      go false is e below = more_under (number_at rows a) (numbers_in args rows) name (below e)

-- ---- a word that is a number

one_given : (rows : List Row) (name : Text) (a : Argument) → (not (is_required a) || is_given (name_of a) rows) ≡ true → is_number_word name a ≡ true
    → is_given name rows ≡ true
one_given rows name (NumberWord other) given e = subst (λ n. is_given n rows ≡ true) ((bytes_eq-Decides other name).0 e) given
one_given rows name (Word other) given e = absurd (true≢false (sym e))
one_given rows name other given e = absurd (true≢false (sym e))

word_given : (rows : List Row) (name : Text) (args : List Argument) → has_required rows args ≡ true → list_any (is_number_word name) args ≡ true
    → is_given name rows ≡ true
word_given rows name [] given e = absurd (true≢false (sym e))
word_given rows name (a ∷ args) given e =
    let p = both (not (is_required a) || is_given (name_of a) rows) _ given in
    go p.0 (is_number_word name a) refl e (word_given rows name args p.1)
  where
    go : (not (is_required a) || is_given (name_of a) rows) ≡ true → (b : Bool) → is_number_word name a ≡ b → (b || list_any (is_number_word name) args) ≡ true
        → (list_any (is_number_word name) args ≡ true → is_given name rows ≡ true) → is_given name rows ≡ true
    go here true is e below = one_given rows name a here is
    go here false is e below = below e

-- ---- words of a form

module _ (form : Form) (words : List Text) (taken : takes (app_of_form form) words ≡ true) where
  full : filled no_numbers (matches_of (app_of_form form) words) ≡ true
  full = taken_filled form words taken no_numbers (wants_texts form.arguments)

  pub form_texts : HasTexts form (length (texts_in form.arguments (matches_of (app_of_form form) words)))
  form_texts = texts_there (matches_of (app_of_form form) words) no_numbers full form.arguments (taken_required form words taken)

  pub form_options : (name : Text) → has_option form name ≡ true
      → is_some (under (options_in form.arguments (matches_of (app_of_form form) words)) name) ≡ true
  form_options name has = options_there (matches_of (app_of_form form) words) no_numbers full form.arguments name (taken_required form words taken) has

  pub form_numbers : (name : Text) → is_sound form ≡ true → has_sure_number form name ≡ true
      → is_some (under (numbers_in form.arguments (matches_of (app_of_form form) words)) name) ≡ true
  form_numbers name sound has = numbers_there (matches_of (app_of_form form) words) no_numbers full form.arguments name number has
    where
      number : list_any (is_number_word name) form.arguments ≡ true → is_some (number_given (matches_of (app_of_form form) words) name) ≡ true
      number word =
          given_number (λ id. bytes_eq id name) name (matches_of (app_of_form form) words)
          (taken_filled form words taken (λ id. bytes_eq id name) (wants_numbers form name sound word)) ((bytes_eq-Decides name name).1 refl)
          (word_given (matches_of (app_of_form form) words) name form.arguments (taken_required form words taken) word)

-- ---- the request

pub named_none : (form : Form) (words : List (String Global)) → None ≡ slice_get words 0 → is_named form (map string_bytes words) ≡ false
named_none form [] e = refl
named_none form (w ∷ words) e = cc

pub named_first : (form : Form) (words : List (String Global)) (w : String Global) (first : Text) → Some w ≡ slice_get words 0 → first ≡ string_bytes w
    → is_named form (map string_bytes words) ≡ bytes_eq form.name first
named_first form [] w first e same = cc
named_first form (x ∷ words) w first e same =
    let here : w ≡ x = cc in
    ap (bytes_eq form.name) (ap string_bytes (sym here) ∙ sym same)

pub unnamed : (form : Form) (words : List Text) → is_named form words ≡ false → request_by form words ≡ None
unfolding is_of_form
unnamed form words e = rw e refl

pub untaken : (form : Form) (words : List Text) → (takes (app_of_form form) words ≡ true → ⊥) → request_by form words ≡ None
unfolding is_of_form
untaken form words never = go (is_named form words) (takes (app_of_form form) words) refl
  where
    go : (named b : Bool) → takes (app_of_form form) words ≡ b → cond (named && b) (Some (request_from form (matches_by form words))) None ≡ None
    go named true e = absurd (never e)
    go true false e = refl
    go false false e = refl

pub requested : (form : Form) (words : List Text) (r : Request) → is_named form words ≡ true → takes (app_of_form form) words ≡ true
    → r.texts ≡ texts_in form.arguments (matches_of (app_of_form form) words) → r.options ≡ options_in form.arguments (matches_of (app_of_form form) words)
    → r.numbers ≡ numbers_in form.arguments (matches_of (app_of_form form) words) → request_by form words ≡ Some r
unfolding is_of_form matches_by
requested form words r named taken texts options numbers =
    ap (λ b. cond (b && takes (app_of_form form) words) (Some (request_from form (matches_of (app_of_form form) words))) None) named
    ∙ ap (λ b. cond b (Some (request_from form (matches_of (app_of_form form) words))) None) taken
    ∙ ap Some (sym (λ i. record { texts = texts i; options = options i; numbers = numbers i }))

pub never_words : {T : Type 0} (f : WordsFault) → f ≡ Alloc → ◌≡◌ {A = Result T WordsFault} (Err f) (Err NotOfForm) → ⊥
never_words f memory words = cc
