-- What a request for a command has, from what is found by the command's form.
use Rattle.std.proofs.Common.{◌≡◌, ◌∙◌, Bool, true, false, not, cond, ◌||◌, refl, sym, ap, List, [], ◌∷◌, map, Option, Some, None, Result, Err, is_some, true≢false}
use Rattle.std.specs.Prelude.{option_and_then, option_map}
use Rattle.clap.specs.Walk.{Text}
use Rattle.kk_forms.specs.Request.{Request as Found, has_sure_number, is_of_form as is_of, matches_by, request_by, request_from as found_from}
use Rattle.kk_forms.specs.declared.fault.WordsFault.{WordsFault}
use Rattle.kk_words.specs.declared.argument.Name.{Name}
use Rattle.kk_words.specs.declared.argument.Name.TheVariants.{Extra}
use Rattle.kk_words.specs.declared.command.Command.{Command}
use Rattle.kk_words.specs.declared.command.Command.TheVariants.{Plan}
use Rattle.kk_words.specs.Arguments.{default_of, text_of_name}
use Rattle.kk_words.specs.Commands.{form_of, named_in}
use Rattle.kk_words.specs.Request.{Request, has_number, has_place, is_of_form, matches_for, request_for, request_from, request_of, request_with}

-- ---- the first word

pub request_named : (words : List Text) (named : Option Command) → named ≡ named_in words
    → request_of words ≡ option_and_then (λ command. request_for command words) named
unfolding request_of
request_named words named e = ap (option_and_then (λ command. request_for command words)) (sym e)

-- words that ask for something name a command
pub request_is_named : (words : List Text) (request : Request) → request_of words ≡ Some request → is_some (named_in words) ≡ true
unfolding request_of
request_is_named words request asked = go (named_in words) asked
  where
    go : (named : Option Command) → option_and_then (λ command. request_for command words) named ≡ Some request → is_some named ≡ true
    go (Some command) e = refl
    go None e = absurd (true≢false (sym (ap is_some e)))

-- an error is the same whatever there is where there is none
pub same_fault : {T U : Type 0} (f g : WordsFault) → ◌≡◌ {A = Result T WordsFault} (Err f) (Err g) → ◌≡◌ {A = Result U WordsFault} (Err f) (Err g)
same_fault f g e = let same : f ≡ g = cc in ap Err same

-- ---- what is found by the form

pub request_for_found : (command : Command) (words : List Text) (found : Found) → request_by (form_of command) words ≡ Some found
    → request_for command words ≡ Some (request_with command found)
unfolding is_of_form matches_for request_from
request_for_found command words found e = go (is_of (form_of command) words) e
  where
    at : Found
    at = found_from (form_of command) (matches_by (form_of command) words)

    go : (b : Bool) → cond b (Some at) None ≡ Some found → cond b (Some (request_with command at)) None ≡ Some (request_with command found)
    go true e = ap (option_map (request_with command)) e
    go false e = absurd (true≢false (sym (ap is_some e)))

pub request_for_none : (command : Command) (words : List Text) → request_by (form_of command) words ≡ None → request_for command words ≡ None
unfolding is_of_form
request_for_none command words e = go (is_of (form_of command) words) e
  where
    go : (b : Bool) → cond b (Some (found_from (form_of command) (matches_by (form_of command) words))) None ≡ None
        → cond b (Some (request_from command (matches_for command words))) None ≡ None
    go true e = absurd (true≢false (ap is_some e))
    go false e = refl

-- ---- the numbers that are always there, at each command and name

sure_by_default : (command : Command) (n : Name) → (not (is_some (default_of n)) || (not (has_number command n) || has_sure_number (form_of command) (text_of_name n))) ≡ true
sure_by_default Plan Extra = refl
sure_by_default command Extra = refl
sure_by_default command n = refl

sure_by_place : (command : Command) (n : Name) → (not (has_place command n) || has_sure_number (form_of command) (text_of_name n)) ≡ true
sure_by_place Plan Extra = refl
sure_by_place command Extra = refl
sure_by_place command n = refl

follows : (a b : Bool) → (not a || b) ≡ true → a ≡ true → b ≡ true
follows true b e is = e
follows false b e is = absurd (true≢false (sym is))

pub sure_default : (command : Command) (n : Name) → is_some (default_of n) ≡ true → has_number command n ≡ true
    → has_sure_number (form_of command) (text_of_name n) ≡ true
sure_default command n default has = follows (has_number command n) _ (follows (is_some (default_of n)) _ (sure_by_default command n) default) has

pub sure_place : (command : Command) (n : Name) → has_place command n ≡ true → has_sure_number (form_of command) (text_of_name n) ≡ true
sure_place command n has = follows (has_place command n) _ (sure_by_place command n) has
