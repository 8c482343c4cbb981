-- What the getters of clap read, by its matches, and the steps of the loops over a form's arguments.
use Rattle.std.proofs.Common.{◌≡◌, ◌∙◌, ℕ, ◌+◌, ◌<◌, Bool, true, false, cond, refl, sym, ap, arith, List, [], ◌∷◌, ◌++◌, map, length, take, Option, Some, None, Result, Ok, Err, option_map, get_or, append-nil}
use Rattle.std.specs.Prelude.{find, unwrap_or, ◌^◌}
use Rattle.std.specs.Borrow.{Bor}
use Rattle.std.specs.List.{cons_option, filter_map, flat_map}
use Rattle.std.specs.Result.{result_ok}
use Rattle.std.specs.Str.{bytes_eq}
use Rattle.std.specs.Str.Parse.{ParsesUnsigned, digits_value, without_leading_plus}
use Rattle.std.proofs.lemmas.Grind.{flat_map-append}
use Rattle.std.proofs.lemmas.List.Elements.{filter_map-append}
use Rattle.std.proofs.lemmas.List.{map_more}
use Rattle.clap.specs.Matches.{matched_of, raw_values}
use Rattle.clap.specs.Walk.{Row, Text, rows_of}
use Rattle.clap.specs.ValueTests.{accepts}
use Rattle.clap.specs.declared.parser.matches.Found.{Found}
use Rattle.clap.proofs.ValueTestLemmas.{accepts-Accepts, Accepts-accepts}
use Rattle.clap.proofs.WalkLemmas.{raw_values-rows}
use Rattle.kk_forms.specs.declared.form.Argument.{Argument as CodeArgument}
use Rattle.kk_forms.specs.declared.form.Argument.TheVariants.{Word, TextOption}
use Rattle.kk_forms.specs.Form.{argument_of, unsigned_64}
use Rattle.kk_forms.specs.Request.{all_texts_at, number_at, number_read, numbers_in, option_at, options_in, texts_at, texts_in, under}

pub text_or : (r : Option (Bor Text)) (o : Option Text) (d : Bor Text) → option_map (λ s. s.now) r ≡ o → (unwrap_or r d).now ≡ unwrap_or o d.now
text_or None o d e = ap (λ x. unwrap_or x d.now) e
text_or (Some s) o d e = ap (λ x. unwrap_or x d.now) e

read : (t : Text) → accepts false unsigned_64 t ≡ true → number_read t ≡ Some (digits_value 10 (without_leading_plus t))
read t is = rw is refl

refused : (t : Text) → accepts false unsigned_64 t ≡ false → number_read t ≡ None
refused t is = rw is refl

-- what `parse` answers is what the reader of an unsigned 64-bit number reads
pub number_parsed : {E : Type 0} (t : Text) (r : Result ℕ E) → ParsesUnsigned 64 10 t r → result_ok r ≡ number_read t
number_parsed t (Ok n) h =
    let small : digits_value 10 (without_leading_plus t) < 2 ^ 64 = h.0.1 in
    let passes = Accepts-accepts false unsigned_64 t (h.0.0, h.0.1, omega arith, omega arith) in
    ap Some h.1 ∙ sym (read t passes)
number_parsed t (Err e) h = go (accepts false unsigned_64 t) refl
  where
    go : (b : Bool) → accepts false unsigned_64 t ≡ b → None ≡ number_read t
    go false is = sym (refused t is)
    go true is =
        let number = accepts-Accepts false unsigned_64 t is in
        absurd (h (number.0, number.1))

-- the texts of a word that was given are its values
pub all_texts : (f : Found) (name : Text) (old given new : List Text) → Some given ≡ option_map raw_values (matched_of f name) → new ≡ old ++ given
    → new ≡ old ++ all_texts_at (rows_of f) name
all_texts f name old given new values more = more ∙ ap (λ ts. old ++ unwrap_or ts []) (values ∙ raw_values-rows f name)

-- a word that was not given has no texts
pub no_texts : (f : Found) (name : Text) (old : List Text) → None ≡ option_map raw_values (matched_of f name) → old ≡ old ++ all_texts_at (rows_of f) name
no_texts f name old none = sym (ap (λ ts. old ++ unwrap_or ts []) (sym (raw_values-rows f name) ∙ sym none) ∙ append-nil old)

-- an argument that is no option has no text under its name
pub no_option : (rows : List Row) (a : CodeArgument) → ((name : Bor Text) → a ≡ TextOption name → ⊥) → option_at rows (argument_of a) ≡ None
no_option rows (TextOption name) none = absurd (none name refl)
no_option rows (Word name) none = refl
no_option rows other none = refl

-- the first entry that passes, by what is seen of the entries
pub find_seen : {X Y : Type 0} (see : X → Y) (p : Y → Bool) (xs : List X) → find p (map see xs) ≡ option_map see (find (λ x. p (see x)) xs)
find_seen see p [] = refl
find_seen see p (x ∷ xs) = go (p (see x)) (find_seen see p xs)
  where
    go : (b : Bool) → find p (map see xs) ≡ option_map see (find (λ x. p (see x)) xs)
        → cond b (Some (see x)) (find p (map see xs)) ≡ option_map see (cond b (Some x) (find (λ x. p (see x)) xs))
    go true below = refl
    go false below = below

-- what stands under a name, by the first entry that has it
pub under_seen : {X Y : Type 0} (see : X → Text × Y) (entry : Option X) (entries : List X) (name : Text) → entry ≡ find (λ x. bytes_eq (see x).0 name) entries
    → option_map (λ x. (see x).1) entry ≡ under (map see entries) name
under_seen {X} {Y} see entry entries name is =
    parts entry ∙ ap (λ o. option_map (λ (e : Text × Y). e.1) (option_map see o)) is ∙ ap (option_map (λ (e : Text × Y). e.1)) (sym (find_seen see (λ e. bytes_eq e.0 name) entries))
  where
    parts : (o : Option X) → option_map (λ x. (see x).1) o ≡ option_map (λ (e : Text × Y). e.1) (option_map see o)
    parts None = refl
    parts (Some x) = refl

-- ---- one more argument of a form

module _ (rows : List Row) (args : List CodeArgument) (i : ℕ) (d : CodeArgument) (lt : i < length args) where
  pub texts_more : (old new : List Text) → old ≡ texts_in (map argument_of (take i args)) rows → new ≡ old ++ texts_at rows (argument_of (get_or args i d))
      → new ≡ texts_in (map argument_of (take (i + 1) args)) rows
  texts_more old new before more =
      let last = argument_of (get_or args i d) in
      more ∙ ap (λ ts. ts ++ texts_at rows last) before
      ∙ sym (ap (λ a. flat_map (texts_at rows) a) (map_more argument_of args i d lt) ∙ flat_map-append (texts_at rows) (map argument_of (take i args)) (last ∷ [])
      ∙ ap (λ ts. texts_in (map argument_of (take i args)) rows ++ ts) (append-nil (texts_at rows last)))

  pub options_more : (old new : List (Text × Text)) → old ≡ options_in (map argument_of (take i args)) rows
      → new ≡ old ++ cons_option (option_at rows (argument_of (get_or args i d))) [] → new ≡ options_in (map argument_of (take (i + 1) args)) rows
  options_more old new before more =
      let last = argument_of (get_or args i d) in
      more ∙ ap (λ os. os ++ cons_option (option_at rows last) []) before
      ∙ sym (ap (λ a. filter_map (option_at rows) a) (map_more argument_of args i d lt) ∙ filter_map-append (option_at rows) (map argument_of (take i args)) (last ∷ []))

  pub numbers_more : (old new : List (Text × ℕ)) → old ≡ numbers_in (map argument_of (take i args)) rows
      → new ≡ old ++ cons_option (number_at rows (argument_of (get_or args i d))) [] → new ≡ numbers_in (map argument_of (take (i + 1) args)) rows
  numbers_more old new before more =
      let last = argument_of (get_or args i d) in
      more ∙ ap (λ ns. ns ++ cons_option (number_at rows last) []) before
      ∙ sym (ap (λ a. filter_map (number_at rows) a) (map_more argument_of args i d lt) ∙ filter_map-append (number_at rows) (map argument_of (take i args)) (last ∷ []))
