-- What words ask for by a form.
use Rattle.std.specs.Prelude.{◌≡◌, ◌≤◌, ℕ, Bool, true, false, ◌&&◌, List, [], ◌∷◌, Option, Some, None, if◌then◌else◌, count_by, find, is_some, option_map, option_and_then, unwrap_or}
use Rattle.std.specs.List.{filter_map, flat_map, list_any}
use Rattle.std.specs.Option.{option_or}
use Rattle.std.specs.Str.{bytes_eq}
use Rattle.std.specs.Str.Parse.{digits_value, without_leading_plus}
use Rattle.clap.specs.Walk.{Row, Text, all_of, first_of}
use Rattle.clap.specs.Simple.{matches_of}
use Rattle.clap.specs.Takes.{takes}
use Rattle.clap.specs.ValueTests.{accepts}
use Rattle.kk_forms.specs.Form.{Argument, Word, Words, TextOption, NumberOption, NumberWord, Form, app_of_form, is_many, unsigned_64}

-- The texts of the words that are no numbers, in the form's order; the texts of the options, each under its name; and the
-- numbers, of options and of words, each under its name.
pub record Request : Type 0 where
  pub texts : List Text
  pub options : List (Text × Text)
  pub numbers : List (Text × ℕ)

-- what stands under a name
abbrev pub under : {X : Type 0} → List (Text × X) → Text → Option X
under entries name = option_map (λ entry. entry.1) (find (λ entry. bytes_eq entry.0 name) entries)

-- the number that the reader of an unsigned 64-bit number reads, where it takes the text
abbrev pub number_read : Text → Option ℕ
number_read t = if accepts false unsigned_64 t then Some (digits_value 10 (without_leading_plus t)) else None

-- the text that was given for a word
abbrev pub text_at : List Row → Text → Text
text_at rows name = unwrap_or (first_of name rows) []

-- the texts that were given for words that may be several
abbrev pub all_texts_at : List Row → Text → List Text
all_texts_at rows name = unwrap_or (all_of name rows) []

-- the texts that were given for an argument that is a word, or several, and no number
abbrev pub texts_at : List Row → Argument → List Text
texts_at rows (Word name) = text_at rows name ∷ []
texts_at rows (Words name) = all_texts_at rows name
texts_at rows other = []

-- the texts that were given for the words of a form, in its order
abbrev pub texts_in : List Argument → List Row → List Text
texts_in arguments rows = flat_map (texts_at rows) arguments

-- the text that was given for an option, under its name
abbrev pub option_at : List Row → Argument → Option (Text × Text)
option_at rows (TextOption name) = option_map (λ given. (name, given)) (first_of name rows)
option_at rows other = None

-- the texts that were given for the options of a form, each under its name
abbrev pub options_in : List Argument → List Row → List (Text × Text)
options_in arguments rows = filter_map (option_at rows) arguments

-- the number that was given under a name
abbrev pub number_given : List Row → Text → Option ℕ
number_given rows name = option_and_then number_read (first_of name rows)

-- the number of an argument, under its name: the one that was given, else its default
abbrev pub number_at : List Row → Argument → Option (Text × ℕ)
number_at rows (NumberOption name default) = option_map (λ n. (name, n)) (option_or (number_given rows name) default)
number_at rows (NumberWord name) = option_map (λ n. (name, n)) (number_given rows name)
number_at rows other = None

-- the numbers of a form, each under its name
abbrev pub numbers_in : List Argument → List Row → List (Text × ℕ)
numbers_in arguments rows = filter_map (number_at rows) arguments

-- the request that these matches of clap make
abbrev pub request_from : Form → List Row → Request
request_from form rows = record {
  texts = texts_in form.arguments rows;
  options = options_in form.arguments rows;
  numbers = numbers_in form.arguments rows;
}

-- the first word is the form's name
abbrev pub is_named : Form → List Text → Bool
is_named form [] = false
is_named form (first ∷ others) = bytes_eq form.name first

-- the first word is the form's name, and clap takes the others as those of the form's command
unfoldable pub is_of_form : Form → List Text → Bool
is_of_form form words = is_named form words && takes (app_of_form form) words

-- what clap matches in the words by the form
unfoldable pub matches_by : Form → List Text → List Row
matches_by form words = matches_of (app_of_form form) words

-- what the words ask for by the form, and None exactly where they are not of it
abbrev pub request_by : Form → List Text → Option Request
request_by form words = if is_of_form form words then Some (request_from form (matches_by form words)) else None

-- the argument is a word, or several, and no number
abbrev pub has_text : Argument → Bool
has_text (Word name) = true
has_text (Words name) = true
has_text other = false

-- n, or n and more
abbrev pub IsCount : Bool → ℕ → ℕ → Type 0
IsCount true n count = n ≤ count
IsCount false n count = count ≡ n

-- How many texts words have by a form: one of each word that is no number, and one or more of words that may be several.
abbrev pub HasTexts : Form → ℕ → Type 0
HasTexts form count = IsCount (list_any is_many form.arguments) (count_by has_text form.arguments) count

-- the argument is a required option of this name
abbrev pub is_option : Text → Argument → Bool
is_option name (TextOption other) = bytes_eq other name
is_option name other = false

-- the form has a required option of this name
abbrev pub has_option : Form → Text → Bool
has_option form name = list_any (is_option name) form.arguments

-- the argument is a number of this name that is always there: an option with a default, or a required word
abbrev pub is_sure_number : Text → Argument → Bool
is_sure_number name (NumberOption other default) = bytes_eq other name && is_some default
is_sure_number name (NumberWord other) = bytes_eq other name
is_sure_number name other = false

-- the form has a number of this name that is always there
abbrev pub has_sure_number : Form → Text → Bool
has_sure_number form name = list_any (is_sure_number name) form.arguments
