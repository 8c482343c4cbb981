-- What words ask for.
use Rattle.std.specs.Prelude.{ℕ, Bool, false, List, Option, Some, None, if◌then◌else◌, option_and_then}
use Rattle.std.specs.List.{list_any}
use Rattle.std.specs.Str.{bytes_eq}
use Rattle.clap.specs.Walk.{Row, Text}
use Rattle.kk_forms.specs.Form.{Argument, NumberOption, NumberWord}
use Rattle.kk_forms.specs.Request.{HasTexts as HasTextsOf, Request as Found, has_option, is_of_form as is_of, matches_by, request_from as found_from, under}
use Rattle.kk_words.specs.declared.argument.Name.{Name}
use Rattle.kk_words.specs.declared.command.Command.{Command}
use Rattle.kk_words.specs.Arguments.{seed_name, text_of_name}
use Rattle.kk_words.specs.Commands.{form_of, named_in}

-- a command with its texts, its seed, and each of its numbers under its name
pub record Request : Type 0 where
  pub command : Command
  pub texts : List Text
  pub seed : Option Text
  pub numbers : List (Text × ℕ)

-- the number under a name
unfoldable pub number_of : List (Text × ℕ) → Name → Option ℕ
number_of numbers n = under numbers (text_of_name n)

-- the argument is a number of this name
abbrev pub is_number : Text → Argument → Bool
is_number name (NumberOption other default) = bytes_eq other name
is_number name (NumberWord other) = bytes_eq other name
is_number name other = false

-- the argument is a word of this name that is a number
abbrev pub is_place : Text → Argument → Bool
is_place name (NumberWord other) = bytes_eq other name
is_place name other = false

-- a command has this number
abbrev pub has_number : Command → Name → Bool
has_number command n = list_any (is_number (text_of_name n)) (form_of command).arguments

-- a command has this number as a word at a place of its own
abbrev pub has_place : Command → Name → Bool
has_place command n = list_any (is_place (text_of_name n)) (form_of command).arguments

-- a command has a seed
abbrev pub has_seed : Command → Bool
has_seed command = has_option (form_of command) seed_name

-- how many texts a command has: one of each word that is a text, and one or more of a word that may stand several times
abbrev pub HasTexts : Command → ℕ → Type 0
HasTexts command n = HasTextsOf (form_of command) n

-- the request for a command, from what is found by its form
abbrev pub request_with : Command → Found → Request
request_with command found = record {
  command = command;
  texts = found.texts;
  seed = under found.options seed_name;
  numbers = found.numbers;
}

-- the request for a command that these matches make
unfoldable pub request_from : Command → List Row → Request
request_from command rows = request_with command (found_from (form_of command) rows)

-- the words are of this command's form
unfoldable pub is_of_form : Command → List Text → Bool
is_of_form command words = is_of (form_of command) words

-- what clap matches in the words, for this command
unfoldable pub matches_for : Command → List Text → List Row
matches_for command words = matches_by (form_of command) words

-- what the words ask of a command, and None exactly where they are not of its form
abbrev pub request_for : Command → List Text → Option Request
request_for command words = if is_of_form command words then Some (request_from command (matches_for command words)) else None

-- What the words of a command line ask for, and None exactly where they are not of a command's form: the first word
-- names the command, and clap takes the others as those of that command.
unfoldable pub request_of : List Text → Option Request
request_of words = option_and_then (λ command. request_for command words) (named_in words)
