-- The form of a command: its name, its arguments, and the command that clap makes of them.
use Rattle.std.specs.Prelude.{ℕ, Bool, true, false, not, ◌&&◌, ◌||◌, List, [], ◌∷◌, Option, Some, map, length, nat_lt}
use Rattle.std.specs.List.{list_any}
use Rattle.std.specs.Str.{bytes_eq}
use Rattle.clap.specs.Lexer.{usize_max}
use Rattle.clap.specs.Walk.{Rule, Text}
use Rattle.clap.specs.Simple.{App, new_rule, new_shape}
use Rattle.clap.specs.declared.builder.action.ArgAction.TheVariants.{Set}
use Rattle.clap.specs.declared.builder.range.ValueRange.{ValueRange}
use Rattle.clap.specs.declared.builder.value_parser.ValueParser.{ValueParser}
use Rattle.clap.specs.declared.builder.value_parser.ValueParser.TheVariants.{Unsigned}
use Rattle.kk_forms.specs.declared.form.Argument.{Argument as CodeArgument}
use Rattle.kk_forms.specs.declared.form.Argument.TheVariants as code
use Rattle.kk_forms.specs.declared.form.Form.{Form as CodeForm}

-- An argument of a command, by its name. Words are positional: they follow the command's name in the order of the form. An
-- option is given as `--name value` at any place.
pub data Argument : Type 0 where
  -- a required word, of any text
  Word : Text → Argument
  -- one word or more, each of any text
  Words : Text → Argument
  -- a required option, of any text
  TextOption : Text → Argument
  -- an option that is a number, and the number where it is not given, if there is one then
  NumberOption : Text → Option ℕ → Argument
  -- a required word that is a number
  NumberWord : Text → Argument

-- a command's name, which is its first word, and its arguments
pub record Form : Type 0 where
  pub name : Text
  pub arguments : List Argument

-- the argument that the code's argument is
abbrev pub argument_of : CodeArgument → Argument
argument_of (code.Word name) = Word name.now
argument_of (code.Words name) = Words name.now
argument_of (code.TextOption name) = TextOption name.now
argument_of (code.NumberOption name default) = NumberOption name.now default
argument_of (code.NumberWord name) = NumberWord name.now

-- the form that the code's form is
abbrev pub form_of : CodeForm → Form
form_of form = record { name = form.name.now; arguments = map argument_of form.arguments.now }

-- what an argument is called; the long name of an option
abbrev pub name_of : Argument → Text
name_of (Word name) = name
name_of (Words name) = name
name_of (TextOption name) = name
name_of (NumberOption name default) = name
name_of (NumberWord name) = name

-- the argument has this name
abbrev pub is_called : Text → Argument → Bool
is_called name argument = bytes_eq (name_of argument) name

-- the argument is a word, several, or a number among the words
abbrev pub is_positional : Argument → Bool
is_positional (Word name) = true
is_positional (Words name) = true
is_positional (TextOption name) = false
is_positional (NumberOption name default) = false
is_positional (NumberWord name) = true

-- the argument may be several words
abbrev pub is_many : Argument → Bool
is_many (Words name) = true
is_many other = false

-- no two arguments have the same name
abbrev pub has_own_names : List Argument → Bool
has_own_names [] = true
has_own_names (a ∷ others) = not (list_any (is_called (name_of a)) others) && has_own_names others

-- no word comes after words that may be several
abbrev pub has_many_last : List Argument → Bool
has_many_last [] = true
has_many_last (a ∷ others) = (not (is_many a) || not (list_any is_positional others)) && has_many_last others

-- The form is one by which words can be read: no two arguments have the same name, no word comes after words that may be
-- several, and a machine can count the arguments.
abbrev pub is_sound : Form → Bool
is_sound form = has_own_names form.arguments && (has_many_last form.arguments && nat_lt (length form.arguments) usize_max)

-- the reader of an unsigned 64-bit number
abbrev pub unsigned_64 : ValueParser
unsigned_64 = Unsigned 0 18446744073709551615

-- one value or more
abbrev pub one_or_more : ValueRange
one_or_more = record { start_inclusive = 1; end_inclusive = usize_max }

-- An argument as clap reads it. A word is required: a text, several, or a number. An option has a long name, no short one,
-- the action Set and one value: a text, which is required, or a number, which may be left out.
abbrev pub rule_of_argument : Argument → Rule
rule_of_argument (Word name) = record (new_rule name) { required = true }
rule_of_argument (Words name) = record (new_rule name) { required = true; range = Some one_or_more }
rule_of_argument (TextOption name) = record (new_rule name) {
  long = Some name;
  action = Some Set;
  required = true;
}
rule_of_argument (NumberOption name default) = record (new_rule name) {
  long = Some name;
  action = Some Set;
  parser = Some unsigned_64;
}
rule_of_argument (NumberWord name) = record (new_rule name) { required = true; parser = Some unsigned_64 }

-- clap's simple command of a name and arguments, without the options --help and --version, and with nothing else set
abbrev pub app_with : Text → List Rule → App
app_with name rules = record {
  top = record (new_shape name) {
    rules = rules;
    disable_help_flag = true;
    disable_version_flag = true;
  };
  subs = [];
}

-- the command that clap makes of a form
abbrev pub app_of_form : Form → App
app_of_form form = app_with form.name (map rule_of_argument form.arguments)
