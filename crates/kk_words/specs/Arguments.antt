-- What a command may be given.
use Rattle.std.specs.Prelude.{ℕ, List, Option, Some, None, codes}
use Rattle.kk_forms.specs.Form.{Argument, TextOption, NumberOption, NumberWord}
use Rattle.kk_words.specs.declared.argument.Name.{Name}
use Rattle.kk_words.specs.declared.argument.Name.TheVariants as name

-- the long name of an option with a number, or the name of a word that is a number
abbrev pub text_of_name : Name → List ℕ
text_of_name name.Extra = codes "extra"
text_of_name name.Pack = codes "pack"
text_of_name name.Rate = codes "rate"
text_of_name name.Idle = codes "idle"
text_of_name name.Most = codes "most"
text_of_name name.Tolerate = codes "tolerate"
text_of_name name.Erase = codes "erase"
text_of_name name.Inject = codes "inject"
text_of_name name.Gates = codes "gates"

-- the number where none is given, if there is one then
abbrev pub default_of : Name → Option ℕ
default_of name.Extra = Some 0
default_of name.Pack = Some 32
default_of name.Rate = Some 1
default_of name.Idle = Some 300
default_of name.Most = Some 10000000
default_of name.Tolerate = None
default_of name.Erase = None
default_of name.Inject = None
default_of name.Gates = None

-- the long name of the option of a seed
abbrev pub seed_name : List ℕ
seed_name = codes "seed"

-- the option of a seed, which is required
abbrev pub seed : Argument
seed = TextOption seed_name

-- an option with a number, by its name and its default
abbrev pub option_of : Name → Argument
option_of n = NumberOption (text_of_name n) (default_of n)

-- a word that is a number, by its name
abbrev pub place_of : Name → Argument
place_of n = NumberWord (text_of_name n)
