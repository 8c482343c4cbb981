-- The commands, and the form of each.
use Rattle.std.specs.Prelude.{List, [], ◌∷◌, Option, None, codes, find}
use Rattle.std.specs.Str.{bytes_eq}
use Rattle.clap.specs.Walk.{Text}
use Rattle.kk_forms.specs.Form.{Word, Words, Form}
use Rattle.kk_words.specs.declared.argument.Name.TheVariants as name
use Rattle.kk_words.specs.declared.command.Command.{Command}
use Rattle.kk_words.specs.declared.command.Command.TheVariants.{Plan, Pack, Unpack, Send, Relay, Recv, Sim}
use Rattle.kk_words.specs.Arguments.{option_of, place_of, seed}

-- every command
abbrev pub commands : List Command
commands = Plan ∷ Pack ∷ Unpack ∷ Send ∷ Relay ∷ Recv ∷ Sim ∷ []

-- the form of a command: its first word, and its arguments, the words in the order in which they are given
abbrev pub form_of : Command → Form
form_of Plan = record {
  name = codes "plan";
  arguments = Word (codes "SESSION") ∷ Word (codes "M") ∷ Word (codes "MOD") ∷ Word (codes "L") ∷ Word (codes "K") ∷ [];
}
form_of Pack = record { name = codes "pack"; arguments = Word (codes "TICKET") ∷ [] }
form_of Unpack = record { name = codes "unpack"; arguments = Word (codes "TICKET") ∷ option_of name.Most ∷ [] }
form_of Send = record {
  name = codes "send";
  arguments = Word (codes "TICKET") ∷ Word (codes "TARGET") ∷ seed ∷ option_of name.Extra ∷ option_of name.Pack ∷ [];
}
form_of Relay = record {
  name = codes "relay";
  arguments = Word (codes "TICKET") ∷ Word (codes "TARGET") ∷ Word (codes "LISTEN") ∷ seed
      ∷ option_of name.Rate ∷ option_of name.Idle ∷ option_of name.Most ∷ [];
}
form_of Recv = record {
  name = codes "recv";
  arguments = Word (codes "TICKET") ∷ Words (codes "LISTEN") ∷ option_of name.Idle ∷ option_of name.Most ∷ option_of name.Tolerate ∷ [];
}
form_of Sim = record {
  name = codes "sim";
  arguments = Word (codes "TICKET") ∷ place_of name.Erase ∷ place_of name.Inject ∷ place_of name.Gates ∷ seed ∷ [];
}

-- the command that a first word names
abbrev pub command_named : Text → Option Command
command_named first = find (λ command. bytes_eq (form_of command).name first) commands

-- the command that the first of these words names
abbrev pub named_in : List Text → Option Command
named_in [] = None
named_in (first ∷ others) = command_named first
