-- The addresses that words name.
use Rattle.std.specs.Prelude.{ℕ, List, [], Option, None, drop, option_map, slice_get}
use Rattle.kk_words.specs.declared.command.Command.{Command}
use Rattle.kk_words.specs.declared.command.Command.TheVariants.{Send, Relay, Recv}
use Rattle.kk_words.specs.Request.{Request, request_of}

-- the addresses at which a command listens, and the one to which it sends
pub record Places : Type 0 where
  pub listen : List (List ℕ)
  pub target : Option (List ℕ)

-- the words LISTEN among the texts of a command: TICKET TARGET LISTEN of `relay`, TICKET LISTEN .. of `recv`
abbrev pub listen_in : Command → List (List ℕ) → List (List ℕ)
listen_in Relay texts = drop 2 texts
listen_in Recv texts = drop 1 texts
listen_in other texts = []

-- the word TARGET among the texts of a command: TICKET TARGET of `send`, TICKET TARGET LISTEN of `relay`
abbrev pub target_in : Command → List (List ℕ) → Option (List ℕ)
target_in Send texts = slice_get texts 1
target_in Relay texts = slice_get texts 1
target_in other texts = None

-- the addresses that a request names
abbrev pub places_in : Request → Places
places_in request = record {
  listen = listen_in request.command request.texts;
  target = target_in request.command request.texts;
}

-- The addresses that words name, and None exactly where the words aren't of a command's form.
abbrev pub places_of : List (List ℕ) → Option Places
places_of words = option_map places_in (request_of words)
