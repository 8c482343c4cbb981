-- The messages of a file, as the answers of its generations have them.
use Rattle.std.specs.Prelude.{ℕ, Option, Some, None, List, [], ◌∷◌, map, unwrap_or}
use Rattle.std.specs.Option.{option_map}

-- all the messages, where every answer is one
unfoldable pub all_messages : List (Option (List ℕ)) → Option (List (List ℕ))
all_messages [] = Some []
all_messages (None ∷ answers) = None
all_messages (Some message ∷ answers) = option_map (λ messages. message ∷ messages) (all_messages answers)

-- the messages, with no symbols where an answer is none
abbrev pub messages_or_empty : List (Option (List ℕ)) → List (List ℕ)
messages_or_empty answers = map (λ answer. unwrap_or answer []) answers
