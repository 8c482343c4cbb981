-- When all answers are messages.
use Rattle.std.proofs.Common.{◌≡◌, ℕ, zero, suc, ◌+◌, ◌<◌, ◌≤◌, Option, Some, None, List, [], ◌∷◌, map, All, IsSome, refl, ap, arith}
use Rattle.std.specs.List.{range_with_len}
use Rattle.std.specs.Option.{option_map}
use Rattle.std.proofs.lemmas.List.Elements.{All-nil, All-cons, All-head, All-tail}
use Rattle.kk_assemble.specs.Messages.{all_messages, messages_or_empty}

pub all_messages-some : (answers : List (Option (List ℕ))) → All IsSome answers → all_messages answers ≡ Some (messages_or_empty answers)
unfolding all_messages
all_messages-some [] all = refl
all_messages-some (None ∷ answers) all = let none : IsSome {T = List ℕ} None = All-head IsSome None answers all in absurd cc
all_messages-some (Some message ∷ answers) all =
    ap (option_map (λ messages. message ∷ messages)) (all_messages-some answers (All-tail IsSome (Some message) answers all))

pub all_messages-none : (answers : List (Option (List ℕ))) → ¬ All IsSome answers → all_messages answers ≡ None
unfolding all_messages
all_messages-none [] missing = absurd (missing (All-nil IsSome))
all_messages-none (None ∷ answers) missing = refl
all_messages-none (Some message ∷ answers) missing =
    ap (option_map (λ messages. message ∷ messages)) (all_messages-none answers (λ all. missing (All-cons IsSome (Some message) answers refl all)))

-- each answer of a row of generations is a message
pub all_messages-range :
    (answer : ℕ → Option (List ℕ)) (message : ℕ → List ℕ) (a n : ℕ) → ((g : ℕ) → a ≤ g → g < a + n → answer g ≡ Some (message g))
    → all_messages (map answer (range_with_len a n)) ≡ Some (map message (range_with_len a n))
unfolding all_messages
all_messages-range answer message a zero each = refl
all_messages-range answer message a (suc n) each =
    let first : answer a ≡ Some (message a) = each a (omega arith) (omega arith) in
    let others = all_messages-range answer message (a + 1) n (λ g above below. each g (omega arith) (omega arith)) in
    rw (first, others) refl

-- where all the messages are there, each answer is one
pub all_messages-is_some : (answers : List (Option (List ℕ))) → IsSome (all_messages answers) → All IsSome answers
unfolding all_messages
all_messages-is_some [] made = All-nil IsSome
all_messages-is_some (None ∷ answers) made = absurd cc
all_messages-is_some (Some message ∷ answers) made = All-cons IsSome (Some message) answers refl (all_messages-is_some answers (unmapped (all_messages answers) made))
  where
    unmapped : (found : Option (List (List ℕ))) → IsSome (option_map (λ messages. message ∷ messages) found) → IsSome found
    unmapped None none = none
    unmapped (Some messages) some = refl
