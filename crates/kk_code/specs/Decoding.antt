-- What a received space is to a codeword, and which message it decodes to.
use Rattle.std.specs.Prelude.{ℕ, Bool, zero, suc, ◌-◌, ◌*◌, ◌/◌, ◌%◌, ◌^◌, ◌≤◌, nat_le, Option, List, [], ◌∷◌, map}
use Rattle.std.specs.List.{find, range_with_len}
use Rattle.kk_rows.specs.Span.{dimension}
use Rattle.kk_rows.specs.Distance.{meet_dimension, distance}
use Rattle.kk_code.specs.Codeword.{Parameters, IsMessage, codeword}

-- how many dimensions of the codeword were lost on the way to the space that the rows span
abbrev pub erased : Parameters → List ℕ → List ℕ → ℕ
erased p rows u = p.l - meet_dimension rows (codeword p u)

-- how many dimensions of that space are foreign to the codeword
abbrev pub injected : Parameters → List ℕ → List ℕ → ℕ
injected p rows u = dimension rows - meet_dimension rows (codeword p u)

-- the codeword of u lies within distance l - k of the space
unfoldable pub within_radius : Parameters → List ℕ → List ℕ → Bool
within_radius p rows u = nat_le (distance (codeword p u) rows) (p.l - p.k)

-- u is a message whose codeword lies within distance l - k of the space
pub record Decodes (p : Parameters) (rows u : List ℕ) : Type 0 where
  pub message : IsMessage p u
  pub within : distance (codeword p u) rows ≤ p.l - p.k

-- message number n of those with k symbols of m bits: its symbols are the digits of n, the first the most significant
unfoldable pub message_at : ℕ → ℕ → ℕ → List ℕ
message_at m zero n = []
message_at m (suc k) n = n / 2 ^ (m * k) % 2 ^ m ∷ message_at m k n

-- all messages
abbrev pub messages : Parameters → List (List ℕ)
messages p = map (λ n. message_at p.field.degree p.k n) (range_with_len 0 (2 ^ (p.field.degree * p.k)))

-- The message that decodes the space, found by a search through all messages. At most one decodes it, so their order
-- makes no difference: the law AnswerIsTheMessage says that this is u exactly where u decodes the space.
unfoldable pub answer : Parameters → List ℕ → Option (List ℕ)
answer p rows = find (within_radius p rows) (messages p)
