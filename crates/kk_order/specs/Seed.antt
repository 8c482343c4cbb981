-- The seed of a generator, as a word of hexadecimal digits, and the words of the generator.
use Rattle.std.specs.Prelude.{ℕ, List, [], Option, Some, None, unwrap_or}
use Rattle.std.specs.Result.{result_ok}
use Rattle.hex.specs.Hex.{decode_sized}
use Rattle.kk_outside.specs.Generator.{word_at}
use Rattle.rand_core.specs.Steps.{stream_of, steps_u32}
use Rattle.rand_core.specs.Stream.{Stream}
use Rattle.rand_chacha.specs.ChaCha.{of_seed, next_word}

-- the 32 bytes that 64 hexadecimal digits are, in either case; nothing where the word is no such text, or there is none
abbrev pub seed_of : Option (List ℕ) → Option (List ℕ)
seed_of None = None
seed_of (Some word) = result_ok (decode_sized word 32)

-- what the generator ChaCha20 with this seed answers
abbrev pub stream_with : Option (List ℕ) → Stream
stream_with seed = stream_of (steps_u32 (next_word 10)) (of_seed (unwrap_or seed []))

-- its words
abbrev pub words_of : Option (List ℕ) → ℕ → ℕ
words_of seed = word_at (stream_with seed)
