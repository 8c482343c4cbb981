-- The words that a generator answers, one after another.
use Rattle.std.specs.Prelude.{ℕ, zero, suc}
use Rattle.rand_core.specs.Stream.{Stream, next_u64}

-- what a generator will answer after n words
abbrev pub after_words : ℕ → Stream → Stream
after_words zero stream = stream
after_words (suc n) stream = (next_u64 (after_words n stream)).1

-- word number i, counted from 0
abbrev pub word_at : Stream → ℕ → ℕ
word_at stream i = (next_u64 (after_words i stream)).0
