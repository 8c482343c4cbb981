-- The words of a generator that gave some already.
use Rattle.std.proofs.Common.{◌≡◌, ℕ, zero, suc, ◌+◌, ap, ◌∙◌, arith}
use Rattle.rand_core.specs.Stream.{Stream, next_u64}
use Rattle.kk_outside.specs.Generator.{after_words, word_at}

pub after_words-after : (stream : Stream) (n i : ℕ) → after_words i (after_words n stream) ≡ after_words (n + i) stream
after_words-after stream n zero = let none : n ≡ n + 0 = omega arith in ap (λ (k : ℕ). after_words k stream) none
after_words-after stream n (suc i) =
    let next : suc (n + i) ≡ n + suc i = omega arith in
    ap (λ (s : Stream). (next_u64 s).1) (after_words-after stream n i) ∙ ap (λ (k : ℕ). after_words k stream) next

-- all of its words
pub words-after : (stream : Stream) (n : ℕ) → word_at (after_words n stream) ≡ (λ i. word_at stream (n + i))
words-after stream n = λ j i. ap (λ (s : Stream). (next_u64 s).0) (after_words-after stream n i) j
