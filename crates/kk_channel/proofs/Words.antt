-- Words of a generator, one after another.
use Rattle.std.proofs.Common.{◌≡◌, ℕ, ◌+◌, sym, ap, ◌∙◌, add-one}
use Rattle.rand_core.specs.Stream.{Stream, next_u64}
use Rattle.kk_outside.specs.Generator.{after_words, word_at}

-- the next word of a generator that gave n words
pub drawn : (start old new : Stream) (word n : ℕ) → ◌≡◌ {A = ℕ × Stream} (word, new) (next_u64 old) → old ≡ after_words n start → (word ≡ word_at start n) × (new ≡ after_words (n + 1) start)
drawn start old new word n is so_far = (
  ap (λ (p : ℕ × Stream). p.0) is ∙ ap (λ s. (next_u64 s).0) so_far,
  ap (λ (p : ℕ × Stream). p.1) is ∙ ap (λ s. (next_u64 s).1) so_far ∙ ap (λ (k : ℕ). after_words k start) (sym (add-one n)),
)
