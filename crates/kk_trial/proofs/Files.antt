-- The file that words make.
use Rattle.std.proofs.Common.{◌≡◌, ℕ, zero, suc, ◌+◌, ◌*◌, ◌/◌, ◌^◌, ◌<◌, List, ◌++◌, length, refl, arith, length-append}
use Rattle.std.specs.Prelude.{All, flat_map}
use Rattle.std.specs.List.{range_with_len}
use Rattle.std.specs.Int.{w64, to_be_bytes, byte_at}
use Rattle.std.proofs.lemmas.List.{length-take-le}
use Rattle.std.proofs.lemmas.List.Elements.{All-nil, All-append, All-take, All-from_recursion}
use Rattle.std.proofs.lemmas.Nat.{mod_below}
use Rattle.kk_trial.specs.Trial.{file_words}
use Rattle.kk_trial.specs.Laws.{MadeFileHasItsLength}
use Rattle.kk_trial.proofs.Ranges.{flat_map-range_more}

byte_below : (k x : ℕ) → byte_at k x < 256
byte_below zero x = mod_below x 256 (omega arith)
byte_below (suc k) x = mod_below (x / 256 ^ suc k) 256 (omega arith)

word_below : (x : ℕ) → All (λ b. b < 256) (to_be_bytes w64 x)
word_below x = All-from_recursion (λ b. b < 256) (to_be_bytes w64 x)
    (byte_below 7 x, (byte_below 6 x, (byte_below 5 x, (byte_below 4 x, (byte_below 3 x, (byte_below 2 x, (byte_below 1 x, (byte_below 0 x, tt))))))))

module _ (word : ℕ → ℕ) where
  -- the bytes of n words, from number a on
  abbrev pub words_from : ℕ → ℕ → List ℕ
  words_from a n = flat_map (λ i. to_be_bytes w64 (word i)) (range_with_len a n)

  length-words_from : (a n : ℕ) → length (words_from a n) ≡ 8 * n
  length-words_from a zero = refl
  length-words_from a (suc n) = omega (arith, length-append (to_be_bytes w64 (word a)) (words_from (a + 1) n), length-words_from (a + 1) n)

  words_from-below : (a n : ℕ) → All (λ b. b < 256) (words_from a n)
  words_from-below a zero = All-nil (λ b. b < 256)
  words_from-below a (suc n) = All-append (λ b. b < 256) (to_be_bytes w64 (word a)) (words_from (a + 1) n) (word_below (word a)) (words_from-below (a + 1) n)

-- one word more
pub words_from-more : (word : ℕ → ℕ) (n : ℕ) → words_from word 0 (n + 1) ≡ words_from word 0 n ++ to_be_bytes w64 (word n)
words_from-more word n = flat_map-range_more (λ i. to_be_bytes w64 (word i)) n

pub made_file_has_its_length : MadeFileHasItsLength
made_file_has_its_length len word = (
  length-take-le len (words_from word 0 (file_words len)) (omega (arith, length-words_from word 0 (file_words len))),
  All-take (λ b. b < 256) len (words_from word 0 (file_words len)) (words_from-below word 0 (file_words len)),
)
