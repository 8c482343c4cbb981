-- The generations that have passed through the channel.
use Rattle.std.proofs.Common.{◌≡◌, ℕ, ◌+◌, List, [], ◌∷◌, ◌++◌, length, map, take, get_or, ◌<◌, ap, ◌∙◌, arith}
use Rattle.std.proofs.lemmas.List.{map-append, take_more, get_or-map, length-map}
use Rattle.rand_core.specs.Stream.{Stream}
use Rattle.kk_rows.specs.Rows.{numbers}
use Rattle.kk_rows.specs.declared.rows.Row.{Row}
use Rattle.kk_outside.specs.Generator.{after_words, word_at}
use Rattle.kk_code.specs.Codeword.{Parameters, codeword}
use Rattle.kk_code.specs.Ticket.{TicketFields}
use Rattle.kk_assemble.specs.FileBits.{cut}
use Rattle.kk_channel.specs.Channel.{channel_rows, words_drawn}
use Rattle.kk_trial.specs.declared.operator_channel.OperatorChannel.{OperatorChannel}
use Rattle.kk_trial.specs.Trial.{made_file, words_before, received_rows}
use Rattle.kk_trial.proofs.Words.{after_words-after, words-after}

-- the frames of a generation with these rows
abbrev pub own_frames : ℕ → List ℕ → List (ℕ × ℕ)
own_frames g rows = map (λ r. (g, r)) rows

-- one row more
pub own_frames-more : (g : ℕ) (rows : List Row) (i : ℕ) (d : Row) → i < length rows
    → own_frames g (take (i + 1) (numbers rows)) ≡ own_frames g (take i (numbers rows)) ++ (g, (get_or rows i d).0) ∷ []
own_frames-more g rows i d less =
    let pair : ℕ → ℕ × ℕ = λ r. (g, r) in
    let see : Row → ℕ = λ r. r.0 in
    ap (own_frames g) (take_more (numbers rows) i 0 (omega (arith, less, length-map rows see)) ∙ ap (λ (r : ℕ). take i (numbers rows) ++ r ∷ []) (get_or-map see rows i d 0 less))
    ∙ map-append pair (take i (numbers rows)) ((get_or rows i d).0 ∷ [])

module _ (t : TicketFields) (channel : OperatorChannel) (start stream : Stream) (n : ℕ) (at : stream ≡ after_words (words_before t channel n) start) where
  -- what comes out of the channel for the next generation
  pub rows_passed : (file : List ℕ) (code : Parameters) (message sent rows : List ℕ) → file ≡ made_file t.length (word_at start) → code ≡ t.code
      → message ≡ cut t.code file n → sent ≡ codeword code message → rows ≡ channel_rows (word_at stream) sent channel.erase channel.inject
      → rows ≡ received_rows t channel (word_at start) n
  rows_passed file code message sent rows made is cut_is sent_is rows_are =
      let before = words_before t channel n in
      let same : sent ≡ codeword t.code (cut t.code (made_file t.length (word_at start)) n) =
      sent_is ∙ ap (λ (p : Parameters). codeword p message) is ∙ ap (codeword t.code) (cut_is ∙ ap (λ (f : List ℕ). cut t.code f n) made) in
      rows_are
      ∙ ap (λ (s : Stream). channel_rows (word_at s) sent channel.erase channel.inject) at
      ∙ ap (λ (word : ℕ → ℕ). channel_rows word sent channel.erase channel.inject) (words-after start before)
      ∙ ap (λ (l : List ℕ). channel_rows (λ i. word_at start (before + i)) l channel.erase channel.inject) same

  -- which words it has drawn then
  pub words_passed : (l : ℕ) (new : Stream) → l ≡ t.code.l → new ≡ after_words (words_drawn l channel.inject) stream → new ≡ after_words (words_before t channel (n + 1)) start
  words_passed l new is drawn =
      let before = words_before t channel n in
      let k = words_drawn t.code.l channel.inject in
      let sum : before + k ≡ words_before t channel (n + 1) = grind arith in
      drawn
      ∙ ap (λ (m : ℕ). after_words (words_drawn m channel.inject) stream) is
      ∙ ap (after_words k) at
      ∙ after_words-after start before k
      ∙ ap (λ (m : ℕ). after_words m start) sum
