use Rattle.std.proofs.Common.{◌≡◌, ℕ, ◌^◌, ◌<◌, List, ◌++◌, length, ap, sym, subst, ◌∙◌, arith, length-drop}
use Rattle.std.specs.Prelude.{All}
use Rattle.std.proofs.lemmas.List.{length-map}
use Rattle.kk_rows.specs.Rows.{numbers}
use Rattle.kk_rows.specs.declared.rows.Row.{Row}
use Rattle.kk_outside.specs.Generator.{after_words, word_at}
use Rattle.kk_code.specs.Codeword.{Parameters, codeword, width}
use Rattle.kk_code.specs.Decoding.{erased, injected}
use Rattle.kk_code.proofs.Values.{length-codeword}
use Rattle.kk_channel.specs.Channel.{mixed_rows, injected_rows, channel_rows, words_drawn}
use Rattle.kk_channel.proofs.Losses.{length-channel_rows, channel_rows-below, loss_is_exact}
use Rattle.kk_channel.proofs.Mixing.{length-mixed_rows}
use Rattle.kk_channel.proofs.channel.pass_through.Goals as goal

-- how many rows a codeword has, as the code holds them
count_of : (p : Parameters) (u : List ℕ) (slice : List Row) (rows : List ℕ) → numbers slice ≡ rows → rows ≡ codeword p u → length slice ≡ p.l
count_of p u slice rows same is = sym (length-map slice (λ (r : Row). r.0)) ∙ ap length (same ∙ is) ∙ length-codeword p u

pub kept_rows-passed-requires : goal.kept_rows-passed-requires
kept_rows-passed-requires g c =
    let codeword_is = c.requires.codeword in
    let slice = c.as_slice-codeword in
    let count = count_of c.args.code.now codeword_is.message slice.result.now c.args.rows.now slice.ensures.rows codeword_is.is_codeword in
    record {
      some = omega (arith, count, c.requires.erase);
      few = omega (arith, count, c.l-l.ensures.in_range.l_high, c.l-l.ensures.in_range.m_high);
    }

pub inject_rows-requires-clause-room : goal.inject_rows-requires-clause-room
inject_rows-requires-clause-room g c =
    let codeword_is = c.requires.codeword in
    let slice = c.as_slice-codeword in
    let rows = numbers slice.result.now in
    let word = word_at (g.R.Rng.stream c.args.rng.now) in
    let count = count_of c.args.code.now codeword_is.message slice.result.now c.args.rows.now slice.ensures.rows codeword_is.is_codeword in
    let kept = ap length c.kept_rows-passed.ensures.rows ∙ length-drop c.args.erase (mixed_rows word rows) in
    omega (arith, count, kept, length-mixed_rows word rows, length-map slice.result.now (λ (r : Row). r.0), c.requires.inject, c.l-l.ensures.in_range.l_high, c.l-l.ensures.in_range.m_high)

pub returns : goal.returns
returns g c =
    let p = c.args.code.now in
    let start = g.R.Rng.stream c.args.rng.now in
    let word = word_at start in
    let erase = c.args.erase in
    let inject = c.args.inject in
    let codeword_is = c.requires.codeword in
    let u = codeword_is.message in
    let slice = c.as_slice-codeword in
    let code = c.l-l.ensures.code in
    let count = count_of p u slice.result.now c.args.rows.now slice.ensures.rows codeword_is.is_codeword in
    let passed : c.inject_rows.new.passed ≡ channel_rows word c.args.rows.now erase inject =
    c.inject_rows.ensures.rows start c.kept_rows-passed.ensures.words
    ∙ ap (λ (l : List ℕ). l ++ injected_rows word (numbers slice.result.now) inject) c.kept_rows-passed.ensures.rows
    ∙ ap (λ (l : List ℕ). channel_rows word l erase inject) slice.ensures.rows in
    let passed_of : (v : List ℕ) → c.args.rows.now ≡ codeword p v → c.inject_rows.new.passed ≡ channel_rows word (codeword p v) erase inject =
    λ v is. passed ∙ ap (λ (l : List ℕ). channel_rows word l erase inject) is in
    let here = passed_of u codeword_is.is_codeword in
    let h = code.field.modulus.low_below in
    let range = c.l-l.ensures.in_range in
    record {
      rows = passed;
      words = c.inject_rows.ensures.words start c.kept_rows-passed.ensures.words ∙ ap (λ (n : ℕ). after_words (words_drawn n inject) start) count;
      count = ap length here ∙ length-channel_rows p h u word erase inject c.requires.erase c.requires.inject;
      below = subst (All (λ r. r < 2 ^ width p)) (sym here) (channel_rows-below p h u word erase inject c.requires.erase c.requires.inject range);
      erased = λ v is. ap (λ (l : List ℕ). erased p l v) (passed_of v is) ∙ (loss_is_exact p code v word erase inject c.requires.erase c.requires.inject).erased_are;
      injected = λ v is. ap (λ (l : List ℕ). injected p l v) (passed_of v is) ∙ (loss_is_exact p code v word erase inject c.requires.erase c.requires.inject).injected_are;
    }

pub inject_rows-requires-clause-few : goal.inject_rows-requires-clause-few
inject_rows-requires-clause-few g c = omega (arith, c.requires.inject, c.l-l.ensures.in_range.m_high)
