use Rattle.std.proofs.Common.{◌≡◌, ℕ, List, ◌∷◌, ◌++◌, [], length, take, drop, get_or, ap, sym, ◌∙◌, bit_xor, arith}
use Rattle.std.proofs.lemmas.List.{length_push, drop_all, length-map}
use Rattle.std.proofs.lemmas.List.FromFn.{length-map-range_with_len}
use Rattle.kk_rows.specs.Combination.{combination}
use Rattle.kk_rows.specs.Rows.{numbers}
use Rattle.kk_rows.specs.declared.rows.Row.{Row}
use Rattle.kk_outside.specs.Generator.{after_words, word_at}
use Rattle.kk_channel.specs.Channel.{mixed_row}
use Rattle.kk_channel.proofs.Mixing.{first_mixed, kept-more}
use Rattle.kk_channel.proofs.Words.{drawn}
use Rattle.kk_channel.proofs.channel.kept_rows.Goals as goal

pub loop-i-init : goal.loop-i-init
loop-i-init g c =
    let word = word_at (g.R.Rng.stream c.args.rng.now) in
    let rows = numbers c.args.rows.now in
    let count = length-map-range_with_len (mixed_row word rows) 0 c.args.erase in
    record {
      rows = c.new-kept.ensures ∙ sym (drop_all c.args.erase (first_mixed word rows c.args.erase) (omega (arith, count)));
      words = c.skip_words.ensures;
      few = omega (arith, ap length c.new-kept.ensures);
    }

pub loop-i-preserved : goal.loop-i-preserved
loop-i-preserved g c =
    let start = g.R.Rng.stream c.args.rng.now in
    let rows = c.args.rows.now in
    let i = c.loop-i.i in
    let r = (get_or rows i (record { 0 = 0 })).0 in
    let next = drawn start _ _ _ i c.next_u64.ensures c.loop-i.invariant.words in
    record {
      rows =
          c.push.ensures
          ∙ ap (λ (x : ℕ). c.loop-i.kept ++ bit_xor r x ∷ []) (c.combination-sum.ensures ∙ ap (combination (numbers (take i rows))) next.0)
          ∙ ap (λ (l : List ℕ). l ++ bit_xor r (combination (numbers (take i rows)) (word_at start i)) ∷ []) c.loop-i.invariant.rows
          ∙ sym (kept-more (word_at start) rows c.args.erase i (record { 0 = 0 }) c.loop-i.auto.i c.loop-i-test.true);
      words = next.1;
      few = omega (arith, c.loop-i.invariant.few, ap length c.push.ensures, length_push c.loop-i.kept (bit_xor r c.combination-sum.result.0));
    }

pub returns : goal.returns
returns g c =
    let start = g.R.Rng.stream c.args.rng.now in
    let rows = c.args.rows.now in
    let last : c.loop-i.i ≡ length rows = omega (arith, c.loop-i.auto.i-end c.requires.some) in
    let count : c.loop-i.i ≡ length (numbers rows) = last ∙ sym (length-map rows (λ (r : Row). r.0)) in
    record {
      rows = c.loop-i.invariant.rows ∙ ap (λ (n : ℕ). drop c.args.erase (first_mixed (word_at start) (numbers rows) n)) count;
      words = c.loop-i.invariant.words ∙ ap (λ (n : ℕ). after_words n start) last;
    }
