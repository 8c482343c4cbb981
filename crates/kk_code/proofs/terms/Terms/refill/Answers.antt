use Rattle.std.proofs.Common.{◌≡◌, ℕ, ◌-◌, ◌<◌, ◌≤◌, slice_index, ap, ◌∙◌, arith}
use Rattle.kk_code.specs.Encoder.{next_term, per_word, term, value_at}
use Rattle.kk_code.proofs.PackedMultiples.{part}
use Rattle.kk_code.proofs.TermSums.{term_after, part-next}
use Rattle.kk_code.proofs.terms.Terms.refill.Goals as goal

pub returns-then-self-eq0-clause-same : goal.returns-then-self-eq0-clause-same
returns-then-self-eq0-clause-same c u i before =
    let p = c.args.encoder.now in
    let range = c.layout-per_word.ensures.in_range in
    let old = c.args.self.now in
    let empty : old.left ≡ 0 = c.if-self-eq0.true in
    let count : c.layout-per_word.result.0 ≡ per_word p = c.layout-per_word.ensures.count in
    let some : 1 ≤ i = omega (arith, before.some, empty) in
    let same : (j : ℕ) → j < p.k → slice_index old.at_last j ≡ term p u (i - 1) j =
    λ j less. before.terms j less ∙ ap (λ k. term p u k j) (omega (arith, empty)) in
    record {
      some = omega (arith, some);
      terms = λ j less.
          c.advance-self.ensures.terms j less ∙ ap (λ x. next_term p x j) (same j less) ∙ term_after p range u (i - 1) (per_word p) j
          ∙ ap (λ k. term p u k j) (omega (arith, some, count));
      word = λ r less.
          ap (part p.field.degree r) c.advance-self.ensures.word
          ∙ part-next p range u old.at_last (i - 1) r same (omega (arith, less, count))
          ∙ ap (value_at p u) (omega (arith, some));
    }
