use Rattle.std.proofs.Common.{◌≡◌, ℕ, suc, ◌+◌, ◌-◌, ◌/◌, ◌^◌, ◌≤◌, sym, ap, ◌∙◌, arith}
use Rattle.std.proofs.Math.Nat.{add-zero, div-div-eq-div-mul}
use Rattle.std.specs.Int.Bits.{bit_and}
use Rattle.std.proofs.lemmas.Nat.{and_mask, pow-add}
use Rattle.kk_code.specs.Encoder.{term, value_at}
use Rattle.kk_code.proofs.PackedMultiples.{part}
use Rattle.kk_code.proofs.TermSums.{part_first, part_after}
use Rattle.kk_code.proofs.terms.Terms.next.Goals as goal

-- a word without its lowest m bits, in two steps
shifted_twice : (word n m : ℕ) → 1 ≤ m → n ≡ m → word / 2 ^ (n - 1) / 2 ^ 1 ≡ word / 2 ^ m
shifted_twice word n m some same =
    let whole : n - 1 + 1 ≡ m = omega arith in
    div-div-eq-div-mul word (2 ^ (n - 1)) (2 ^ 1) ∙ ap (λ k. word / k) (sym (pow-add 2 (n - 1) 1)) ∙ ap (λ k. word / 2 ^ k) whole

pub returns-clause-value : goal.returns-clause-value
returns-clause-value c u i before =
    let p = c.args.encoder.now in
    let m = p.field.degree in
    let word = c.refill.new.self.word in
    let m_is : c.layout-m.result.1 ≡ m = c.layout-m.ensures.bits in
    let values = c.refill.ensures.same u i before in
    ap (bit_and word) (c.mask.ensures ∙ ap (λ k. 2 ^ k - 1) m_is) ∙ and_mask word m
    ∙ sym (part_first m word) ∙ values.word 0 (omega (arith, c.refill.ensures.some)) ∙ ap (value_at p u) (add-zero i)

pub returns-clause-after : goal.returns-clause-after
returns-clause-after c u i before =
    let p = c.args.encoder.now in
    let m = p.field.degree in
    let t = c.refill.new.self in
    let m_is : c.layout-m.result.1 ≡ m = c.layout-m.ensures.bits in
    let some : 1 ≤ t.left = c.refill.ensures.some in
    let values = c.refill.ensures.same u i before in
    record {
      some = omega arith;
      terms = λ j less. values.terms j less ∙ ap (λ k. term p u k j) (omega (arith, some));
      word = λ r less.
          ap (part m r) (shifted_twice t.word c.layout-m.result.1 m (omega (arith, c.layout-m.ensures.in_range.m_low)) m_is) ∙ part_after m r t.word ∙ values.word (suc r) (omega (arith, less))
          ∙ ap (value_at p u) (omega arith);
    }
