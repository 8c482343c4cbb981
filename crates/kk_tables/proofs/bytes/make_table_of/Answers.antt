use Rattle.std.proofs.Common.{◌≡◌, ◌<◌, length, arith, ◌∙◌, inl, inr}
use Rattle.std.proofs.lemmas.Bool.{cases_lt}
use Rattle.std.proofs.lemmas.List.{get_or-set_same, get_or-set_other, length-set}
use Rattle.kk_tables.proofs.bytes.make_table_of.Goals as goal

pub loop-n-init : goal.loop-n-init
loop-n-init c = record {
  long = c.requires.long;
  value = λ image additive units. record { long = c.requires.long; entries = λ k less. absurd (omega (arith, less)) };
}

pub loop-n-preserved : goal.loop-n-preserved
loop-n-preserved c =
    let n = c.loop-n.n in
    let table = c.loop-n.table in
    let x = c.entry_of.result in
    let within : n < 2048 = omega (arith, c.loop-n-test.true) in
    let long = length-set table n x ∙ c.loop-n.invariant.long in
    let room : n < length table = omega (arith, within, c.loop-n.invariant.long) in
    record {
      long = long;
      value = λ image additive units.
          let t = c.loop-n.invariant.value image additive units in
          record {
            long = long;
            entries = λ k less. elim (cases_lt k n) [
              | inl before ↦ get_or-set_other table n k x 0 (λ e. omega (arith, e, before)) ∙ t.entries k before
              | inr here ↦ let e : k ≡ n = omega (arith, less, here) in
                  rw e (get_or-set_same table n x 0 room ∙ c.entry_of.ensures image additive units t)
            ];
          };
    }

pub returns-clause-value : goal.returns-clause-value
returns-clause-value c image additive units =
    let all : c.loop-n.n ≡ 2048 = omega (arith, c.loop-n.auto.n-end, c.loop-n-test.false) in
    rw all at (c.loop-n.invariant.value image additive units)
