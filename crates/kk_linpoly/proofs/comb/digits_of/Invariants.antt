use Rattle.std.proofs.Common.{◌≡◌, ℕ, ◌<◌, [], length, map, get_or}
use Rattle.kk_linpoly.specs.Matrix.{digit}
use Rattle.kk_linpoly.proofs.comb.digits_of.Given as goal

-- the digits before place d
abbrev pub invariant-loop-d : goal.invariant-loop-d
invariant-loop-d l = record {
  long : length l.digits ≡ 16;
  entries : (k : ℕ) → k < l.d → get_or l.digits k [] ≡ map (digit k) l.elements;
}
