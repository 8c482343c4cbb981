use Rattle.std.proofs.Common.{ℕ, ◌^◌, ◌<◌, ◌≤◌, arith}
use Rattle.std.proofs.Math.Pow.{pow_mono}
use Rattle.kk_machine.specs.declared.call.Call.{Call}
use Rattle.kk_machine.specs.declared.call.Call.TheVariants.{Insert, Freeze, Peek}
use Rattle.kk_machine.specs.Spaces.{IsInWidth}
use Rattle.kk_machine.specs.Steps.{new_word}
use Rattle.kk_table.proofs.words.Words.probe.Goals as goal

-- the word of a call whose row has at most 63 bits
word_fits : (width : ℕ) (call : Call) → width ≤ 63 → IsInWidth width call → new_word call < 2 ^ 64
word_fits width (Insert generation row) narrow inside = let most : 2 ^ width ≤ 2 ^ 63 = pow_mono narrow in omega (arith, inside, most)
word_fits width (Freeze generation) narrow inside = omega arith
word_fits width (Peek generation) narrow inside = omega arith

pub overflow_cast-new : goal.overflow_cast-new
overflow_cast-new c =
    let fits = word_fits c.args.width c.args.call c.requires.narrow c.requires.aimed.allowed.0 in omega (arith, c.word-new.ensures, fits)
