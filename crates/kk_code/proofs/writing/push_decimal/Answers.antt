use Rattle.std.proofs.Common.{ap, arith, length, lit<}
use Rattle.std.proofs.lemmas.Fmt.{length-decimal-le}
use Rattle.kk_code.proofs.writing.push_decimal.Goals as goal

pub push_str-requires-2 : goal.push_str-requires-2
push_str-requires-2 c =
    let short = length-decimal-le 7 c.args.n (lit< tt) c.requires.small (omega (arith, c.requires.small)) in
    (lit< tt, omega (arith, short, ap length c.format.ensures.text, c.push_str.ensures.len, c.requires.room))

pub returns-clause-len : goal.returns-clause-len
returns-clause-len c =
    let short = length-decimal-le 7 c.args.n (lit< tt) c.requires.small (omega (arith, c.requires.small)) in
    omega (arith, short, ap length c.format.ensures.text, c.push_str.ensures.len, c.push_str-2.ensures.len)
