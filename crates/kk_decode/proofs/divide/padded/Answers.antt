use Rattle.std.proofs.Common.{◌++◌, length, drop, replicate, ap, ◌∙◌}
use Rattle.std.proofs.lemmas.List.{drop-replicate}
use Rattle.kk_decode.proofs.divide.padded.Goals as goal

pub returns : goal.returns
returns c =
    let cs = c.args.coefficients.now in
    ap (λ l. l ++ drop (length cs) (replicate 64 0)) c.copy_from_slice.ensures.after
    ∙ ap (λ l. cs ++ l) (drop-replicate (length cs) 64 0)
