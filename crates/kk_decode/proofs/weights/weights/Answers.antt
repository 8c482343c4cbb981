use Rattle.std.proofs.Common.{◌≡◌, ◌+◌, ◌*◌, ◌≤◌, length, take, replicate, arith, subst}
use Rattle.std.proofs.lemmas.List.{length-take-le}
use Rattle.std.proofs.lemmas.List.Elements.{All-replicate}
use Rattle.kk_linpoly.specs.LinPoly.{IsOver}
use Rattle.kk_decode.proofs.Elements.{IsOver-zeros}
use Rattle.kk_decode.proofs.weights.weights.Goals as goal

pub loop-j-init : goal.loop-j-init
loop-j-init g c =
    let m = c.args.field.now.degree in
    let k = c.args.k in
    let long : length c.powers_of-nodes.result ≡ 64 = omega (arith, c.powers_of-nodes.type_inv) in
    let count : length (take k c.powers_of-nodes.result) ≡ k = length-take-le k c.powers_of-nodes.result (omega (arith, c.requires, long)) in
    let cost = subst (λ n. c.vanishing-zeros_at.new.steps ≤ c.powers_of-nodes.new.steps + n * (n + 1)) count c.vanishing-zeros_at.ensures.cost in
    record { over = All-replicate (IsOver m) 64 (replicate 65 0) (IsOver-zeros m 65); counted = omega (arith, c.powers_of-nodes.ensures.cost, cost) }
