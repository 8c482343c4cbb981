use Rattle.std.proofs.Common.{◌≡◌, ℕ, ◌^◌, ◌<◌, List, slice_index}
use Rattle.std.specs.Prelude.{Option, IfSome, Some, None, All}
use Rattle.kk_linpoly.specs.LinPoly.{value}
use Rattle.kk_code.specs.Codeword.{Parameters}
use Rattle.kk_decode.specs.FixedMap.{AreValues}
use Rattle.kk_decode.specs.Solving.{IsOnGraph}
use Rattle.kk_decode.proofs.Columns.{rows_on_graph}
use Rattle.kk_decode.proofs.by_map.decode_by_map.Goals as goal

-- where there is a message, the rows are of its codeword
on_graph : (p : Parameters) (rows values : List ℕ) (answer : Option (List ℕ)) → AreValues p rows values
    → IfSome answer (λ u. (i : ℕ) → i < p.l → value p.field u (2 ^ i) ≡ slice_index values i) → IfSome answer (λ u. All (IsOnGraph p u) rows)
on_graph p rows values None are same = tt
on_graph p rows values (Some u) are same = rows_on_graph p rows values u are same

pub returns-clause-rows : goal.returns-clause-rows
returns-clause-rows c = on_graph c.args.code.now c.args.space.now.rows c.in_ok-values.values c.message.result c.in_ok-values.ensures c.message.ensures.values
