use Rattle.kk_code.proofs.CodeLaws.{codeword_is_a_graph}
use Rattle.kk_code.proofs.laws.codeword_is_a_graph.Goals as goal

pub returns : goal.returns
returns c = codeword_is_a_graph
