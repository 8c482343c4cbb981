use Rattle.kk_rows.proofs.AdditiveMaps.{additive_maps_take_spans_to_spans}
use Rattle.kk_rows.proofs.laws.additive_maps_take_spans_to_spans.Goals as goal

pub returns : goal.returns
returns c = additive_maps_take_spans_to_spans
