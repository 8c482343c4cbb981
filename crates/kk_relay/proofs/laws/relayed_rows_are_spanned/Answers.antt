use Rattle.kk_relay.proofs.Relays.{sent-spanned}
use Rattle.kk_relay.proofs.laws.relayed_rows_are_spanned.Goals as goal

pub returns : goal.returns
returns c = sent-spanned
