use Rattle.std.proofs.Common.{map}
use Rattle.std.specs.Prelude.{string_bytes}
use Rattle.kk_words.proofs.Requests.{request_is_named}
use Rattle.kk_words.proofs.addresses.places.Goals as goal

pub returns-in_err-listen-clause-memory : goal.returns-in_err-listen-clause-memory
returns-in_err-listen-clause-memory c = λ _. request_is_named (map string_bytes c.args.words.now) c.in-Ok.asked c.in-Ok.ensures.given

pub returns-in_err-target-clause-memory : goal.returns-in_err-target-clause-memory
returns-in_err-target-clause-memory c = λ _. request_is_named (map string_bytes c.args.words.now) c.in-Ok.asked c.in-Ok.ensures.given
