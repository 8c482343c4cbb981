use Rattle.std.proofs.Common.{◌≡◌, ◌∙◌, ◌*◌, ap}
use Rattle.kk_code.specs.Ticket.{message_bits}
use Rattle.kk_code.specs.declared.ticket.TheConstants.{MAX_GENERATIONS}
use Rattle.kk_code.proofs.Lengths.{longest_file}
use Rattle.kk_code.proofs.ticket.Ticket.max_length.Goals as goal

pub returns-clause-fits : goal.returns-clause-fits
returns-clause-fits c = λ length.
    let code = c.code-code.ensures.code in
    let symbols = c.k.ensures.symbols ∙ ap (λ p. p.k) code in
    let degree = c.m.ensures.degree ∙ ap (λ p. p.field.degree) code in
    let bits : c.from.result ≡ MAX_GENERATIONS * message_bits c.args.self.now.code = c.from.ensures ∙ ap (λ k. 16384 * (k * c.m.result)) symbols ∙ ap (λ m. 16384 * (c.args.self.now.code.k * m)) degree in
    longest_file c.args.self.now c.from.result length c.code-code.ensures.ticket.code bits
