use Rattle.std.proofs.Common.{◌≡◌, List, [], ◌∷◌, ◌++◌, ap, sym, ◌∙◌, arith}
use Rattle.std.specs.Prelude.{map}
use Rattle.std.specs.List.{range_with_len}
use Rattle.std.proofs.lemmas.List.FromFn.{map-range_with_len_more}
use Rattle.kk_code.specs.Codeword.{width}
use Rattle.kk_relay.specs.RelayState.{BasisState, no_rows, basis_after}
use Rattle.kk_relay.proofs.Relays.{basis_after-none}
use Rattle.kk_relay.proofs.relay.Relay.new.Goals as goal

pub loop-preserved : goal.loop-preserved
loop-preserved c =
    let t = c.args.ticket.now in
    let wide : c.width-width.result ≡ width t.code = c.width-width.ensures.bits ∙ ap width c.code.ensures.code in
    let front = map (basis_after t []) (range_with_len 0 c.loop.counter) in
    let new : c.new.result ≡ basis_after t [] c.loop.counter = c.new.ensures ∙ ap no_rows wide ∙ sym (basis_after-none t c.loop.counter) in
    record {
      count = omega (arith, c.push_reserved.ensures.len, c.loop.invariant.count);
      room = omega (arith, c.push_reserved.ensures.capacity, c.loop.invariant.room);
      bases =
          c.push_reserved.ensures.items
          ∙ ap (λ (l : List BasisState). l ++ c.new.result ∷ []) c.loop.invariant.bases
          ∙ ap (λ (b : BasisState). front ++ b ∷ []) new
          ∙ sym (map-range_with_len_more (basis_after t []) 0 c.loop.counter c.loop.counter (omega arith));
    }
