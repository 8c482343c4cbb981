use Rattle.std.proofs.Common.{◌≡◌, ◌<◌, ◌^◌, List, length, get_or, ap, sym, subst, ◌∙◌, arith, All}
use Rattle.std.proofs.lemmas.Result.{err_from_is_err_and}
use Rattle.std.proofs.Math.ListN.{length-set}
use Rattle.kk_rows.specs.Rows.{numbers}
use Rattle.kk_code.specs.Codeword.{width}
use Rattle.kk_relay.specs.RelayState.{BasisState, no_rows, with_row}
use Rattle.kk_relay.proofs.Bases.{none_in, some_in}
use Rattle.kk_relay.proofs.Relays.{length-relay_after, get_or-relay_after}
use Rattle.kk_relay.proofs.Steps.{count-none, count-some, HasRelayed-none, HasRelayed-some, BreaksOff-some, width_held}
use Rattle.kk_relay.proofs.relay.Relay.relay_frame.Goals as goal
use Rattle.kk_relay.proofs.relay.Relay.relay_frame.Goals.{After-rows-rows}

pub insert-requires-clause-generation : goal.insert-requires-clause-generation
insert-requires-clause-generation g c =
    let before = c.requires.progress.1 in
    omega (arith, ap length c.requires.progress.3.holds, length-relay_after c.args.ticket.now before, c.requires.frame.0)

pub insert-requires-clause-row : goal.insert-requires-clause-row
insert-requires-clause-row g c =
    let before = c.requires.progress.1 in
    let wide : (get_or c.args.self.now c.args.frame.now.0 (no_rows 0)).width ≡ width c.args.ticket.now.code =
    ap (λ (l : List BasisState). (get_or l c.args.frame.now.0 (no_rows 0)).width) c.requires.progress.3.holds
    ∙ ap (λ (b : BasisState). b.width) (get_or-relay_after c.args.ticket.now before c.args.frame.now.0 (no_rows 0) c.requires.frame.0) in
    subst (λ w. c.args.frame.now.1.0 < 2 ^ w) (sym wide) c.requires.frame.1

pub rows-rows-requires : goal.rows-rows-requires
rows-rows-requires g c =
    let before = c.requires.progress.1 in
    let same = length-set c.args.self.now c.args.frame.now.0 (with_row (get_or c.args.self.now c.args.frame.now.0 (no_rows 0)) c.args.frame.now.1.0) in
    omega (arith, ap length c.insert.ensures, same, ap length c.requires.progress.3.holds, length-relay_after c.args.ticket.now before, c.requires.frame.0)

pub returns-then-is_empty-clause-relayed : goal.returns-then-is_empty-clause-relayed
returns-then-is_empty-clause-relayed g c = λ start before origin so_far.
    let told = g.O.Outlet.told in
    let stream = g.R.Rng.stream in
    HasRelayed-none c.args.ticket.now c.args.rate start before c.args.frame.now.0 c.args.frame.now.1.0 origin (told c.args.outlet.now) (told c.args.outlet.now) c.args.self.now c.insert.new.self (numbers c.rows-rows.result.now) (stream c.args.rng.now) (stream c.args.rng.now) so_far c.requires.frame.0 c.insert.ensures c.rows-rows.ensures.rows
    (none_in c.rows-rows.result.now (sym c.is_empty.ensures ∙ c.if-is_empty.true))

pub returns-then-is_empty-clause-count : goal.returns-then-is_empty-clause-count
returns-then-is_empty-clause-count g c = λ start before origin so_far.
    let told = g.O.Outlet.told in
    let stream = g.R.Rng.stream in
    count-none c.args.ticket.now c.args.rate start before c.args.frame.now.0 c.args.frame.now.1.0 origin (told c.args.outlet.now) (told c.args.outlet.now) c.args.self.now c.insert.new.self (numbers c.rows-rows.result.now) (stream c.args.rng.now) (stream c.args.rng.now) so_far c.requires.frame.0 c.insert.ensures c.rows-rows.ensures.rows
    (none_in c.rows-rows.result.now (sym c.is_empty.ensures ∙ c.if-is_empty.true))

pub send_combinations-requires-clause-rows : goal.send_combinations-requires-clause-rows
send_combinations-requires-clause-rows g c =
    let told = g.O.Outlet.told in
    let stream = g.R.Rng.stream in
    let p = c.requires.progress in
    let wide = width_held c.args.ticket.now c.args.rate p.0 p.1 c.args.frame.now.0 c.args.frame.now.1.0 p.2 (told c.args.outlet.now) (told c.args.outlet.now) c.args.self.now c.insert.new.self (numbers c.rows-rows.result.now) (stream c.args.rng.now) (stream c.args.rng.now) p.3 c.requires.frame.0 c.insert.ensures c.rows-rows.ensures.rows in
    subst (λ w. All (λ row. row < 2 ^ w) (numbers c.rows-rows.result.now)) wide c.rows-rows.ensures.below

pub returns-in_err-send_combinations-clause-breaks_off : goal.returns-in_err-send_combinations-clause-breaks_off
returns-in_err-send_combinations-clause-breaks_off g c = λ start before origin so_far.
    let told = g.O.Outlet.told in
    let stream = g.R.Rng.stream in
    let p = err_from_is_err_and c.from_residual.result c.from_residual.ensures.1 in
    rw p.1 (BreaksOff-some c.args.ticket.now c.args.rate start before c.args.frame.now.0 c.args.frame.now.1.0 origin (told c.args.outlet.now) (told c.send_combinations.new.outlet) c.args.self.now c.insert.new.self (numbers c.rows-rows.result.now) (stream c.args.rng.now) (stream c.send_combinations.new.rng) so_far c.requires.frame.0 c.insert.ensures c.rows-rows.ensures.rows
    (some_in c.rows-rows.result.now (sym c.is_empty.ensures ∙ c.if-is_empty.false)) c.in_err-send_combinations.ensures.cut)

pub returns-clause-relayed : goal.returns-clause-relayed
returns-clause-relayed g c = λ start before origin so_far.
    let told = g.O.Outlet.told in
    let stream = g.R.Rng.stream in
    HasRelayed-some c.args.ticket.now c.args.rate start before c.args.frame.now.0 c.args.frame.now.1.0 origin (told c.args.outlet.now) (told c.send_combinations.new.outlet) c.args.self.now c.insert.new.self (numbers c.rows-rows.result.now) (stream c.args.rng.now) (stream c.send_combinations.new.rng) so_far c.requires.frame.0 c.insert.ensures c.rows-rows.ensures.rows
    (some_in c.rows-rows.result.now (sym c.is_empty.ensures ∙ c.if-is_empty.false)) c.in_ok-send_combinations.ensures.sent

pub returns-clause-count : goal.returns-clause-count
returns-clause-count g c = λ start before origin so_far.
    let told = g.O.Outlet.told in
    let stream = g.R.Rng.stream in
    count-some c.args.ticket.now c.args.rate start before c.args.frame.now.0 c.args.frame.now.1.0 origin (told c.args.outlet.now) (told c.args.outlet.now) c.args.self.now c.insert.new.self (numbers c.rows-rows.result.now) (stream c.args.rng.now) (stream c.args.rng.now) so_far c.requires.frame.0 c.insert.ensures c.rows-rows.ensures.rows
    (some_in c.rows-rows.result.now (sym c.is_empty.ensures ∙ c.if-is_empty.false))
