use Rattle.std.proofs.Common.{◌≡◌, ◌∷◌, [], ap, subst, ◌∙◌, arith}
use Rattle.kk_outside.specs.Outlet.{append_datagrams}
use Rattle.kk_sender.specs.Sending.{DatagramState}
use Rattle.kk_sender.proofs.Datagrams.{OnOk-then, sent_all}
use Rattle.kk_sender.proofs.datagram.Datagram.finish.Goals as goal

pub returns-clause-all : goal.returns-clause-all
returns-clause-all g c =
    let told = g.O.Outlet.told in
    let pack = ap (λ (s : DatagramState). s.frames_per_datagram) c.self.view_is in
    let frames = ap (λ (s : DatagramState). s.frames) c.self.view_is in
    let bytes = c.as_slice.ensures.value ∙ ap (λ (s : DatagramState). s.bytes) c.self.view_is in
    OnOk-then _ _ c.send.result c.send.ensures.sends.sent (λ went start all t pending.
    sent_all t start (told c.args.outlet.now) (told c.send.new.self) c.args.self all
    (omega (arith, pack, c.self.invariant.0)) (omega (arith, pack, frames, c.self.invariant.0)) (omega (arith, frames, c.if-self-eq0.false))
    (subst (λ b. (told c.send.new.self).sends ≡ append_datagrams (told c.args.outlet.now).sends (b ∷ [])) bytes went) pending)
