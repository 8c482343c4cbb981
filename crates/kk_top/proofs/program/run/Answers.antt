use Rattle.std.proofs.Common.{◌≡◌, ℕ, List, Some, Ok, refl, ap, sym, ◌∙◌}
use Rattle.std.proofs.lemmas.Option.{same_Some}
use Rattle.kk_words.specs.declared.command.Command.{Command}
use Rattle.kk_words.specs.declared.command.Command.TheVariants.{Plan, Pack, Unpack, Recv}
use Rattle.kk_words.specs.Commands.{named_in}
use Rattle.kk_order.specs.Order.{Order, order_of}
use Rattle.kk_top.proofs.Names.{named_by}
use Rattle.kk_run_recv.specs.Recv.{recv_form}
use Rattle.kk_run_unpack.specs.Unpack.{unpack_form}
use Rattle.kk_top.proofs.program.run.Goals as goal

-- words that have an order to unpack name `unpack`, whose form it is
unpack_alone : (words : List (List ℕ)) (command : Command) (order : Order) → Some command ≡ named_in words → order_of unpack_form words ≡ Ok order → command ≡ Unpack
unpack_alone words command order named ordered = same_Some _ _ (named ∙ named_by Unpack unpack_form words order refl ordered)

-- and words that have an order to receive name `recv`
recv_alone : (words : List (List ℕ)) (command : Command) (order : Order) → Some command ≡ named_in words → order_of recv_form words ≡ Ok order → command ≡ Recv
recv_alone words command order named ordered = same_Some _ _ (named ∙ named_by Recv recv_form words order refl ordered)

pub returns-in-Plan-clause-unread : goal.returns-in-Plan-clause-unread
returns-in-Plan-clause-unread g c = λ other once. absurd (other (sym c.in-Some.ensures ∙ ap Some c.in-Plan.is))

pub returns-in-Plan-clause-unread_by_plan : goal.returns-in-Plan-clause-unread_by_plan
returns-in-Plan-clause-unread_by_plan g c = λ named why. c.run_plan.ensures.unread why

pub returns-in-Plan-clause-no_bytes_unpacked : goal.returns-in-Plan-clause-no_bytes_unpacked
returns-in-Plan-clause-no_bytes_unpacked g c = λ order by text.
    let same : Plan ≡ Unpack = sym c.in-Plan.is ∙ unpack_alone _ _ order c.in-Some.ensures by.ordered in cc

pub returns-in-Pack-clause-no_bytes_unpacked : goal.returns-in-Pack-clause-no_bytes_unpacked
returns-in-Pack-clause-no_bytes_unpacked g c = λ order by text.
    let same : Pack ≡ Unpack = sym c.in-Pack.is ∙ unpack_alone _ _ order c.in-Some.ensures by.ordered in cc

pub returns-in-Recv-clause-no_bytes_unpacked : goal.returns-in-Recv-clause-no_bytes_unpacked
returns-in-Recv-clause-no_bytes_unpacked g c = λ order by text.
    let same : Recv ≡ Unpack = sym c.in-Recv.is ∙ unpack_alone _ _ order c.in-Some.ensures by.ordered in cc

pub returns-in-Plan-clause-no_bytes_received : goal.returns-in-Plan-clause-no_bytes_received
returns-in-Plan-clause-no_bytes_received g c = λ order ordered once text.
    let same : Plan ≡ Recv = sym c.in-Plan.is ∙ recv_alone _ _ order c.in-Some.ensures ordered in cc

pub returns-in-Pack-clause-no_bytes_received : goal.returns-in-Pack-clause-no_bytes_received
returns-in-Pack-clause-no_bytes_received g c = λ order ordered once text.
    let same : Pack ≡ Recv = sym c.in-Pack.is ∙ recv_alone _ _ order c.in-Some.ensures ordered in cc

pub returns-in-Unpack-clause-no_bytes_received : goal.returns-in-Unpack-clause-no_bytes_received
returns-in-Unpack-clause-no_bytes_received g c = λ order ordered once text.
    let same : Unpack ≡ Recv = sym c.in-Unpack.is ∙ recv_alone _ _ order c.in-Some.ensures ordered in cc
