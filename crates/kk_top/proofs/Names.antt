-- The command whose form an order has.
use Rattle.std.proofs.Common.{◌≡◌, ◌∙◌, ℕ, true, List, [], ◌∷◌, Some, Ok, refl, ap, sym}
use Rattle.std.proofs.lemmas.Slice.Eq.{bytes_eq-Decides}
use Rattle.std.proofs.lemmas.Bool.{false≢true}
use Rattle.kk_words.specs.declared.command.Command.{Command}
use Rattle.kk_words.specs.declared.command.Command.TheVariants.{Plan, Pack, Unpack, Send, Relay, Recv, Sim}
use Rattle.kk_words.specs.Commands.{command_named, form_of, named_in}
use Rattle.kk_forms.specs.Form.{Form}
use Rattle.kk_forms.specs.Request.{is_named}
use Rattle.kk_order.specs.Order.{Order, OrderForm, order_of}
use Rattle.kk_order.proofs.Orders.{ordered_named}

-- the command that a form's name names
its_name : (command : Command) → command_named (form_of command).name ≡ Some command
its_name Plan = refl
its_name Pack = refl
its_name Unpack = refl
its_name Send = refl
its_name Relay = refl
its_name Recv = refl
its_name Sim = refl

-- words that have an order by the form of a command name this command
pub named_by : (command : Command) (form : OrderForm) (words : List (List ℕ)) (order : Order) → form.words ≡ form_of command → order_of form words ≡ Ok order
    → named_in words ≡ Some command
named_by command form words order same ordered = go words (ap (λ (f : Form). is_named f words) (sym same) ∙ ordered_named form words order ordered)
  where
    go : (ws : List (List ℕ)) → is_named (form_of command) ws ≡ true → named_in ws ≡ Some command
    go [] e = absurd (false≢true e)
    go (first ∷ others) e = ap command_named (sym ((bytes_eq-Decides (form_of command).name first).0 e)) ∙ its_name command
