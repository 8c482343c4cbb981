-- An order: what a command is to do by its words, or why they are refused. One function computes it, for every command by its form.
use Rattle.std.specs.Prelude.{◌≡◌, ◌⊎◌, ℕ, ◌+◌, ◌-◌, ◌/◌, ◌≤◌, Bool, true, false, not, ◌&&◌, ◌||◌, nat_le, nat_lt, List, [], ◌∷◌, ◌++◌, length, map, find, Option, Some, None, IfSome, is_some, Result, Ok, Err, codes, unwrap_or}
use Rattle.std.specs.List.{flat_map, list_all, slice_index_or}
use Rattle.std.specs.Option.{option_map_or}
use Rattle.clap.specs.Walk.{Text}
use Rattle.kk_code.specs.Ticket.{TicketFields}
use Rattle.kk_code.specs.TicketText.{ticket_of}
use Rattle.kk_code.specs.declared.fault.TicketFault.{TicketFault}
use Rattle.kk_forms.specs.Form.{Form, form_of, is_sound as has_sound_words}
use Rattle.kk_forms.specs.Request.{Request, has_option, request_by, under}
use Rattle.kk_order.specs.Seed.{seed_of}
use Rattle.kk_order.specs.declared.bound.Bound.{Bound as CodeBound}
use Rattle.kk_order.specs.declared.bound.TheConstants.{MAX_NAME_BYTES}
use Rattle.kk_order.specs.declared.bound.Limit.{Limit}
use Rattle.kk_order.specs.declared.bound.Limit.TheVariants.{Exactly, Degree, Points, Tolerated}
use Rattle.kk_order.specs.declared.fault.OrderFault.{OrderFault}
use Rattle.kk_order.specs.declared.fault.OrderFault.TheVariants as code
use Rattle.kk_order.specs.declared.order_form.OrderForm.{OrderForm as CodeForm}
use Rattle.kk_order.specs.declared.order_form.TicketPlace.{TicketPlace}
use Rattle.kk_order.specs.declared.order_form.TicketPlace.TheVariants.{First, Parts}

-- ---- the form of an order

-- The most that a number may be under a ticket: this number, the degree m, the points l, or half of l - k, rounded down. A
-- number n is at most the last exactly where k + 2 n is at most l.
abbrev pub limit_of : TicketFields → Limit → ℕ
limit_of t (Exactly n) = n
limit_of t Degree = t.code.field.degree
limit_of t Points = t.code.l
limit_of t Tolerated = (t.code.l - t.code.k) / 2

-- the range of the number of this name
pub record Bound : Type 0 where
  pub name : Text
  pub least : ℕ
  pub most : Limit

-- The form of an order: the words that it has, where the ticket stands among their texts, the ranges of its numbers in the
-- order in which they are told, and how many addresses follow the ticket at most, if there is a limit.
pub record OrderForm : Type 0 where
  pub words : Form
  pub ticket : TicketPlace
  pub bounds : List Bound
  pub listeners : Option ℕ

-- the range that the code's range is
abbrev pub bound_of : CodeBound → Bound
bound_of bound = record { name = bound.name.now; least = bound.least; most = bound.most }

-- the form that the code's form is
abbrev pub order_form_of : CodeForm → OrderForm
order_form_of form = record {
  words = form_of form.words;
  ticket = form.ticket;
  bounds = map bound_of form.bounds.now;
  listeners = form.listeners;
}

-- a line of a report has room for the name
abbrev pub has_short_name : Bound → Bool
has_short_name bound = nat_le (length bound.name) MAX_NAME_BYTES

-- The form is one by which orders can be read: words can be read by its form of words, and each number has a short name.
abbrev pub is_sound : OrderForm → Bool
is_sound form = has_sound_words form.words && list_all has_short_name form.bounds

-- ---- the order

-- What a command is to do: its ticket, all texts of its words, the seed, where the words have one, and each of its numbers
-- under its name.
pub record Order : Type 0 where
  pub ticket : TicketFields
  pub texts : List Text
  pub seed : Option (List ℕ)
  pub numbers : List (Text × ℕ)

-- the number of this name; 0 where the order has none
abbrev pub number_of : Order → Text → ℕ
number_of order name = unwrap_or (under order.numbers name) 0

-- the long name of the option of a seed
abbrev pub seed_name : Text
seed_name = codes "seed"

-- These texts as that of a ticket: the mark, the texts, and the length 0, parted by colons. A colon in a text makes a part
-- more.
abbrev pub parts_text : List Text → Text
parts_text texts = codes "kk1" ++ flat_map (λ text. codes ":" ++ text) texts ++ codes ":0"

-- the text of the ticket: the first, or all of them as its parts
abbrev pub ticket_text_in : TicketPlace → List Text → Text
ticket_text_in First texts = slice_index_or texts 0 []
ticket_text_in Parts texts = parts_text texts

-- the order of what is found in the words, under this ticket
abbrev pub order_under : TicketFields → Request → Order
order_under t found = record {
  ticket = t;
  texts = found.texts;
  seed = seed_of (under found.options seed_name);
  numbers = found.numbers;
}

-- ---- why words are refused

-- Why words are refused before any call on the outside: they are not of the form, the text of the ticket is none, the seed is
-- none, a number of this name is out of its range, there are too many addresses, or there is no memory.
pub data Cause : Type 0 where
  Words : Cause
  Ticket : TicketFault → Cause
  Seed : Cause
  Range : Text → Cause
  Listen : Cause
  Memory : Cause

-- the cause that the code's fault is
abbrev pub cause_of : OrderFault → Cause
cause_of code.Words = Words
cause_of (code.Ticket fault) = Ticket fault
cause_of code.Seed = Seed
cause_of (code.Range name) = Range name.now
cause_of code.Listen = Listen
cause_of code.Memory = Memory

-- the form has a seed, and the order has none
abbrev pub lacks_seed : OrderForm → Order → Bool
lacks_seed form order = has_option form.words seed_name && not (is_some order.seed)

-- the number is out of this range; a number that is absent breaks none
abbrev pub is_outside : Order → Bound → Bool
is_outside order bound = option_map_or (λ n. nat_lt n bound.least || nat_lt (limit_of order.ticket bound.most) n) (under order.numbers bound.name) false

-- more than so many addresses follow the ticket
abbrev pub has_too_many : Option ℕ → Order → Bool
has_too_many listeners order = option_map_or (λ n. nat_lt (n + 1) (length order.texts)) listeners false

-- What is told first: that there is no seed, else the range that is broken, else that there are too many addresses.
abbrev pub first_cause : Bool → Option Bound → Bool → Option Cause
first_cause true broken many = Some Seed
first_cause false (Some bound) many = Some (Range bound.name)
first_cause false None true = Some Listen
first_cause false None false = None

-- What an order breaks first of its form: the seed, the ranges in their order, the number of addresses.
unfoldable pub first_broken : OrderForm → Order → Option Cause
first_broken form order = first_cause (lacks_seed form order) (find (is_outside order) form.bounds) (has_too_many form.listeners order)

-- the order, unless it breaks its form
abbrev pub order_unless : Order → Option Cause → Result Order Cause
order_unless order None = Ok order
order_unless order (Some cause) = Err cause

-- the order of what is found in the words, by what the text of its ticket is read as
abbrev pub order_with : OrderForm → Request → Result TicketFields TicketFault → Result Order Cause
order_with form found (Ok t) = order_unless (order_under t found) (first_broken form (order_under t found))
order_with form found (Err fault) = Err (Ticket fault)

-- the order by what is found in the words, where they are of the form
abbrev pub order_found : OrderForm → Option Request → Result Order Cause
order_found form None = Err Words
order_found form (Some found) = order_with form found (ticket_of (ticket_text_in form.ticket found.texts))

-- The order in the words of a command, by its form, or why they are refused: they are not of the form, the text of the ticket
-- is none, or the order breaks the form.
unfoldable pub order_of : OrderForm → List Text → Result Order Cause
order_of form words = order_found form (request_by form.words words)

-- Where the words give this answer, they may be refused for this cause: it is the answer's, or there is no memory.
abbrev pub IsRefusedFor : Result Order Cause → Cause → Type 0
IsRefusedFor answer cause = (cause ≡ Memory) ⊎ (answer ≡ Err cause)

-- a line of a report has room for the cause
abbrev pub FitsLine : Cause → Type 0
FitsLine (Range name) = length name ≤ MAX_NAME_BYTES
FitsLine other = Unit {0}

-- ---- what an order keeps

-- the number, where it is there, lies in this range
abbrev pub IsKept : Order → Bound → Type 0
IsKept order bound = IfSome (under order.numbers bound.name) (λ n. (bound.least ≤ n) × (n ≤ limit_of order.ticket bound.most))

-- each number that is there lies in its range
abbrev pub AreKept : Order → List Bound → Type 0
AreKept order [] = Unit {0}
AreKept order (bound ∷ others) = IsKept order bound × AreKept order others
