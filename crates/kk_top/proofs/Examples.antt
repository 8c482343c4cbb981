-- The orders of the commands at worked values, and which refusal is told first.
use Rattle.std.proofs.Common.{◌≡◌, ℕ, refl, List, [], ◌∷◌, Some, None, Ok, Err, codes}
use Rattle.clap.specs.Takes.{walk_passes}
use Rattle.clap.specs.Walk.{Text, walked}
use Rattle.hex.specs.Hex.{decode_pairs}
use Rattle.kk_field.specs.Polynomial.{product, product_below, irreducible}
use Rattle.kk_code.specs.Ticket.{one_byte, for_length}
use Rattle.kk_code.specs.TicketText.{range_fault, spelled, first_misshapen, is_hex, is_decimal, ticket_of}
use Rattle.kk_code.specs.declared.fault.TicketFault.TheVariants.{Shape}
use Rattle.kk_forms.specs.Request.{is_of_form, matches_by}
use Rattle.kk_order.specs.Order.{Words, Ticket, Seed, Range, Listen, first_broken, order_of}
use Rattle.kk_run_plan.specs.Plan.{plan_form}
use Rattle.kk_run_recv.specs.Recv.{recv_form}
use Rattle.kk_run_relay.specs.Relay.{relay_form}
use Rattle.kk_run_send.specs.Send.{send_form}
use Rattle.kk_run_sim.specs.Sim.{sim_form}
use Rattle.kk_run_unpack.specs.Unpack.{unpack_form}

-- ---- what is told first

-- GF(8) with the modulus X^3 + X + 1, l = 3, k = 1, and a file of one byte
ticket : Text
ticket = codes "kk1:00000001:3:0000000000000003:3:1:1"

-- no piece may be taken
no_pieces : order_of unpack_form (codes "unpack" ∷ ticket ∷ codes "--most" ∷ codes "0" ∷ []) ≡ Err (Range (codes "most"))
unfolding ticket order_of first_broken is_of_form matches_by walked walk_passes ticket_of first_misshapen is_hex is_decimal spelled range_fault irreducible product product_below
no_pieces = refl

-- ten million pieces where no number is given
ten_million : order_of unpack_form (codes "unpack" ∷ ticket ∷ [])
    ≡ Ok (record { ticket = one_byte; texts = ticket ∷ []; seed = None; numbers = (codes "most", 10000000) ∷ [] })
unfolding ticket order_of first_broken is_of_form matches_by walked walk_passes ticket_of first_misshapen is_hex is_decimal spelled range_fault irreducible product product_below
ten_million = refl

-- a ticket without its code comes before the number of pieces, and words that are not of the form before both
ticket_first : order_of unpack_form (codes "unpack" ∷ codes "kk1:00000001" ∷ codes "--most" ∷ codes "0" ∷ []) ≡ Err (Ticket (Shape 2))
unfolding ticket order_of first_broken is_of_form matches_by walked walk_passes ticket_of first_misshapen is_hex is_decimal
ticket_first = refl

words_first : order_of unpack_form (codes "unpack" ∷ codes "kk1:00000001" ∷ codes "--idle" ∷ codes "0" ∷ []) ≡ Err Words
unfolding ticket order_of is_of_form matches_by walked walk_passes
words_first = refl

-- the parts of a ticket
planned : order_of plan_form (codes "plan" ∷ codes "00000001" ∷ codes "3" ∷ codes "0000000000000003" ∷ codes "3" ∷ codes "1" ∷ [])
    ≡ Ok (record {
      ticket = for_length one_byte 0;
      texts = codes "00000001" ∷ codes "3" ∷ codes "0000000000000003" ∷ codes "3" ∷ codes "1" ∷ [];
      seed = None;
      numbers = [];
    })
unfolding order_of first_broken is_of_form matches_by walked walk_passes ticket_of first_misshapen is_hex is_decimal spelled range_fault irreducible product product_below
planned = refl

-- at most 1 of 3 dimensions may be tolerated, and 2 are told before the 17th address
tolerates_two : order_of recv_form (codes "recv" ∷ ticket ∷ codes "A" ∷ codes "--tolerate" ∷ codes "2" ∷ []) ≡ Err (Range (codes "tolerate"))
unfolding ticket order_of first_broken is_of_form matches_by walked walk_passes ticket_of first_misshapen is_hex is_decimal spelled range_fault irreducible product product_below
tolerates_two = refl

-- a seed that is none is told before a rate above 16, the rate before the quiets, and these before the datagrams
zeros : Text
zeros = codes "0000000000000000000000000000000000000000000000000000000000000000"

relayed : Text → Text → Text → Text → List Text
relayed seed rate idle most =
    codes "relay" ∷ ticket ∷ codes "T" ∷ codes "L" ∷ codes "--seed" ∷ seed ∷ codes "--rate" ∷ rate ∷ codes "--idle" ∷ idle
    ∷ codes "--most" ∷ most ∷ []

no_seed : order_of relay_form (relayed (codes "00") (codes "17") (codes "0") (codes "0")) ≡ Err Seed
unfolding relayed ticket order_of first_broken is_of_form matches_by walked walk_passes ticket_of first_misshapen is_hex is_decimal spelled range_fault irreducible product product_below
no_seed = refl

rate_first : order_of relay_form (relayed zeros (codes "17") (codes "0") (codes "0")) ≡ Err (Range (codes "rate"))
unfolding relayed zeros ticket order_of first_broken decode_pairs is_of_form matches_by walked walk_passes ticket_of first_misshapen is_hex is_decimal spelled range_fault irreducible product product_below
rate_first = refl

idle_second : order_of relay_form (relayed zeros (codes "16") (codes "0") (codes "0")) ≡ Err (Range (codes "idle"))
unfolding relayed zeros ticket order_of first_broken decode_pairs is_of_form matches_by walked walk_passes ticket_of first_misshapen is_hex is_decimal spelled range_fault irreducible product product_below
idle_second = refl

-- with l = m = 3, four dimensions are too many to erase, which is told first, and to inject
erased : order_of sim_form (codes "sim" ∷ ticket ∷ codes "4" ∷ codes "4" ∷ codes "0" ∷ codes "--seed" ∷ zeros ∷ []) ≡ Err (Range (codes "erase"))
unfolding zeros ticket order_of first_broken decode_pairs is_of_form matches_by walked walk_passes ticket_of first_misshapen is_hex is_decimal spelled range_fault irreducible product product_below
erased = refl

injected : order_of sim_form (codes "sim" ∷ ticket ∷ codes "3" ∷ codes "4" ∷ codes "0" ∷ codes "--seed" ∷ zeros ∷ []) ≡ Err (Range (codes "inject"))
unfolding zeros ticket order_of first_broken decode_pairs is_of_form matches_by walked walk_passes ticket_of first_misshapen is_hex is_decimal spelled range_fault irreducible product product_below
injected = refl

packed_too_many : order_of send_form (codes "send" ∷ ticket ∷ codes "T" ∷ codes "--seed" ∷ zeros ∷ codes "--extra" ∷ codes "1024" ∷ codes "--pack" ∷ codes "33" ∷ [])
    ≡ Err (Range (codes "pack"))
unfolding zeros ticket order_of first_broken decode_pairs is_of_form matches_by walked walk_passes ticket_of first_misshapen is_hex is_decimal spelled range_fault irreducible product product_below
packed_too_many = refl

-- the seventeenth address
addresses : List Text
addresses =
    codes "1" ∷ codes "2" ∷ codes "3" ∷ codes "4" ∷ codes "5" ∷ codes "6" ∷ codes "7" ∷ codes "8" ∷ codes "9" ∷ codes "10" ∷ codes "11"
    ∷ codes "12" ∷ codes "13" ∷ codes "14" ∷ codes "15" ∷ codes "16" ∷ codes "17" ∷ []

seventeen : order_of recv_form (codes "recv" ∷ ticket ∷ addresses) ≡ Err Listen
unfolding addresses ticket order_of first_broken is_of_form matches_by walked walk_passes ticket_of first_misshapen is_hex is_decimal spelled range_fault irreducible product product_below
seventeen = refl
