-- Worked calls and moves. The rows 13 and 17 have six bits.
use Rattle.std.specs.Prelude.{◌≡◌, refl, false, true, List, [], ◌∷◌}
use Rattle.kk_rows.specs.Span.{in_span}
use Rattle.kk_machine.specs.declared.call.Call.{Call}
use Rattle.kk_machine.specs.declared.call.Call.TheVariants.{Insert, Freeze, Peek}
use Rattle.kk_machine.specs.declared.call.Reply.TheVariants.{Innovative, Redundant, Late, Frozen, Already, Rank}
use Rattle.kk_machine.specs.declared.call.Entry.{Entry}
use Rattle.kk_machine.specs.declared.moves.Move.{Move}
use Rattle.kk_machine.specs.declared.moves.Move.TheVariants.{Look, Put, Split}
use Rattle.kk_machine.specs.Spaces.{log}
use Rattle.kk_machine.specs.History.{entry, log_of, Legal, LegalAfter}
use Rattle.kk_machine.specs.World.{new_world, run, history, tried, sight}

-- an insert of the row 13 into generation 0
abbrev pub thirteen : Call
thirteen = Insert 0 record { 0 = 13 }

-- an insert of the row 17 into generation 0
abbrev pub seventeen : Call
seventeen = Insert 0 record { 0 = 17 }

-- calls of three numbers, with their replies
abbrev pub in_turn : List Entry
in_turn =
    entry 1 thirteen (Innovative 1) ∷ entry 2 thirteen Redundant ∷ entry 1 (Freeze 0) (Frozen 1) ∷ entry 2 seventeen Late ∷ entry 2 (Freeze 0) Already
    ∷ entry 2 (Peek 0) (Rank 1) ∷ entry 3 (Peek 0) (Rank 1) ∷ []

pub in_turn_is_legal : Legal in_turn
unfolding LegalAfter log_of in_span
in_turn_is_legal = (refl, (refl, (refl, (refl, (refl, (refl, (refl, tt)))))))

pub thirteen_is_left : log_of 0 in_turn ≡ log (13 ∷ []) true
unfolding log_of in_span
thirteen_is_left = refl

-- two actors that look, and then both put the same row
abbrev pub same_row : List Move
same_row = Split ∷ Split ∷ Look 1 thirteen ∷ Look 2 thirteen ∷ Put 1 0 record { 0 = 13 } ∷ Put 2 0 record { 0 = 13 } ∷ []

pub first_wins : history (new_world 1 6) same_row ≡ entry 1 thirteen (Innovative 1) ∷ []
unfolding history tried in_span
first_wins = refl

pub second_has_seen : sight (run (new_world 1 6) same_row) 2 0 ≡ log (13 ∷ []) false
unfolding run tried in_span
second_has_seen = refl

pub then_redundant : history (run (new_world 1 6) same_row) (Look 2 thirteen ∷ []) ≡ entry 2 thirteen Redundant ∷ []
unfolding history run tried in_span
then_redundant = refl
