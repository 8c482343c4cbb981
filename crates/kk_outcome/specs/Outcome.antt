-- What a receiver tells of its gates, of its generations and of its inserts, a line each.
use Rattle.std.specs.Prelude.{◌≡◌, ℕ, ◌+◌, ◌-◌, Bool, true, false, if◌then◌else◌, List, [], ◌∷◌, ◌++◌, length, refl, codes}
use Rattle.std.specs.Fmt.{decimal, digits}
use Rattle.kk_frame.specs.declared.gate_count.GateCount.{GateCount}
use Rattle.kk_workers.specs.declared.totals.Totals.{Totals}
use Rattle.kk_report.specs.Report.{gate_line}

-- how many generations there are
abbrev pub count_line : ℕ → List ℕ
count_line count = codes "generations " ++ decimal count ++ codes "\n"

-- the lines of gates that are numbered from `first` on
abbrev pub gate_lines_from : ℕ → List GateCount → List ℕ
gate_lines_from first [] = []
gate_lines_from first (counts ∷ others) = gate_line first counts ++ gate_lines_from (first + 1) others

-- a generation: its number, the rank of its space, and whether it was decoded
abbrev pub generation_line : ℕ → ℕ → Bool → List ℕ
generation_line number rank decoded =
    codes "generation " ++ decimal number ++ codes " rank " ++ decimal rank
    ++ (if decoded then codes " decoded\n" else codes " none\n")

-- the lines of generations that are numbered from `first` on, each with its rank and whether it was decoded
abbrev pub generation_lines_from : ℕ → List (ℕ × Bool) → List ℕ
generation_lines_from first [] = []
generation_lines_from first (generation ∷ others) =
    generation_line first generation.0 generation.1 ++ generation_lines_from (first + 1) others

-- the lines of all generations, which are numbered from 0 on
abbrev pub generation_lines : List (ℕ × Bool) → List ℕ
generation_lines generations = generation_lines_from 0 generations

-- how the inserts were answered
abbrev pub inserts_line : Totals → List ℕ
inserts_line totals =
    codes "inserts " ++ decimal totals.inserts ++ codes " innovative " ++ decimal totals.innovative
    ++ codes " redundant " ++ decimal totals.redundant ++ codes " late " ++ decimal totals.late ++ codes "\n"

-- of so many inserts so many were innovative, the others redundant, and none was late
abbrev pub unfrozen_totals : ℕ → ℕ → Totals
unfrozen_totals inserts innovative =
    record { inserts = inserts; innovative = innovative; redundant = inserts - innovative; late = 0 }

-- What a receiver tells of its gates, of its generations, each with its rank and whether it was decoded, and of its inserts.
abbrev pub received_lines : List GateCount → List (ℕ × Bool) → Totals → List ℕ
received_lines gates generations totals =
    count_line (length generations) ++ gate_lines_from 0 gates ++ generation_lines generations ++ inserts_line totals

-- ---- worked

-- two generations, the first decoded
pub two_generations : count_line 2 ++ generation_lines ((2, true) ∷ (0, false) ∷ []) ≡ codes "generations 2\ngeneration 0 rank 2 decoded\ngeneration 1 rank 0 none\n"
unfolding digits
two_generations = refl

pub three_inserts : inserts_line (unfrozen_totals 3 2) ≡ codes "inserts 3 innovative 2 redundant 1 late 0\n"
unfolding digits
three_inserts = refl
