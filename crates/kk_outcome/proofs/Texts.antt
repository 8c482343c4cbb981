-- The lines of the gates and of the generations so far.
use Rattle.std.proofs.Common.{◌≡◌, ℕ, ◌+◌, ◌<◌, Bool, List, [], ◌∷◌, ◌++◌, length, take, drop, get_or, Err, ap, sym, subst, ◌∙◌, arith, map, append_assoc, length-take, take-append-drop, add-one}
use Rattle.std.proofs.lemmas.List.{append-nil, length-map}
use Rattle.std.proofs.lemmas.List.FromFn.{length-enumerate_from, get_or-enumerate_from}
use Rattle.std.proofs.Math.ListN.{get_or-map}
use Rattle.std.specs.List.{enumerate_from}
use Rattle.std.proofs.Math.Seq.{take-suc}
use Rattle.kk_outside.specs.Sink.{SinkTold}
use Rattle.kk_report.specs.Block.{Adds}
use Rattle.kk_frame.specs.declared.gate_count.GateCount.{GateCount}
use Rattle.kk_report.specs.Report.{gate_line}
use Rattle.kk_outcome.specs.Outcome.{gate_lines_from, generation_line, generation_lines_from, generation_lines}
use Rattle.kk_report.proofs.Blocks.{Added, Added-after, Adds-after, Adds-stopped}

-- the lines of some generations and of those behind them
pub generation_lines_from-append : (first : ℕ) (xs ys : List (ℕ × Bool)) → generation_lines_from first (xs ++ ys) ≡ generation_lines_from first xs ++ generation_lines_from (first + length xs) ys
generation_lines_from-append first [] ys = ap (λ (n : ℕ). generation_lines_from n ys) (omega arith)
generation_lines_from-append first (x ∷ xs) ys =
    ap (λ (l : List ℕ). generation_line first x.0 x.1 ++ l) (generation_lines_from-append (first + 1) xs ys)
    ∙ sym (append_assoc (generation_line first x.0 x.1) (generation_lines_from (first + 1) xs) (generation_lines_from (first + 1 + length xs) ys))
    ∙ ap (λ (n : ℕ). generation_lines_from first (x ∷ xs) ++ generation_lines_from n ys) (omega arith)

-- the lines of the first i + 1 generations: those of the first i, and that of generation i
pub generation_lines-take_more : (all : List (ℕ × Bool)) (i : ℕ) (x : ℕ × Bool) → i < length all → x ≡ get_or all i x → generation_lines (take (i + 1) all) ≡ generation_lines (take i all) ++ generation_line i x.0 x.1
generation_lines-take_more all i x within at =
    let sized : length (take i all) ≡ i = omega (arith, length-take i all) in
    ap generation_lines (ap (λ (n : ℕ). take n all) (add-one i) ∙ take-suc all i x within ∙ ap (λ (y : ℕ × Bool). take i all ++ y ∷ []) (sym at))
    ∙ generation_lines_from-append 0 (take i all) (x ∷ [])
    ∙ ap (λ (n : ℕ). generation_lines (take i all) ++ generation_lines_from n (x ∷ [])) (omega (arith, sized))
    ∙ ap (λ (l : List ℕ). generation_lines (take i all) ++ l) (append-nil (generation_line i x.0 x.1))

-- the lines of the first n generations, and those of the others
pub generation_lines-take_drop : (all : List (ℕ × Bool)) (n : ℕ) → generation_lines all ≡ generation_lines (take n all) ++ generation_lines_from (0 + length (take n all)) (drop n all)
generation_lines-take_drop all n =
    ap generation_lines (sym (take-append-drop n all)) ∙ generation_lines_from-append 0 (take n all) (drop n all)

-- The lines of the first i generations were added. Then that of generation i is,
pub Added-line : (start now after : SinkTold) (held holding holds : List ℕ) (all : List (ℕ × Bool)) (i : ℕ) (x : ℕ × Bool) → i < length all → x ≡ get_or all i x → Added start now held holding (generation_lines (take i all)) → Added now after holding holds (generation_line i x.0 x.1) → Added start after held holds (generation_lines (take (i + 1) all))
Added-line start now after held holding holds all i x within at so_far line =
    subst (Added start after held holds) (sym (generation_lines-take_more all i x within at)) (Added-after start now after held holding holds (generation_lines (take i all)) (generation_line i x.0 x.1) so_far line)

-- or the sink fails, and with it all lines do.
pub Adds-line_failed : {T U E : Type 0} {d e : E} (start now after : SinkTold) (held holding holds : List ℕ) (all : List (ℕ × Bool)) (i : ℕ) (x : ℕ × Bool) → i < length all → x ≡ get_or all i x → Added start now held holding (generation_lines (take i all)) → Adds {T = T} now after holding holds (Err d) (generation_line i x.0 x.1) → Adds {T = U} start after held holds (Err e) (generation_lines all)
Adds-line_failed {T} {U} {E} {d} {e} start now after held holding holds all i x within at so_far line =
    let front = Adds-after start now after held holding holds (Err d) (generation_lines (take i all)) (generation_line i x.0 x.1) so_far line in
    let more = generation_lines_from (0 + length (take (i + 1) all)) (drop (i + 1) all) in
    let whole = ap (λ l. l ++ more) (sym (generation_lines-take_more all i x within at)) ∙ sym (generation_lines-take_drop all (i + 1)) in
    subst (Adds start after held holds (Err e)) whole (Adds-stopped start after held holds (generation_lines (take i all) ++ generation_line i x.0 x.1) more front)

-- what f makes of the item that a counted loop has at place i
pub enumerate_turn : {X Y : Type 0} (f : X → Y) (xs : List X) (i : ℕ) (item : ℕ × X) → i < length (enumerate_from 0 xs) → item ≡ get_or (enumerate_from 0 xs) i item → (item.0 ≡ i) × (i < length (map f xs)) × (f item.1 ≡ get_or (map f xs) i (f item.1))
enumerate_turn {X} f xs i item within at =
    let inside : i < length xs = omega (arith, within, length-enumerate_from 0 xs) in
    let is = at ∙ get_or-enumerate_from 0 xs i item inside in (
      omega (arith, ap (λ (p : ℕ × X). p.0) is),
      omega (arith, inside, length-map xs f),
      ap (λ (p : ℕ × X). f p.1) is ∙ sym (get_or-map f xs i item.1),
    )

-- ---- the lines of gates

gate_lines_from-append : (first : ℕ) (xs ys : List GateCount) → gate_lines_from first (xs ++ ys) ≡ gate_lines_from first xs ++ gate_lines_from (first + length xs) ys
gate_lines_from-append first [] ys = ap (λ (n : ℕ). gate_lines_from n ys) (omega arith)
gate_lines_from-append first (x ∷ xs) ys =
    ap (λ (l : List ℕ). gate_line first x ++ l) (gate_lines_from-append (first + 1) xs ys)
    ∙ sym (append_assoc (gate_line first x) (gate_lines_from (first + 1) xs) (gate_lines_from (first + 1 + length xs) ys))
    ∙ ap (λ (n : ℕ). gate_lines_from first (x ∷ xs) ++ gate_lines_from n ys) (omega arith)

gate_lines-take_more : (all : List GateCount) (i : ℕ) (x : GateCount) → i < length all → x ≡ get_or all i x → gate_lines_from 0 (take (i + 1) all) ≡ gate_lines_from 0 (take i all) ++ gate_line i x
gate_lines-take_more all i x within at =
    let sized : length (take i all) ≡ i = omega (arith, length-take i all, within) in
    ap (gate_lines_from 0) (ap (λ (n : ℕ). take n all) (add-one i) ∙ take-suc all i x within ∙ ap (λ (y : GateCount). take i all ++ y ∷ []) (sym at))
    ∙ gate_lines_from-append 0 (take i all) (x ∷ [])
    ∙ ap (λ (n : ℕ). gate_lines_from 0 (take i all) ++ gate_lines_from n (x ∷ [])) (omega (arith, sized))
    ∙ ap (λ (l : List ℕ). gate_lines_from 0 (take i all) ++ l) (append-nil (gate_line i x))

-- The lines of the first i gates were added. Then that of gate i is,
pub Added-gate : (start now after : SinkTold) (held holding holds : List ℕ) (all : List GateCount) (i : ℕ) (x : GateCount) → i < length all → x ≡ get_or all i x → Added start now held holding (gate_lines_from 0 (take i all)) → Added now after holding holds (gate_line i x) → Added start after held holds (gate_lines_from 0 (take (i + 1) all))
Added-gate start now after held holding holds all i x within at so_far line =
    subst (Added start after held holds) (sym (gate_lines-take_more all i x within at)) (Added-after start now after held holding holds (gate_lines_from 0 (take i all)) (gate_line i x) so_far line)

-- or the sink fails, and with it all lines do.
pub Adds-gate_failed : {T U E : Type 0} {d e : E} (start now after : SinkTold) (held holding holds : List ℕ) (all : List GateCount) (i : ℕ) (x : GateCount) → i < length all → x ≡ get_or all i x → Added start now held holding (gate_lines_from 0 (take i all)) → Adds {T = T} now after holding holds (Err d) (gate_line i x) → Adds {T = U} start after held holds (Err e) (gate_lines_from 0 all)
Adds-gate_failed {T} {U} {E} {d} {e} start now after held holding holds all i x within at so_far line =
    let front = Adds-after start now after held holding holds (Err d) (gate_lines_from 0 (take i all)) (gate_line i x) so_far line in
    let more = gate_lines_from (0 + length (take (i + 1) all)) (drop (i + 1) all) in
    let whole = ap (λ l. l ++ more) (sym (gate_lines-take_more all i x within at)) ∙ sym (ap (gate_lines_from 0) (sym (take-append-drop (i + 1) all)) ∙ gate_lines_from-append 0 (take (i + 1) all) (drop (i + 1) all)) in
    subst (Adds start after held holds (Err e)) whole (Adds-stopped start after held holds (gate_lines_from 0 (take i all) ++ gate_line i x) more front)
