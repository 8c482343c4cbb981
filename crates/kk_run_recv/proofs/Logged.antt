-- What a receiver with several gates reports of its generations.
use Rattle.std.proofs.Common.{◌≡◌, ◌<◌, ℕ, zero, suc, Bool, List, [], ◌∷◌, length, get_or, Option, None, is_some, refl, ap, sym, ◌∙◌, arith}
use Rattle.std.proofs.lemmas.List.{length-map}
use Rattle.std.proofs.lemmas.List.FromFn.{length-map-range_with_len, get_or-map-range_with_len}
use Rattle.kk_rows.specs.declared.rows.Row.{Row}
use Rattle.kk_rows.specs.Rows.{numbers}
use Rattle.kk_machine.specs.declared.log.Log.{Log}
use Rattle.kk_table.specs.Logs.{log_at}
use Rattle.kk_outcome.specs.Outcome.{generation_line}
use Rattle.kk_run_recv.specs.Report.{logged, logged_outcomes}

pub length-logged : (n : ℕ) (logs : List Log) (answers : List (Option (List ℕ))) → length (logged_outcomes n logs answers) ≡ n
length-logged n logs answers = length-map-range_with_len (logged logs answers) 0 n

-- the outcome of generation i
pub logged_at : (n : ℕ) (logs : List Log) (answers : List (Option (List ℕ))) (i : ℕ) → i < n → (i < length (logged_outcomes n logs answers)) × (logged logs answers i ≡ get_or (logged_outcomes n logs answers) i (logged logs answers i))
logged_at n logs answers i near = (
  omega (arith, near, length-logged n logs answers),
  sym (get_or-map-range_with_len (logged logs answers) 0 n i i (logged logs answers i) near (omega arith)),
)

same_place : (xs : List (Option (List ℕ))) (i : ℕ) (a b : Option (List ℕ)) → i < length xs → get_or xs i a ≡ get_or xs i b
same_place [] i a b near = absurd (omega (arith, near))
same_place (x ∷ xs) zero a b near = refl
same_place (x ∷ xs) (suc i) a b near = same_place xs i a b (omega (arith, near))

-- and its line
pub line_logged : (n : ℕ) (logs : List Log) (answers : List (Option (List ℕ))) (i : ℕ) (rows : List Row) (a : Option (List ℕ)) (decoded : Bool) → i < n → numbers rows ≡ (log_at logs i).rows
    → a ≡ get_or answers i a → i < length answers → decoded ≡ is_some a → generation_line i (length rows) decoded ≡ generation_line i (logged logs answers i).0 (logged logs answers i).1
line_logged n logs answers i rows a decoded near are at inside is =
    let many : length rows ≡ length (log_at logs i).rows = sym (length-map rows (λ (r : Row). r.0)) ∙ ap (λ (x : List ℕ). length x) are in
    ap (λ (k : ℕ). generation_line i k decoded) many
    ∙ ap (generation_line i (length (log_at logs i).rows)) (is ∙ ap is_some (at ∙ same_place answers i a None inside))
