-- The data frames of a batch, one after another.
use Rattle.std.proofs.Common.{◌≡◌, ℕ, ◌+◌, ◌<◌, List, [], ◌∷◌, ◌++◌, length, get_or, All, take, ap, sym, subst, ◌∙◌, arith}
use Rattle.std.proofs.Math.ListN.{get_or-map as get_or-see}
use Rattle.std.proofs.lemmas.List.{length-map, take_more}
use Rattle.kk_rows.specs.declared.rows.Row.{Row}
use Rattle.kk_code.specs.Ticket.{TicketFields}
use Rattle.kk_frame.specs.Frame.{Vector, IsFrame}
use Rattle.kk_frame.specs.FrameView.{pairs}

pub in_batch : (t : TicketFields) (frames : List (ℕ × Row)) (batch : List (ℕ × ℕ)) (i : ℕ) (d : ℕ × Row) → pairs frames ≡ batch → All (λ f. IsFrame t (Vector f.0 f.1)) batch → i < length frames → IsFrame t (Vector (get_or frames i d).0 (get_or frames i d).1.0)
in_batch t frames batch i d are all within =
    let see : ℕ × Row → ℕ × ℕ = λ f. (f.0, f.1.0) in
    let at : get_or batch i (see d) ≡ see (get_or frames i d) = ap (λ l. get_or l i (see d)) (sym are) ∙ get_or-see see frames i d in
    let inside : i < length batch = omega (arith, within, ap length are, length-map frames see) in
    subst (λ f. IsFrame t (Vector f.0 f.1)) at (all i (see d) inside)

-- the first i + 1 frames of a batch
pub batch_more : (frames : List (ℕ × Row)) (i : ℕ) (d : ℕ × Row) → i < length frames → take (i + 1) (pairs frames) ≡ take i (pairs frames) ++ ((get_or frames i d).0, (get_or frames i d).1.0) ∷ []
batch_more frames i d within =
    let see : ℕ × Row → ℕ × ℕ = λ f. (f.0, f.1.0) in
    take_more (pairs frames) i (see d) (omega (arith, within, length-map frames see)) ∙ ap (λ f. take i (pairs frames) ++ f ∷ []) (get_or-see see frames i d)
