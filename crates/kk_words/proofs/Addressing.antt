-- The texts from a place on, one by one.
use Rattle.std.proofs.Common.{◌≡◌, ◌∙◌, ◌+◌, ◌++◌, ℕ, List, [], ◌∷◌, Some, ap, sym, drop}
use Rattle.std.specs.Prelude.{slice_get}
use Rattle.std.proofs.lemmas.List.{append_assoc, drop_more}
use Rattle.std.proofs.lemmas.Option.{get_or_from_slice_get, slice_get_within}

pub one_more : (all old new : List (List ℕ)) (i : ℕ) (text : List ℕ) → slice_get all i ≡ Some text → new ≡ old ++ text ∷ []
    → new ++ drop (i + 1) all ≡ old ++ drop i all
one_more all old new i text at more =
    let next = drop_more all i text (slice_get_within all i text at) ∙ ap (λ t. t ∷ drop (i + 1) all) (get_or_from_slice_get all i text text at) in
    ap (λ ts. ts ++ drop (i + 1) all) more ∙ append_assoc old (text ∷ []) (drop (i + 1) all) ∙ ap (λ ts. old ++ ts) (sym next)
