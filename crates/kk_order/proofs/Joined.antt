-- The texts of words as the parts of a ticket's text, one by one.
use Rattle.std.proofs.Common.{◌≡◌, ◌∙◌, ◌+◌, ◌++◌, ℕ, List, [], ◌∷◌, Some, ap, sym, append_assoc, take, codes}
use Rattle.std.specs.Prelude.{slice_get}
use Rattle.std.specs.List.{flat_map}
use Rattle.std.proofs.lemmas.Option.{slice_get_within, get_or_from_slice_get}
use Rattle.std.proofs.lemmas.List.{append-nil, take_more}
use Rattle.std.proofs.lemmas.Grind.{flat_map-append}

abbrev part : List ℕ → List ℕ
part text = codes ":" ++ text

joined_text : (texts : List (List ℕ)) (i : ℕ) (text : List ℕ) → slice_get texts i ≡ Some text → flat_map part (take (i + 1) texts) ≡ flat_map part (take i texts) ++ part text
joined_text texts i text is =
    ap (flat_map part) (take_more texts i text (slice_get_within texts i text is) ∙ ap (λ last. take i texts ++ last ∷ []) (get_or_from_slice_get texts i text text is))
    ∙ flat_map-append part (take i texts) (text ∷ [])
    ∙ ap (λ l. flat_map part (take i texts) ++ l) (append-nil (part text))

pub joined_more : (texts : List (List ℕ)) (i : ℕ) (text before : List ℕ) → before ≡ codes "kk1" ++ flat_map (λ w. codes ":" ++ w) (take i texts) → slice_get texts i ≡ Some text
    → (before ++ codes ":") ++ text ≡ codes "kk1" ++ flat_map (λ w. codes ":" ++ w) (take (i + 1) texts)
joined_more texts i text before is at =
    append_assoc before (codes ":") text ∙ ap (λ l. l ++ part text) is ∙ append_assoc (codes "kk1") (flat_map part (take i texts)) (part text) ∙ ap (λ l. codes "kk1" ++ l) (sym (joined_text texts i text at))
