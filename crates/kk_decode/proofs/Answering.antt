-- The answer depends on the span alone.
use Rattle.std.proofs.Common.{◌≡◌, ℕ, ◌-◌, Bool, cond, List, [], ◌∷◌, Some, refl, ap, ap₂}
use Rattle.std.specs.Prelude.{Option, nat_le}
use Rattle.std.specs.List.{find}
use Rattle.kk_rows.specs.Span.{in_span}
use Rattle.kk_rows.proofs.Distances.{distance-same_span}
use Rattle.kk_code.specs.Codeword.{Parameters, codeword}
use Rattle.kk_code.specs.Decoding.{within_radius, messages, answer}

within-same_span : (p : Parameters) (rows rows' : List ℕ) → ((x : ℕ) → in_span rows x ≡ in_span rows' x) → (u : List ℕ)
    → within_radius p rows u ≡ within_radius p rows' u
unfolding within_radius
within-same_span p rows rows' same u =
    ap (λ n. nat_le n (p.l - p.k)) (distance-same_span (codeword p u) (codeword p u) rows rows' (λ x. refl) same)

find-same : (X : Type 0) (p q : X → Bool) → ((x : X) → p x ≡ q x) → (xs : List X) → find p xs ≡ find q xs
find-same X p q same [] = refl
find-same X p q same (x ∷ xs) = ap₂ (λ b (r : Option X). cond b (Some x) r) (same x) (find-same X p q same xs)

pub answer-same_span : (p : Parameters) (rows rows' : List ℕ) → ((x : ℕ) → in_span rows x ≡ in_span rows' x) → answer p rows ≡ answer p rows'
unfolding answer
answer-same_span p rows rows' same = find-same (List ℕ) (within_radius p rows) (within_radius p rows') (within-same_span p rows rows' same) (messages p)
