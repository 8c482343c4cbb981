use Rattle.std.proofs.Common.{◌≡◌, ℕ, List, [], ◌∷◌, ◌++◌, length, take, refl, sym, ap, ◌∙◌, arith}
use Rattle.std.specs.Prelude.{map}
use Rattle.kk_rows.specs.Space.{Space}
use Rattle.kk_code.specs.Decoding.{answer}
use Rattle.kk_run_unpack.specs.Spaces.{GenerationsView}
use Rattle.kk_run_unpack.proofs.Spanned.{answers-spanned}
use Rattle.kk_run_unpack.proofs.generations.Generations.decode.Goals as goal

-- a list that is as long as before, written over that from before
lent_back : {X : Type 0} {n : ℕ} (now before : List X) → length now ≡ n → take n (now ++ before) ≡ now
lent_back {X} {n} now before len = ap (λ (k : ℕ). take k (now ++ before)) (sym len) ∙ front now
  where
    front : (xs : List X) → take (length xs) (xs ++ before) ≡ xs
    front [] = refl
    front (x ∷ xs) = ap (λ l. x ∷ l) (front xs)

pub returns-clause-answers : goal.returns-clause-answers
returns-clause-answers c = λ vectors spanned.
    lent_back _ _ (omega (arith, c.answer_each.auto.answers, c.deref_mut.ensures.len))
    ∙ c.answer_each.ensures.answers
    ∙ ap (λ (l : List Space). map (λ (space : Space). answer c.code.result space.rows) l) c.deref.ensures.value
    ∙ ap (λ (v : GenerationsView). map (λ (space : Space). answer c.code.result space.rows) v.spaces) c.self.view_is
    ∙ answers-spanned c.args.ticket.now c.code.result c.args.self.now.spaces vectors c.code.ensures.code spanned
