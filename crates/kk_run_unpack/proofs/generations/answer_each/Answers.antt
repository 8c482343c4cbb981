use Rattle.std.proofs.Common.{◌≡◌, inl, inr, ℕ, zero, suc, ◌+◌, ◌<◌, length, List, [], ◌∷◌, refl, map, get_or, Option, Some, None, IfSome, ap, sym, subst, ◌∙◌, arith}
use Rattle.std.proofs.Math.ListN.{set}
use Rattle.std.proofs.lemmas.Bool.{cases_eq}
use Rattle.std.proofs.lemmas.List.{same_lists, length-map, length-set, get_or-set_same, get_or-set_other, get_or-map}
use Rattle.kk_rows.specs.Space.{Space}
use Rattle.kk_code.specs.Codeword.{Parameters, IsMessage}
use Rattle.kk_code.specs.Decoding.{Decodes, answer}
use Rattle.kk_run_unpack.specs.Spaces.{no_space}
use Rattle.kk_run_unpack.proofs.generations.answer_each.Goals as goal

-- what decodes a space is a message
is_message : (p : Parameters) (rows : List ℕ) (o : Option (List ℕ)) → IfSome o (Decodes p rows) → IfSome o (IsMessage p)
is_message p rows None h = tt
is_message p rows (Some u) h = h.message

-- the place has its answer
abbrev IsAnswered : Parameters → List Space → List (Option (List ℕ)) → ℕ → Type 0
IsAnswered p spaces found j =
    (space : Space) → (get_or found j None ≡ answer p (get_or spaces j space).rows) × IfSome (get_or found j None) (IsMessage p)

-- and so has one place more
answered_more : (p : Parameters) (spaces : List Space) (found : List (Option (List ℕ))) (i : ℕ) (a : Option (List ℕ)) → i < length found
    → ((space : Space) → a ≡ answer p (get_or spaces i space).rows) → IfSome a (IsMessage p) → ((j : ℕ) → j < i → IsAnswered p spaces found j)
    → (j : ℕ) → j < i + 1 → IsAnswered p spaces (set found i a) j
answered_more p spaces found i a near is message before j below = λ space. elim (cases_eq j i) [
  | inl same ↦
      let there : get_or (set found i a) j None ≡ a = ap (λ (k : ℕ). get_or (set found i a) k None) same ∙ get_or-set_same found i a None near in
      (there ∙ is space ∙ ap (λ (k : ℕ). answer p (get_or spaces k space).rows) (sym same), subst (λ (o : Option (List ℕ)). IfSome o (IsMessage p)) (sym there) message)
  | inr other ↦
      let there : get_or (set found i a) j None ≡ get_or found j None = get_or-set_other found i j a None other in
      let one = before j (omega (arith, below, other)) space in
      (there ∙ one.0, subst (λ (o : Option (List ℕ)). IfSome o (IsMessage p)) (sym there) one.1)
]

-- a place of a list, whatever stands after its end
get_or_any : {X : Type 0} (xs : List X) (i : ℕ) (a b : X) → i < length xs → get_or xs i a ≡ get_or xs i b
get_or_any [] i a b near = absurd (omega (arith, near))
get_or_any (x ∷ xs) zero a b near = refl
get_or_any (x ∷ xs) (suc i) a b near = get_or_any xs i a b (omega (arith, near))

pub loop-number-preserved : goal.loop-number-preserved
loop-number-preserved c =
    let loop = c.loop-number in
    let decoded = c.decode_uncounted.ensures in
    let inv = loop.invariant in
    let a = c.decode_uncounted.result in
    record {
      one_each = length-set loop.answers loop.number a ∙ inv.one_each;
      answered = λ j space below. answered_more c.args.code.now c.args.spaces.now loop.answers loop.number a (omega (arith, inv.one_each, c.loop-number-test.true))
          (λ d. decoded.answer ∙ ap (λ (s : Space). answer c.args.code.now s.rows) (c.index-spaces-number.is ∙ get_or_any c.args.spaces.now loop.number c.index-spaces-number.result d (omega (arith, c.loop-number-test.true))))
          (is_message c.args.code.now c.index-spaces-number.result.rows a decoded.some)
          (λ k near d. inv.answered k d near) j below space;
    }

pub returns-clause-answers : goal.returns-clause-answers
returns-clause-answers c =
    let loop = c.loop-number in
    let inv = loop.invariant in
    let f = λ (space : Space). answer c.args.code.now space.rows in
    same_lists loop.answers (map f c.args.spaces.now) (inv.one_each ∙ sym (length-map c.args.spaces.now f))
    (λ j d near.
    let below : j < loop.number = omega (arith, near, inv.one_each, c.loop-number-test.false) in
    let one = (inv.answered j no_space below).0 in
    get_or_any loop.answers j d None near ∙ one ∙ sym (get_or-map f c.args.spaces.now j no_space d (omega (arith, near, inv.one_each))))

pub returns-clause-messages : goal.returns-clause-messages
returns-clause-messages c = λ k d near.
    let loop = c.loop-number in
    let inv = loop.invariant in
    let one = (inv.answered k no_space (omega (arith, near, inv.one_each, c.loop-number-test.false))).1 in
    subst (λ (o : Option (List ℕ)). IfSome o (IsMessage c.args.code.now)) (sym (get_or_any loop.answers k d None near)) one
