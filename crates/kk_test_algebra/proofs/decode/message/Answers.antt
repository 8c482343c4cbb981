use Rattle.std.proofs.Common.{◌≡◌, ℕ, ◌+◌, ◌-◌, ◌^◌, ◌<◌, ◌++◌, [], ◌∷◌, take, get_or, sym, ap, ◌∙◌, subst, add-one, arith}
use Rattle.std.specs.Prelude.{All}
use Rattle.std.proofs.Math.Seq.{take-suc}
use Rattle.std.proofs.lemmas.List.{take_all}
use Rattle.std.proofs.lemmas.List.Elements.{All-push}
use Rattle.kk_code.specs.Codeword.{IsMessage}
use Rattle.kk_decode.proofs.Rows.{below_from_top}
use Rattle.kk_test_algebra.proofs.decode.message.Goals as goal

pub loop-symbol-preserved : goal.loop-symbol-preserved
loop-symbol-preserved c =
    let m = c.args.code.now.field.degree in
    let symbols = c.args.symbols.now in
    let i = c.loop-symbol.symbol-index in
    let s = get_or symbols i 0 in
    let P : ℕ → Type 0 = λ s. s < 2 ^ m in
    let here : s < 2 ^ m = below_from_top s (c.m-top.result - 1) m (omega (arith, c.m-top.ensures.in_range.m_low)) (ap (λ n. n - 1) c.m-top.ensures.degree) (omega (arith, c.if-symbol-top-gt1.false)) in
    let more : take (i + 1) symbols ≡ take i symbols ++ s ∷ [] = ap (λ n. take n symbols) (add-one i) ∙ take-suc symbols i 0 c.loop-symbol-test.true in
    record { below = subst (All P) (sym more) (All-push P (take i symbols) s c.loop-symbol.invariant.below here) }

pub returns : goal.returns
returns c =
    let p = c.args.code.now in
    let symbols = c.args.symbols.now in
    let P : ℕ → Type 0 = λ s. s < 2 ^ p.field.degree in
    let all : All P symbols = subst (All P) (take_all c.loop-symbol.symbol-index symbols c.loop-symbol-test.false) c.loop-symbol.invariant.below in
    subst (IsMessage p) (sym c.from_slice.ensures) (record { len = c.if-symbols-k.false ∙ c.k.ensures.symbols; symbols = all })
