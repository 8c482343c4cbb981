use Rattle.std.proofs.Common.{◌≡◌, subst, sym, ◌∙◌, arith}
use Rattle.std.proofs.lemmas.List.FromFn.{fill_by_all}
use Rattle.kk_code.specs.Codeword.{IsMessage}
use Rattle.kk_assemble.specs.FileBits.{symbol_of, cut}
use Rattle.kk_assemble.proofs.Cuts.{cut_is_message}
use Rattle.kk_assemble.proofs.cutting.cut.Goals as goal

pub returns : goal.returns
returns c =
    let p = c.args.ticket.now.code in
    let file = c.args.file.now in
    let g = c.args.generation in
    let symbols_are : c.loop-symbol.symbols ≡ cut p file g =
    fill_by_all (symbol_of p file g) c.loop-symbol.symbols p.k 0 c.loop-symbol.invariant.len (λ i below. c.loop-symbol.invariant.so_far i (omega (arith, c.loop-symbol.invariant.len))) in
    let exact : c.from_slice.result ≡ cut p file g = c.from_slice.ensures ∙ symbols_are in
    record { exact = exact; message = subst (IsMessage p) (sym exact) (cut_is_message p file g) }
