use Rattle.std.proofs.Common.{refl, ◌≡◌, ℕ, ◌+◌, ◌-◌, ◌≤◌, min, List, [], ◌∷◌, ◌++◌, length, take, drop, Some, Ok, ◌∙◌, ap, sym, arith}
use Rattle.std.proofs.lemmas.List.{take_rest, drop-drop, nil_from_length}
use Rattle.kk_outside.specs.Change.{Change}
use Rattle.kk_outside.specs.Source.{SourceTold, ReadsFrom, read_of}
use Rattle.kk_outside.specs.declared.failed.Failed.{Failed}
use Rattle.kk_outside.proofs.Known.{ReadsFrom-copied}
use Rattle.kk_outside.proofs.memory_source.MemorySourceSource.read.Goals as goal

-- the bytes from `start` on are left, and the first n of them are copied
copied : {E : Type 0} (source : Change SourceTold) (left bytes rest front buf : List ℕ) (start n piece : ℕ) → source.old.left ≡ Some left → source.new.left ≡ Some (drop (start + n) bytes) → source.new.reads ≡ source.old.reads ++ read_of {E = E} (Ok n) (front ++ drop n buf) ∷ [] → left ≡ drop start bytes → rest ≡ left → front ≡ take n rest → n ≡ min (min piece (length buf)) (length rest) → 1 ≤ piece → ReadsFrom {E = E} source (Ok n) (front ++ drop n buf)
copied source left bytes rest front buf start n piece was now logged is_left same is_front count some =
    let sized : length rest ≡ length left = ap length same in
    let after : drop n left ≡ drop (start + n) bytes = ap (λ (l : List ℕ). drop n l) is_left ∙ drop-drop n start bytes in
    ReadsFrom-copied source left front buf n was (now ∙ ap Some (sym after)) logged (is_front ∙ ap (λ (l : List ℕ). take n l) same) (omega (arith, sized, count)) (omega (arith, count))
    (λ none room. nil_from_length left (omega (arith, sized, count, none, room, some)))

pub returns-clause-reads : goal.returns-clause-reads
returns-clause-reads c =
    let s = c.self.inside in
    let is_left : c.args.self.now.left ≡ drop s.start s.bytes.items = sym (ap (λ v. v.left) c.self.view_is) in
    let bytes = c.deref.result.now in
    let rest = take (length bytes - s.start) (drop s.start bytes) in
    let same : rest ≡ c.args.self.now.left = take_rest bytes s.start ∙ ap (λ (l : List ℕ). drop s.start l) c.deref.ensures.value ∙ sym is_left in
    let logged = c.add-2.ensures ∙ ap (λ l. l ++ read_of {E = Failed} (Ok c.min-n.result) (c.copy_from_slice.new.self ++ drop c.min-n.result c.args.buf.now) ∷ []) (ap (λ v. v.reads) c.self.view_is) in
    copied _ c.args.self.now.left s.bytes.items rest c.copy_from_slice.new.self c.args.buf.now s.start c.min-n.result s.piece refl refl logged is_left same c.copy_from_slice.ensures.after (c.min-n.ensures ∙ ap (λ (m : ℕ). min m (length rest)) c.min.ensures) c.self.invariant.1
