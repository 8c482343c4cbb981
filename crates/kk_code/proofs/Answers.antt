-- The answer to a text: no text has two.
use Rattle.std.proofs.Common.{◌≡◌, ℕ, List, Option, Some, None, Result, Ok, Err, is_some, refl, sym, ap, subst, ◌∙◌, arith}
use Rattle.std.specs.Prelude.{IfOk, IsErr, ◌↔◌}
use Rattle.std.proofs.lemmas.Bool.{false≢true}
use Rattle.kk_code.specs.Ticket.{TicketFields, generations}
use Rattle.kk_code.specs.TicketText.{shape_fault, range_fault, spelled, IsFirstFault, IsTicketText}
use Rattle.kk_code.specs.Reading.{IsRefused, IsAnswer}
use Rattle.kk_code.specs.declared.fault.TicketFault.{TicketFault}
use Rattle.kk_code.specs.declared.fault.TicketFault.TheVariants.{Shape, Range, NotIrreducible, TooMany}
use Rattle.kk_code.specs.Laws.{TextHasOneFault}

pub some_is_none : {A : Type 0} (o : Option A) (x : A) → o ≡ Some x → o ≡ None → ⊥
some_is_none o x some none = false≢true (ap is_some (sym none ∙ some))

-- ---- no text has two answers

pub no_fault_of_ticket : (text : List ℕ) (t : TicketFields) (fault : TicketFault) → IsTicketText text t → IsFirstFault text fault → ⊥
no_fault_of_ticket text t (Shape at) good bad = some_is_none (shape_fault text) at bad good.shape
no_fault_of_ticket text t (Range field) good bad =
    some_is_none (range_fault (spelled text).code) field bad.1 (ap (λ u. range_fault u.code) good.spells ∙ good.range)
no_fault_of_ticket text t NotIrreducible good bad = bad.2 (rw good.spells good.irreducible)
no_fault_of_ticket text t (TooMany n) good bad =
    let same = ap generations good.spells in
    omega (arith, good.few, bad.3, bad.4)

same_some : {o : Option ℕ} (x y : ℕ) → o ≡ Some x → o ≡ Some y → x ≡ y
same_some x y ex ey = cc

pub one_fault : TextHasOneFault
one_fault text (Shape m) (Shape n) f g = ap Shape (same_some m n f g)
one_fault text (Shape m) (Range n) f g = absurd (some_is_none (shape_fault text) m f g.0)
one_fault text (Shape m) NotIrreducible f g = absurd (some_is_none (shape_fault text) m f g.0)
one_fault text (Shape m) (TooMany n) f g = absurd (some_is_none (shape_fault text) m f g.0)
one_fault text (Range m) (Shape n) f g = absurd (some_is_none (shape_fault text) n g f.0)
one_fault text (Range m) (Range n) f g = ap Range (same_some m n f.1 g.1)
one_fault text (Range m) NotIrreducible f g = absurd (some_is_none (range_fault (spelled text).code) m f.1 g.1)
one_fault text (Range m) (TooMany n) f g = absurd (some_is_none (range_fault (spelled text).code) m f.1 g.1)
one_fault text NotIrreducible (Shape n) f g = absurd (some_is_none (shape_fault text) n g f.0)
one_fault text NotIrreducible (Range n) f g = absurd (some_is_none (range_fault (spelled text).code) n g.1 f.1)
one_fault text NotIrreducible NotIrreducible f g = refl
one_fault text NotIrreducible (TooMany n) f g = absurd (f.2 g.2)
one_fault text (TooMany m) (Shape n) f g = absurd (some_is_none (shape_fault text) n g f.0)
one_fault text (TooMany m) (Range n) f g = absurd (some_is_none (range_fault (spelled text).code) n g.1 f.1)
one_fault text (TooMany m) NotIrreducible f g = absurd (g.2 f.2)
one_fault text (TooMany m) (TooMany n) f g = ap TooMany (sym f.3 ∙ g.3)

-- ---- what `read` ensures

pub answer_ticket : (text : List ℕ) (r : Result TicketFields TicketFault) → IsAnswer text r → IfOk r (IsTicketText text)
answer_ticket text (Ok t) h = h
answer_ticket text (Err fault) h = tt

pub answer_every : (text : List ℕ) (r : Result TicketFields TicketFault) (t : TicketFields) → IsAnswer text r → IsTicketText text t → r ≡ Ok t
answer_every text (Ok u) t h good = ap Ok (sym h.spells ∙ good.spells)
answer_every text (Err fault) t h good = absurd (no_fault_of_ticket text t fault good h)

pub answer_refused : (text : List ℕ) (r : Result TicketFields TicketFault) → IsAnswer text r → IsErr r ↔ IsRefused text
answer_refused text (Ok t) h = (λ e. absurd cc, λ bad. absurd (no_fault_of_ticket text t bad.0 h bad.1))
answer_refused text (Err fault) h = (λ _. (fault, h), λ _. refl)

same_fault : (r : Result TicketFields TicketFault) (told fault : TicketFault) → r ≡ Err told → r ≡ Err fault → told ≡ fault
same_fault r told fault is same = cc

pub answer_fault : (text : List ℕ) (r : Result TicketFields TicketFault) (fault : TicketFault) → IsAnswer text r → (r ≡ Err fault) ↔ IsFirstFault text fault
answer_fault text (Ok t) fault h = (λ e. absurd cc, λ bad. absurd (no_fault_of_ticket text t fault h bad))
answer_fault text (Err told) fault h = (λ e. subst (IsFirstFault text) (same_fault (Err told) told fault refl e) h, λ bad. ap Err (one_fault text told fault h bad))
