-- A log is read off the words that show it.
use Rattle.std.proofs.Common.{◌≡◌, ◌≢◌, ℕ, zero, suc, ◌+◌, false, List, [], ◌∷◌, length, get_or, sym, ap, ◌∙◌, subst, arith, append_assoc, length-append}
use mathlib.Core.Option.{some, some-injective, some-ne-none}
use lib.ListN.{get_elem?}
use Rattle.kk_machine.specs.declared.log.Log.{Log}
use Rattle.kk_machine.specs.declared.log.TheConstants.{CLOSED}
use Rattle.kk_machine.specs.Steps.{IsLog, Sees, sight_after, word_at}
use Rattle.kk_machine.proofs.Logs.{Found, a_row, the_mark, nothing, found, not_both}
use Rattle.kk_machine.proofs.Turns.{Sees-itself, sight_row}
use Rattle.kk_machine.proofs.Worlds.{length_sight}
use Rattle.kk_table.specs.declared.view.Shape.{Shape}
use Rattle.kk_table.specs.Places.{place_of}
use Rattle.kk_table.specs.Logs.{Shows}
use Rattle.kk_table.proofs.Tries.{sight_is_log}

pub record Read (width : ℕ) (l s : Log) (word : ℕ) : Type 0 where
  pub told : IsLog width (sight_after s word)
  pub seen : Sees l (sight_after s word)
  pub at_zero : word ≡ 0 → sight_after s word ≡ l
  pub at_mark : word ≡ CLOSED → sight_after s word ≡ l
  pub further : word ≢ 0 → word ≢ CLOSED → ((sight_after s word).closed ≡ false) × (length (sight_after s word).rows ≡ length s.rows + 1)

read_found : (width : ℕ) (l s : Log) (f : ℕ) → IsLog width l → Found l s f → Read width l s f
read_found width l s f is (a_row rest e pos less unseen) =
    let more = sight_row s f pos less in
    let seen : Sees l (sight_after s f) = subst (Sees l) (sym more) (record { rest = rest; begins = e ∙ sym (append_assoc s.rows (f ∷ []) rest); whole = λ shut. absurd (not_both shut unseen) }) in
    record {
      told = sight_is_log width l (sight_after s f) is seen;
      seen = seen;
      at_zero = λ z. absurd (omega arith);
      at_mark = λ m. absurd (omega arith);
      further = λ nz nm. (ap (λ (x : Log). x.closed) more ∙ unseen, ap (λ (x : Log). length x.rows) more ∙ omega (arith, length-append s.rows (f ∷ [])));
    }
read_found width l s f is (the_mark e m) =
    let same : sight_after s f ≡ l = ap (sight_after s) m ∙ sym e in
    record { told = subst (IsLog width) (sym same) is; seen = subst (Sees l) (sym same) (Sees-itself l); at_zero = λ z. same; at_mark = λ m'. same; further = λ nz nm. absurd (nm m) }
read_found width l s f is (nothing e unseen z) =
    let same : sight_after s f ≡ l = ap (sight_after s) z ∙ sym e in
    record { told = subst (IsLog width) (sym same) is; seen = subst (Sees l) (sym same) (Sees-itself l); at_zero = λ z'. same; at_mark = λ m. same; further = λ nz nm. absurd (nz z) }

get_elem-get_or : (xs : List ℕ) (i x : ℕ) → get_elem? xs i ≡ some x → get_or xs i 0 ≡ x
get_elem-get_or [] i x e = absurd (some-ne-none x (sym e))
get_elem-get_or (y ∷ ys) zero x e = some-injective y x e
get_elem-get_or (y ∷ ys) (suc i) x e = get_elem-get_or ys i x e

pub reads : (shape : Shape) (words : List ℕ) (g i : ℕ) (l s : Log) (word : ℕ) → Shows shape words g l → Sees l s → i ≡ place_of shape.width g (length s.rows) → get_elem? words i ≡ some word
    → Read shape.width l s word
reads shape words g i l s word shows sees at e =
    let room = length_sight shape.width l s shows.is_log sees in
    let is : word_at l (length s.rows) ≡ word = sym (shows.placed (length s.rows) room) ∙ ap (λ (n : ℕ). get_or words n 0) (sym at) ∙ get_elem-get_or words i word e in
    subst (Read shape.width l s) is (read_found shape.width l s (word_at l (length s.rows)) shows.is_log (found shape.width l s shows.fits shows.is_log sees))

pub reads_at : (shape : Shape) (words : List ℕ) (g start len : ℕ) (l s : Log) (word : ℕ) → Shows shape words g l → Sees l s → start ≡ place_of shape.width g 0 → len ≡ length s.rows → get_elem? words (start + len) ≡ some word
    → Read shape.width l s word
reads_at shape words g start len l s word shows sees begins is e = reads shape words g _ l s word shows sees (omega (arith, begins, is)) e
