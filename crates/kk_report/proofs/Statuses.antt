-- What a status excludes, and the status of a run by the one that its report tells.
use Rattle.std.proofs.Common.{◌≡◌, ◌⊎◌, inl, inr, ℕ, ◌==◌, ◌||◌, Bool, false, ap, sym, subst, ◌∙◌, arith}
use Rattle.std.specs.Prelude.{◌↔◌}
use Rattle.std.proofs.lemmas.Bool.{false≢true}
use Rattle.kk_outside.specs.Causes.{CanCount}
use Rattle.kk_outside.specs.Change.{Change}
use Rattle.kk_outside.specs.Sink.{SinkTold, SinkFailed}
use Rattle.kk_report.specs.Command.{IsRefusalOfWords, RanThrough}

-- ---- what a status excludes

abbrev is_through : ℕ → Bool
is_through n = (n == 0) || (n == 5)

-- a run with another status than 0 and 5 didn't run through
pub not_through : (n status : ℕ) → is_through n ≡ false → status ≡ n → RanThrough status → ⊥
not_through n status other is (inl zero_) = false≢true (sym other ∙ ap is_through (sym is ∙ zero_))
not_through n status other is (inr five) = false≢true (sym other ∙ ap is_through (sym is ∙ five))

pub once_or_through : (status : ℕ) → IsRefusalOfWords status → RanThrough status → ⊥
once_or_through status once through = grind arith

pub once_not_four : (status : ℕ) → IsRefusalOfWords status → status ≡ 4 → ⊥
once_not_four status once four = grind arith

-- a run that decodes ends with 3, 0 or 5, and so neither at once nor with 4
pub at_once_alone : (status : ℕ) → IsRefusalOfWords status → (status ≡ 3) ⊎ RanThrough status → ⊥
at_once_alone status once is = grind arith

pub four_alone : (status : ℕ) → status ≡ 4 → (status ≡ 3) ⊎ RanThrough status → ⊥
four_alone status four is = grind arith

-- ---- the status of a run, by the one that its report tells

-- the status, where the report told this one
abbrev pub IsStatusOf : ℕ → ℕ → Type 0
IsStatusOf told status = (status ≡ told) ⊎ ((told ≡ 0) × (status ≡ 5))

pub at_three : (told status : ℕ) → IsStatusOf told status → (status ≡ 3 → told ≡ 3) × (told ≡ 3 → status ≡ 3)
at_three told status (inl same) = (λ e. sym same ∙ e, λ e. same ∙ e)
at_three told status (inr five) = (λ e. absurd (omega (arith, e, five.1)), λ e. absurd (omega (arith, e, five.0)))

pub at_five : (told status : ℕ) → told ≡ 5 → IsStatusOf told status → status ≡ 5
at_five told status five (inl same) = same ∙ five
at_five told status five (inr zero_) = zero_.1

pub through_told : (told status : ℕ) → RanThrough told → IsStatusOf told status → RanThrough status
through_told told status through (inl same) = subst RanThrough (sym same) through
through_told told status through (inr five) = inr five.1

pub three_not_through : (told status : ℕ) → told ≡ 3 → IsStatusOf told status → RanThrough status → ⊥
three_not_through told status three same through = grind arith

pub decoded_or_through : (told status : ℕ) → (told ≡ 3) ⊎ RanThrough told → IsStatusOf told status → (status ≡ 3) ⊎ RanThrough status
decoded_or_through told status is (inl same) = subst (λ s. (s ≡ 3) ⊎ RanThrough s) (sym same) is
decoded_or_through told status is (inr five) = inr (inr five.1)

pub told_through : (told status : ℕ) → IsStatusOf told status → RanThrough status → RanThrough told
told_through told status (inl same) through = subst RanThrough same through
told_through told status (inr five) through = inl five.0

-- The status is 5 exactly where a sink failed: that of the file, which the report tells, or that of the report.
pub sinks_failed : (told status : ℕ) (file report : Change SinkTold) → RanThrough told → IsStatusOf told status
    → (CanCount file.old.faults → (told ≡ 5) ↔ SinkFailed file) → (CanCount report.old.faults → told ≡ 0 → (status ≡ 5) ↔ SinkFailed report)
    → CanCount file.old.faults → CanCount report.old.faults → (status ≡ 5) ↔ (SinkFailed file ⊎ SinkFailed report)
sinks_failed told status file report (inl zero_) same five report_five can can_report =
    let kept : SinkFailed file → ⊥ = λ failed. omega (arith, zero_, (five can).1 failed) in (
      λ e. inr ((report_five can_report zero_).0 e),
      λ failed. elim failed [ inl file_failed ↦ absurd (kept file_failed) | inr report_failed ↦ (report_five can_report zero_).1 report_failed ],
    )
sinks_failed told status file report (inr is_five) same five report_five can can_report =
    (λ _. inl ((five can).0 is_five), λ _. at_five told status is_five same)
