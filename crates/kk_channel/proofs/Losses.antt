-- What a channel takes from a codeword, and what it adds.
use Rattle.std.proofs.Common.{◌≡◌, ℕ, ◌+◌, ◌-◌, ◌^◌, ◌<◌, ◌≤◌, true, List, ◌++◌, length, take, drop, refl, sym, ap, ◌∙◌, arith, append_assoc, length-append, length-drop}
use Rattle.std.specs.Prelude.{All}
use Rattle.std.proofs.Math.Pow.{pow_mono}
use Rattle.std.proofs.lemmas.List.{take-append-drop, length-take-le}
use Rattle.std.proofs.lemmas.List.Elements.{All-append, All-weaker}
use Rattle.kk_rows.specs.AdditiveMap.{unit_rows}
use Rattle.kk_rows.specs.Distance.{sum_dimension}
use Rattle.kk_rows.specs.Span.{in_span, dimension}
use Rattle.kk_rows.proofs.AdditiveMaps.{unit_rows-below}
use Rattle.kk_rows.proofs.Dimensions.{dimension-le_within, dimension-le_length, dimension-same_span}
use Rattle.kk_rows.proofs.Meets.{sum_dimension-le}
use Rattle.kk_rows.proofs.Spans.{in_span-each, in_span-lt, in_span-append_left, in_span-append_right, in_span-append_least, in_span-append_same, HaveSameSpan-from_members}
use Rattle.kk_code.specs.Codeword.{Parameters, IsInRange, codeword, width}
use Rattle.kk_code.proofs.Graphs.{codeword_is_independent, dimension-codeword}
use Rattle.kk_code.proofs.Values.{length-codeword, codeword_below}
use Rattle.kk_channel.specs.Channel.{mixed_rows, injected_rows, channel_rows}
use Rattle.kk_channel.specs.Laws.{MixedRowsAreABasis, LossIsExact}
use Rattle.kk_channel.proofs.Injecting.{length-injected_rows, in_span-injected_rows, dimension-with_unit_rows}
use Rattle.kk_channel.proofs.Mixing.{length-mixed_rows, in_span-mixed_rows, mixed_rows-independent}

pub mixed_rows_are_a_basis : MixedRowsAreABasis
mixed_rows_are_a_basis p code u word = record {
  independent = mixed_rows-independent word (codeword p u) (codeword_is_independent p code.field.modulus.low_below u);
  spans = HaveSameSpan-from_members (mixed_rows word (codeword p u)) (codeword p u) (in_span-mixed_rows word (codeword p u));
}

module _ (p : Parameters) (h : p.field.low < 2 ^ p.field.degree) (u : List ℕ) (word : ℕ → ℕ) (erase inject : ℕ) (some : erase ≤ p.l) (few : inject ≤ p.field.degree) where
  abbrev sent : List ℕ
  sent = codeword p u

  abbrev lost : List ℕ
  lost = take erase (mixed_rows word sent)

  abbrev kept : List ℕ
  kept = drop erase (mixed_rows word sent)

  abbrev added : List ℕ
  added = injected_rows word sent inject

  abbrev passed : List ℕ
  passed = channel_rows word sent erase inject

  -- ---- the dimension of what comes out

  count_mixed : length (mixed_rows word sent) ≡ p.l
  count_mixed = length-mixed_rows word sent ∙ length-codeword p u

  pub length-channel_rows : length passed ≡ p.l - erase + inject
  length-channel_rows =
      omega (arith, length-append kept added, length-drop erase (mixed_rows word sent), count_mixed, length-injected_rows word sent inject)

  -- with the rows that are lost it spans what the codeword spans with the injected rows
  in_span-with_lost : (x : ℕ) → in_span (lost ++ passed) x ≡ in_span (sent ++ unit_rows inject) x
  in_span-with_lost x =
      let together : lost ++ passed ≡ mixed_rows word sent ++ added =
      sym (append_assoc lost kept added) ∙ ap (λ l. l ++ added) (take-append-drop erase (mixed_rows word sent)) in
      ap (λ l. in_span l x) together
      ∙ in_span-append_same (mixed_rows word sent) sent added added (in_span-mixed_rows word sent) (λ y. refl) x
      ∙ in_span-injected_rows word sent inject x

  pub dimension-channel_rows : dimension passed ≡ p.l - erase + inject
  dimension-channel_rows =
      let all = dimension-same_span (lost ++ passed) (sent ++ unit_rows inject) in_span-with_lost ∙ dimension-with_unit_rows p h u inject few in
      let count_lost = length-take-le erase (mixed_rows word sent) (omega (arith, some, count_mixed)) in
      omega (arith, some, all, count_lost, sum_dimension-le lost passed, dimension-le_length lost, dimension-le_length passed, length-channel_rows)

  -- ---- what it has in common with the codeword

  in_span-of_channel : (x : ℕ) → in_span passed x ≡ true → in_span (sent ++ unit_rows inject) x ≡ true
  in_span-of_channel x inside = sym (in_span-with_lost x) ∙ in_span-append_right lost passed x inside

  sum_with_codeword : sum_dimension passed sent ≡ p.l + inject
  sum_with_codeword =
      let units = unit_rows inject in
      let below = dimension-le_within (passed ++ sent) (sent ++ units) (in_span-append_least passed sent (sent ++ units) in_span-of_channel (in_span-append_left sent units)) in
      let above = dimension-le_within (sent ++ added) (passed ++ sent)
      (in_span-append_least sent added (passed ++ sent) (in_span-append_right passed sent) (λ x k. in_span-append_left passed sent x (in_span-append_right kept added x k))) in
      let same = dimension-same_span (sent ++ added) (sent ++ units) (in_span-injected_rows word sent inject) in
      omega (arith, below, above, same, dimension-with_unit_rows p h u inject few)

  -- ---- its rows have l + m bits

  pub channel_rows-below : IsInRange p → All (λ r. r < 2 ^ width p) passed
  channel_rows-below range =
      let units = unit_rows inject in
      let P = λ (r : ℕ). r < 2 ^ width p in
      let units_below = All-weaker (λ r. r < 2 ^ inject) P (λ r k. omega (arith, k, pow_mono {i = inject} {j = width p} (omega (arith, few)))) units (unit_rows-below inject) in
      let all_below = All-append P sent units (codeword_below p u range) units_below in
      All-weaker (λ r. in_span passed r ≡ true) P (λ r k. in_span-lt (width p) (sent ++ units) all_below r (in_span-of_channel r k)) passed (in_span-each passed)

pub loss_is_exact : LossIsExact
loss_is_exact p code u word erase inject some few =
    let h = code.field.modulus.low_below in
    let rows = channel_rows word (codeword p u) erase inject in
    let rank = dimension-channel_rows p h u word erase inject some few in
    let sum = sum_with_codeword p h u word erase inject some few in
    record {
      independent = rank ∙ sym (length-channel_rows p h u word erase inject some few);
      erased_are = omega (arith, some, rank, sum, dimension-codeword p h u);
      injected_are = omega (arith, some, rank, sum, dimension-codeword p h u);
    }
