-- What is kept of one generation, with one row more.
use Rattle.std.proofs.Common.{◌≡◌, ◌≢◌, ⊎_elim, Bool, true, if◌then◌else◌, ℕ, ◌+◌, ◌<◌, ◌≤◌, ◌^◌, List, [], ◌∷◌, ◌++◌, length, set, take, false, sym, refl, ap, ◌∙◌, subst, arith, All, length-append}
use Rattle.std.proofs.lemmas.List.{take_more_set, map-append}
use Rattle.kk_rows.specs.declared.rows.Row.{Row}
use Rattle.kk_rows.specs.Rows.{numbers}
use Rattle.kk_rows.specs.Span.{in_span, dimension, IsIndependent}
use Rattle.kk_rows.proofs.Dimensions.{dimension-le_width, dimension-push_inside, dimension-le_length}
use Rattle.kk_rows.proofs.Independence.{independent-push}
use Rattle.kk_rows.proofs.Spans.{in_span-push_same}
use Rattle.kk_machine.specs.Sights.{Seen, seen, kept, IsSight}
use Rattle.kk_machine.specs.declared.log.TheConstants.{CLOSED}
use Rattle.kk_machine.specs.declared.log.Log.{Log}
use Rattle.kk_machine.specs.Spaces.{log, with_row}
use Rattle.kk_machine.specs.Steps.{IsLog, sight_after}
use Rattle.kk_machine.proofs.Logs.{true_or_false}
use Rattle.kk_machine.proofs.Turns.{All-push, sight_other}
use Rattle.kk_machine.proofs.Worlds.{nothing_is_independent}

pub nothing_kept : (width : ℕ) (rows : List Row) (space : List ℕ) → 1 ≤ width → width ≤ 63 → space ≡ [] → IsSight width 0 rows space
nothing_kept width rows space some fits e = record {
  some_width = some;
  width_fits = fits;
  within = omega arith;
  counted = refl;
  below = λ k d h. absurd (omega arith);
  independent = nothing_is_independent;
  span = λ x. ap (λ s. in_span s x) e;
}

-- a row outside the span of the rows kept goes on with them
record GoesOn (width len : ℕ) (rows : List Row) (row : ℕ) : Type 0 where
  below : All (λ r. r < 2 ^ width) (kept len rows ++ row ∷ [])
  independent : IsIndependent (kept len rows ++ row ∷ [])
  room : len < width

goes_on : (width len : ℕ) (rows : List Row) (space : List ℕ) (row : ℕ) → IsSight width len rows space → row < 2 ^ width → in_span space row ≡ false
    → GoesOn width len rows row
goes_on width len rows space row is below outside =
    let all = All-push (λ r. r < 2 ^ width) (kept len rows) row is.below below in
    let more = independent-push (kept len rows) row is.independent (sym (is.span row) ∙ outside) in
    let few : dimension (kept len rows ++ row ∷ []) ≤ width = dimension-le_width width _ all in
    record { below = all; independent = more; room = omega (arith, few, more, length-append (kept len rows) (row ∷ []), is.counted) }

pub room_for : (width len : ℕ) (rows : List Row) (space : List ℕ) (row : ℕ) → IsSight width len rows space → row < 2 ^ width → in_span space row ≡ false → len < 63
room_for width len rows space row is below outside = omega (arith, (goes_on width len rows space row is below outside).room, is.width_fits)

pub kept-set : (rows : List Row) (len : ℕ) (row : Row) → len < length rows → kept (len + 1) (set rows len row) ≡ kept len rows ++ row.0 ∷ []
kept-set rows len row room = ap numbers (take_more_set rows len row room) ∙ map-append (λ (r : Row). r.0) (take len rows) (row ∷ [])

-- the storage of a sight with one row more, of a space that was grown by this row
pub row_kept : (width width' len : ℕ) (rows : List Row) (space space' : List ℕ) (row : Row) → length rows ≡ 63 → IsSight width len rows space
    → row.0 < 2 ^ width → in_span space row.0 ≡ false → width' ≡ width → ((x : ℕ) → in_span space' x ≡ in_span (space ++ row.0 ∷ []) x)
    → IsSight width' (len + 1) (set rows len row) space'
row_kept width width' len rows space space' row long is below outside wide spans =
    let next = goes_on width len rows space row.0 is below outside in
    let more = kept-set rows len row (omega (arith, next.room, is.width_fits)) in
    subst (λ (w : ℕ). IsSight w (len + 1) (set rows len row) space') (sym wide) (record {
      some_width = is.some_width;
      width_fits = is.width_fits;
      within = omega (arith, next.room);
      counted = ap (λ (x : List ℕ). length x) more ∙ omega (arith, length-append (kept len rows) (row.0 ∷ []), is.counted);
      below = subst (All (λ x. x < 2 ^ width)) (sym more) next.below;
      independent = subst IsIndependent (sym more) next.independent;
      span = λ x. spans x ∙ in_span-push_same space (kept len rows) is.span row.0 x ∙ ap (λ (l : List ℕ). in_span l x) (sym more);
    })

-- what the storage shows then
pub seen_with_row : (width width' len : ℕ) (rows : List Row) (space : List ℕ) (closed : Bool) (row : Row) (now : Seen) → length rows ≡ 63
    → IsSight width len rows space → row.0 < 2 ^ width → in_span space row.0 ≡ false → width' ≡ width → seen width (log (kept len rows) closed) ≡ now
    → seen width' (log (kept (len + 1) (set rows len row)) closed) ≡ seen now.width (with_row now.log row.0)
seen_with_row width width' len rows space closed row now long is below outside wide view_is =
    let next = goes_on width len rows space row.0 is below outside in
    let more = kept-set rows len row (omega (arith, next.room, is.width_fits)) in
    let grown : with_row (log (kept len rows) closed) row.0 ≡ log (kept len rows ++ row.0 ∷ []) closed =
    ap (λ (b : Bool). if b then log (kept len rows) closed else log (kept len rows ++ row.0 ∷ []) closed) (sym (is.span row.0) ∙ outside) in
    subst (λ (n : Seen). seen width' (log (kept (len + 1) (set rows len row)) closed) ≡ seen n.width (with_row n.log row.0)) view_is
    (λ i. seen (wide i) ((ap (λ (x : List ℕ). log x closed) more ∙ sym grown) i))

independent_outside : (rows : List ℕ) (row : ℕ) → IsIndependent (rows ++ row ∷ []) → in_span rows row ≡ false
independent_outside rows row is = ⊎_elim
    (λ (inside : in_span rows row ≡ true).
    absurd (omega (arith, is, dimension-push_inside rows row inside, dimension-le_length rows, length-append rows (row ∷ []))))
    (λ (outside : in_span rows row ≡ false). outside)
    (true_or_false (in_span rows row))

-- a word that goes on with the log, and isn't 0 or the mark, is a row outside the span
pub with_row-next : (width : ℕ) (s : Log) (word : ℕ) → word ≢ 0 → word ≢ CLOSED → IsLog width (sight_after s word) → with_row s word ≡ sight_after s word
with_row-next width s word full mark is =
    let same = sight_other s word full mark in
    let outside = independent_outside s.rows word (subst (IsLog width) same is).independent in
    ap (λ (b : Bool). if b then s else log (s.rows ++ word ∷ []) s.closed) outside ∙ sym same
