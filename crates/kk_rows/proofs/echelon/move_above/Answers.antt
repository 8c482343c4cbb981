use Rattle.std.proofs.Common.{◌≡◌, ℕ, ◌+◌, ◌-◌, ◌<◌, ◌≤◌, ◌^◌, [], ◌∷◌, ◌++◌, List, length, drop, get_or, sym, ap, ap₂, ◌∙◌, subst, arith, take}
use Rattle.std.proofs.Math.Nat.{add-zero}
use Rattle.std.proofs.lemmas.Grind.{get_or_after_one}
use Rattle.std.proofs.lemmas.List.{length-map, length-drop, length-set, get_or-drop, drop-drop, drop-set-lt, take_more_set, map_more, map_push}
use Rattle.std.proofs.lemmas.List.Elements.{All-more}
use Rattle.std.proofs.lemmas.Bool.{ltb-true, ltb-false}
use Rattle.kk_rows.specs.Rows.{numbers}
use Rattle.kk_rows.specs.declared.rows.Row.{Row}
use Rattle.kk_rows.specs.Echelon.{cleared}
use Rattle.kk_rows.proofs.RowLists.{falling_after, numbers-get_or, numbers_each}
use Rattle.kk_rows.proofs.Reduced.{Reduces-from}
use Rattle.kk_rows.proofs.echelon.move_above.Goals as goal

-- the row that is read stands as it stood
read : (rows old : List Row) (place : ℕ) (d : Row) → drop (place + 1) rows ≡ drop (place + 1) old → get_or rows (place + 1) d ≡ get_or (drop 1 old) place d
read rows old place d back =
    ap (λ k. get_or rows k d) (sym (add-zero (place + 1))) ∙ sym (get_or-drop (place + 1) rows 0 d)
    ∙ ap (λ l. get_or l 0 d) back
    ∙ get_or-drop (place + 1) old 0 d ∙ ap (λ k. get_or old k d) (omega arith) ∙ sym (get_or_after_one old place d)

pub of-row-requires : goal.of-row-requires
of-row-requires g c =
    let place = c.loop-place.place in
    let old = c.args.rows.now in
    let d : Row = record { 0 = 0 } in
    let within : place < length (drop 1 old) = omega (arith, length-drop 1 old, c.loop-place-test.true) in
    record {
      fits = subst (λ (row : Row). row.0 < 2 ^ g.W.Word.bits) (sym (read c.loop-place.rows old place d c.loop-place.invariant.back))
          (numbers_each (λ row. row < 2 ^ g.W.Word.bits) (drop 1 old) place c.requires.rows_fit within);
    }

pub loop-place-preserved : goal.loop-place-preserved
loop-place-preserved g c =
    let place = c.loop-place.place in
    let old = c.args.rows.now in
    let rows = c.loop-place.rows in
    let inv = c.loop-place.invariant in
    let xs = drop 1 old in
    let v = c.args.v.0 in
    let f : ℕ → ℕ = λ row. cleared row v in
    let d : Row = record { 0 = 0 } in
    let x : Row = get_or rows (place + 1) d in
    let len : length xs ≡ length old - 1 = length-drop 1 old in
    let within : place < length xs = omega (arith, len, c.loop-place-test.true) in
    let numbered : length (numbers xs) ≡ length xs = length-map xs (λ (row : Row). row.0) in
    let x_is : x.0 ≡ get_or (numbers xs) place 0 = ap (λ (row : Row). row.0) (read rows old place d inv.back) ∙ sym (numbers-get_or xs place within) in
    let moved : c.row.result.0 ≡ f (get_or (numbers xs) place 0) =
    c.row.ensures ∙ c.cleared_by.ensures ∙ ap₂ cleared (c.of-row.ensures ∙ x_is) inv.lead in
    let room : place < length rows = omega (arith, inv.long, within, len) in
    record {
      long = length-set rows place c.row.result ∙ inv.long;
      front = ap (λ l. numbers l) (take_more_set rows place c.row.result room) ∙ map_push (λ (row : Row). row.0) (take place rows) c.row.result
          ∙ ap₂ (λ l r. l ++ r ∷ []) inv.front moved ∙ sym (map_more f (numbers xs) place 0 (omega (arith, within, numbered)));
      lead = inv.lead;
      back = drop-set-lt (place + 1 + 1) rows place c.row.result (omega arith) ∙ sym (drop-drop 1 (place + 1) rows)
          ∙ ap (drop 1) inv.back ∙ drop-drop 1 (place + 1) old;
      above = All-more (λ row. v ≤ row) (numbers xs) place 0 (omega (arith, within, numbered)) inv.above
          (let above = ltb-false _ _ (sym c.is_below.ensures ∙ c.if-is_below.false) in omega (arith, above, c.of-row.ensures, x_is, inv.lead));
    }

pub returns-then-is_below-clause-below : goal.returns-then-is_below-clause-below
returns-then-is_below-clause-below g c =
    let place = c.loop-place.place in
    let old = c.args.rows.now in
    let rows = c.loop-place.rows in
    let inv = c.loop-place.invariant in
    let xs = drop 1 old in
    let d : Row = record { 0 = 0 } in
    let within : place < length xs = omega (arith, length-drop 1 old, c.loop-place-test.true) in
    let numbered : length (numbers xs) ≡ length xs = length-map xs (λ (row : Row). row.0) in
    let x_is : (get_or rows (place + 1) d).0 ≡ get_or (numbers xs) place 0 = ap (λ (row : Row). row.0) (read rows old place d inv.back) ∙ sym (numbers-get_or xs place within) in
    falling_after c.args.v.0 (numbers xs) (Reduces-from (numbers xs) c.requires.reduced) place (omega (arith, within, numbered))
    (let below = ltb-true _ _ (sym c.is_below.ensures ∙ c.if-is_below.true) in omega (arith, below, c.of-row.ensures, x_is, inv.lead))
