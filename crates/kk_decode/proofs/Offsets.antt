-- The offsets of a space from a codeword.
use Rattle.std.proofs.Common.{◌≡◌, ℕ, ◌-◌, ◌/◌, ◌%◌, ◌^◌, ◌<◌, true, ◌&&◌, List, map, sym, ap, ap₂, ◌∙◌, bit_xor, arith}
use Rattle.std.specs.Prelude.{All}
use Rattle.std.specs.Int.Bits.{xor_self}
use Rattle.std.proofs.lemmas.Bool.{and_from, and_parts}
use Rattle.std.proofs.lemmas.Nat.{pow_pos, pow-add, div_below, mod-mul-add, xor_shr, xor_mod}
use Rattle.kk_field.specs.Field.{Modulus}
use Rattle.kk_field.proofs.Sums.{xor_xor_swap, same_from_xor_zero}
use Rattle.kk_linpoly.specs.LinPoly.{value}
use Rattle.kk_linpoly.proofs.Values.{value-xor, value-lt}
use Rattle.kk_rows.specs.Span.{in_span, dimension}
use Rattle.kk_rows.specs.Distance.{meet_dimension}
use Rattle.kk_rows.specs.AdditiveMap.{IsAdditive}
use Rattle.kk_rows.proofs.Spans.{same_bool, in_span-lt}
use Rattle.kk_rows.proofs.Meets.{meet_dimension_of_common}
use Rattle.kk_code.specs.Codeword.{Parameters, width, codeword}
use Rattle.kk_code.proofs.Graphs.{row_from_codeword}
use Rattle.kk_decode.specs.Offset.{offset}
use Rattle.kk_decode.specs.Laws.{MeetByOffsets}
use Rattle.kk_decode.proofs.Kernels.{kernel}
use Rattle.kk_decode.proofs.Members.{on_graph_member}

pub IsAdditive-offset : (f : Modulus) → f.low < 2 ^ f.degree → (u : List ℕ) → IsAdditive (offset f u)
IsAdditive-offset f h u a b =
    let n = 2 ^ f.degree in
    ap₂ bit_xor (xor_mod a b f.degree) (ap (value f u) (xor_shr a b f.degree) ∙ value-xor f h u (a / n) (b / n))
    ∙ xor_xor_swap (a % n) (b % n) (value f u (a / n)) (value f u (b / n))

-- the x-part of a row
x_below : (p : Parameters) (r : ℕ) → r < 2 ^ width p → r / 2 ^ p.field.degree < 2 ^ p.l
x_below p r below = div_below r (2 ^ p.field.degree) (2 ^ p.l) (pow_pos p.field.degree) (omega (arith, below, pow-add 2 p.l p.field.degree))

-- a row of the codeword has none
offset_on : (p : Parameters) → p.field.low < 2 ^ p.field.degree → (u : List ℕ) (r : ℕ) → in_span (codeword p u) r ≡ true → offset p.field u r ≡ 0
offset_on p h u r inside =
    let f = p.field in
    let n = 2 ^ f.degree in
    let y = value f u (r / n) in
    let y_is : y ≡ r % n = sym (mod-mul-add (r / n) n y (value-lt f h u (r / n))) ∙ ap (λ w. w % n) (row_from_codeword p h u r inside).1 in
    ap (bit_xor (r % n)) y_is ∙ xor_self (r % n)

pub meet_of_offsets : (p : Parameters) → p.field.low < 2 ^ p.field.degree → (rows u : List ℕ) → All (λ r. r < 2 ^ width p) rows
    → meet_dimension rows (codeword p u) ≡ dimension rows - dimension (map (offset p.field u) rows)
meet_of_offsets p h rows u below =
    let f = p.field in
    let c = codeword p u in
    let ws = kernel (offset f u) (IsAdditive-offset f h u) rows in
    let common : (x : ℕ) → in_span ws.0 x ≡ (in_span rows x && in_span c x) =
    λ x. same_bool _ _
    (λ k.
    let m = ws.1.members x k in
    let on = on_graph_member p h u x (record {
      x = x_below p x (in_span-lt (width p) rows below x m.0);
      y = same_from_xor_zero (x % 2 ^ f.degree) (value f u (x / 2 ^ f.degree)) m.1;
    }) in
    and_from _ _ m.0 on)
    (λ k. let both = and_parts _ _ k in ws.1.all x both.0 (offset_on p h u x both.1)) in
    omega (arith, meet_dimension_of_common rows c ws.0 common, ws.1.independent, ws.1.count)

pub meet_by_offsets : MeetByOffsets
meet_by_offsets p code rows u below = meet_of_offsets p code.field.modulus.low_below rows u below
