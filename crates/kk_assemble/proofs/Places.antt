-- Rows of bits that are read ahead of a place.
use Rattle.std.proofs.Common.{◌≡◌, ℕ, ◌+◌, ◌-◌, ◌*◌, ◌/◌, ◌%◌, ◌^◌, ◌<◌, ◌≤◌, Option, Some, None, List, [], ◌++◌, length, get_or, unwrap_or, All, IfSome, sym, ap, ◌∙◌, inl, inr, arith}
use Rattle.std.specs.Int.{bit_at}
use Rattle.std.proofs.Math.ListN.{get_or-eq_default}
use Rattle.std.proofs.Math.Nat.{add-mul, mul_assoc}
use Rattle.std.proofs.lemmas.Bool.{cases_lt}
use Rattle.std.proofs.lemmas.List.{get_or-map, length-map}
use Rattle.std.proofs.lemmas.Nat.{pow_pos, row_fits, div-mul-add, mod-mul-add}
use Rattle.kk_code.specs.Codeword.{Parameters, IsMessage}
use Rattle.kk_assemble.specs.Bits.{bits_of, bits_from, first_bit, IsReadAhead, AreReadAhead}
use Rattle.kk_assemble.specs.FileBits.{number_from, file_bit, message_bit}
use Rattle.kk_assemble.specs.Messages.{messages_or_empty}
use Rattle.kk_assemble.proofs.Numbers.{number_from-bit_at}
use Rattle.kk_assemble.proofs.BitRows.{length-bits_from, bits_from-append, bits_of-number_from, first_bits}

-- a row is its bits, as many as it has
pub whole_row : (bit : ℕ → ℕ) (at n : ℕ) (row : List ℕ) → row ≡ bits_from bit at n → (length row ≡ n) × (row ≡ bits_from bit at (length row))
whole_row bit at n row is =
    let long : length row ≡ n = ap length is ∙ length-bits_from bit at n in
    (long, is ∙ ap (bits_from bit at) (sym long))

-- a row to which the bits of the next number are added
pub pushed_row :
    (bit : ℕ → ℕ) (at n number : ℕ) (row new : List ℕ) → ((t : ℕ) → bit t < 2) → row ≡ bits_from bit at (length row) → number ≡ number_from bit (at + length row) n
    → new ≡ row ++ bits_of n number → (length new ≡ length row + n) × (new ≡ bits_from bit at (length new))
pushed_row bit at n number row new bits before is pushed =
    whole_row bit at (length row + n) new
    (pushed
    ∙ ap (λ (x : ℕ). row ++ bits_of n x) is
    ∙ ap (λ (xs : List ℕ). row ++ xs) (bits_of-number_from bit (at + length row) n bits)
    ∙ ap (λ (xs : List ℕ). xs ++ bits_from bit (at + length row) n) before
    ∙ bits_from-append bit at (length row) n)

-- a row from which the bits of a number are taken
pub taken_row :
    (bit : ℕ → ℕ) (at n number : ℕ) (row left : List ℕ) → ((t : ℕ) → bit t < 2) → row ≡ bits_from bit at (length row) → number < 2 ^ n → n ≤ length row
    → row ≡ bits_of n number ++ left → (number ≡ number_from bit at n) × (n + length left ≡ length row) × (left ≡ bits_from bit (at + n) (length left))
taken_row bit at n number row left bits before below enough taken =
    let parts = first_bits number left bit at n (length row) bits below enough (sym before ∙ taken) in
    let remainder = whole_row bit (at + n) (length row - n) left parts.1 in
    (parts.0, omega (arith, remainder.0), remainder.1)

-- a bit of a file is 0 or 1
pub file_bit_below : (file : List ℕ) (t : ℕ) → file_bit file t < 2
file_bit_below file t = omega arith

-- a bit of messages is 0 or 1
pub message_bit_below : (p : Parameters) (messages : List (List ℕ)) (t : ℕ) → message_bit p messages t < 2
message_bit_below p messages t = omega arith

-- a queue that goes up to a byte of the file
pub file_read_ahead : (file : List ℕ) (at next : ℕ) (queue : List ℕ) → queue ≡ bits_from (file_bit file) at (length queue) → at + length queue ≡ 8 * next → IsReadAhead file next queue
file_read_ahead file at next queue is up =
    let place : at ≡ 8 * next - length queue = omega arith in
    record { read = omega arith; queued = is ∙ ap (λ (k : ℕ). bits_from (file_bit file) k (length queue)) place }

-- a symbol of an answer fits its bits
symbol_of_answer : (p : Parameters) (answer : Option (List ℕ)) (j : ℕ) → IfSome answer (IsMessage p) → get_or (unwrap_or answer []) j 0 < 2 ^ p.field.degree
symbol_of_answer p None j is = pow_pos p.field.degree
symbol_of_answer p (Some u) j is = elim (cases_lt j (length u)) [
  | inl within ↦ is.symbols j 0 within
  | inr after ↦ rw (get_or-eq_default u 0 after) (pow_pos p.field.degree)
]

-- a symbol of the messages fits its bits
pub symbol_fits :
    (p : Parameters) (answers : List (Option (List ℕ))) (g j : ℕ) → All (λ answer. IfSome answer (IsMessage p)) answers
    → get_or (get_or (messages_or_empty answers) g []) j 0 < 2 ^ p.field.degree
symbol_fits p answers g j all = elim (cases_lt g (length answers)) [
  | inl within ↦
      let message : get_or (messages_or_empty answers) g [] ≡ unwrap_or (get_or answers g None) [] = get_or-map (λ answer. unwrap_or answer []) answers g None [] within in
      rw message (symbol_of_answer p (get_or answers g None) j (all g None within))
  | inr after ↦
      let none : get_or (messages_or_empty answers) g [] ≡ [] = get_or-eq_default (messages_or_empty answers) [] (omega (arith, length-map answers (λ answer. unwrap_or answer []))) in
      rw none (pow_pos p.field.degree)
]

-- the bits of a symbol among those of all messages
symbol_bit :
    (p : Parameters) (messages : List (List ℕ)) (g j i : ℕ) → j < p.k → i < p.field.degree
    → message_bit p messages (first_bit p g j + i) ≡ bit_at (get_or (get_or messages g []) j 0) (p.field.degree - 1 - i)
symbol_bit p messages g j i symbol within =
    let k = p.k in
    let m = p.field.degree in
    let inside = j * m + i in
    let small : inside < k * m = omega (arith, row_fits j m k m symbol (omega arith)) in
    let place : first_bit p g j + i ≡ g * (k * m) + inside = omega (arith, add-mul (g * k) j m, mul_assoc g k m) in
    let message : (first_bit p g j + i) / (k * m) ≡ g = ap (λ (t : ℕ). t / (k * m)) place ∙ div-mul-add g (k * m) inside small in
    let left : (first_bit p g j + i) % (k * m) ≡ inside = ap (λ (t : ℕ). t % (k * m)) place ∙ mod-mul-add g (k * m) inside small in
    let which : (first_bit p g j + i) % (k * m) / m ≡ j = ap (λ (t : ℕ). t / m) left ∙ div-mul-add j m i within in
    let bit : (first_bit p g j + i) % (k * m) % m ≡ i = ap (λ (t : ℕ). t % m) left ∙ mod-mul-add j m i within in
    ap (λ (a : ℕ). bit_at (get_or (get_or messages a []) ((first_bit p g j + i) % (k * m) / m) 0) (m - 1 - (first_bit p g j + i) % (k * m) % m)) message
    ∙ ap (λ (a : ℕ). bit_at (get_or (get_or messages g []) a 0) (m - 1 - (first_bit p g j + i) % (k * m) % m)) which
    ∙ ap (λ (a : ℕ). bit_at (get_or (get_or messages g []) j 0) (m - 1 - a)) bit

-- a symbol by the bits of all messages
pub symbol_is :
    (p : Parameters) (messages : List (List ℕ)) (g j : ℕ) → j < p.k → get_or (get_or messages g []) j 0 < 2 ^ p.field.degree
    → get_or (get_or messages g []) j 0 ≡ number_from (message_bit p messages) (first_bit p g j) p.field.degree
symbol_is p messages g j symbol below =
    sym (number_from-bit_at (get_or (get_or messages g []) j 0) (message_bit p messages) (first_bit p g j) p.field.degree (message_bit_below p messages) below (λ i within. symbol_bit p messages g j i symbol within))

-- the place after a symbol
pub next_bit : (p : Parameters) (g j h i : ℕ) → h * p.k + i ≡ g * p.k + j + 1 → first_bit p h i ≡ first_bit p g j + p.field.degree
next_bit p g j h i next = ap (λ (n : ℕ). n * p.field.degree) next ∙ omega (arith, add-mul (g * p.k + j) 1 p.field.degree)

-- a queue that goes up to a symbol
pub messages_read_ahead :
    (p : Parameters) (answers : List (Option (List ℕ))) (at g j : ℕ) (queue : List ℕ) → All (λ answer. IfSome answer (IsMessage p)) answers → j < p.k
    → queue ≡ bits_from (message_bit p (messages_or_empty answers)) at (length queue) → at + length queue ≡ first_bit p g j → AreReadAhead p answers g j queue
messages_read_ahead p answers at g j queue all symbol is up =
    let place : at ≡ first_bit p g j - length queue = omega (arith, up) in
    record {
      messages = all;
      symbol_below = symbol;
      read = omega (arith, up);
      queued = is ∙ ap (λ (t : ℕ). bits_from (message_bit p (messages_or_empty answers)) t (length queue)) place;
    }
