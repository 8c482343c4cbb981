-- Hexadecimal numerals of a given width and decimals with no leading zero: their digits, what parses them, and that a number has
-- exactly one.
use Rattle.std.proofs.Common.{◌≡◌, ◌≢◌, ℕ, zero, suc, ◌+◌, ◌-◌, ◌*◌, ◌/◌, ◌%◌, ◌^◌, ◌<◌, ◌≤◌, true, false, not, ◌&&◌, eqb, ltb, leb, List, [], ◌∷◌, ◌++◌, length, take, get_or, lit<, Result, Ok, refl, sym, ap, subst, lit≤, ◌∙◌, inl, inr, arith, rules, add-one}
use Rattle.std.specs.Char.{digit_value, is_ascii_digit}
use Rattle.std.specs.List.{list_all}
use Rattle.std.specs.Str.Parse.{AllDigits, digits_value, without_leading_plus, ParsesUnsigned, IsNumeral}
use Rattle.std.specs.Fmt.{decimal}
use Rattle.std.proofs.lemmas.Bool.{and_parts, and_from, eqb-true, leb-true, ltb-true, eq-eqb, le-leb, lt-ltb, not-true, not_from_false, and_left, and_cases, ne_eqb, cases_lt, false≢true, ltb-false}
use Rattle.std.proofs.lemmas.Bool.Decides.{nat_tests}
use Rattle.std.proofs.lemmas.Int.Digits.{digits_value-lt, digits_value_push}
use Rattle.std.proofs.lemmas.Result.{Ok-from_Ok_iff}
use Rattle.std.proofs.lemmas.Str.Parse.{IsNumeralModel, numerals_by_value, parse_gives, without_leading_plus_none, digits_value_short}
use Rattle.std.proofs.Math.Nat.{pow-le-pow_right, pow-suc, div-div-eq-div-mul}
use Rattle.std.proofs.Math.Seq.{take-length, take-suc}
use Rattle.std.proofs.lemmas.List.{length-append, length-take-le}
use Rattle.std.proofs.lemmas.List.Folds.{list_all-append}
use Rattle.std.proofs.lemmas.Fmt.{digits_decimal, digits_value-decimal, decimal-digits_value, length-decimal-le, decimal_nonempty, first_decimal, decimal_digit}
use Rattle.kk_code.specs.Ticket.{hex, hex_digit}
use Rattle.kk_code.specs.TicketText.{is_hex, is_hex_digit, is_decimal, has_leading_zero}

-- ---- one digit

digit_value-hex : (c : ℕ) → is_hex_digit c ≡ true → (digit_value c < 16) × (c ≢ 43) × (c ≢ 58)
digit_value-hex c h = grind (arith, nat_tests)

-- ---- hexadecimal numerals

AllDigits-hex : (text : List ℕ) → list_all is_hex_digit text ≡ true → AllDigits 16 text
AllDigits-hex [] h = tt
AllDigits-hex (c ∷ cs) h =
    let parts = and_parts (is_hex_digit c) (list_all is_hex_digit cs) h in
    ((digit_value-hex c parts.0).0, AllDigits-hex cs parts.1)

pub hex_parts : (w : ℕ) (text : List ℕ) → is_hex w text ≡ true → (length text ≡ w) × (list_all is_hex_digit text ≡ true)
unfolding is_hex
hex_parts w text h =
    let parts = and_parts (eqb (length text) w) (list_all is_hex_digit text) h in
    (eqb-true (length text) w parts.0, parts.1)

pub hex_value_below : (w : ℕ) (text : List ℕ) → is_hex w text ≡ true → digits_value 16 text < 16 ^ w
hex_value_below w text h =
    let parts = hex_parts w text h in
    rw (← parts.0) (digits_value-lt 16 text (AllDigits-hex text parts.1))

first_hex : (text : List ℕ) → list_all is_hex_digit text ≡ true → get_or text 0 0 ≢ 43
first_hex [] h = λ e. cc
first_hex (c ∷ cs) h = (digit_value-hex c (and_parts (is_hex_digit c) (list_all is_hex_digit cs) h).0).1

-- what `from_str_radix` gives of such a numeral
pub hex_parses : {E : Type 0} (w : ℕ) (text : List ℕ) (r : Result ℕ E) → 0 < w → w ≤ 16 → is_hex w text ≡ true → ParsesUnsigned 64 16 text r → r ≡ Ok (digits_value 16 text)
hex_parses w text r positive wide h parses =
    let parts = hex_parts w text h in
    let plain = without_leading_plus_none text (first_hex text parts.1) in
    let power : 16 ^ w ≤ 16 ^ 16 = pow-le-pow_right (lit≤ tt) wide in
    let fits : digits_value 16 text < 2 ^ 64 = omega (arith, hex_value_below w text h) in
    let some : 0 < length text = omega arith in
    let P : List ℕ → Type 0 = λ t. IsNumeral 16 t × (digits_value 16 t < 2 ^ 64) in
    Ok-from_Ok_iff r (P (without_leading_plus text)) (digits_value 16 (without_leading_plus text)) parses
    (subst P (sym plain) ((some, AllDigits-hex text parts.1), fits))
    ∙ ap (λ t. Ok (digits_value 16 t)) plain

-- ---- decimals

decimals : IsNumeralModel (λ ds. list_all is_ascii_digit ds ≡ true) (digits_value 10)
decimals = numerals_by_value _ (search rules)

pub decimal_parts : (text : List ℕ) → is_decimal text ≡ true → (0 < length text) × (length text ≤ 10) × (has_leading_zero text ≡ false) × (list_all is_ascii_digit text ≡ true)
unfolding is_decimal
decimal_parts text h =
    let last = and_parts _ (list_all is_ascii_digit text) h in
    let middle = and_parts _ (not (has_leading_zero text)) last.0 in
    let first = and_parts (ltb 0 (length text)) (leb (length text) 10) middle.0 in
    (ltb-true 0 (length text) first.0, leb-true (length text) 10 first.1, not-true (has_leading_zero text) middle.1, last.1)

pub decimal_value_below : (text : List ℕ) → is_decimal text ≡ true → digits_value 10 text < 10 ^ 10
decimal_value_below text h =
    let parts = decimal_parts text h in
    digits_value_short decimals text 10 parts.3 parts.1

-- what `parse` gives of a decimal
pub decimal_parses : {E : Type 0} (text : List ℕ) (r : Result ℕ E) → is_decimal text ≡ true → ParsesUnsigned 64 10 text r → r ≡ Ok (digits_value 10 text)
decimal_parses text r h parses =
    let parts = decimal_parts text h in
    parse_gives decimals 64 text r parses parts.3 parts.0 (omega (arith, decimal_value_below text h))

-- ---- a number has one numeral of a width

value_of_digit : (d : ℕ) → d < 16 → digit_value (hex_digit d) ≡ d
value_of_digit d h = grind (arith, nat_tests)

digit_of_value : (c : ℕ) → is_hex_digit c ≡ true → hex_digit (digit_value c) ≡ c
digit_of_value c h = grind (arith, nat_tests)

pub hex_digit_below : (d : ℕ) → d < 16 → hex_digit d < 128
hex_digit_below d h = grind (arith, nat_tests)

digit_is_hex : (d : ℕ) → d < 16 → is_hex_digit (hex_digit d) ≡ true
digit_is_hex d h = grind (arith, nat_tests)

pub length-hex : (w n : ℕ) → length (hex w n) ≡ w
unfolding hex
length-hex zero n = refl
length-hex (suc w) n = omega (arith, length-append (hex w (n / 16)) (hex_digit (n % 16) ∷ []), length-hex w (n / 16))

pub hex-none : (n : ℕ) → hex 0 n ≡ []
unfolding hex
hex-none n = refl

pow16 : (p : ℕ) → 2 ^ (4 * p) ≡ 16 ^ p
pow16 zero = refl
pow16 (suc p) =
    let four : 4 * suc p ≡ suc (suc (suc (suc (4 * p)))) = omega arith in
    let twos : 2 ^ suc (suc (suc (suc (4 * p)))) ≡ 16 * 2 ^ (4 * p) = omega (arith, pow-suc 2 (suc (suc (suc (4 * p)))), pow-suc 2 (suc (suc (4 * p))), pow-suc 2 (suc (4 * p)), pow-suc 2 (4 * p)) in
    ap (λ e. 2 ^ e) four ∙ twos ∙ ap (λ n. 16 * n) (pow16 p) ∙ omega (arith, pow-suc 16 p)

-- the first i digits of w, and the next one
pub hex-more : (w i n : ℕ) → i < w → hex (i + 1) (n / 16 ^ (w - (i + 1))) ≡ hex i (n / 16 ^ (w - i)) ++ hex_digit (n / 2 ^ (4 * (w - 1 - i)) % 16) ∷ []
unfolding hex
hex-more w i n inside =
    let p = w - (i + 1) in
    let place : w - 1 - i ≡ p = omega arith in
    let next : w - i ≡ suc p = omega arith in
    let power : 16 ^ p * 16 ≡ 16 ^ (w - i) = omega (arith, pow-suc 16 p) ∙ sym (ap (λ e. 16 ^ e) next) in
    ap (λ k. hex k (n / 16 ^ p)) (add-one i)
    ∙ ap (λ q. hex i q ++ hex_digit (n / 16 ^ p % 16) ∷ []) (div-div-eq-div-mul n (16 ^ p) 16 ∙ ap (λ d. n / d) power)
    ∙ ap (λ d. hex i (n / 16 ^ (w - i)) ++ hex_digit (n / d % 16) ∷ []) (sym (ap (λ e. 2 ^ (4 * e)) place ∙ pow16 p))

list_all-hex : (w n : ℕ) → list_all is_hex_digit (hex w n) ≡ true
unfolding hex
list_all-hex zero n = refl
list_all-hex (suc w) n =
    list_all-append is_hex_digit (hex w (n / 16)) (hex_digit (n % 16) ∷ [])
    ∙ and_from (list_all is_hex_digit (hex w (n / 16))) (is_hex_digit (hex_digit (n % 16)) && true) (list_all-hex w (n / 16))
    (and_from (is_hex_digit (hex_digit (n % 16))) true (digit_is_hex (n % 16) (omega arith)) refl)

pub is_hex-hex : (w n : ℕ) → is_hex w (hex w n) ≡ true
unfolding is_hex
is_hex-hex w n = and_from (eqb (length (hex w n)) w) (list_all is_hex_digit (hex w n)) (eq-eqb (length (hex w n)) w (length-hex w n)) (list_all-hex w n)

pub digits_value-hex : (w n : ℕ) → n < 16 ^ w → digits_value 16 (hex w n) ≡ n
unfolding hex
digits_value-hex zero n h = omega (arith, h)
digits_value-hex (suc w) n h =
    let front = digits_value-hex w (n / 16) (omega (arith, h, pow-suc 16 w)) in
    digits_value_push 16 (hex w (n / 16)) (hex_digit (n % 16))
    ∙ omega (arith, front, value_of_digit (n % 16) (omega arith))

pub hex-digits_value : (w : ℕ) (text : List ℕ) → length text ≡ w → list_all is_hex_digit text ≡ true → hex w (digits_value 16 text) ≡ text
unfolding hex
hex-digits_value zero [] len all = refl
hex-digits_value zero (c ∷ cs) len all = absurd (omega (arith, len))
hex-digits_value (suc w) text len all =
    let front = take w text in
    let c = get_or text w 0 in
    let split : text ≡ front ++ c ∷ [] = sym (take-length text) ∙ ap (λ n. take n text) len ∙ take-suc text w 0 (omega arith) in
    let parts = and_parts (list_all is_hex_digit front) (is_hex_digit c && true) (sym (list_all-append is_hex_digit front (c ∷ [])) ∙ ap (list_all is_hex_digit) (sym split) ∙ all) in
    let last = (and_parts (is_hex_digit c) true parts.1).0 in
    let small = (digit_value-hex c last).0 in
    let value = ap (digits_value 16) split ∙ digits_value_push 16 front c in
    let quotient : digits_value 16 text / 16 ≡ digits_value 16 front = omega (arith, value, small) in
    let rest : digits_value 16 text % 16 ≡ digit_value c = omega (arith, value, small) in
    ap (λ q. hex w q ++ hex_digit (digits_value 16 text % 16) ∷ []) quotient
    ∙ ap (λ r. hex w (digits_value 16 front) ++ hex_digit r ∷ []) rest
    ∙ ap (λ d. hex w (digits_value 16 front) ++ d ∷ []) (digit_of_value c last)
    ∙ ap (λ xs. xs ++ c ∷ []) (hex-digits_value w front (length-take-le w text (omega arith)) parts.0)
    ∙ sym split

-- ---- a number has one decimal

no_leading_zero : (n : ℕ) → n < 2 ^ 64 → has_leading_zero (decimal n) ≡ false
no_leading_zero n fits =
    elim (cases_lt 0 n) [
      | inl some ↦ and_left (eqb (get_or (decimal n) 0 0) 48) (ltb 1 (length (decimal n)))
          (ne_eqb (get_or (decimal n) 0 0) 48 (λ e. absurd (omega (arith, first_decimal n some fits))))
      | inr none ↦ let zero_is : n ≡ 0 = omega arith in
          ap (λ k. has_leading_zero (decimal k)) zero_is ∙ ap has_leading_zero (decimal_digit 0 (lit< tt))
    ]

single_zero : (text : List ℕ) → 0 < length text → has_leading_zero text ≡ false → get_or text 0 0 ≡ 48 → length text ≡ 1
single_zero text some h e =
    elim (and_cases (eqb (get_or text 0 0) 48) (ltb 1 (length text)) h) [
      | inl other ↦ absurd (false≢true (sym other ∙ eq-eqb (get_or text 0 0) 48 e))
      | inr short ↦ omega (arith, ltb-false 1 (length text) short)
    ]

pub decimal_is_decimal : (n : ℕ) → n < 10 ^ 10 → is_decimal (decimal n) ≡ true
unfolding is_decimal
decimal_is_decimal n h =
    let fits : n < 2 ^ 64 = omega (arith, h) in
    let few = length-decimal-le 10 n (lit< tt) h fits in
    let some = decimal_nonempty n fits in
    and_from _ (list_all is_ascii_digit (decimal n))
    (and_from _ (not (has_leading_zero (decimal n)))
    (and_from (ltb 0 (length (decimal n))) (leb (length (decimal n)) 10) (lt-ltb 0 (length (decimal n)) some) (le-leb (length (decimal n)) 10 few))
    (not_from_false (has_leading_zero (decimal n)) (no_leading_zero n fits)))
    (digits_decimal decimals n fits)

pub digits_value-of_decimal : (n : ℕ) → n < 10 ^ 10 → digits_value 10 (decimal n) ≡ n
digits_value-of_decimal n h = digits_value-decimal decimals n (omega (arith, h))

pub decimal-of_digits_value : (text : List ℕ) → is_decimal text ≡ true → decimal (digits_value 10 text) ≡ text
decimal-of_digits_value text h =
    let parts = decimal_parts text h in
    decimal-digits_value decimals text parts.3 parts.0 (single_zero text parts.0 parts.2) (omega (arith, decimal_value_below text h))
