-- The grammar of a ticket's text, `kk1:SESSION:M:MOD:L:K:LENGTH`, and what is wrong with a text that is none.
use Rattle.std.specs.Prelude.{◌≡◌, ℕ, ◌+◌, ◌^◌, ◌<◌, ◌≤◌, Bool, false, not, ◌&&◌, ◌||◌, if◌then◌else◌, ◌==◌, nat_lt, nat_le, List, [], ◌∷◌, length, slice_get, slice_index, slice_index_or, Option, Some, None, Result, Ok, Err, codes, bytes_eq}
use Rattle.std.specs.List.{list_all, slice_split}
use Rattle.std.specs.Option.{option_map_or}
use Rattle.std.specs.Char.{is_ascii_digit}
use Rattle.std.specs.Int.{is_in_range}
use Rattle.std.specs.Str.Parse.{digits_value}
use Rattle.kk_field.specs.Field.{polynomial}
use Rattle.kk_field.specs.Polynomial.{IsIrreducible, irreducible}
use Rattle.kk_code.specs.Codeword.{Parameters, IsInRange, IsNarrow, width}
use Rattle.kk_code.specs.declared.ticket.TheConstants.{MAX_GENERATIONS}
use Rattle.kk_code.specs.declared.fault.TicketFault.{TicketFault}
use Rattle.kk_code.specs.declared.fault.TicketFault.TheVariants.{Shape, Range, NotIrreducible, TooMany}
use Rattle.kk_code.specs.Ticket.{TicketFields, generations}

-- the text cut at each colon
abbrev pub parts : List ℕ → List (List ℕ)
parts text = slice_split (λ c. c == 58) text

-- part number i, counted from 0, and nothing where there is none
abbrev pub part_at : List ℕ → ℕ → List ℕ
part_at text i = slice_index_or (parts text) i []

-- part number i is there and has the form
abbrev pub has_form : (List ℕ → Bool) → List ℕ → ℕ → Bool
has_form form text i = option_map_or form (slice_get (parts text) i) false

-- the mark of this version
abbrev pub is_mark : List ℕ → Bool
is_mark text = bytes_eq text (codes "kk1")

-- a character of 0-9 and a-f
abbrev pub is_hex_digit : ℕ → Bool
is_hex_digit c = is_ascii_digit c || is_in_range 97 102 c

-- exactly w characters of 0-9 and a-f
unfoldable pub is_hex : ℕ → List ℕ → Bool
is_hex w text = length text == w && list_all is_hex_digit text

-- 0, and another digit after it
abbrev pub has_leading_zero : List ℕ → Bool
has_leading_zero text = slice_index text 0 == 48 && nat_lt 1 (length text)

-- 1 to 10 digits 0-9 with no leading zero; 0 itself is a decimal
unfoldable pub is_decimal : List ℕ → Bool
is_decimal text =
    nat_lt 0 (length text) && nat_le (length text) 10 && not (has_leading_zero text) && list_all is_ascii_digit text

-- what parts 0 to 6 have to be: the mark, SESSION, M, MOD, L, K and LENGTH
abbrev pub forms : List (List ℕ → Bool)
forms = is_mark ∷ is_hex 8 ∷ is_decimal ∷ is_hex 16 ∷ is_decimal ∷ is_decimal ∷ is_decimal ∷ []

-- The first part, counted from n, that is missing or not of its form. Where each form has its part, it is the first
-- part that is too many.
unfoldable pub first_misshapen : ℕ → List (List ℕ → Bool) → List (List ℕ) → Option ℕ
first_misshapen n [] [] = None
first_misshapen n [] (part ∷ more) = Some n
first_misshapen n (form ∷ others) [] = Some n
first_misshapen n (form ∷ others) (part ∷ more) =
    if form part then first_misshapen (n + 1) others more else Some n

-- the number of the part at which the shape of the text is wrong
abbrev pub shape_fault : List ℕ → Option ℕ
shape_fault text = first_misshapen 0 forms (parts text)

-- the numbers that the parts of a well-shaped text spell
unfoldable pub spelled : List ℕ → TicketFields
spelled text = record {
  session = digits_value 16 (part_at text 1);
  code = record {
    field = record {
      degree = digits_value 10 (part_at text 2);
      low = digits_value 16 (part_at text 3);
    };
    l = digits_value 10 (part_at text 4);
    k = digits_value 10 (part_at text 5);
  };
  length = digits_value 10 (part_at text 6);
}

-- The number of the first part that is out of its range: 2 for M, 3 for MOD, 4 for L and 5 for K.
unfoldable pub range_fault : Parameters → Option ℕ
range_fault p =
    if not (nat_le 2 p.field.degree && nat_le p.field.degree 62) then Some 2
    else (if not (nat_lt p.field.low (2 ^ p.field.degree)) then Some 3
    else (if not (nat_le 1 p.l && nat_le p.l p.field.degree && nat_le (width p) 63) then Some 4
    else (if not (nat_le 1 p.k && nat_le p.k p.l) then Some 5
    else None)))

-- The ticket that a text is, or its first fault. A fault of its shape comes first, then a number out of its range, a
-- modulus that is a product, and a file of too many messages.
unfoldable pub ticket_of : List ℕ → Result TicketFields TicketFault
ticket_of text =
    let t = spelled text in
    elim (shape_fault text) [
      | Some at ↦ Err (Shape at)
      | None ↦ elim (range_fault t.code) [
        | Some part ↦ Err (Range part)
        | None ↦
            if not (irreducible (polynomial t.code.field)) then Err NotIrreducible
            else (if nat_lt MAX_GENERATIONS (generations t) then Err (TooMany (generations t)) else Ok t)
      ]
    ]

-- the session, code and length that a ticket can have
pub record IsTicket (t : TicketFields) : Type 0 where
  pub session : t.session < 2 ^ 32
  pub code : IsInRange t.code
  pub narrow : IsNarrow t.code
  pub irreducible : IsIrreducible (polynomial t.code.field)
  pub few : generations t ≤ MAX_GENERATIONS

-- a text that is a ticket, with this session, code and length
pub record IsTicketText (text : List ℕ) (t : TicketFields) : Type 0 where
  pub shape : shape_fault text ≡ None
  pub spells : spelled text ≡ t
  pub range : range_fault t.code ≡ None
  pub irreducible : IsIrreducible (polynomial t.code.field)
  pub few : generations t ≤ MAX_GENERATIONS

-- The fault of a text that is no ticket: the first of these that holds, in the order of the cases.
abbrev pub IsFirstFault : List ℕ → TicketFault → Type 0
IsFirstFault text (Shape at) = shape_fault text ≡ Some at
IsFirstFault text (Range part) = (shape_fault text ≡ None) × (range_fault (spelled text).code ≡ Some part)
IsFirstFault text NotIrreducible =
    (shape_fault text ≡ None) × (range_fault (spelled text).code ≡ None)
    × ¬ IsIrreducible (polynomial (spelled text).code.field)
IsFirstFault text (TooMany n) =
    (shape_fault text ≡ None) × (range_fault (spelled text).code ≡ None)
    × IsIrreducible (polynomial (spelled text).code.field)
    × (generations (spelled text) ≡ n) × (MAX_GENERATIONS < n)
