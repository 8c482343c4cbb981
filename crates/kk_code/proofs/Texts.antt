-- The one text of a ticket.
use Rattle.std.proofs.Common.{◌≡◌, ℕ, ◌+◌, ◌^◌, ◌<◌, ◌≤◌, Bool, true, false, cond, eqb, List, [], ◌∷◌, ◌++◌, All, codes, Option, Some, None, is_some, append_assoc, refl, sym, ap, ◌∙◌, arith}
use Rattle.std.specs.Prelude.{slice_index_or}
use Rattle.std.specs.Char.{is_ascii_digit}
use Rattle.std.specs.List.{list_all, join_with_byte, AllByRecursion}
use Rattle.std.proofs.lemmas.List.Elements.{All-from_recursion}
use Rattle.std.proofs.lemmas.Bool.Decides.{nat_tests}
use Rattle.std.specs.Str.Parse.{digits_value}
use Rattle.std.specs.Fmt.{decimal}
use Rattle.std.proofs.Math.Pow.{pow_mono}
use Rattle.std.proofs.lemmas.Bool.{false≢true, and_parts}
use Rattle.std.proofs.lemmas.List.Splits.{slice_split_at, slice_split_none, join_with_byte-slice_split}
use Rattle.std.proofs.lemmas.Slice.Eq.{bytes_eq-Decides}
use Rattle.kk_code.specs.Codeword.{Parameters, IsInRange, IsNarrow}
use Rattle.kk_code.specs.Ticket.{TicketFields, ticket_text, hex}
use Rattle.kk_code.specs.TicketText.{parts, part_at, is_mark, is_hex, is_hex_digit, is_decimal, forms, first_misshapen, shape_fault, range_fault, spelled, IsTicket, IsTicketText}
use Rattle.kk_code.proofs.Tickets.{length_below}
use Rattle.kk_code.proofs.Shapes.{spelled_is}
use Rattle.kk_code.proofs.Numerals.{hex_value_below, decimal_parts, hex_parts, decimal_is_decimal, digits_value-of_decimal, decimal-of_digits_value, is_hex-hex, digits_value-hex, hex-digits_value}

-- ---- seven parts with colons between them

abbrev seven : List ℕ → List ℕ → List ℕ → List ℕ → List ℕ → List ℕ → List ℕ → List ℕ
seven a b c d e f g = a ++ 58 ∷ (b ++ 58 ∷ (c ++ 58 ∷ (d ++ 58 ∷ (e ++ 58 ∷ (f ++ 58 ∷ g)))))

ticket_text_is : (t : TicketFields) → ticket_text t ≡ seven (codes "kk1") (hex 8 t.session) (decimal t.code.field.degree) (hex 16 t.code.field.low) (decimal t.code.l) (decimal t.code.k) (decimal t.length)
unfolding ticket_text
ticket_text_is t = simp append_assoc

-- the text as it grows, one part after another
pub text_pushed : (t : TicketFields) (session m low l k len : ℕ) (a b c d e f g : List ℕ) → session ≡ t.session → m ≡ t.code.field.degree → low ≡ t.code.field.low → l ≡ t.code.l → k ≡ t.code.k → len ≡ t.length → a ≡ codes "kk1" → b ≡ a ++ 58 ∷ hex 8 session → c ≡ b ++ 58 ∷ decimal m → d ≡ c ++ 58 ∷ hex 16 low → e ≡ d ++ 58 ∷ decimal l → f ≡ e ++ 58 ∷ decimal k → g ≡ f ++ 58 ∷ decimal len → g ≡ ticket_text t
text_pushed t session m low l k len a b c d e f g is_session is_m is_low is_l is_k is_len ea eb ec ed ee ef eg =
    let all : g ≡ seven (codes "kk1") (hex 8 session) (decimal m) (hex 16 low) (decimal l) (decimal k) (decimal len) =
    rw (eg, ef, ee, ed, ec, eb, ea) (simp append_assoc) in
    let same : seven (codes "kk1") (hex 8 session) (decimal m) (hex 16 low) (decimal l) (decimal k) (decimal len) ≡ seven (codes "kk1") (hex 8 t.session) (decimal t.code.field.degree) (hex 16 t.code.field.low) (decimal t.code.l) (decimal t.code.k) (decimal t.length) = cc in
    all ∙ same ∙ sym (ticket_text_is t)

-- ---- cutting such a text

HasNoColon : List ℕ → Type 0
HasNoColon text = All (λ c. eqb c 58 ≡ false) text

split_seven : (a b c d e f g : List ℕ) → HasNoColon a → HasNoColon b → HasNoColon c → HasNoColon d → HasNoColon e → HasNoColon f → HasNoColon g → parts (seven a b c d e f g) ≡ a ∷ b ∷ c ∷ d ∷ e ∷ f ∷ g ∷ []
unfolding HasNoColon
split_seven a b c d e f g ha hb hc hd he hf hg =
    let p : ℕ → Bool = λ c. eqb c 58 in
    slice_split_at p a 58 _ ha refl
    ∙ ap (λ fs. a ∷ fs) (slice_split_at p b 58 _ hb refl)
    ∙ ap (λ fs. a ∷ b ∷ fs) (slice_split_at p c 58 _ hc refl)
    ∙ ap (λ fs. a ∷ b ∷ c ∷ fs) (slice_split_at p d 58 _ hd refl)
    ∙ ap (λ fs. a ∷ b ∷ c ∷ d ∷ fs) (slice_split_at p e 58 _ he refl)
    ∙ ap (λ fs. a ∷ b ∷ c ∷ d ∷ e ∷ fs) (slice_split_at p f 58 _ hf refl)
    ∙ ap (λ fs. a ∷ b ∷ c ∷ d ∷ e ∷ f ∷ fs) (slice_split_none p g hg)

no_colon : (t : ℕ → Bool) → ((c : ℕ) → t c ≡ true → eqb c 58 ≡ false) → (text : List ℕ) → list_all t text ≡ true → AllByRecursion (λ c. eqb c 58 ≡ false) text
no_colon t other [] h = tt
no_colon t other (c ∷ cs) h =
    let parts = and_parts (t c) (list_all t cs) h in
    (other c parts.0, no_colon t other cs parts.1)

no_colon_hex : (w n : ℕ) → HasNoColon (hex w n)
unfolding HasNoColon
no_colon_hex w n = All-from_recursion _ _ (no_colon is_hex_digit (λ c h. grind (arith, nat_tests)) (hex w n) (hex_parts w (hex w n) (is_hex-hex w n)).1)

no_colon_decimal : (n : ℕ) → n < 10 ^ 10 → HasNoColon (decimal n)
unfolding HasNoColon
no_colon_decimal n h = All-from_recursion _ _ (no_colon is_ascii_digit (λ c h. grind (arith, nat_tests)) (decimal n) (decimal_parts (decimal n) (decimal_is_decimal n h)).3)

no_colon_mark : HasNoColon (codes "kk1")
unfolding HasNoColon
no_colon_mark = All-from_recursion (λ c. eqb c 58 ≡ false) (codes "kk1") (refl, (refl, (refl, tt)))

-- ---- what the shape says of the parts

passed : (b : Bool) (later : Option ℕ) (n : ℕ) → cond b later (Some n) ≡ None → (b ≡ true) × (later ≡ None)
passed true later n h = (refl, h)
passed false later n h = absurd (false≢true (ap is_some (sym h)))

-- the first part has the first form, and those after it the others
next_part : (n : ℕ) (form : List ℕ → Bool) (others : List (List ℕ → Bool)) (fs : List (List ℕ)) → first_misshapen n (form ∷ others) fs ≡ None → (f : List ℕ) × (rest : List (List ℕ)) × (fs ≡ f ∷ rest) × (form f ≡ true) × (first_misshapen (n + 1) others rest ≡ None)
unfolding first_misshapen
next_part n form others [] h = absurd (false≢true (ap is_some (sym h)))
next_part n form others (f ∷ rest) h =
    let parts = passed (form f) (first_misshapen (n + 1) others rest) n h in
    (f, rest, refl, parts.0, parts.1)

no_more_parts : (n : ℕ) (fs : List (List ℕ)) → first_misshapen n [] fs ≡ None → fs ≡ []
unfolding first_misshapen
no_more_parts n [] h = refl
no_more_parts n (f ∷ rest) h = absurd (false≢true (ap is_some (sym h)))

-- seven parts of the right forms
record HasSevenParts (text a b c d e f g : List ℕ) : Type 0 where
  are : parts text ≡ a ∷ b ∷ c ∷ d ∷ e ∷ f ∷ g ∷ []
  mark : is_mark a ≡ true
  session : is_hex 8 b ≡ true
  m : is_decimal c ≡ true
  low : is_hex 16 d ≡ true
  l : is_decimal e ≡ true
  k : is_decimal f ≡ true
  len : is_decimal g ≡ true

then_parts : (f : List ℕ) (fs rest more : List (List ℕ)) → fs ≡ f ∷ rest → rest ≡ more → fs ≡ f ∷ more
then_parts f fs rest more first others = first ∙ ap (λ r. f ∷ r) others

seven_parts : (text : List ℕ) → shape_fault text ≡ None → (a b c d e f g : List ℕ) × HasSevenParts text a b c d e f g
seven_parts text h =
    let mark = next_part 0 is_mark _ (parts text) h in
    let session = next_part 1 (is_hex 8) _ mark.1 mark.4 in
    let m = next_part 2 is_decimal _ session.1 session.4 in
    let low = next_part 3 (is_hex 16) _ m.1 m.4 in
    let l = next_part 4 is_decimal _ low.1 low.4 in
    let k = next_part 5 is_decimal _ l.1 l.4 in
    let len = next_part 6 is_decimal [] k.1 k.4 in
    let from_len : k.1 ≡ len.0 ∷ [] = then_parts len.0 k.1 len.1 [] len.2 (no_more_parts 7 len.1 len.4) in
    let from_k : l.1 ≡ k.0 ∷ len.0 ∷ [] = then_parts k.0 l.1 k.1 (len.0 ∷ []) k.2 from_len in
    let from_l : low.1 ≡ l.0 ∷ k.0 ∷ len.0 ∷ [] = then_parts l.0 low.1 l.1 (k.0 ∷ len.0 ∷ []) l.2 from_k in
    let from_low : m.1 ≡ low.0 ∷ l.0 ∷ k.0 ∷ len.0 ∷ [] = then_parts low.0 m.1 low.1 (l.0 ∷ k.0 ∷ len.0 ∷ []) low.2 from_l in
    let from_m : session.1 ≡ m.0 ∷ low.0 ∷ l.0 ∷ k.0 ∷ len.0 ∷ [] = then_parts m.0 session.1 m.1 (low.0 ∷ l.0 ∷ k.0 ∷ len.0 ∷ []) m.2 from_low in
    let from_session : mark.1 ≡ session.0 ∷ m.0 ∷ low.0 ∷ l.0 ∷ k.0 ∷ len.0 ∷ [] =
    then_parts session.0 mark.1 session.1 (m.0 ∷ low.0 ∷ l.0 ∷ k.0 ∷ len.0 ∷ []) session.2 from_m in (
      mark.0,
      session.0,
      m.0,
      low.0,
      l.0,
      k.0,
      len.0,
      record {
        are = then_parts mark.0 (parts text) mark.1 (session.0 ∷ m.0 ∷ low.0 ∷ l.0 ∷ k.0 ∷ len.0 ∷ []) mark.2 from_session;
        mark = mark.3;
        session = session.3;
        m = m.3;
        low = low.3;
        l = l.3;
        k = k.3;
        len = len.3;
      },
    )

shape_of_seven : (text a b c d e f g : List ℕ) → HasSevenParts text a b c d e f g → shape_fault text ≡ None
unfolding first_misshapen
shape_of_seven text a b c d e f g h =
    ap (first_misshapen 0 forms) h.are ∙ rw (h.mark, h.session, h.m, h.low, h.l, h.k, h.len) refl

spelled_of_seven : (text a b c d e f g : List ℕ) (t : TicketFields) → HasSevenParts text a b c d e f g → digits_value 16 b ≡ t.session → digits_value 10 c ≡ t.code.field.degree → digits_value 16 d ≡ t.code.field.low → digits_value 10 e ≡ t.code.l → digits_value 10 f ≡ t.code.k → digits_value 10 g ≡ t.length → spelled text ≡ t
spelled_of_seven text a b c d e f g t h eb ec ed ee ef eg =
    spelled_is text t.session t.code.field.degree t.code.field.low t.code.l t.code.k t.length
    (ap (λ fs. digits_value 16 (slice_index_or fs 1 [])) h.are ∙ eb) (ap (λ fs. digits_value 10 (slice_index_or fs 2 [])) h.are ∙ ec)
    (ap (λ fs. digits_value 16 (slice_index_or fs 3 [])) h.are ∙ ed) (ap (λ fs. digits_value 10 (slice_index_or fs 4 [])) h.are ∙ ee)
    (ap (λ fs. digits_value 10 (slice_index_or fs 5 [])) h.are ∙ ef) (ap (λ fs. digits_value 10 (slice_index_or fs 6 [])) h.are ∙ eg)

-- ---- ranges

pub range_fault_none : (p : Parameters) → IsInRange p → IsNarrow p → range_fault p ≡ None
unfolding range_fault
range_fault_none p h = grind (arith, nat_tests)

pub session_below : (text : List ℕ) (t : TicketFields) → IsTicketText text t → t.session < 2 ^ 32
unfolding spelled
session_below text t h =
    let q = seven_parts text h.shape in
    let is : digits_value 16 q.1 ≡ t.session = sym (ap (λ fs. digits_value 16 (slice_index_or fs 1 [])) q.7.are) ∙ ap (λ u. u.session) h.spells in
    omega (arith, is, hex_value_below 8 q.1 q.7.session)

-- ---- the laws

pub text_of_ticket : (t : TicketFields) → IsTicket t → IsTicketText (ticket_text t) t
text_of_ticket t h =
    let m : t.code.field.degree < 10 ^ 10 = omega (arith, h.code.m_high) in
    let l : t.code.l < 10 ^ 10 = omega (arith, h.code.m_high, h.code.l_high) in
    let k : t.code.k < 10 ^ 10 = omega (arith, h.code.m_high, h.code.l_high, h.code.k_high) in
    let len : t.length < 10 ^ 10 = omega (arith, length_below t h) in
    let power : 2 ^ t.code.field.degree ≤ 2 ^ 64 = pow_mono h.code.m_high in
    let low : t.code.field.low < 16 ^ 16 = omega (arith, h.code.low) in
    let are : HasSevenParts (ticket_text t) (codes "kk1") (hex 8 t.session) (decimal t.code.field.degree) (hex 16 t.code.field.low) (decimal t.code.l) (decimal t.code.k) (decimal t.length) = record {
      are =
          ap parts (ticket_text_is t)
          ∙ split_seven _ _ _ _ _ _ _ no_colon_mark (no_colon_hex 8 t.session) (no_colon_decimal t.code.field.degree m) (no_colon_hex 16 t.code.field.low)
          (no_colon_decimal t.code.l l) (no_colon_decimal t.code.k k) (no_colon_decimal t.length len);
      mark = refl;
      session = is_hex-hex 8 t.session;
      m = decimal_is_decimal t.code.field.degree m;
      low = is_hex-hex 16 t.code.field.low;
      l = decimal_is_decimal t.code.l l;
      k = decimal_is_decimal t.code.k k;
      len = decimal_is_decimal t.length len;
    } in
    record {
      shape = shape_of_seven (ticket_text t) _ _ _ _ _ _ _ are;
      spells = spelled_of_seven (ticket_text t) _ _ _ _ _ _ _ t are
          (digits_value-hex 8 t.session h.session) (digits_value-of_decimal t.code.field.degree m) (digits_value-hex 16 t.code.field.low low)
          (digits_value-of_decimal t.code.l l) (digits_value-of_decimal t.code.k k) (digits_value-of_decimal t.length len);
      range = range_fault_none t.code h.code h.narrow;
      irreducible = h.irreducible;
      few = h.few;
    }

same_seven : (a b c d e f g a' b' c' d' e' f' g' : List ℕ) → a ≡ a' → b ≡ b' → c ≡ c' → d ≡ d' → e ≡ e' → f ≡ f' → g ≡ g' → seven a b c d e f g ≡ seven a' b' c' d' e' f' g'
same_seven a b c d e f g a' b' c' d' e' f' g' ea eb ec ed ee ef eg = cc

pub ticket_of_text : (text : List ℕ) (t : TicketFields) → IsTicketText text t → text ≡ ticket_text t
unfolding spelled
ticket_of_text text t h =
    let q = seven_parts text h.shape in
    let are = q.7.are in
    let hexes : (w i : ℕ) (f : List ℕ) (n : ℕ) → is_hex w f ≡ true → slice_index_or (parts text) i [] ≡ f → digits_value 16 (part_at text i) ≡ n → f ≡ hex w n =
    λ w i f n form at value.
    let parts = hex_parts w f form in
    sym (hex-digits_value w f parts.0 parts.1) ∙ ap (hex w) (ap (digits_value 16) (sym at) ∙ value) in
    let decimals : (i : ℕ) (f : List ℕ) (n : ℕ) → is_decimal f ≡ true → slice_index_or (parts text) i [] ≡ f → digits_value 10 (part_at text i) ≡ n → f ≡ decimal n =
    λ i f n form at value. sym (decimal-of_digits_value f form) ∙ ap decimal (ap (digits_value 10) (sym at) ∙ value) in
    sym (join_with_byte-slice_split 58 text) ∙ ap (join_with_byte 58) are
    ∙ same_seven q.0 q.1 q.2 q.3 q.4 q.5 q.6 _ _ _ _ _ _ _
    ((bytes_eq-Decides q.0 (codes "kk1")).0 q.7.mark)
    (hexes 8 1 q.1 t.session q.7.session (ap (λ fs. slice_index_or fs 1 []) are) (ap (λ u. u.session) h.spells))
    (decimals 2 q.2 t.code.field.degree q.7.m (ap (λ fs. slice_index_or fs 2 []) are) (ap (λ u. u.code.field.degree) h.spells))
    (hexes 16 3 q.3 t.code.field.low q.7.low (ap (λ fs. slice_index_or fs 3 []) are) (ap (λ u. u.code.field.low) h.spells))
    (decimals 4 q.4 t.code.l q.7.l (ap (λ fs. slice_index_or fs 4 []) are) (ap (λ u. u.code.l) h.spells))
    (decimals 5 q.5 t.code.k q.7.k (ap (λ fs. slice_index_or fs 5 []) are) (ap (λ u. u.code.k) h.spells))
    (decimals 6 q.6 t.length q.7.len (ap (λ fs. slice_index_or fs 6 []) are) (ap (λ u. u.length) h.spells))
    ∙ sym (ticket_text_is t)
