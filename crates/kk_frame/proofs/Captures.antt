-- A capture piece by piece.
use Rattle.std.proofs.Common.{◌≡◌, ℕ, zero, suc, ◌+◌, ◌*◌, ◌/◌, ◌%◌, ◌<◌, ◌≤◌, ltb, leb, ◌&&◌, false, cond, List, [], ◌∷◌, ◌++◌, length, map, take, drop, inl, inr, refl, sym, ap, ◌∙◌, arith, add-one, length-take, length-drop, length-append}
use Rattle.std.specs.Prelude.{◌==◌, sum_by}
use Rattle.std.specs.Simd.{first_chunks}
use Rattle.std.proofs.Math.Nat.{div-eq_of_lt, mod-eq_of_lt, add-div_left, add-mod_left, suc-mul, zero-mul}
use Rattle.std.proofs.lemmas.Bool.{cases_lt}
use Rattle.std.proofs.lemmas.Bool.Decides.{nat_tests}
use Rattle.std.proofs.lemmas.List.{take_all, drop_all, drop-drop, take-append-le, drop-append-le}
use Rattle.std.proofs.lemmas.List.Sums.{sum_by-cons}
use Rattle.kk_outside.specs.declared.event.Event.{Event}
use Rattle.kk_outside.specs.declared.event.Event.TheVariants.{Datagram}
use Rattle.kk_code.specs.Ticket.{TicketFields}
use Rattle.kk_frame.specs.Datagram.{readings, data_frames}
use Rattle.kk_frame.specs.Events.{datagrams}
use Rattle.kk_frame.specs.Capture.{capture_events}
use Rattle.kk_frame.proofs.Readings.{data_frames-bad}

-- the events of k whole pieces, where r bytes remain
abbrev capture_by : ℕ → ℕ → ℕ → List ℕ → List Event
capture_by size k r bytes = map Datagram (first_chunks size k bytes ++ cond (r == 0) [] (drop (k * size) bytes ∷ []))

capture_by-suc : (size k r : ℕ) (bytes : List ℕ) → capture_by size (suc k) r bytes ≡ Datagram (take size bytes) ∷ capture_by size k r (drop size bytes)
capture_by-suc size k r bytes =
    let more : drop (suc k * size) bytes ≡ drop (k * size) (drop size bytes) = ap (λ n. drop n bytes) (suc-mul k size ∙ omega arith) ∙ sym (drop-drop (k * size) size bytes) in
    ap (λ l. Datagram (take size bytes) ∷ map Datagram (first_chunks size k (drop size bytes) ++ cond (r == 0) [] (l ∷ []))) more

capture_by-short : (size n : ℕ) (bytes : List ℕ) → 0 < n → capture_by size 0 n bytes ≡ Datagram bytes ∷ []
capture_by-short size n bytes some =
    let more : (n == 0) ≡ false = grind (arith, nat_tests) in
    ap (λ k. map Datagram (cond (n == 0) [] (drop k bytes ∷ []))) (zero-mul size) ∙ rw more refl

pub capture-none : (size : ℕ) → 0 < size → capture_events size [] ≡ []
capture-none size some =
    ap (λ k. capture_by size k (0 % size) []) (div-eq_of_lt some) ∙ ap (λ r. capture_by size 0 r []) (mod-eq_of_lt some)

-- the first piece, and the capture behind it
pub capture-first : (size : ℕ) (bytes : List ℕ) → 0 < size → 0 < length bytes → capture_events size bytes ≡ Datagram (take size bytes) ∷ capture_events size (drop size bytes)
capture-first size bytes some more =
    elim (cases_lt (length bytes) size) [
      | inl short ↦
          let none : drop size bytes ≡ [] = drop_all size bytes (omega (arith, short)) in
          ap (λ k. capture_by size k (length bytes % size) bytes) (div-eq_of_lt short)
          ∙ ap (λ r. capture_by size 0 r bytes) (mod-eq_of_lt short) ∙ capture_by-short size (length bytes) bytes more
          ∙ ap (λ l. Datagram l ∷ []) (sym (take_all size bytes (omega (arith, short))))
          ∙ ap (λ l. Datagram (take size bytes) ∷ l) (sym (ap (capture_events size) none ∙ capture-none size some))
      | inr long ↦
          let behind = length (drop size bytes) in
          let sum : length bytes ≡ size + behind = omega (arith, long, length-drop size bytes) in
          let quotient : length bytes / size ≡ suc (behind / size) = ap (λ n. n / size) sum ∙ add-div_left behind some ∙ add-one (behind / size) in
          let rest : length bytes % size ≡ behind % size = ap (λ n. n % size) sum ∙ add-mod_left size behind in
          ap (λ k. capture_by size k (length bytes % size) bytes) quotient ∙ ap (λ r. capture_by size (suc (behind / size)) r bytes) rest
          ∙ capture_by-suc size (behind / size) (behind % size) bytes
    ]

-- ---- a capture in parts

-- k whole pieces, and the capture behind them
pub capture-append : (size k : ℕ) (bytes more : List ℕ) → 0 < size → length bytes ≡ k * size → capture_events size (bytes ++ more) ≡ capture_events size bytes ++ capture_events size more
capture-append size zero [] more some whole = sym (ap (λ l. l ++ capture_events size more) (capture-none size some))
capture-append size zero (b ∷ bytes) more some whole = absurd (omega (arith, whole, zero-mul size))
capture-append size (suc k) bytes more some whole =
    let front = take size bytes in
    let others = drop size bytes in
    let long : size ≤ length bytes = omega (arith, whole, suc-mul k size) in
    let fewer : length others ≡ k * size = omega (arith, whole, suc-mul k size, length-drop size bytes) in
    capture-first size (bytes ++ more) some (omega (arith, length-append bytes more, long, some))
    ∙ ap (λ l. Datagram l ∷ capture_events size (drop size (bytes ++ more))) (take-append-le size bytes more long)
    ∙ ap (λ l. Datagram front ∷ capture_events size l) (drop-append-le size bytes more long)
    ∙ ap (λ l. Datagram front ∷ l) (capture-append size k others more some fewer)
    ∙ sym (ap (λ l. l ++ capture_events size more) (capture-first size bytes some (omega (arith, long, some))))

-- bytes of one piece at most
pub capture-one : (size : ℕ) (bytes : List ℕ) → 0 < length bytes → length bytes ≤ size → capture_events size bytes ≡ Datagram bytes ∷ []
capture-one size bytes some short =
    capture-first size bytes (omega (arith, some, short)) some
    ∙ ap (λ l. Datagram l ∷ capture_events size (drop size bytes)) (take_all size bytes short)
    ∙ ap (λ l. Datagram bytes ∷ capture_events size l) (drop_all size bytes short)
    ∙ ap (λ l. Datagram bytes ∷ l) (capture-none size (omega (arith, some, short)))

capture-length_within : (n size : ℕ) (bytes : List ℕ) → 0 < size → length bytes ≤ n → sum_by length (datagrams (capture_events size bytes)) ≡ length bytes
capture-length_within n size [] some short = ap (λ l. sum_by length (datagrams l)) (capture-none size some)
capture-length_within zero size (b ∷ bytes) some short = absurd (omega (arith, short))
capture-length_within (suc n) size (b ∷ bytes) some short =
    let all = b ∷ bytes in
    let front = take size all in
    let others = drop size all in
    let fewer : length others ≤ n = omega (arith, short, some, length-drop size all) in
    ap (λ l. sum_by length (datagrams l)) (capture-first size all some (omega arith))
    ∙ sum_by-cons length front (datagrams (capture_events size others))
    ∙ omega (arith, capture-length_within n size others some fewer, length-take size all, length-drop size all)

-- the datagrams of a capture have all its bytes
pub capture-length : (size : ℕ) (bytes : List ℕ) → 0 < size → sum_by length (datagrams (capture_events size bytes)) ≡ length bytes
capture-length size bytes some = capture-length_within (length bytes) size bytes some (omega arith)

short_is_bad : (n most size : ℕ) → n < size → (ltb 0 n && leb n most && (n % size == 0)) ≡ false
short_is_bad n most size short = let same : n % size ≡ n = mod-eq_of_lt short in rw same (grind (arith, nat_tests))

-- of fewer bytes than a piece has nothing is read
pub data_frames-short : (size : ℕ) (t : TicketFields) (bytes : List ℕ) → length bytes < size → data_frames (readings size t bytes) ≡ []
data_frames-short size t bytes short = data_frames-bad size t bytes (short_is_bad (length bytes) _ size short)
