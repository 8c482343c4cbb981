-- What a source and a sink tell over one call after another.
use Rattle.std.proofs.Common.{◌≡◌, ◌≢◌, ℕ, Bool, true, false, cond, eqb, ◌+◌, ◌-◌, ◌<◌, ◌≤◌, min, map, inl, inr, List, [], ◌∷◌, ◌++◌, length, take, drop, Option, Some, None, Result, Ok, Err, refl, ap, sym, subst, ◌∙◌, arith, append_assoc, length-append, length-take, length-drop, take-append-drop}
use Rattle.std.proofs.lemmas.List.{append-nil, map-append, take_rest, take-append-le, take_at, drop_at, take_all, drop_all}
use Rattle.std.specs.Prelude.{IfSome}
use Rattle.std.proofs.lemmas.Bool.{cases_lt}
use Rattle.std.proofs.lemmas.List.Elements.{All-nil, All-cons, All-append}
use Rattle.std.proofs.lemmas.Bool.Decides.{nat_tests}
use Rattle.std.proofs.lemmas.Option.{same_Some}
use Rattle.std.proofs.Math.Seq.{take-add, take-append-add}
use Rattle.std.specs.Io.KnownBytes.{prepend_known, IsAtEnd}
use borrow.Rule.Slice.PartMut.{put_mid}
use Rattle.kk_outside.specs.Change.{Change, change}
use Rattle.kk_outside.specs.Causes.{HasCause}
use Rattle.kk_outside.specs.Source.{SourceTold, Read, Gave, AtEnd, Failed, read_of, bytes_given, bytes_read, GaveSome, Took, left_after, ReadsFrom, FillsFrom}
use Rattle.kk_outside.specs.Sink.{SinkTold, Written, Byte, Nothing, Failed as write_Failed, append_bytes, append_failing, bytes_written, write_of, WritesAllTo, WasGiven}

-- what was given by one read and then by a second
pub prepend_known-prepend_known : (a b : List ℕ) (o : Option (List ℕ)) → prepend_known a (prepend_known b o) ≡ prepend_known (a ++ b) o
prepend_known-prepend_known a b None = refl
prepend_known-prepend_known a b (Some xs) = ap Some (sym (append_assoc a b xs))

pub prepend_known-nil : (o : Option (List ℕ)) → prepend_known [] o ≡ o
prepend_known-nil None = refl
prepend_known-nil (Some xs) = refl

-- what was taken by one write and then by a second
pub append_bytes-append : (w : List Written) (a b : List ℕ) → append_bytes (append_bytes w a) b ≡ append_bytes w (a ++ b)
append_bytes-append w a b = append_assoc w (map Byte a) (map Byte b) ∙ ap (λ (l : List Written). w ++ l) (sym (map-append Byte a b))

pub append_bytes-nil : (w : List Written) → append_bytes w [] ≡ w
append_bytes-nil w = append-nil w

-- and by a second that failed
pub append_failing-append : (w : List Written) (a b : List ℕ) → append_failing (append_bytes w a) b ≡ append_failing w (a ++ b)
append_failing-append w a b = ap (λ (l : List Written). l ++ write_Failed ∷ []) (append_bytes-append w a b)

-- a write that took some bytes
pub write_of-some : (E : Type 0) (n : ℕ) (piece : List ℕ) → 0 < n → write_of {E = E} (Ok n) piece ≡ map Byte (take n piece)
write_of-some E n piece some = let no : eqb n 0 ≡ false = grind (arith, nat_tests) in rw no refl

-- after d bytes of a text a write takes n more of it
pub written_more : (E : Type 0) (start now after : List Written) (text : List ℕ) (d n : ℕ) → now ≡ append_bytes start (take d text) → after ≡ now ++ write_of {E = E} (Ok n) (take (length text - d) (drop d text)) → 0 < n → after ≡ append_bytes start (take (d + n) text)
written_more E start now after text d n so_far step some =
    step
    ∙ ap (λ (l : List Written). now ++ l) (write_of-some E n (take (length text - d) (drop d text)) some)
    ∙ ap (λ (rest : List ℕ). append_bytes now (take n rest)) (take_rest text d)
    ∙ ap (λ (w : List Written). append_bytes w (take n (drop d text))) so_far
    ∙ append_bytes-append start (take d text) (take n (drop d text))
    ∙ ap (λ (l : List ℕ). append_bytes start l) (sym (take-add d n text))

-- the bytes that were taken
pub bytes_written-append : (a b : List Written) → bytes_written (a ++ b) ≡ bytes_written a ++ bytes_written b
bytes_written-append [] b = refl
bytes_written-append (Byte byte ∷ a) b = ap (λ (l : List ℕ). byte ∷ l) (bytes_written-append a b)
bytes_written-append (Nothing ∷ a) b = bytes_written-append a b
bytes_written-append (write_Failed ∷ a) b = bytes_written-append a b

bytes_written-bytes : (bytes : List ℕ) → bytes_written (map Byte bytes) ≡ bytes
bytes_written-bytes [] = refl
bytes_written-bytes (byte ∷ bytes) = ap (λ (l : List ℕ). byte ∷ l) (bytes_written-bytes bytes)

pub bytes_written-write : (E : Type 0) (n : ℕ) (piece : List ℕ) → bytes_written (write_of {E = E} (Ok n) piece) ≡ take n piece
bytes_written-write E n piece = elim (cases_lt 0 n) [
  | inl some ↦ ap bytes_written (write_of-some E n piece some) ∙ bytes_written-bytes (take n piece)
  | inr none ↦
      let zero : n ≡ 0 = omega (arith, none) in
      subst (λ (m : ℕ). bytes_written (write_of {E = E} (Ok m) piece) ≡ take m piece) (sym zero) refl
]

-- the front of a buffer behind whose first d bytes a read put others
pub take-put_mid_more : (d k n : ℕ) (buf part : List ℕ) → d ≤ length buf → n ≤ length part → take (d + n) (put_mid d k buf part) ≡ take d buf ++ take n part
take-put_mid_more d k n buf part within more =
    let front : length (take d buf) ≡ d = omega (arith, length-take d buf) in
    let rest = drop k (drop d buf) in
    ap (λ (m : ℕ). take (m + n) (take d buf ++ (part ++ rest))) (sym front)
    ∙ take-append-add (take d buf) (part ++ rest) n
    ∙ ap (λ (l : List ℕ). take d buf ++ l) (take-append-le n part rest more)

pub length-put_mid : (d k : ℕ) (buf part : List ℕ) → d + k ≡ length buf → length part ≡ k → length (put_mid d k buf part) ≡ length buf
length-put_mid d k buf part whole sized =
    omega (arith, length-append (take d buf) (part ++ drop k (drop d buf)), length-append part (drop k (drop d buf)), length-take d buf, length-drop k (drop d buf), length-drop d buf)

-- what is left after some bytes were given
pub left_after-given : (front : List ℕ) (left : Option (List ℕ)) (n : ℕ) → length front ≡ n → left_after n (prepend_known front left) ≡ left
left_after-given front None n is = refl
left_after-given front (Some xs) n is = ap Some (drop_at front xs n is)

-- What was read once no more comes: the buffer's first n bytes were given, and it is full or the source at its end.
module _ (xs ys : List ℕ) (size n : ℕ) (buf : List ℕ) (sized : length buf ≡ size) (within : n ≤ size) (given : xs ≡ take n buf ++ ys) (done : n < size → ys ≡ []) where
  front : length (take n buf) ≡ n
  front = omega (arith, length-take n buf)

  whole : length xs ≡ n + length ys
  whole = omega (arith, ap length given, length-append (take n buf) ys, front)

  list_count : n ≡ min size (length xs)
  list_count = elim (cases_lt n size) [
    | inl short ↦ omega (arith, whole, ap length (done short))
    | inr full ↦ omega (arith, whole)
  ]

  list_bytes : take n buf ≡ take size xs
  list_bytes = elim (cases_lt n size) [
    | inl short ↦
        let all : xs ≡ take n buf = given ∙ ap (λ (l : List ℕ). take n buf ++ l) (done short) ∙ append-nil (take n buf) in
        sym (take_all size xs (omega (arith, whole, ap length (done short))) ∙ all)
    | inr full ↦ sym (ap (λ (l : List ℕ). take size l) given ∙ take_at (take n buf) ys size (omega (arith, front)))
  ]

  list_behind : ys ≡ drop size xs
  list_behind = elim (cases_lt n size) [
    | inl short ↦ done short ∙ sym (drop_all size xs (omega (arith, whole, ap length (done short))))
    | inr full ↦ sym (ap (λ (l : List ℕ). drop size l) given ∙ drop_at (take n buf) ys size (omega (arith, front)))
  ]

pub filled_count : (start after : Option (List ℕ)) (size n : ℕ) (buf : List ℕ) → length buf ≡ size → n ≤ size → start ≡ prepend_known (take n buf) after → (n < size → IsAtEnd after) → IfSome start (λ xs. n ≡ min size (length xs))
filled_count None after size n buf sized within given done = tt
filled_count (Some xs) None size n buf sized within given done = absurd (cc given)
filled_count (Some xs) (Some ys) size n buf sized within given done = list_count xs ys size n buf sized within (same_Some _ _ given) done

pub filled_bytes : (start after : Option (List ℕ)) (size n : ℕ) (buf : List ℕ) → length buf ≡ size → n ≤ size → start ≡ prepend_known (take n buf) after → (n < size → IsAtEnd after) → IfSome start (λ xs. take n buf ≡ take size xs)
filled_bytes None after size n buf sized within given done = tt
filled_bytes (Some xs) None size n buf sized within given done = absurd (cc given)
filled_bytes (Some xs) (Some ys) size n buf sized within given done = list_bytes xs ys size n buf sized within (same_Some _ _ given) done

pub filled_after : (start after : Option (List ℕ)) (size n : ℕ) (buf : List ℕ) → length buf ≡ size → n ≤ size → start ≡ prepend_known (take n buf) after → (n < size → IsAtEnd after) → after ≡ left_after size start
filled_after None None size n buf sized within given done = refl
filled_after None (Some ys) size n buf sized within given done = absurd (cc given)
filled_after (Some xs) None size n buf sized within given done = absurd (cc given)
filled_after (Some xs) (Some ys) size n buf sized within given done = ap Some (list_behind xs ys size n buf sized within (same_Some _ _ given) done)

-- ---- the log of reads

pub bytes_given-append : (a b : List Read) → bytes_given (a ++ b) ≡ bytes_given a ++ bytes_given b
bytes_given-append [] b = refl
bytes_given-append (Gave bytes ∷ a) b =
    ap (λ (l : List ℕ). bytes ++ l) (bytes_given-append a b) ∙ sym (append_assoc bytes (bytes_given a) (bytes_given b))
bytes_given-append (AtEnd ∷ a) b = bytes_given-append a b
bytes_given-append (Failed ∷ a) b = bytes_given-append a b

-- bytes that were taken, and then others
pub Took-append : (a b : List ℕ) (last : List Read) (start now end : SourceTold) → Took a [] (change start now) → Took b last (change now end) → Took (a ++ b) last (change start end)
Took-append a b last start now end first second = record {
  given = first.given ++ second.given;
  some = All-append GaveSome first.given second.given first.some second.some;
  are = bytes_given-append first.given second.given ∙ ap (λ (l : List ℕ). l ++ bytes_given second.given) first.are ∙ ap (λ (l : List ℕ). a ++ l) second.are;
  logged =
      second.logged
      ∙ ap (λ (l : List Read). l ++ second.given ++ last) (first.logged ∙ append-nil (start.reads ++ first.given))
      ∙ ap (λ (l : List Read). l ++ last) (append_assoc start.reads first.given second.given);
  left = first.left ∙ ap (λ (o : Option (List ℕ)). prepend_known a o) second.left ∙ prepend_known-prepend_known a b end.left;
}

pub Took-nothing : (now : SourceTold) → Took [] [] (change now now)
Took-nothing now = record {
  given = [];
  some = All-nil GaveSome;
  are = refl;
  logged = sym (append-nil (now.reads ++ []) ∙ append-nil now.reads);
  left = sym (prepend_known-nil now.left);
}

-- the same bytes, written otherwise
pub Took-same : (a b : List ℕ) (last : List Read) (source : Change SourceTold) → a ≡ b → Took a last source → Took b last source
Took-same a b last source same took = subst (λ (l : List ℕ). Took l last source) same took

-- the bytes that were taken are those that the reads gave
pub bytes_read-took : (bytes : List ℕ) (last : List Read) (source : Change SourceTold) → Took bytes last source → bytes_given last ≡ [] → bytes_read source ≡ bytes
bytes_read-took bytes last source took none =
    let old = source.old.reads in
    ap bytes_given (ap (λ (l : List Read). drop (length old) l) (took.logged ∙ append_assoc old took.given last) ∙ drop_at old (took.given ++ last) (length old) refl)
    ∙ bytes_given-append took.given last
    ∙ ap (λ (l : List ℕ). bytes_given took.given ++ l) none
    ∙ append-nil (bytes_given took.given)
    ∙ took.are

-- ---- one read

pub read_of-some : (E : Type 0) (n : ℕ) (buf : List ℕ) → n ≢ 0 → read_of {E = E} (Ok n) buf ≡ Gave (take n buf)
read_of-some E n buf some = let no : eqb n 0 ≡ false = grind (arith, nat_tests) in rw no refl

pub read_of-none : (E : Type 0) (n : ℕ) (buf : List ℕ) → n ≡ 0 → 0 < length buf → read_of {E = E} (Ok n) buf ≡ AtEnd
read_of-none E n buf none room =
    let yes : eqb n 0 ≡ true = grind (arith, nat_tests) in
    let no : eqb (length buf) 0 ≡ false = grind (arith, nat_tests) in
    rw (yes, no) refl

-- a read that gave bytes
pub Took-read : {E : Type 0} (now end : SourceTold) (n : ℕ) (buf : List ℕ) → ReadsFrom {E = E} (change now end) (Ok n) buf → n ≢ 0 → Took (take n buf) [] (change now end)
Took-read {E = E} now end n buf reads some = record {
  given = Gave (take n buf) ∷ [];
  some = All-cons GaveSome (Gave (take n buf)) [] (omega (arith, length-take n buf, reads.bounded, some)) (All-nil GaveSome);
  are = append-nil (take n buf);
  logged = reads.logged ∙ ap (λ (read : Read). now.reads ++ read ∷ []) (read_of-some E n buf some) ∙ sym (append-nil (now.reads ++ Gave (take n buf) ∷ []));
  left = reads.given;
}

-- a read that found the end
pub Took-end : {E : Type 0} (now end : SourceTold) (n : ℕ) (buf : List ℕ) → ReadsFrom {E = E} (change now end) (Ok n) buf → n ≡ 0 → 0 < length buf → Took [] (AtEnd ∷ []) (change now end)
Took-end {E = E} now end n buf reads none room = record {
  given = [];
  some = All-nil GaveSome;
  are = refl;
  logged = reads.logged ∙ ap (λ (read : Read). now.reads ++ read ∷ []) (read_of-none E n buf none room) ∙ sym (ap (λ (l : List Read). l ++ AtEnd ∷ []) (append-nil now.reads));
  left = reads.given ∙ ap (λ (m : ℕ). prepend_known (take m buf) end.left) none;
}

-- a read that failed
pub Took-failed : {E : Type 0} (now end : SourceTold) (e : E) (buf : List ℕ) → ReadsFrom {E = E} (change now end) (Err e) buf → Took [] (Failed ∷ []) (change now end)
Took-failed now end e buf reads = record {
  given = [];
  some = All-nil GaveSome;
  are = refl;
  logged = reads.logged ∙ sym (ap (λ (l : List Read). l ++ Failed ∷ []) (append-nil now.reads));
  left = sym reads.kept ∙ sym (prepend_known-nil end.left);
}

-- ---- reads until a buffer is full

-- after d bytes in a buffer a read gives n more, which stand after them
pub Took-more : {E : Type 0} (start now end : SourceTold) (d k n : ℕ) (buf part : List ℕ) → d ≤ length buf → Took (take d buf) [] (change start now) → ReadsFrom {E = E} (change now end) (Ok n) part → n ≢ 0 → Took (take (d + n) (put_mid d k buf part)) [] (change start end)
Took-more start now end d k n buf part within took reads some =
    Took-same (take d buf ++ take n part) (take (d + n) (put_mid d k buf part)) [] (change start end) (sym (take-put_mid_more d k n buf part within reads.bounded))
    (Took-append (take d buf) (take n part) [] start now end took (Took-read now end n part reads some))

-- the front of the buffer stays
pub take-put_mid : (d k : ℕ) (buf part : List ℕ) → d ≤ length buf → take d (put_mid d k buf part) ≡ take d buf
take-put_mid d k buf part within =
    let front : length (take d buf) ≡ d = omega (arith, length-take d buf) in
    take_at (take d buf) (part ++ drop k (drop d buf)) d front

pub FillsFrom-full : {E : Type 0} (source : Change SourceTold) (n : ℕ) (buf : List ℕ) → n ≡ length buf → Took (take n buf) [] source → FillsFrom {E = E} source (Ok n) buf
FillsFrom-full source n buf full took =
    let within : n ≤ length buf = omega (arith, full) in
    let yes : eqb n (length buf) ≡ true = grind (arith, nat_tests) in
    let done : n < length buf → IsAtEnd source.new.left = λ short. absurd (omega (arith, full, short)) in
    record {
      bounded = within;
      took = rw yes took;
      lost = tt;
      count = filled_count source.old.left source.new.left (length buf) n buf refl within took.left done;
      given = filled_bytes source.old.left source.new.left (length buf) n buf refl within took.left done;
      after = filled_after source.old.left source.new.left (length buf) n buf refl within took.left done;
    }

pub FillsFrom-end : {E : Type 0} (source : Change SourceTold) (n : ℕ) (buf : List ℕ) → n < length buf → Took (take n buf) (AtEnd ∷ []) source → IsAtEnd source.new.left → FillsFrom {E = E} source (Ok n) buf
FillsFrom-end source n buf short took end =
    let within : n ≤ length buf = omega (arith, short) in
    let no : eqb n (length buf) ≡ false = grind (arith, nat_tests) in
    record {
      bounded = within;
      took = rw no took;
      lost = tt;
      count = filled_count source.old.left source.new.left (length buf) n buf refl within took.left (λ _. end);
      given = filled_bytes source.old.left source.new.left (length buf) n buf refl within took.left (λ _. end);
      after = filled_after source.old.left source.new.left (length buf) n buf refl within took.left (λ _. end);
    }

pub FillsFrom-failed : {E : Type 0} (source : Change SourceTold) (e : E) (buf bytes : List ℕ) → length bytes < length buf → Took bytes (Failed ∷ []) source → FillsFrom {E = E} source (Err e) buf
FillsFrom-failed source e buf bytes short took =
    record { bounded = tt; took = tt; lost = (bytes, short, took); count = tt; given = tt; after = tt }

-- what a `fill` took that filled the buffer
pub filled : {E : Type 0} (source : Change SourceTold) (n : ℕ) (buf : List ℕ) → FillsFrom {E = E} source (Ok n) buf → n ≡ length buf → Took buf [] source
filled source n buf fills full =
    let yes : eqb n (length buf) ≡ true = grind (arith, nat_tests) in
    let T : Bool → Type 0 = λ b. Took (take n buf) (cond b [] (AtEnd ∷ [])) source in
    Took-same (take n buf) buf [] source (take_all n buf (omega (arith, full))) (subst T yes fills.took)

-- and one that found the end
pub filled_short : {E : Type 0} (source : Change SourceTold) (n : ℕ) (buf : List ℕ) → FillsFrom {E = E} source (Ok n) buf → n < length buf → Took (take n buf) (AtEnd ∷ []) source
filled_short source n buf fills short =
    let no : eqb n (length buf) ≡ false = grind (arith, nat_tests) in
    let T : Bool → Type 0 = λ b. Took (take n buf) (cond b [] (AtEnd ∷ [])) source in
    subst T no fills.took

ended : (left after : Option (List ℕ)) (n size : ℕ) → IfSome left (λ xs. n ≡ min size (length xs)) → after ≡ left_after size left → n < size → IsAtEnd after
ended None after n size count is short = subst IsAtEnd (sym is) tt
ended (Some xs) after n size count is short = subst IsAtEnd (sym is) (drop_all size xs (omega (arith, count, short)))

-- a `fill` that leaves room has seen the end
pub ended_by_fill : {E : Type 0} (source : Change SourceTold) (n : ℕ) (buf : List ℕ) → FillsFrom {E = E} source (Ok n) buf → n < length buf → IsAtEnd source.new.left
ended_by_fill source n buf fills short = ended source.old.left source.new.left n (length buf) fills.count fills.after short

-- ---- a source in memory

-- a read that copies the first n bytes left into the front of the buffer, none only at the end
pub ReadsFrom-copied : {E : Type 0} (source : Change SourceTold) (left front buf : List ℕ) (n : ℕ) → source.old.left ≡ Some left → source.new.left ≡ Some (drop n left) → source.new.reads ≡ source.old.reads ++ read_of {E = E} (Ok n) (front ++ drop n buf) ∷ [] → front ≡ take n left → n ≤ length left → n ≤ length buf → (n ≡ 0 → 0 < length buf → left ≡ []) → ReadsFrom {E = E} source (Ok n) (front ++ drop n buf)
ReadsFrom-copied source left copied_front buf n was is logged copied in_left in_buf none =
    let size : length copied_front ≡ n = omega (arith, ap length copied, length-take n left) in
    let whole : length (copied_front ++ drop n buf) ≡ length buf = omega (arith, length-append copied_front (drop n buf), length-drop n buf, size) in
    let got : take n (copied_front ++ drop n buf) ≡ take n left = take_at copied_front (drop n buf) n size ∙ copied in
    record {
      bounded = omega (arith, whole);
      given =
          was ∙ ap Some (sym (take-append-drop n left)) ∙ ap (λ (l : List ℕ). Some (l ++ drop n left)) (sym got)
          ∙ sym (ap (λ (o : Option (List ℕ)). prepend_known (take n (copied_front ++ drop n buf)) o) is);
      at_end = λ zero_ room. subst IsAtEnd (sym is) (drop_all n left (omega (arith, ap length (none zero_ (omega (arith, whole))))));
      kept = tt;
      logged = logged;
    }

-- ---- sinks

pub bytes_written-failed : (w : List Written) → bytes_written (w ++ write_Failed ∷ []) ≡ bytes_written w
bytes_written-failed w = bytes_written-append w (write_Failed ∷ []) ∙ append-nil (bytes_written w)

-- what a sink holds that was given a text
pub WasGiven-written : {T E : Type 0} (text : List ℕ) (sink : Change SinkTold) (r : Result T E) → WritesAllTo sink r text → HasCause sink.old.faults sink.new.faults r → WasGiven text sink
WasGiven-written text sink (Ok x) writes cause = record {
  either = inl writes.all;
  short = λ failed. absurd (omega (arith, failed, cause.kept));
  all = λ can no. writes.all;
}
WasGiven-written text sink (Err e) writes cause = record {
  either = inr writes.part;
  short = λ failed. writes.part;
  all = λ can no. absurd (no (omega (arith, can, cause.failed)));
}
