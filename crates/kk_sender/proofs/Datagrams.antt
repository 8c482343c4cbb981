-- Frames in datagrams, and what of them is out.
use Rattle.std.proofs.Common.{◌≡◌, ℕ, zero, suc, ◌+◌, ◌*◌, ◌/◌, ◌%◌, ◌<◌, ◌≤◌, min, List, [], ◌∷◌, ◌++◌, length, map, take, drop, Result, Ok, Err, inl, inr, refl, sym, ap, subst, ◌∙◌, arith, append_assoc, length-append, length-drop}
use Rattle.std.specs.Prelude.{OnOk, OnErr}
use Rattle.std.specs.Int.{div_ceil}
use Rattle.std.specs.Simd.{first_chunks}
use Rattle.std.proofs.Math.Nat.{div-eq_of_lt, mod-eq_of_lt, add-div_left, add-mod_left, suc-mul, zero-mul}
use Rattle.std.proofs.lemmas.Bool.{cases_lt}
use Rattle.std.proofs.lemmas.List.{append-nil, take_all, drop_all, take-append-le, drop-append-le, length-map}
use Rattle.std.proofs.lemmas.List.Concat.{flat_map-append}
use Rattle.kk_outside.specs.Change.{Change, change}
use Rattle.kk_outside.specs.Outlet.{IsCutShort, OutletTold, Send, Failed, append_datagrams, append_failing}
use Rattle.kk_outside.proofs.Taken.{append_datagrams-append, append_datagrams-nil}
use Rattle.kk_code.specs.Ticket.{TicketFields}
use Rattle.kk_frame.specs.Frame.{FrameValue, frame_text}
use Rattle.kk_sender.specs.SentFrames.{text_of, datagrams_of}
use Rattle.kk_sender.specs.Sending.{DatagramState, IsPending, IsCut}

-- what follows from a fact on an answer
pub OnOk-then : {T E : Type 0} (A P : Type 0) (r : Result T E) → OnOk r A → (A → P) → OnOk r P
OnOk-then A P (Ok x) h f = f h
OnOk-then A P (Err e) h f = tt

pub OnErr-then : {T E : Type 0} (A P : Type 0) (r : Result T E) → OnErr r A → (A → P) → OnErr r P
OnErr-then A P (Ok x) h f = tt
OnErr-then A P (Err e) h f = f h

-- ---- frames in datagrams

-- in k datagrams
abbrev datagrams_by : TicketFields → ℕ → ℕ → List FrameValue → List (List ℕ)
datagrams_by t pack k frames = map (text_of t) (first_chunks pack k frames)

ceil-none : (pack : ℕ) → 0 < pack → div_ceil 0 pack ≡ 0
ceil-none pack some = let a = div-eq_of_lt some in let b = mod-eq_of_lt some in rw (a, b) refl

ceil-last : (pack n : ℕ) → 0 < n → n < pack → div_ceil n pack ≡ 1
ceil-last pack n some short = let a = div-eq_of_lt short in let b = mod-eq_of_lt short in rw (a, b) (omega (arith, some))

ceil-more : (pack n : ℕ) → 0 < pack → div_ceil (pack + n) pack ≡ suc (div_ceil n pack)
ceil-more pack n some =
    ap (λ q. q + min 1 ((pack + n) % pack)) (add-div_left n some) ∙ ap (λ r. n / pack + 1 + min 1 r) (add-mod_left pack n) ∙ omega arith

pub datagrams-none : (t : TicketFields) (pack : ℕ) → 0 < pack → datagrams_of t pack [] ≡ []
unfolding datagrams_of
datagrams-none t pack some = ap (λ k. datagrams_by t pack k []) (ceil-none pack some)

-- a full datagram, and those after it
pub datagrams-first : (t : TicketFields) (pack : ℕ) (frames : List FrameValue) → 0 < pack → pack ≤ length frames → datagrams_of t pack frames ≡ text_of t (take pack frames) ∷ datagrams_of t pack (drop pack frames)
unfolding datagrams_of
datagrams-first t pack frames some full =
    let sum : length frames ≡ pack + length (drop pack frames) = omega (arith, full, length-drop pack frames) in
    ap (λ k. datagrams_by t pack k frames) (ap (λ n. div_ceil n pack) sum ∙ ceil-more pack (length (drop pack frames)) some)

-- at most one datagram
pub datagrams-last : (t : TicketFields) (pack : ℕ) (frames : List FrameValue) → 0 < length frames → length frames ≤ pack → datagrams_of t pack frames ≡ text_of t frames ∷ []
unfolding datagrams_of
datagrams-last t pack frames some short =
    elim (cases_lt (length frames) pack) [
      | inl less ↦
          ap (λ k. datagrams_by t pack k frames) (ceil-last pack (length frames) some less)
          ∙ ap (λ f. text_of t f ∷ []) (take_all pack frames short)
      | inr full ↦
          datagrams-first t pack frames (omega (arith, some, short)) full
          ∙ ap (λ f. text_of t f ∷ datagrams_of t pack (drop pack frames)) (take_all pack frames short)
          ∙ ap (λ f. text_of t frames ∷ datagrams_of t pack f) (drop_all pack frames short)
          ∙ ap (λ l. text_of t frames ∷ l) (datagrams-none t pack (omega (arith, some, short)))
    ]

-- full datagrams, and those after them
pub datagrams-append : (t : TicketFields) (pack count : ℕ) (out others : List FrameValue) → 0 < pack → length out ≡ count * pack → datagrams_of t pack (out ++ others) ≡ datagrams_of t pack out ++ datagrams_of t pack others
datagrams-append t pack zero [] others some whole = sym (ap (λ l. l ++ datagrams_of t pack others) (datagrams-none t pack some))
datagrams-append t pack zero (f ∷ out) others some whole = absurd (omega (arith, whole, zero-mul pack))
datagrams-append t pack (suc count) out others some whole =
    let front = take pack out in
    let after = drop pack out in
    let long : pack ≤ length out = omega (arith, whole, suc-mul count pack) in
    let fewer : length after ≡ count * pack = omega (arith, whole, suc-mul count pack, length-drop pack out) in
    datagrams-first t pack (out ++ others) some (omega (arith, length-append out others, long))
    ∙ ap (λ f. text_of t f ∷ datagrams_of t pack (drop pack (out ++ others))) (take-append-le pack out others long)
    ∙ ap (λ f. text_of t front ∷ datagrams_of t pack f) (drop-append-le pack out others long)
    ∙ ap (λ l. text_of t front ∷ l) (datagrams-append t pack count after others some fewer)
    ∙ sym (ap (λ l. l ++ datagrams_of t pack others) (datagrams-first t pack out some long))

length-first_chunks : {X : Type 0} (n k : ℕ) (xs : List X) → length (first_chunks n k xs) ≡ k
length-first_chunks n zero xs = refl
length-first_chunks n (suc k) xs = ap (λ (j : ℕ). suc j) (length-first_chunks n k (drop n xs))

pub length-datagrams_of : (t : TicketFields) (pack : ℕ) (frames : List FrameValue) → length (datagrams_of t pack frames) ≡ div_ceil (length frames) pack
unfolding datagrams_of
length-datagrams_of t pack frames =
    length-map (first_chunks pack (div_ceil (length frames) pack) frames) (text_of t) ∙ length-first_chunks pack (div_ceil (length frames) pack) frames

-- some frames make some datagrams
some_datagrams : (t : TicketFields) (pack : ℕ) (frames : List FrameValue) → 0 < pack → 0 < length frames → 0 < length (datagrams_of t pack frames)
some_datagrams t pack frames some frames_some =
    elim (cases_lt (length frames) pack) [
      | inl less ↦ subst (λ l. 0 < length l) (sym (datagrams-last t pack frames frames_some (omega (arith, less)))) (omega arith)
      | inr full ↦ subst (λ l. 0 < length l) (sym (datagrams-first t pack frames some full)) (omega arith)
    ]

-- ---- what is out

text_more : (t : TicketFields) (frames : List FrameValue) (frame : FrameValue) → text_of t frames ++ frame_text t frame ≡ text_of t (frames ++ frame ∷ [])
text_more t frames frame = sym (flat_map-append (frame_text t) frames (frame ∷ []) ∙ ap (λ l. text_of t frames ++ l) (append-nil (frame_text t frame)))

-- nothing is out, and nothing waits
pub IsPending-start : (t : TicketFields) (now : OutletTold) (pack : ℕ) → 0 < pack → IsPending t (change now now) (record { frames_per_datagram = pack; frames = 0; bytes = [] }) []
IsPending-start t now pack some = record {
  out = [];
  waiting = [];
  is_out = record { parts = refl; count = 0; whole = sym (zero-mul pack) };
  sent = sym (ap (append_datagrams now.sends) (datagrams-none t pack some) ∙ append_datagrams-nil now.sends);
  bytes = refl;
  count = refl;
}

-- a frame more waits
pub IsPending-waits : (t : TicketFields) (outlet : Change OutletTold) (old new : DatagramState) (frames : List FrameValue) (frame : FrameValue)
    → new.frames_per_datagram ≡ old.frames_per_datagram → new.frames ≡ old.frames + 1 → new.bytes ≡ old.bytes ++ frame_text t frame → IsPending t outlet old frames → IsPending t outlet new (frames ++ frame ∷ [])
IsPending-waits t outlet old new frames frame same more bytes pending =
    let is = pending.is_out in record {
      out = pending.out;
      waiting = pending.waiting ++ frame ∷ [];
      is_out = record {
        parts = ap (λ l. l ++ frame ∷ []) is.parts ∙ append_assoc pending.out pending.waiting (frame ∷ []);
        count = is.count;
        whole = is.whole ∙ ap (λ n. is.count * n) (sym same);
      };
      sent = pending.sent ∙ ap (λ n. append_datagrams outlet.old.sends (datagrams_of t n pending.out)) (sym same);
      bytes = bytes ∙ ap (λ l. l ++ frame_text t frame) pending.bytes ∙ text_more t pending.waiting frame;
      count = omega (arith, more, pending.count, length-append pending.waiting (frame ∷ []));
    }

-- the datagram, with a frame more, went out
pub IsPending-sent : (t : TicketFields) (start now after : OutletTold) (old new : DatagramState) (datagram : List ℕ) (frames : List FrameValue) (frame : FrameValue)
    → 0 < old.frames_per_datagram → new.frames_per_datagram ≡ old.frames_per_datagram → new.frames ≡ 0 → new.bytes ≡ [] → old.frames + 1 ≡ old.frames_per_datagram → datagram ≡ old.bytes ++ frame_text t frame → after.sends ≡ append_datagrams now.sends (datagram ∷ [])
    → IsPending t (change start now) old frames → IsPending t (change start after) new (frames ++ frame ∷ [])
IsPending-sent t start now after old new datagram frames frame some same none empty full bytes went pending =
    let is = pending.is_out in
    let last = pending.waiting ++ frame ∷ [] in
    let many : length last ≡ old.frames_per_datagram = omega (arith, full, pending.count, length-append pending.waiting (frame ∷ [])) in
    let text : datagram ≡ text_of t last = bytes ∙ ap (λ l. l ++ frame_text t frame) pending.bytes ∙ text_more t pending.waiting frame in
    let list : datagrams_of t old.frames_per_datagram (pending.out ++ last) ≡ datagrams_of t old.frames_per_datagram pending.out ++ datagram ∷ [] =
    datagrams-append t old.frames_per_datagram is.count pending.out last some is.whole
    ∙ ap (λ l. datagrams_of t old.frames_per_datagram pending.out ++ l) (datagrams-last t old.frames_per_datagram last (omega (arith, many, some)) (omega (arith, many)) ∙ ap (λ d. d ∷ []) (sym text)) in
    record {
      out = pending.out ++ last;
      waiting = [];
      is_out = record {
        parts = ap (λ l. l ++ frame ∷ []) is.parts ∙ append_assoc pending.out pending.waiting (frame ∷ []) ∙ sym (append-nil (pending.out ++ last));
        count = suc is.count;
        whole = length-append pending.out last ∙ omega (arith, is.whole, many, suc-mul is.count old.frames_per_datagram) ∙ ap (λ n. suc is.count * n) (sym same);
      };
      sent =
          went ∙ ap (λ s. append_datagrams s (datagram ∷ [])) pending.sent
          ∙ append_datagrams-append start.sends (datagrams_of t old.frames_per_datagram pending.out) (datagram ∷ [])
          ∙ ap (append_datagrams start.sends) (sym list)
          ∙ ap (λ n. append_datagrams start.sends (datagrams_of t n (pending.out ++ last))) (sym same);
      bytes = empty;
      count = none;
    }

-- its send failed
pub IsCut-unsent : (t : TicketFields) (start now after : OutletTold) (old : DatagramState) (frames : List FrameValue) (frame : FrameValue)
    → after.sends ≡ now.sends ++ Failed ∷ [] → IsPending t (change start now) old frames → IsCut t old.frames_per_datagram (change start after) (frames ++ frame ∷ [])
IsCut-unsent t start now after old frames frame failed pending =
    let is = pending.is_out in record {
      out = pending.out;
      others = pending.waiting ++ frame ∷ [];
      is_out = record {
        parts = ap (λ l. l ++ frame ∷ []) is.parts ∙ append_assoc pending.out pending.waiting (frame ∷ []);
        count = is.count;
        whole = is.whole;
      };
      sent = failed ∙ ap (λ (l : List Send). l ++ Failed ∷ []) pending.sent;
      some = omega (arith, length-append pending.waiting (frame ∷ []));
    }

-- the frames that wait were all that is left, and they went out
pub sent_all : (t : TicketFields) (start now after : OutletTold) (held : DatagramState) (frames : List FrameValue)
    → 0 < held.frames_per_datagram → held.frames ≤ held.frames_per_datagram → 0 < held.frames → after.sends ≡ append_datagrams now.sends (held.bytes ∷ []) → IsPending t (change start now) held frames
    → after.sends ≡ append_datagrams start.sends (datagrams_of t held.frames_per_datagram frames)
sent_all t start now after held frames some few waits went pending =
    let is = pending.is_out in
    let waiting = pending.waiting in
    let list : datagrams_of t held.frames_per_datagram frames ≡ datagrams_of t held.frames_per_datagram pending.out ++ held.bytes ∷ [] =
    ap (datagrams_of t held.frames_per_datagram) is.parts
    ∙ datagrams-append t held.frames_per_datagram is.count pending.out waiting some is.whole
    ∙ ap (λ l. datagrams_of t held.frames_per_datagram pending.out ++ l) (datagrams-last t held.frames_per_datagram waiting (omega (arith, pending.count, waits)) (omega (arith, pending.count, few)) ∙ ap (λ d. d ∷ []) (sym pending.bytes)) in
    went ∙ ap (λ s. append_datagrams s (held.bytes ∷ [])) pending.sent
    ∙ append_datagrams-append start.sends (datagrams_of t held.frames_per_datagram pending.out) (held.bytes ∷ [])
    ∙ ap (append_datagrams start.sends) (sym list)

none_left : {X : Type 0} (xs : List X) → length xs ≡ 0 → xs ≡ []
none_left [] none = refl
none_left (x ∷ xs) none = absurd (omega (arith, none))

-- none waited
pub sent_all-none : (t : TicketFields) (start now : OutletTold) (held : DatagramState) (frames : List FrameValue)
    → held.frames ≡ 0 → IsPending t (change start now) held frames → now.sends ≡ append_datagrams start.sends (datagrams_of t held.frames_per_datagram frames)
sent_all-none t start now held frames none pending =
    let is = pending.is_out in
    let empty : pending.waiting ≡ [] = none_left pending.waiting (omega (arith, pending.count, none)) in
    pending.sent ∙ ap (λ l. append_datagrams start.sends (datagrams_of t held.frames_per_datagram l)) (sym (is.parts ∙ ap (λ l. pending.out ++ l) empty ∙ append-nil pending.out))

-- their send failed
pub IsCut-last : (t : TicketFields) (start now after : OutletTold) (held : DatagramState) (frames : List FrameValue)
    → 0 < held.frames → after.sends ≡ now.sends ++ Failed ∷ [] → IsPending t (change start now) held frames → IsCut t held.frames_per_datagram (change start after) frames
IsCut-last t start now after held frames waits failed pending =
    let is = pending.is_out in record {
      out = pending.out;
      others = pending.waiting;
      is_out = record { parts = is.parts; count = is.count; whole = is.whole };
      sent = failed ∙ ap (λ (l : List Send). l ++ Failed ∷ []) pending.sent;
      some = omega (arith, pending.count, waits);
    }

-- more frames didn't go out either
pub IsCut-more : (t : TicketFields) (pack : ℕ) (outlet : Change OutletTold) (frames more : List FrameValue) → IsCut t pack outlet frames → IsCut t pack outlet (frames ++ more)
IsCut-more t pack outlet frames more cut =
    let is = cut.is_out in record {
      out = cut.out;
      others = cut.others ++ more;
      is_out = record {
        parts = ap (λ l. l ++ more) is.parts ∙ append_assoc cut.out cut.others more;
        count = is.count;
        whole = is.whole;
      };
      sent = cut.sent;
      some = omega (arith, cut.some, length-append cut.others more);
    }

take_front : {X : Type 0} (xs ys : List X) → take (length xs) (xs ++ ys) ≡ xs
take_front xs ys = take-append-le (length xs) xs ys (omega arith) ∙ take_all (length xs) xs (omega arith)

-- so a prefix of all datagrams was sent
pub IsCutShort-cut : (t : TicketFields) (pack : ℕ) (outlet : Change OutletTold) (frames : List FrameValue) (end : List (List ℕ)) → 0 < pack → IsCut t pack outlet frames → IsCutShort outlet (datagrams_of t pack frames ++ end)
IsCutShort-cut t pack outlet frames end some cut =
    let is = cut.is_out in
    let first = datagrams_of t pack cut.out in
    let then_ = datagrams_of t pack cut.others ++ end in
    let list : datagrams_of t pack frames ++ end ≡ first ++ then_ =
    ap (λ l. datagrams_of t pack l ++ end) is.parts
    ∙ ap (λ l. l ++ end) (datagrams-append t pack is.count cut.out cut.others some is.whole)
    ∙ append_assoc first (datagrams_of t pack cut.others) end in
    record {
      number = length first;
      few = subst (λ l. length first < length l) (sym list) (omega (arith, length-append first then_, length-append (datagrams_of t pack cut.others) end, some_datagrams t pack cut.others some cut.some));
      sent = cut.sent ∙ ap (append_failing outlet.old.sends) (sym (ap (take (length first)) list ∙ take_front first then_));
    }

-- all but the last one were, and its send failed
pub IsCutShort-last : (outlet : Change OutletTold) (datagrams : List (List ℕ)) (last : List ℕ) → outlet.new.sends ≡ append_failing outlet.old.sends datagrams → IsCutShort outlet (datagrams ++ last ∷ [])
IsCutShort-last outlet datagrams last sent = record {
  number = length datagrams;
  few = omega (arith, length-append datagrams (last ∷ []));
  sent = sent ∙ ap (append_failing outlet.old.sends) (sym (take_front datagrams (last ∷ [])));
}
