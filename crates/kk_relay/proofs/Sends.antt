-- Data frames that are sent, one after another.
use Rattle.std.proofs.Common.{◌≡◌, ℕ, ◌+◌, ◌<◌, List, [], ◌∷◌, ◌++◌, length, take, refl, ap, sym, subst, ◌∙◌, arith, add-one, length-append, take-append-drop, drop}
use Rattle.std.proofs.lemmas.List.{length-map, map-append, take-append-le}
use Rattle.std.proofs.lemmas.List.FromFn.{map-range_with_len_more, take-map-range_with_len}
use Rattle.std.proofs.Math.Seq.{take-append-add}
use Rattle.rand_core.specs.Stream.{Stream, next_u64}
use Rattle.kk_rows.specs.Combination.{combination}
use Rattle.kk_outside.specs.Change.{Change, change}
use Rattle.kk_outside.specs.Outlet.{OutletTold, Failed, append_datagrams, append_failing}
use Rattle.kk_outside.proofs.Taken.{append_datagrams-append, append_datagrams-nil, append_failing-append, append_failing-nil}
use Rattle.kk_code.specs.Ticket.{TicketFields}
use Rattle.kk_frame.specs.Frame.{Vector, frame_text}
use Rattle.kk_relay.specs.Progress.{AreSent, AreCut}
use Rattle.kk_relay.specs.Relaying.{datagrams_of, combinations}
use Rattle.kk_outside.specs.Generator.{after_words, word_at}
use Rattle.kk_relay.proofs.Relays.{length-combinations}

abbrev datagram : TicketFields → ℕ × ℕ → List ℕ
datagram t frame = frame_text t (Vector frame.0 frame.1)

pub length-datagrams_of : (t : TicketFields) (frames : List (ℕ × ℕ)) → length (datagrams_of t frames) ≡ length frames
length-datagrams_of t frames = length-map frames (datagram t)

pub datagrams_of-append : (t : TicketFields) (a b : List (ℕ × ℕ)) → datagrams_of t (a ++ b) ≡ datagrams_of t a ++ datagrams_of t b
datagrams_of-append t a b = map-append (datagram t) a b

-- none
pub AreSent-nothing : (t : TicketFields) (start : Stream) (first : ℕ) (now : OutletTold) (words : Stream) → words ≡ after_words first start → AreSent t start first [] (change now now) words
AreSent-nothing t start first now words at = record {
  sent = sym (append_datagrams-nil now.sends);
  drawn = at ∙ ap (λ (n : ℕ). after_words n start) (omega arith);
}

-- some, and then others
pub AreSent-append : (t : TicketFields) (start : Stream) (first second : ℕ) (a b : List (ℕ × ℕ)) (old now end : OutletTold) (words later : Stream) → AreSent t start first a (change old now) words → second ≡ first + length a → AreSent t start second b (change now end) later → AreSent t start first (a ++ b) (change old end) later
AreSent-append t start first second a b old now end words later one next two = record {
  sent =
      two.sent
      ∙ ap (λ o. append_datagrams o (datagrams_of t b)) one.sent
      ∙ append_datagrams-append old.sends (datagrams_of t a) (datagrams_of t b)
      ∙ ap (append_datagrams old.sends) (sym (datagrams_of-append t a b));
  drawn = two.drawn ∙ ap (λ (n : ℕ). after_words n start) (omega (arith, next, length-append a b));
}

-- some, and then others of which a send failed
pub AreCut-append : (t : TicketFields) (start : Stream) (first second n : ℕ) (a b : List (ℕ × ℕ)) (old now end : OutletTold) (words later : Stream) → AreSent t start first a (change old now) words → second ≡ first + length a → AreCut t start second n b (change now end) later → AreCut t start first (length a + n) (a ++ b) (change old end) later
AreCut-append t start first second n a b old now end words later one next two =
    let front : length (datagrams_of t a) ≡ length a = length-datagrams_of t a in
    record {
      few = omega (arith, two.few, length-append a b);
      sent =
          two.sent
          ∙ ap (λ o. append_failing o (take n (datagrams_of t b))) one.sent
          ∙ append_failing-append old.sends (datagrams_of t a) (take n (datagrams_of t b))
          ∙ ap (append_failing old.sends)
          (sym (take-append-add (datagrams_of t a) (datagrams_of t b) n)
          ∙ ap (λ (k : ℕ). take (k + n) (datagrams_of t a ++ datagrams_of t b)) front
          ∙ ap (take (length a + n)) (sym (datagrams_of-append t a b)));
      drawn = two.drawn ∙ ap (λ (k : ℕ). after_words k start) (omega (arith, next));
    }

-- the same among more of them
pub AreCut-more : (t : TicketFields) (start : Stream) (first n : ℕ) (a b : List (ℕ × ℕ)) (old now : OutletTold) (words : Stream) → AreCut t start first n a (change old now) words → AreCut t start first n (a ++ b) (change old now) words
AreCut-more t start first n a b old now words cut = record {
  few = omega (arith, cut.few, length-append a b);
  sent =
      cut.sent
      ∙ ap (append_failing old.sends)
      (sym (take-append-le n (datagrams_of t a) (datagrams_of t b) (omega (arith, cut.few, length-datagrams_of t a)))
      ∙ ap (take n) (sym (datagrams_of-append t a b)));
  drawn = cut.drawn;
}

-- the same data frames, written otherwise
pub AreSent-same : (t : TicketFields) (start : Stream) (first : ℕ) (a b : List (ℕ × ℕ)) (outlet : Change OutletTold) (words : Stream) → a ≡ b → AreSent t start first a outlet words → AreSent t start first b outlet words
AreSent-same t start first a b outlet words same sent = subst (λ l. AreSent t start first l outlet words) same sent

pub AreCut-same : (t : TicketFields) (start : Stream) (first n : ℕ) (a b : List (ℕ × ℕ)) (outlet : Change OutletTold) (words : Stream) → a ≡ b → AreCut t start first n a outlet words → AreCut t start first n b outlet words
AreCut-same t start first n a b outlet words same cut = subst (λ l. AreCut t start first n l outlet words) same cut

-- ---- one combination more

after_words-next : (n : ℕ) (start : Stream) → after_words (n + 1) start ≡ (next_u64 (after_words n start)).1
after_words-next n start = ap (λ (k : ℕ). after_words k start) (add-one n)

-- what one word more is, and what is left after it
drawn_word : (start now later : Stream) (n word : ℕ) → now ≡ after_words n start → (word, later) ≡ next_u64 now → word ≡ word_at start n
drawn_word start now later n word at draws = ap (λ (p : ℕ × Stream). p.0) draws ∙ ap (λ (s : Stream). (next_u64 s).0) at

drawn_left : (start now later : Stream) (n word : ℕ) → now ≡ after_words n start → (word, later) ≡ next_u64 now → later ≡ after_words (n + 1) start
drawn_left start now later n word at draws =
    ap (λ (p : ℕ × Stream). p.1) draws ∙ ap (λ (s : Stream). (next_u64 s).1) at ∙ sym (after_words-next n start)

combinations-more : (word : ℕ → ℕ) (g : ℕ) (rows : List ℕ) (first n : ℕ) → combinations word g rows first (n + 1) ≡ combinations word g rows first n ++ (g, combination rows (word (first + n))) ∷ []
combinations-more word g rows first n = map-range_with_len_more (λ i. (g, combination rows (word i))) first n (first + n) refl

-- n combinations were sent, and one word more was drawn
module _ (t : TicketFields) (start : Stream) (first g : ℕ) (rows : List ℕ) (n : ℕ) (old now end : OutletTold) (words later : Stream) (word : ℕ) (so_far : AreSent t start first (combinations (word_at start) g rows first n) (change old now) words) (draws : (word, later) ≡ next_u64 words) where
  count : length (combinations (word_at start) g rows first n) ≡ n
  count = length-combinations (word_at start) g rows first n

  at : words ≡ after_words (first + n) start
  at = so_far.drawn ∙ ap (λ (k : ℕ). after_words (first + k) start) count

  text : frame_text t (Vector g (combination rows word)) ≡ frame_text t (Vector g (combination rows (word_at start (first + n))))
  text = ap (λ (w : ℕ). frame_text t (Vector g (combination rows w))) (drawn_word start words later (first + n) word at draws)

  whole : combinations (word_at start) g rows first (n + 1) ≡ combinations (word_at start) g rows first n ++ (g, combination rows (word_at start (first + n))) ∷ []
  whole = combinations-more (word_at start) g rows first n

  -- it was sent
  pub AreSent-more : end.sends ≡ append_datagrams now.sends (frame_text t (Vector g (combination rows word)) ∷ []) → AreSent t start first (combinations (word_at start) g rows first (n + 1)) (change old end) later
  AreSent-more sent =
      let one : AreSent t start (first + n) ((g, combination rows (word_at start (first + n))) ∷ []) (change now end) later = record {
        sent = sent ∙ ap (λ l. append_datagrams now.sends (l ∷ [])) text;
        drawn = drawn_left start words later (first + n) word at draws;
      } in
      subst (λ l. AreSent t start first l (change old end) later) (sym whole)
      (AreSent-append t start first (first + n) _ _ old now end words later so_far (omega (arith, count)) one)

  -- its send failed
  pub AreCut-next : (rate : ℕ) → n < rate → end.sends ≡ now.sends ++ Failed ∷ [] → (k : ℕ) × AreCut t start first k (combinations (word_at start) g rows first rate) (change old end) later
  AreCut-next rate fewer failed =
      let front = combinations (word_at start) g rows first n in
      let last = (g, combination rows (word_at start (first + n))) ∷ [] in
      let one : AreCut t start (first + n) 0 last (change now end) later = record {
        few = omega arith;
        sent = failed ∙ sym (append_failing-nil now.sends);
        drawn = drawn_left start words later (first + n) word at draws ∙ ap (λ (k : ℕ). after_words k start) (omega arith);
      } in
      let cut = AreCut-append t start first (first + n) 0 front last old now end words later so_far (omega (arith, count)) one in
      let all = combinations (word_at start) g rows first rate in
      let first_ones : take (n + 1) all ≡ front ++ last = take-map-range_with_len (λ i. (g, combination rows (word_at start i))) first rate (n + 1) (omega (arith, fewer)) ∙ whole in
      let split : (front ++ last) ++ drop (n + 1) all ≡ all = ap (λ (l : List (ℕ × ℕ)). l ++ drop (n + 1) all) (sym first_ones) ∙ take-append-drop (n + 1) all in
      (length front + 0, AreCut-same t start first (length front + 0) ((front ++ last) ++ drop (n + 1) all) all (change old end) later split (AreCut-more t start first (length front + 0) (front ++ last) (drop (n + 1) all) old end later cut))
