-- The elimination that finds a meet.
use Rattle.std.proofs.Common.{◌≡◌, ℕ, ◌<◌, ◌≤◌, ◌^◌, true, ◌&&◌, ◌⊎◌, List, [], ◌∷◌, ◌++◌, fold, get_or, refl, sym, ap, ◌∙◌, subst, inl, inr, bit_xor, arith}
use Rattle.std.specs.Prelude.{All, nat_lt, map, IsTrue, ⊤}
use Rattle.std.specs.Int.{bit_at}
use Rattle.std.specs.Int.Bits.{xor_self, xor_zero_r}
use Rattle.std.proofs.lemmas.Nat.{xor_comm}
use Rattle.std.proofs.lemmas.Nat.Bits.{bit_at-zero}
use Rattle.std.proofs.lemmas.Bool.{cases_Bool, ltb-true, ltb-false, cond-true, cond-false, and_parts, and_from}
use Rattle.std.proofs.lemmas.List.{append_assoc, map_push}
use Rattle.std.proofs.lemmas.List.Elements.{All-nil, All-cons, All-head, All-tail, All-push}
use Rattle.kk_rows.specs.declared.traced.Traced.{Traced}
use Rattle.kk_rows.specs.Span.{in_span}
use Rattle.kk_rows.specs.Echelon.{IsClearAt, IsClear, IsReduced, cleared}
use Rattle.kk_rows.specs.Traces.{sum_of_traces, cleared_trace}
use Rattle.kk_rows.proofs.Sums.{xor_twice, xor_swap, xor_four}
use Rattle.kk_rows.proofs.Spans.{same_bool, in_span-nil, in_span-zero, in_span_skip, in_span_use, in_span_cases, in_span-xor, in_span-xor_back, in_span-lt, in_span-append_left, in_span-append_right, in_span-append_parts, in_span-append_same, in_span-push_cases, in_span-push_itself, in_span-push_same, in_span-push_shifted, in_span-moved}
use Rattle.kk_rows.proofs.Leading.{zero_is_not_one, leading_bit}
use Rattle.kk_rows.proofs.Reduced.{Reduces-from, IsClearAt-xor, in_span-clear, cleared_is_clear, zero_from_clear}

-- the rows
abbrev pub sources : List Traced → List ℕ
sources ts = map (λ t. t.source.0) ts

-- and what is left of them
abbrev pub images : List Traced → List ℕ
images ts = map (λ t. t.image.0) ts

-- the image is what the span of the rows leaves of the source
pub record IsTraced (rows : List ℕ) (t : Traced) : Type 0 where
  pub differs : IsTrue (in_span rows (bit_xor t.source.0 t.image.0))
  pub clear : IsClear rows t.image.0

-- no image is 0, and those after one are clear at its leading bit
abbrev pub IsStaircase : List Traced → Type 0
IsStaircase [] = ⊤
IsStaircase (t ∷ ts) = (0 < t.image.0) × All (λ s. IsClearAt t.image.0 s.image.0) ts × IsStaircase ts

-- ---- one step, and all

trace_cases : (t s : Traced) → ((cleared_trace t s ≡ sum_of_traces t s) × (bit_xor t.image.0 s.image.0 < t.image.0)) ⊎ ((cleared_trace t s ≡ t) × (t.image.0 ≤ bit_xor t.image.0 s.image.0))
trace_cases t s = elim (cases_Bool (nat_lt (bit_xor t.image.0 s.image.0) t.image.0)) [
  | inl h ↦ inl (cond-true _ _ _ h, ltb-true _ _ h)
  | inr h ↦ inr (cond-false _ _ _ h, ltb-false _ _ h)
]

image_cleared : (t s : Traced) → (cleared_trace t s).image.0 ≡ cleared t.image.0 s.image.0
image_cleared t s = elim (trace_cases t s) [
  | inl h ↦ ap (λ (x : Traced). x.image.0) h.0 ∙ omega (arith, h.1)
  | inr h ↦ ap (λ (x : Traced). x.image.0) h.0 ∙ omega (arith, h.1)
]

sum_is_traced : (vs : List ℕ) (t s : Traced) → IsTraced vs t → IsTraced vs s → IsTraced vs (sum_of_traces t s)
sum_is_traced vs t s ht hs = record {
  differs = subst (λ x. in_span vs x ≡ true) (xor_four t.source.0 t.image.0 s.source.0 s.image.0) (in_span-xor vs _ _ ht.differs hs.differs);
  clear = λ k d below. IsClearAt-xor (get_or vs k d) t.image.0 s.image.0 (ht.clear k d below) (hs.clear k d below);
}

pub fold_is_traced : (vs : List ℕ) (ts : List Traced) (t : Traced) → IsTraced vs t → All (IsTraced vs) ts → IsTraced vs (fold cleared_trace t ts)
fold_is_traced vs [] t h each = h
fold_is_traced vs (s ∷ ts) t h each =
    let rest = All-tail (IsTraced vs) s ts each in
    let head = All-head (IsTraced vs) s ts each in
    elim (trace_cases t s) [
      | inl k ↦ fold_is_traced vs ts (cleared_trace t s) (subst (IsTraced vs) (sym k.0) (sum_is_traced vs t s h head)) rest
      | inr k ↦ fold_is_traced vs ts (cleared_trace t s) (subst (IsTraced vs) (sym k.0) h) rest
    ]

pub fold_source : (ts : List Traced) (t : Traced) → in_span (sources ts) (bit_xor t.source.0 (fold cleared_trace t ts).source.0) ≡ true
fold_source [] t = subst (λ x. in_span [] x ≡ true) (sym (xor_self t.source.0)) (in_span-zero [])
fold_source (s ∷ ts) t =
    let P : ℕ → Type 0 = λ x. in_span (sources ts) x ≡ true in
    let left = (fold cleared_trace (cleared_trace t s) ts).source.0 in
    let rest = fold_source ts (cleared_trace t s) in
    elim (trace_cases t s) [
      | inl k ↦ in_span_use s.source.0 (sources ts) _ (subst P (xor_swap t.source.0 s.source.0 left) (subst (λ (x : Traced). in_span (sources ts) (bit_xor x.source.0 left) ≡ true) k.0 rest))
      | inr k ↦ in_span_skip s.source.0 (sources ts) _ (subst (λ (x : Traced). in_span (sources ts) (bit_xor x.source.0 left) ≡ true) k.0 rest)
    ]

stays_clear : (row : ℕ) (ts : List Traced) (t : Traced) → IsClearAt row t.image.0 → All (λ s. IsClearAt row s.image.0) ts → IsClearAt row (fold cleared_trace t ts).image.0
stays_clear row [] t h each = h
stays_clear row (s ∷ ts) t h each =
    let P : Traced → Type 0 = λ x. IsClearAt row x.image.0 in
    let rest = All-tail P s ts each in
    let head = All-head P s ts each in
    elim (trace_cases t s) [
      | inl k ↦ stays_clear row ts (cleared_trace t s) (subst P (sym k.0) (IsClearAt-xor row t.image.0 s.image.0 h head)) rest
      | inr k ↦ stays_clear row ts (cleared_trace t s) (subst P (sym k.0) h) rest
    ]

pub fold_is_clear : (ts : List Traced) → IsStaircase ts → (t : Traced) → All (λ s. IsClearAt s.image.0 (fold cleared_trace t ts).image.0) ts
fold_is_clear [] h t = All-nil (λ s. IsClearAt s.image.0 t.image.0)
fold_is_clear (s ∷ ts) h t =
    let left = (fold cleared_trace (cleared_trace t s) ts).image.0 in
    let first = subst (λ x. IsClearAt s.image.0 x) (sym (image_cleared t s)) (cleared_is_clear s.image.0 t.image.0) in
    All-cons (λ s. IsClearAt s.image.0 left) s ts (stays_clear s.image.0 ts (cleared_trace t s) first h.1) (fold_is_clear ts h.2 (cleared_trace t s))

pub IsStaircase-push : (ts : List Traced) (t : Traced) → IsStaircase ts → All (λ s. IsClearAt s.image.0 t.image.0) ts → 0 < t.image.0 → IsStaircase (ts ++ t ∷ [])
IsStaircase-push [] t h each some = (some, All-nil (λ s. IsClearAt t.image.0 s.image.0), tt)
IsStaircase-push (s ∷ ts) t h each some =
    let P : Traced → Type 0 = λ x. IsClearAt x.image.0 t.image.0 in
    (h.0, All-push (λ x. IsClearAt s.image.0 x.image.0) ts t h.1 (All-head P s ts each), IsStaircase-push ts t h.2 (All-tail P s ts each) some)

-- ---- the sources leave images that are independent of the space

all_images : (row : ℕ) (ts : List Traced) → All (λ s. IsClearAt row s.image.0) ts → All (λ x. IsClearAt row x) (images ts)
all_images row [] each = All-nil (λ x. IsClearAt row x)
all_images row (s ∷ ts) each =
    let P : Traced → Type 0 = λ x. IsClearAt row x.image.0 in
    All-cons (λ x. IsClearAt row x) s.image.0 (images ts) (All-head P s ts each) (all_images row ts (All-tail P s ts each))

-- a sum of sources, with the sum of their images
Image : List ℕ → List Traced → ℕ → Type 0
Image vs ts s =
    (t : ℕ) × (in_span vs (bit_xor s t) ≡ true) × IsClear vs t × (in_span (images ts) t ≡ true) × (t ≡ 0 → s ≡ 0)

image_of : (vs : List ℕ) (ts : List Traced) → IsStaircase ts → All (IsTraced vs) ts → (s : ℕ) → in_span (sources ts) s ≡ true → Image vs ts s
unfolding Image
image_of vs [] h each s inside =
    let zero = in_span-nil s inside in
    (0, subst (λ x. in_span vs x ≡ true) (sym (xor_zero_r s ∙ zero)) (in_span-zero vs), λ k d below p lead. bit_at-zero p, in_span-zero [], λ _. zero)
image_of vs (x ∷ ts) h each s inside =
    let traced = All-head (IsTraced vs) x ts each in
    let rest = All-tail (IsTraced vs) x ts each in
    elim (in_span_cases x.source.0 (sources ts) s inside) [
      | inl skipped ↦
          let m = image_of vs ts h.2 rest s skipped in
          (m.0, m.1, m.2, in_span_skip x.image.0 (images ts) m.0 m.3, m.4)
      | inr used ↦
          let m = image_of vs ts h.2 rest (bit_xor s x.source.0) used in
          let t = bit_xor m.0 x.image.0 in
          let differs : in_span vs (bit_xor s t) ≡ true = subst (λ y. in_span vs y ≡ true) (xor_four (bit_xor s x.source.0) m.0 x.source.0 x.image.0 ∙ ap (λ y. bit_xor y t) (xor_twice s x.source.0)) (in_span-xor vs _ _ m.1 traced.differs) in
          let clear : IsClear vs t = λ k d below. IsClearAt-xor (get_or vs k d) m.0 x.image.0 (m.2 k d below) (traced.clear k d below) in
          let among : in_span (images (x ∷ ts)) t ≡ true = in_span_use x.image.0 (images ts) t (subst (λ y. in_span (images ts) y ≡ true) (sym (xor_twice m.0 x.image.0)) m.3) in
          let never : t ≡ 0 → s ≡ 0 = λ zero.
          let lead = leading_bit x.image.0 h.0 in
          let low = in_span-clear x.image.0 (images ts) (all_images x.image.0 ts h.1) m.0 m.3 lead.0 lead.1 in
          let same : m.0 ≡ x.image.0 = sym (xor_twice m.0 x.image.0) ∙ ap (λ y. bit_xor y x.image.0) zero ∙ xor_comm 0 x.image.0 ∙ xor_zero_r x.image.0 in
          absurd (zero_is_not_one _ (subst (λ y. bit_at y lead.0 ≡ 0) same low) lead.1.is_one) in
          (t, differs, clear, among, never)
    ]

-- the sources span no member of the space but 0
pub zero_from_sources : (vs : List ℕ) → IsReduced vs → (ts : List Traced) → IsStaircase ts → All (IsTraced vs) ts → (s : ℕ) → in_span (sources ts) s ≡ true → in_span vs s ≡ true → s ≡ 0
unfolding Image
zero_from_sources vs reduced ts h each s inside member =
    let m = image_of vs ts h each s inside in
    let image_in = in_span-xor_back vs m.0 s (subst (λ y. in_span vs y ≡ true) (xor_comm s m.0) m.1) member in
    m.4 (zero_from_clear vs (Reduces-from vs reduced) m.0 image_in m.2)

-- ---- the loop

-- after the rows us of the one space: common rows, and traces of those that the other space tells apart
pub record MeetSoFar (us vs common : List ℕ) (ts : List Traced) : Type 0 where
  pub staircase : IsStaircase ts
  pub traced : All (IsTraced vs) ts
  pub spans : (x : ℕ) → in_span (common ++ sources ts) x ≡ in_span us x
  pub shared : (x : ℕ) → in_span common x ≡ true → in_span vs x ≡ true

pub meet_none : (vs : List ℕ) → MeetSoFar [] vs [] []
meet_none vs = record {
  staircase = tt;
  traced = All-nil (IsTraced vs);
  spans = λ x. refl;
  shared = λ x k. subst (λ y. in_span vs y ≡ true) (sym (in_span-nil x k)) (in_span-zero vs);
}

module _ (us vs common : List ℕ) (ts : List Traced) (u : ℕ) (start rest : Traced) (so_far : MeetSoFar us vs common ts) (start_is : start.source.0 ≡ u) (start_traced : IsTraced vs start) (rest_is : rest ≡ fold cleared_trace start ts) where
  rest_traced : IsTraced vs rest
  rest_traced = subst (IsTraced vs) (sym rest_is) (fold_is_traced vs ts start start_traced so_far.traced)

  rest_source : in_span (common ++ sources ts) (bit_xor u rest.source.0) ≡ true
  rest_source =
      let here = subst (λ (x : Traced). in_span (sources ts) (bit_xor start.source.0 x.source.0) ≡ true) (sym rest_is) (fold_source ts start) in
      in_span-append_right common (sources ts) _ (subst (λ x. in_span (sources ts) (bit_xor x rest.source.0) ≡ true) start_is here)

  -- the source of the rest spans with the rows so far what u does
  rest_spans : (x : ℕ) → in_span ((common ++ sources ts) ++ rest.source.0 ∷ []) x ≡ in_span (us ++ u ∷ []) x
  rest_spans x =
      sym (in_span-push_shifted (common ++ sources ts) u rest.source.0 rest_source x) ∙ in_span-push_same (common ++ sources ts) us so_far.spans u x

  pub rest_below : (n : ℕ) → All (λ r. r < 2 ^ n) (us ++ u ∷ []) → rest.source.0 < 2 ^ n
  rest_below n each =
      in_span-lt n (us ++ u ∷ []) each rest.source.0 (sym (rest_spans rest.source.0) ∙ in_span-push_itself (common ++ sources ts) rest.source.0)

  pub meet_inserted : (new : List ℕ) → rest.image.0 ≡ 0 → ((x : ℕ) → in_span new x ≡ in_span (common ++ rest.source.0 ∷ []) x) → MeetSoFar (us ++ u ∷ []) vs new ts
  meet_inserted new none step =
      let member : in_span vs rest.source.0 ≡ true = subst (λ x. in_span vs x ≡ true) (ap (bit_xor rest.source.0) none ∙ xor_zero_r rest.source.0) rest_traced.differs in
      record {
        staircase = so_far.staircase;
        traced = so_far.traced;
        spans = λ x. in_span-append_same new (common ++ rest.source.0 ∷ []) (sources ts) (sources ts) step (λ y. refl) x ∙ in_span-moved common (sources ts) rest.source.0 x ∙ rest_spans x;
        shared = λ x k. elim (in_span-push_cases common rest.source.0 x (sym (step x) ∙ k)) [
          | inl old ↦ so_far.shared x old
          | inr moved ↦ in_span-xor_back vs x rest.source.0 (so_far.shared _ moved) member
        ];
      }

  pub meet_traced : (rest.image.0 ≡ 0 → ⊥) → MeetSoFar (us ++ u ∷ []) vs common (ts ++ rest ∷ [])
  meet_traced some =
      let clear = subst (λ (x : Traced). All (λ s. IsClearAt s.image.0 x.image.0) ts) (sym rest_is) (fold_is_clear ts so_far.staircase start) in
      let pushed : common ++ sources (ts ++ rest ∷ []) ≡ (common ++ sources ts) ++ rest.source.0 ∷ [] = ap (λ l. common ++ l) (map_push (λ (x : Traced). x.source.0) ts rest) ∙ sym (append_assoc common (sources ts) (rest.source.0 ∷ [])) in
      record {
        staircase = IsStaircase-push ts rest so_far.staircase clear (omega arith);
        traced = All-push (IsTraced vs) ts rest so_far.traced rest_traced;
        spans = λ x. ap (λ l. in_span l x) pushed ∙ rest_spans x;
        shared = so_far.shared;
      }

pub meet_all : (us vs common : List ℕ) (ts : List Traced) → IsReduced vs → MeetSoFar us vs common ts → (x : ℕ) → in_span common x ≡ (in_span us x && in_span vs x)
meet_all us vs common ts reduced h x = same_bool _ _
    (λ k. and_from _ _ (sym (h.spans x) ∙ in_span-append_left common (sources ts) x k) (h.shared x k))
    (λ k.
    let both = and_parts _ _ k in
    let parts = in_span-append_parts common (sources ts) x (h.spans x ∙ both.0) in
    let member = in_span-xor vs x parts.0 both.1 (h.shared parts.0 parts.1) in
    let zero = zero_from_sources vs reduced ts h.staircase h.traced (bit_xor x parts.0) parts.2 member in
    in_span-xor_back common x parts.0 (subst (λ y. in_span common y ≡ true) (sym zero) (in_span-zero common)) parts.1)
