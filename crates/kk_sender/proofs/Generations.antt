-- A sending, generation by generation.
use Rattle.std.proofs.Common.{◌≡◌, ℕ, ◌+◌, ◌*◌, ◌^◌, ◌<◌, List, [], ◌∷◌, ◌++◌, length, sym, ap, subst, ◌∙◌, arith, length-append}
use Rattle.std.specs.Prelude.{All}
use Rattle.std.specs.Int.{div_ceil}
use Rattle.kk_outside.specs.Change.{Change, change}
use Rattle.kk_outside.specs.Outlet.{IsCutShort, OutletTold, Send, Failed, append_datagrams}
use Rattle.kk_outside.proofs.Taken.{append_datagrams-append}
use Rattle.kk_code.specs.Codeword.{Parameters, IsInRange, codeword, width}
use Rattle.kk_code.specs.Ticket.{TicketFields, generations}
use Rattle.kk_code.proofs.Values.{codeword_below, length-codeword}
use Rattle.kk_assemble.specs.FileBits.{cut}
use Rattle.kk_frame.specs.Frame.{End, frame_text}
use Rattle.kk_sender.specs.SentFrames.{codeword_of, with_combinations, sent_rows, vectors, data_frames, capture_frames, datagrams_of, sent_datagrams}
use Rattle.kk_sender.specs.Sending.{IsCut}
use Rattle.kk_sender.proofs.Datagrams.{IsCut-more, IsCutShort-cut, IsCutShort-last, length-datagrams_of}
use Rattle.kk_sender.proofs.Frames.{data_frames-more, data_frames-parts, length-data_frames, length-sent_rows, with_combinations-below}

-- the rows of a generation as they are computed
pub rows_sent : (t : TicketFields) (file : List ℕ) (extra : ℕ) (word : ℕ → ℕ) (g : ℕ) (code : Parameters) (message rows sent : List ℕ)
    → code ≡ t.code → message ≡ cut t.code file g → rows ≡ codeword code message → sent ≡ with_combinations word rows (g * extra) extra → sent ≡ sent_rows t file extra word g
rows_sent t file extra word g code message rows sent of cut_is encoded combined =
    combined ∙ ap (λ l. with_combinations word l (g * extra) extra) (encoded ∙ ap (λ p. codeword p message) of ∙ ap (codeword t.code) cut_is)

pub sent_rows-below : (t : TicketFields) (file : List ℕ) (extra : ℕ) (word : ℕ → ℕ) (g : ℕ) → IsInRange t.code → All (λ r. r < 2 ^ width t.code) (sent_rows t file extra word g)
sent_rows-below t file extra word g in_range =
    with_combinations-below (width t.code) word (codeword_of t file g) (g * extra) extra (codeword_below t.code (cut t.code file g) in_range)

-- one generation more
pub frames_more : (t : TicketFields) (file : List ℕ) (extra : ℕ) (word : ℕ → ℕ) (g : ℕ) (rows : List ℕ) → rows ≡ sent_rows t file extra word g
    → data_frames (sent_rows t file extra word) g ++ vectors g rows ≡ data_frames (sent_rows t file extra word) (g + 1)
frames_more t file extra word g rows are =
    ap (λ l. data_frames (sent_rows t file extra word) g ++ vectors g l) are ∙ sym (data_frames-more (sent_rows t file extra word) g)

-- the outlet failed at the rows of generation g
pub prefix_at : (t : TicketFields) (file : List ℕ) (extra pack held : ℕ) (word : ℕ → ℕ) (g : ℕ) (rows : List ℕ) (outlet : Change OutletTold) → 0 < pack → held ≡ pack → g < generations t → rows ≡ sent_rows t file extra word g
    → IsCut t held outlet (data_frames (sent_rows t file extra word) g ++ vectors g rows) → IsCutShort outlet (sent_datagrams t file extra pack word)
prefix_at t file extra pack held word g rows outlet some same within are cut =
    let all = sent_rows t file extra word in
    let parts = data_frames-parts all (g + 1) (generations t) (omega (arith, within)) in
    let here = subst (IsCut t held outlet) (frames_more t file extra word g rows are) cut in
    let whole = subst (IsCut t held outlet) (sym parts.1) (IsCut-more t held outlet (data_frames all (g + 1)) parts.0 here) in
    IsCutShort-cut t pack outlet (data_frames all (generations t)) (frame_text t End ∷ []) some (subst (λ n. IsCut t n outlet (data_frames all (generations t))) same whole)

-- it failed at the last rows
pub prefix_at_end : (t : TicketFields) (file : List ℕ) (extra pack held : ℕ) (word : ℕ → ℕ) (g : ℕ) (outlet : Change OutletTold) → 0 < pack → held ≡ pack → g ≡ generations t
    → IsCut t held outlet (data_frames (sent_rows t file extra word) g) → IsCutShort outlet (sent_datagrams t file extra pack word)
prefix_at_end t file extra pack held word g outlet some same end cut =
    let all = sent_rows t file extra word in
    IsCutShort-cut t pack outlet (data_frames all (generations t)) (frame_text t End ∷ []) some
    (subst (λ n. IsCut t n outlet (data_frames all (generations t))) same (subst (λ n. IsCut t held outlet (data_frames all n)) end cut))

-- all rows went out
pub rows_out : (t : TicketFields) (file : List ℕ) (extra pack held : ℕ) (word : ℕ → ℕ) (g : ℕ) (outlet : Change OutletTold) → held ≡ pack → g ≡ generations t
    → outlet.new.sends ≡ append_datagrams outlet.old.sends (datagrams_of t held (data_frames (sent_rows t file extra word) g))
    → outlet.new.sends ≡ append_datagrams outlet.old.sends (datagrams_of t pack (data_frames (sent_rows t file extra word) (generations t)))
rows_out t file extra pack held word g outlet same end out =
    out ∙ ap (λ n. append_datagrams outlet.old.sends (datagrams_of t n (data_frames (sent_rows t file extra word) g))) same
    ∙ ap (λ n. append_datagrams outlet.old.sends (datagrams_of t pack (data_frames (sent_rows t file extra word) n))) end

-- and END
pub all_out : (t : TicketFields) (file : List ℕ) (extra pack : ℕ) (word : ℕ → ℕ) (start now after : OutletTold)
    → now.sends ≡ append_datagrams start.sends (datagrams_of t pack (data_frames (sent_rows t file extra word) (generations t)))
    → after.sends ≡ append_datagrams now.sends (frame_text t End ∷ []) → after.sends ≡ append_datagrams start.sends (sent_datagrams t file extra pack word)
all_out t file extra pack word start now after rows end =
    end ∙ ap (λ s. append_datagrams s (frame_text t End ∷ [])) rows ∙ append_datagrams-append start.sends _ (frame_text t End ∷ [])

-- or its send failed
pub end_unsent : (t : TicketFields) (file : List ℕ) (extra pack : ℕ) (word : ℕ → ℕ) (start now after : OutletTold)
    → now.sends ≡ append_datagrams start.sends (datagrams_of t pack (data_frames (sent_rows t file extra word) (generations t)))
    → after.sends ≡ now.sends ++ Failed ∷ [] → IsCutShort (change start after) (sent_datagrams t file extra pack word)
end_unsent t file extra pack word start now after rows failed =
    IsCutShort-last (change start after) (datagrams_of t pack (data_frames (sent_rows t file extra word) (generations t))) (frame_text t End) (failed ∙ ap (λ (l : List Send). l ++ Failed ∷ []) rows)

-- ---- how much is sent

pub length-sent_frames : (t : TicketFields) (file : List ℕ) (extra : ℕ) (word : ℕ → ℕ) → length (data_frames (sent_rows t file extra word) (generations t)) ≡ generations t * (t.code.l + extra)
length-sent_frames t file extra word = length-data_frames (sent_rows t file extra word) (t.code.l + extra) (generations t) (length-sent_rows t file extra word)

pub length-capture_frames : (t : TicketFields) (file : List ℕ) → length (capture_frames t file) ≡ generations t * t.code.l + 1
length-capture_frames t file =
    length-append (data_frames (codeword_of t file) (generations t)) (End ∷ [])
    ∙ ap (λ n. n + 1) (length-data_frames (codeword_of t file) t.code.l (generations t) (λ g. length-codeword t.code (cut t.code file g)))

pub length-sent_datagrams : (t : TicketFields) (file : List ℕ) (extra pack : ℕ) (word : ℕ → ℕ) → length (sent_datagrams t file extra pack word) ≡ div_ceil (generations t * (t.code.l + extra)) pack + 1
length-sent_datagrams t file extra pack word =
    let frames = data_frames (sent_rows t file extra word) (generations t) in
    length-append (datagrams_of t pack frames) (frame_text t End ∷ [])
    ∙ ap (λ n. n + 1) (length-datagrams_of t pack frames ∙ ap (λ n. div_ceil n pack) (length-sent_frames t file extra word))
