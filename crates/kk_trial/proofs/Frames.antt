-- The frames of all generations.
use Rattle.std.proofs.Common.{◌≡◌, ℕ, zero, suc, ◌+◌, ◌-◌, ◌*◌, ◌^◌, ◌<◌, ◌≤◌, List, length, map, sym, subst, arith, length-append}
use Rattle.std.specs.List.Sorted.{IsPermutation}
use Rattle.std.proofs.Math.Nat.{zero-mul, suc-mul, mul-le-mul}
use Rattle.std.proofs.lemmas.List.{length-map}
use Rattle.std.proofs.lemmas.List.Elements.{All-weaker}
use Rattle.std.proofs.lemmas.List.Sorted.{length_permutation, IsPermutation-sym}
use Rattle.kk_rows.specs.declared.row_space.TheConstants.{MAX_WIDTH}
use Rattle.kk_rows.proofs.Spans.{in_span-permuted, HaveSameSpan-from_members}
use Rattle.kk_code.specs.Codeword.{width}
use Rattle.kk_code.specs.Ticket.{generations}
use Rattle.kk_frame.specs.Frame.{Vector, IsFrame}
use Rattle.kk_frame.specs.Generation.{rows_of}
use Rattle.kk_frame.proofs.Generations.{frames_from, rows_of-frames, All-frames}
use Rattle.kk_trial.specs.Trial.{received_rows, trial_frames, all_dealt}
use Rattle.kk_trial.specs.Laws.{TrialFramesAreFrames, DealingIsAPermutation, DealingKeepsRows}
use Rattle.kk_trial.proofs.Dealt.{all_dealt-permuted, rows_of-all_dealt, length-dealt_from}
use Rattle.kk_trial.proofs.Rows.{length-received_rows, received_rows-below}

-- where each generation has as many rows
length-frames_from : (rows : ℕ → List ℕ) (c : ℕ) → ((g : ℕ) → length (rows g) ≡ c) → (a n : ℕ) → length (frames_from rows a n) ≡ n * c
length-frames_from rows c each a zero = sym (zero-mul c)
length-frames_from rows c each a (suc n) =
    let pair : ℕ → ℕ × ℕ = λ r. (a, r) in
    omega (arith, length-append (map pair (rows a)) (frames_from rows (a + 1) n), length-map (rows a) pair, each a, length-frames_from rows c each (a + 1) n, suc-mul n c)

pub trial_frames_are_frames : TrialFramesAreFrames
trial_frames_are_frames t channel word ticket possible =
    let rows = received_rows t channel word in
    let n = generations t in
    let c = t.code.l - channel.erase + channel.inject in
    let count = length-frames_from rows c (λ g. length-received_rows t channel word g ticket possible) 0 n in
    let narrow : c ≤ MAX_WIDTH = omega (arith, possible.inject, ticket.narrow.wide) in
    record {
      count = count;
      few = omega (arith, count, mul-le-mul ticket.few narrow);
      in_range = All-frames (λ f. IsFrame t (Vector f.0 f.1)) rows 0 n (λ g above below.
          All-weaker (λ r. r < 2 ^ width t.code) (λ r. IsFrame t (Vector g r)) (λ r small. (omega (arith, below), small)) (rows g) (received_rows-below t channel word g ticket possible));
    }

pub dealing_is_a_permutation : DealingIsAPermutation
dealing_is_a_permutation n frames some = (all_dealt-permuted n frames some, λ i. length-dealt_from 0 n i frames)

pub dealing_keeps_rows : DealingKeepsRows
dealing_keeps_rows t channel word n g some below =
    let frames = trial_frames t channel word in
    let rows = received_rows t channel word g in
    let others = rows_of g (all_dealt n frames) in
    let own : rows_of g frames ≡ rows = rows_of-frames (received_rows t channel word) 0 (generations t) g (omega arith) (omega (arith, below)) in
    let permuted = subst (λ l. IsPermutation l others) own (rows_of-all_dealt n g frames some) in
    record {
      permuted = permuted;
      count = length_permutation rows others permuted;
      spans = HaveSameSpan-from_members others rows (in_span-permuted others rows (IsPermutation-sym rows others permuted));
    }
