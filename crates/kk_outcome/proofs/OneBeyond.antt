-- One dimension beyond the radius a generation has the answer that was sent, or none, and so has the file.
use Rattle.std.proofs.Common.{◌≡◌, ℕ, ◌<◌, List, map, All, IsSome, Option, Some, None, get_or, refl, ap, sym, ◌∙◌, arith}
use Rattle.std.specs.List.{range_with_len}
use Rattle.std.specs.Prelude.{is_some}
use Rattle.std.specs.Option.{option_map}
use Rattle.std.proofs.lemmas.Option.{same_Some}
use Rattle.std.proofs.lemmas.List.Elements.{All-get_or}
use Rattle.std.proofs.lemmas.List.FromFn.{length-map-range_with_len, get_or-map-range_with_len}
use Rattle.kk_code.specs.Decoding.{answer}
use Rattle.kk_code.specs.Ticket.{generations}
use Rattle.kk_code.proofs.Enumeration.{one_beyond_is_never_wrong}
use Rattle.kk_assemble.specs.FileBits.{cut, joined}
use Rattle.kk_assemble.specs.Messages.{all_messages}
use Rattle.kk_assemble.proofs.AllMessages.{all_messages-is_some}
use Rattle.kk_assemble.proofs.Cuts.{cut_is_message, file_from_answers}
use Rattle.kk_outcome.specs.Laws.{OneBeyondIsNoOtherFile}
use Rattle.kk_outcome.proofs.Outcomes.{ticket_code}

-- what is made of the messages was made of all of them
is_some-unmapped : {X Y : Type 0} (f : X → Y) (found : Option X) (made : Y) → option_map f found ≡ Some made → IsSome found
is_some-unmapped f None made none = absurd cc
is_some-unmapped f (Some x) made some = refl

-- an answer that is there is what it is
found : {X : Type 0} (o : Option X) → IsSome o → (x : X) × (o ≡ Some x)
found None none = absurd cc
found (Some x) some = (x, refl)

pub one_beyond_is_no_other_file : OneBeyondIsNoOtherFile
one_beyond_is_no_other_file t sent made space ticket len bytes near is =
    let n = generations t in
    let answer_at : ℕ → Option (List ℕ) = λ g. answer t.code (space g) in
    let answers = map answer_at (range_with_len 0 n) in
    let all : All IsSome answers = all_messages-is_some answers (is_some-unmapped (joined t.code t.length) (all_messages answers) made is) in
    let each : (g : ℕ) → g < n → answer_at g ≡ Some (cut t.code sent g) = λ g below.
    let there : get_or answers g None ≡ answer_at g = get_or-map-range_with_len answer_at 0 n g g None below (omega arith) in
    let some : IsSome (get_or answers g None) = All-get_or IsSome answers g None (omega (arith, below, length-map-range_with_len answer_at 0 n)) all in
    let v = found (answer_at g) (sym (ap is_some there) ∙ some) in
    v.1 ∙ ap Some (sym (one_beyond_is_never_wrong.same t.code (ticket_code t ticket) (space g) (cut t.code sent g) v.0 (cut_is_message t.code sent g) (near g below) v.1)) in
    same_Some made sent (sym is ∙ file_from_answers t sent answer_at ticket.code len bytes each)
