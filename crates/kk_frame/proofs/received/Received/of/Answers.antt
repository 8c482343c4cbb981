use Rattle.std.proofs.Common.{◌≡◌, ℕ, ◌<◌, false, List, [], ◌∷◌, ◌++◌, Ok, Err, length, map, take, refl, sym, ap, ◌∙◌, arith, length-take}
use Rattle.std.proofs.lemmas.List.{take_all, length-map}
use Rattle.kk_frame.specs.declared.frame.TheConstants.{FRAME_BYTES}
use Rattle.kk_frame.specs.Frame.{Vector, End, frame_read}
use Rattle.kk_frame.specs.FrameView.{value}
use Rattle.kk_frame.specs.Datagram.{Reading, has_end, pieces}
use Rattle.kk_frame.proofs.Readings.{readings-push, readings-none, readings-at, HasReadings-none, HasReadings-vector, HasReadings-fault, HasReadings-end, HasReadings-bad, HasReadings-good, length-data_frames, is_false}
use Rattle.kk_frame.proofs.received.Received.of.Goals as goal
use Rattle.kk_frame.proofs.received.Received.of.Goals.{in-Ok-Vector, in-Err}

pub returns-in_default : goal.returns-in_default
returns-in_default c =
    HasReadings-bad FRAME_BYTES c.args.ticket.now c.args.bytes.now _ (is_false _ c.in_default.ensures.length.1) (HasReadings-none 1 _ c.new.ensures refl refl)

pub loop-i-init : goal.loop-i-init
loop-i-init c = (HasReadings-none 0 _ c.new.ensures refl refl, refl)

pub push-requires : goal.push-requires
push-requires c =
    let rs = map (frame_read c.args.ticket.now) (take c.loop-i.i c.in-Ok.frames) in
    omega (arith, ap length c.loop-i.invariant.0.batch, length-data_frames rs, length-map (take c.loop-i.i c.in-Ok.frames) (frame_read c.args.ticket.now), length-take c.loop-i.i c.in-Ok.frames, c.loop-i-test.true, c.len-i-end.ensures, c.in-Ok.ensures.few)

pub returns-in-Ok-End : goal.returns-in-Ok-End
returns-in-Ok-End c =
    let t = c.args.ticket.now in
    let good = c.in-Ok.ensures.length.0 refl in
    let read : frame_read t c.at.result.now ≡ Ok End = c.in-Ok-End.ensures.exact ∙ ap (λ f. Ok (value f)) c.in-Ok-End.field-0-is in
    let front : List (List ℕ) → List Reading = λ frames. map (frame_read t) (take c.loop-i.i frames) in
    let are = c.in-Ok.ensures.pieces in
    let inside : c.loop-i.i < length (pieces FRAME_BYTES c.args.bytes.now) = rw (← are) (omega (arith, c.loop-i-test.true, c.len-i-end.ensures)) in
    let none = sym c.loop-i.invariant.0.end ∙ c.loop-i.invariant.1 in
    let whole = readings-at FRAME_BYTES t c.args.bytes.now c.loop-i.i c.at.result.now good inside (rw (← are) c.at.ensures) read (rw (← are) none) in
    HasReadings-good FRAME_BYTES t c.args.bytes.now _ _ good (whole ∙ ap (λ frames. front frames ++ Ok End ∷ []) (sym are))
    (HasReadings-end (front c.in-Ok.frames) c.loop-i.received _ c.loop-i.invariant.0 c.loop-i.invariant.1 refl refl refl)

pub loop-i-preserved : goal.loop-i-preserved
loop-i-preserved c =
    let t = c.args.ticket.now in
    let rs = map (frame_read t) (take c.loop-i.i c.in-Ok.frames) in
    let inside : c.loop-i.i < length c.in-Ok.frames = omega (arith, c.loop-i-test.true, c.len-i-end.ensures) in
    elim c.match-read_frame.branch [
      | in-Ok-Vector w ↦
          let read : frame_read t c.at.result.now ≡ Ok (Vector w.in-Ok-Vector.generation w.in-Ok-Vector.row.0) = w.in-Ok-Vector.ensures.exact ∙ ap (λ f. Ok (value f)) w.in-Ok-Vector.field-0-is in
          let more = readings-push t c.in-Ok.frames c.loop-i.i c.at.result.now _ inside c.at.ensures read in
          let end : c.match-read_frame.received.has_end ≡ c.loop-i.received.has_end = ap (λ r. r.has_end) w.received-is in (
            rw more (HasReadings-vector rs c.loop-i.received _ _ _ c.loop-i.invariant.0 c.loop-i.invariant.1 (ap (λ r. r.batch) w.received-is ∙ w.push.ensures) (ap (λ r. r.refused) w.received-is) end),
            end ∙ c.loop-i.invariant.1,
          )
      | in-Err w ↦
          let read : frame_read t c.at.result.now ≡ Err w.in-Err.fault = w.in-Err.ensures.exact in
          let more = readings-push t c.in-Ok.frames c.loop-i.i c.at.result.now _ inside c.at.ensures read in
          let end : c.match-read_frame.received.has_end ≡ c.loop-i.received.has_end = ap (λ r. r.has_end) w.received-is in (
            rw more (HasReadings-fault rs c.loop-i.received _ _ c.loop-i.invariant.0 c.loop-i.invariant.1 (ap (λ r. r.batch) w.received-is) (ap (λ r. r.refused) w.received-is ∙ w.count.ensures) end),
            end ∙ c.loop-i.invariant.1,
          )
    ]

pub returns : goal.returns
returns c =
    let t = c.args.ticket.now in
    let good = c.in-Ok.ensures.length.0 refl in
    let are = c.in-Ok.ensures.pieces in
    let all : take c.loop-i.i c.in-Ok.frames ≡ c.in-Ok.frames = take_all c.loop-i.i c.in-Ok.frames (omega (arith, c.loop-i-test.false, c.len-i-end.ensures)) in
    let h = rw all at c.loop-i.invariant.0 in
    let none : has_end (map (frame_read t) (pieces FRAME_BYTES c.args.bytes.now)) ≡ false = rw (← are) (sym h.end ∙ c.loop-i.invariant.1) in
    HasReadings-good FRAME_BYTES t c.args.bytes.now _ _ good (readings-none FRAME_BYTES t c.args.bytes.now good none ∙ ap (map (frame_read t)) (sym are)) h
