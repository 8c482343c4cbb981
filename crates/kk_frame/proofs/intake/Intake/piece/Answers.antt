use Rattle.std.proofs.Common.{◌≡◌, ◌++◌, [], Ok, Err, refl, sym, ap, ◌∙◌}
use Rattle.kk_outside.specs.declared.event.Event.TheVariants.{Datagram}
use Rattle.kk_frame.specs.declared.frame.TheConstants.{FRAME_BYTES}
use Rattle.kk_frame.specs.Frame.{Vector, End, frame_read}
use Rattle.kk_frame.specs.FrameView.{value}
use Rattle.kk_frame.specs.Datagram.{data_frames}
use Rattle.kk_frame.specs.Events.{taken}
use Rattle.kk_frame.proofs.Readings.{readings-one, IsCounted-one, one_vector, one_end, one_fault, data_frames-vector, data_frames-end, data_frames-fault, refused_of-fault}
use Rattle.kk_frame.proofs.Intakes.{taken-push}
use Rattle.kk_frame.proofs.intake.Intake.piece.Goals as goal

pub returns-in-Ok-Vector-clause-frames : goal.returns-in-Ok-Vector-clause-frames
returns-in-Ok-Vector-clause-frames c =
    let t = c.args.ticket.now in
    let bytes = c.args.bytes.now in
    let read : frame_read t bytes ≡ Ok (Vector c.in-Ok-Vector.generation c.in-Ok-Vector.row.0) = c.in-Ok-Vector.ensures.exact ∙ ap (λ f. Ok (value f)) c.in-Ok-Vector.field-0-is in
    sym (ap data_frames (readings-one t bytes _ c.told-bytes read) ∙ data_frames-vector _ _)

pub returns-in-Ok-Vector-clause-after : goal.returns-in-Ok-Vector-clause-after
returns-in-Ok-Vector-clause-after c = λ events h.
    let t = c.args.ticket.now in
    let bytes = c.args.bytes.now in
    let read : frame_read t bytes ≡ Ok (Vector c.in-Ok-Vector.generation c.in-Ok-Vector.row.0) = c.in-Ok-Vector.ensures.exact ∙ ap (λ f. Ok (value f)) c.in-Ok-Vector.field-0-is in
    c.count_datagram.ensures.after t events bytes h (IsCounted-one t bytes _ _ _ _ c.told-bytes read (one_vector _ _) refl refl)

pub returns-in-Ok-Vector-clause-taken : goal.returns-in-Ok-Vector-clause-taken
returns-in-Ok-Vector-clause-taken c = λ events h.
    let t = c.args.ticket.now in
    let bytes = c.args.bytes.now in
    let read : frame_read t bytes ≡ Ok (Vector c.in-Ok-Vector.generation c.in-Ok-Vector.row.0) = c.in-Ok-Vector.ensures.exact ∙ ap (λ f. Ok (value f)) c.in-Ok-Vector.field-0-is in
    taken-push t events (Datagram bytes) c.args.self.now h c.requires
    ∙ ap (λ frames. taken FRAME_BYTES t c.args.self.now.limits events ++ frames) (ap data_frames (readings-one t bytes _ c.told-bytes read) ∙ data_frames-vector _ _)

pub returns-in-Ok-End-clause-frames : goal.returns-in-Ok-End-clause-frames
returns-in-Ok-End-clause-frames c =
    let t = c.args.ticket.now in
    let bytes = c.args.bytes.now in
    let read : frame_read t bytes ≡ Ok End = c.in-Ok-End.ensures.exact ∙ ap (λ f. Ok (value f)) c.in-Ok-End.field-0-is in
    sym (ap data_frames (readings-one t bytes _ c.told-bytes read) ∙ data_frames-end)

pub returns-in-Ok-End-clause-after : goal.returns-in-Ok-End-clause-after
returns-in-Ok-End-clause-after c = λ events h.
    let t = c.args.ticket.now in
    let bytes = c.args.bytes.now in
    let read : frame_read t bytes ≡ Ok End = c.in-Ok-End.ensures.exact ∙ ap (λ f. Ok (value f)) c.in-Ok-End.field-0-is in
    c.count_datagram-in-Ok-End.ensures.after t events bytes h (IsCounted-one t bytes _ _ _ _ c.told-bytes read one_end refl refl)

pub returns-in-Ok-End-clause-taken : goal.returns-in-Ok-End-clause-taken
returns-in-Ok-End-clause-taken c = λ events h.
    let t = c.args.ticket.now in
    let bytes = c.args.bytes.now in
    let read : frame_read t bytes ≡ Ok End = c.in-Ok-End.ensures.exact ∙ ap (λ f. Ok (value f)) c.in-Ok-End.field-0-is in
    taken-push t events (Datagram bytes) c.args.self.now h c.requires
    ∙ ap (λ frames. taken FRAME_BYTES t c.args.self.now.limits events ++ frames) (ap data_frames (readings-one t bytes _ c.told-bytes read) ∙ data_frames-end)

pub returns-in-Err-clause-frames : goal.returns-in-Err-clause-frames
returns-in-Err-clause-frames c =
    let t = c.args.ticket.now in
    let bytes = c.args.bytes.now in
    let read : frame_read t bytes ≡ Err c.in-Err.fault = c.in-Err.ensures.exact in
    sym (ap data_frames (readings-one t bytes _ c.told-bytes read) ∙ data_frames-fault _)

pub returns-in-Err-clause-after : goal.returns-in-Err-clause-after
returns-in-Err-clause-after c = λ events h.
    let t = c.args.ticket.now in
    let bytes = c.args.bytes.now in
    let read : frame_read t bytes ≡ Err c.in-Err.fault = c.in-Err.ensures.exact in
    c.count_datagram-in-Err.ensures.after t events bytes h (IsCounted-one t bytes _ _ _ _ c.told-bytes read (one_fault _) (c.count.ensures ∙ sym (refused_of-fault 0 [] c.in-Err.fault)) refl)

pub returns-in-Err-clause-taken : goal.returns-in-Err-clause-taken
returns-in-Err-clause-taken c = λ events h.
    let t = c.args.ticket.now in
    let bytes = c.args.bytes.now in
    let read : frame_read t bytes ≡ Err c.in-Err.fault = c.in-Err.ensures.exact in
    taken-push t events (Datagram bytes) c.args.self.now h c.requires
    ∙ ap (λ frames. taken FRAME_BYTES t c.args.self.now.limits events ++ frames) (ap data_frames (readings-one t bytes _ c.told-bytes read) ∙ data_frames-fault _)
