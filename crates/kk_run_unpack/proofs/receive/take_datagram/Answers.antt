use Rattle.std.proofs.Common.{◌≡◌, ℕ, ◌^◌, ◌<◌, ◌∷◌, ◌++◌, [], get_or, subst, ap, sym, ◌∙◌, arith}
use Rattle.std.proofs.lemmas.List.{get_or_read, append-nil}
use Rattle.std.proofs.Math.ListN.{set}
use Rattle.kk_rows.specs.Space.{Space}
use Rattle.kk_rows.specs.Span.{in_span}
use Rattle.kk_outside.specs.declared.event.Event.TheVariants.{Datagram}
use Rattle.kk_code.specs.Codeword.{width}
use Rattle.kk_frame.specs.declared.frame.TheConstants.{FRAME_BYTES}
use Rattle.kk_frame.specs.Events.{taken}
use Rattle.kk_run_unpack.specs.Spaces.{AreSpanned, no_space}
use Rattle.kk_run_unpack.proofs.Spanned.{AreSpanned-push}
use Rattle.kk_run_unpack.proofs.receive.take_datagram.Goals as goal

pub returns-in_default-clause-taken : goal.returns-in_default-clause-taken
returns-in_default-clause-taken c = λ events h.
    let t = c.args.ticket.now in
    let now = c.args.intake.now in
    let later = sym (c.in_default.ensures.taken events h.after ∙ append-nil (taken FRAME_BYTES t now.limits events)) ∙ ap (λ l. taken FRAME_BYTES t l (events ++ Datagram c.args.bytes.now ∷ [])) (sym c.piece.ensures.limits) in
    record {
      after = c.piece.ensures.after events h.after;
      spanned = subst (AreSpanned t c.args.spaces.now) later h.spanned;
    }

pub insert-requires : goal.insert-requires
insert-requires c =
    let g = c.in-Some.generation in
    let row = c.in-Some.row.0 in
    let spaces = c.args.spaces.now in
    let spanned = c.requires.spaces.1.spanned in
    let within = c.in-Some.ensures.in_range in
    let wide : width c.args.ticket.now.code ≡ (get_or spaces g no_space).width = sym (spanned.each g within.0).wide in
    let old = get_or_read spaces g c.index-spaces-generation.result (omega (arith, spanned.count, within.0)) c.index-spaces-generation.is no_space in
    let same = sym c.index-spaces-generation.is ∙ old in
    subst (λ (space : Space). row < 2 ^ space.width) (sym same) (subst (λ w. row < 2 ^ w) wide within.1)

pub returns-clause-taken : goal.returns-clause-taken
returns-clause-taken c = λ events h.
    let t = c.args.ticket.now in
    let g = c.in-Some.generation in
    let row = c.in-Some.row.0 in
    let spaces = c.args.spaces.now in
    let now = c.args.intake.now in
    let within = c.in-Some.ensures.in_range in
    let old = get_or_read spaces g c.index-spaces-generation.result (omega (arith, h.spanned.count, within.0)) c.index-spaces-generation.is no_space in
    let same = sym c.index-spaces-generation.is ∙ old in
    let span = λ (x : ℕ). c.insert.ensures.span x ∙ ap (λ (s : Space). in_span (s.rows ++ row ∷ []) x) same in
    let pushed = AreSpanned-push t spaces (taken FRAME_BYTES t now.limits events) g row c.insert.new.self h.spanned within.0 (c.insert.ensures.width ∙ ap (λ (s : Space). s.width) same) span in
    let later = sym (c.in-Some.ensures.taken events h.after) ∙ ap (λ l. taken FRAME_BYTES t l (events ++ Datagram c.args.bytes.now ∷ [])) (sym c.piece.ensures.limits) in
    record {
      after = c.piece.ensures.after events h.after;
      spanned = subst (AreSpanned t (set spaces g c.insert.new.self)) later pushed;
    }
