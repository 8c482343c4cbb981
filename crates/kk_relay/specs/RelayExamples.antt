-- A relay under the ticket of one byte, whose rows have six bits, with one combination for each data frame.
use Rattle.std.specs.Prelude.{◌≡◌, refl, ℕ, ◌==◌, if◌then◌else◌, [], ◌∷◌}
use Rattle.kk_code.specs.Ticket.{one_byte}
use Rattle.kk_outside.specs.declared.event.Event.TheVariants.{Datagram, Fault}
use Rattle.kk_rows.specs.Combination.{combination}
use Rattle.kk_rows.specs.Span.{in_span, innovative_after}
use Rattle.kk_frame.specs.Datagram.{up_to_end, readings, data_frames}
use Rattle.kk_frame.specs.EventExamples.{at_most}
use Rattle.kk_frame.specs.Events.{end_with, shortest_prefix}
use Rattle.kk_frame.specs.Frame.{frame_text, frame_fault, frame_read}
use Rattle.kk_frame.specs.FrameExamples.{data_frame, end_frame}
use Rattle.kk_frame.specs.Generation.{rows_of}
use Rattle.kk_relay.specs.Relaying.{held, sent_after, relayed, relay_list}

-- the words 1, 3 and 3
abbrev pub words : ℕ → ℕ
words i = if i == 0 then 1 else 3

pub two_datagrams_and_end : relay_list one_byte (at_most 10) 1 words (Datagram (data_frame 0 13) ∷ Datagram (data_frame 0 17) ∷ Datagram end_frame ∷ []) ≡ data_frame 0 13 ∷ data_frame 0 28 ∷ end_frame ∷ []
unfolding combination innovative_after in_span rows_of sent_after frame_text end_with shortest_prefix readings up_to_end data_frames frame_read frame_fault
two_datagrams_and_end = refl

-- a fault in place of END
pub no_end_after_a_fault : relay_list one_byte (at_most 10) 1 words (Datagram (data_frame 0 13) ∷ Datagram (data_frame 0 17) ∷ Fault ∷ []) ≡ data_frame 0 13 ∷ data_frame 0 28 ∷ []
unfolding combination innovative_after in_span rows_of sent_after frame_text end_with shortest_prefix readings up_to_end data_frames frame_read frame_fault
no_end_after_a_fault = refl

-- the row 0 is never innovative, so nothing is sent for it and no word is drawn; the other generation has a row of its own
pub no_word_without_a_row : relayed 1 words ((0, 0) ∷ (0, 13) ∷ (1, 0) ∷ (0, 17) ∷ []) ≡ (0, 13) ∷ (0, 28) ∷ []
unfolding combination innovative_after in_span rows_of sent_after
no_word_without_a_row = refl

-- a row in the span of those before it brings a combination of them, and isn't held
pub a_row_again : relayed 2 words ((0, 13) ∷ (0, 13) ∷ []) ≡ (0, 13) ∷ (0, 13) ∷ (0, 13) ∷ (0, 13) ∷ []
unfolding combination innovative_after in_span rows_of sent_after
a_row_again = refl

pub held_once : held ((0, 13) ∷ (1, 8) ∷ (0, 13) ∷ (0, 17) ∷ []) 0 ≡ 13 ∷ 17 ∷ []
unfolding innovative_after in_span rows_of
held_once = refl
