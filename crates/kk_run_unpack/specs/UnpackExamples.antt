-- The capture of the one byte A0, whole and cut short.
use Rattle.std.specs.Prelude.{◌≡◌, refl, Some, None, [], ◌∷◌, take}
use Rattle.kk_field.specs.Polynomial.{product, product_below, remainder, remainder_below}
use Rattle.kk_field.specs.Field.{field_product, frobenius}
use Rattle.kk_linpoly.specs.LinPoly.{value_from}
use Rattle.kk_rows.specs.Span.{in_span, innovative_after}
use Rattle.kk_code.specs.Decoding.{within_radius, message_at, answer}
use Rattle.kk_code.specs.Ticket.{one_byte}
use Rattle.kk_frame.specs.Frame.{frame_fault, frame_read}
use Rattle.kk_frame.specs.Datagram.{up_to_end, readings, data_frames}
use Rattle.kk_frame.specs.Events.{end_with, shortest_prefix}
use Rattle.kk_frame.specs.FrameExamples.{capture}
use Rattle.kk_assemble.specs.FileBits.{number_from}
use Rattle.kk_assemble.specs.Messages.{all_messages}
use Rattle.kk_frame.specs.Generation.{rows_of}
use Rattle.kk_run_unpack.specs.Unpack.{unpacked, read_length}

pub capture_unpacks : unpacked one_byte 10 capture ≡ Some (160 ∷ [])
unfolding unpacked rows_of all_messages number_from end_with shortest_prefix readings up_to_end data_frames frame_read frame_fault answer within_radius message_at innovative_after in_span value_from frobenius field_product product product_below remainder remainder_below
capture_unpacks = refl

pub capture_is_read : read_length one_byte 10 capture ≡ 200
unfolding read_length end_with shortest_prefix readings up_to_end data_frames frame_read frame_fault
capture_is_read = refl

-- of the first 50 bytes two rows are read, which decode the first generation alone
pub cut_short : unpacked one_byte 10 (take 50 capture) ≡ None
unfolding unpacked rows_of all_messages number_from end_with shortest_prefix readings up_to_end data_frames frame_read frame_fault answer within_radius message_at innovative_after in_span value_from frobenius field_product product product_below remainder remainder_below
cut_short = refl
