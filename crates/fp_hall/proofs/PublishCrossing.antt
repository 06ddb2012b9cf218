-- Boards, evaluators and what seats are handed may cross threads.
use denote.Param.Send.{IsSend, IsSync, sendable}
use Rattle.std.proofs.Crossing.{crosses}
use Rattle.fp_group_commit.proofs.part.Part.TheSendSync as part
use Rattle.fp_publish.proofs.seats.Seats.TheSendSync as seats
use Rattle.fp_publish.proofs.shown.Shown.TheSendSync as shown
use Rattle.fp_publish.specs.contracts.board.Board as board
use Rattle.fp_publish.specs.contracts.evaluator.Evaluator as evaluator
use Rattle.fp_publish.specs.contracts.evaluator.Held as held
use Rattle.fp_publish.specs.contracts.page.Page as page
use Rattle.fp_publish.specs.contracts.page.Step as step
use Rattle.fp_publish.specs.contracts.seats.Seats as seats_type
use Rattle.left_right.proofs.reader.Reader.TheSendSync as reader
use Rattle.left_right.proofs.reader.Reading.TheSendSync as reading
use Rattle.left_right.proofs.writer.Writer.TheSendSync as writer
use Rattle.fp_hall.proofs.Crossing.{edit_field_sent, flags_sent, flags_shared}

page_sent : IsSend page.the_row
page_sent = search (sendable, flags_sent, part.the_send) depth 20

page_shared : IsSync page.the_row
page_shared = search (sendable, flags_shared, part.the_sync) depth 20

step_sent : IsSend step.the_row
step_sent = search (sendable, edit_field_sent, flags_sent, part.the_send) depth 20

held_sent : IsSend (held.the_field).row
held_sent = search (sendable, crosses, reader.the_field_send, reading.the_field_send, page_shared) depth 20

pub evaluator_sent : IsSend evaluator.the_row
evaluator_sent = search (sendable, held_sent, shown.the_send) depth 20

pub board_sent : IsSend board.the_row
board_sent = search (sendable, crosses, writer.the_field_send, page_sent, page_shared, step_sent, shown.the_send) depth 20

pub seats_sent : IsSend (seats_type.the_field).row
seats_sent = seats.the_field_send
