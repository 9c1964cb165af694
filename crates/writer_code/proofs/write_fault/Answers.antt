-- `write_fault`: the system's fault first, then the room.
use borrow.Author.Tests.{lt-ltb, le-ltb}
use lib.ListN.{length}
use Rattle.system.proofs.Within.{handed_on, passed_none, first_refused, then_second}
use Rattle.writer.specs.File.{file_of}
use Rattle.writer.specs.Writing.{room_fault, system_fault, write_fault}
use Rattle.writer.proofs.Writable.{faultless-of}
use Rattle.writer_code.proofs.write_fault.Goals as goal

pub returns-in_err-system_fault : goal.returns-in_err-system_fault
unfolding write_fault
returns-in_err-system_fault c =
    let a = c.args in
    handed_on _ c.from_residual.ensures.1 (first_refused (system_fault a.y) (room_fault (length (file_of a.y)) a.room) _ c.in_err-system_fault.ensures)

pub file_size-requires : goal.file_size-requires
file_size-requires c = (faultless-of c.args.y (passed_none (system_fault c.args.y) c.in_ok-system_fault.ensures)).count.1

pub returns-then-room-file_size : goal.returns-then-room-file_size
unfolding write_fault
returns-then-room-file_size c =
    let a = c.args in
    then_second (system_fault a.y) (room_fault (length (file_of a.y)) a.room) _ c.in_ok-system_fault.ensures (rw (← c.file_size.ensures, lt-ltb _ _ c.if-room-file_size.true))

pub returns : goal.returns
unfolding write_fault
returns c =
    let a = c.args in
    then_second (system_fault a.y) (room_fault (length (file_of a.y)) a.room) _ c.in_ok-system_fault.ensures (rw (← c.file_size.ensures, le-ltb _ _ c.if-room-file_size.false))
