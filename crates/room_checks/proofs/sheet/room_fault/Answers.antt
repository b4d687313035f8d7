-- `room_checks::sheet::room_fault` meets its contract: its test is the definition's. Assumes nothing.
use borrow.Author.Tests.{lt-ltb, le-ltb}
use Rattle.room_checks.proofs.sheet.room_fault.Goals as goal

pub returns-then-room-bytes : goal.returns-then-room-bytes
returns-then-room-bytes c = rw (lt-ltb _ _ c.if-room-bytes.true)

pub returns : goal.returns
returns c = rw (le-ltb _ _ c.if-room-bytes.false)
