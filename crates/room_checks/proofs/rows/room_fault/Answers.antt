-- `room_checks::rows::room_fault` meets its contract: its tests are the definition's, in order. Assumes nothing.
use Rattle.room_checks.proofs.Rooms.{small_rows, few_offsets, enough_room}
use Rattle.room_checks.proofs.rows.room_fault.Goals as goal

pub returns-then-room-total : goal.returns-then-room-total
returns-then-room-total c = small_rows _ _ c.args.n c.args.ends c.if-room-total.true

pub returns-then-ends-count : goal.returns-then-ends-count
returns-then-ends-count c = few_offsets _ _ _ _ c.if-room-total.false c.if-ends-count.true

pub returns : goal.returns
returns c = enough_room _ _ _ _ c.if-room-total.false c.if-ends-count.false
