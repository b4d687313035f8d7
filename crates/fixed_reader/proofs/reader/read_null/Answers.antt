use Rattle.fixed_reader.proofs.Reading.{null_more, null_bad}
use Rattle.fixed_reader.proofs.reader.read_null.Goals as goal

pub returns-then-row-i-ne0 : goal.returns-then-row-i-ne0
returns-then-row-i-ne0 c =
    null_bad c.args.row.now _ c.requires c.if-room-width.false _ c.loop-i.invariant c.loop-i-test.true c.if-row-i-ne0.true

pub loop-i-preserved : goal.loop-i-preserved
loop-i-preserved c =
    null_more c.args.row.now _ c.requires c.if-room-width.false _ c.loop-i.invariant c.loop-i-test.true c.if-row-i-ne0.false
