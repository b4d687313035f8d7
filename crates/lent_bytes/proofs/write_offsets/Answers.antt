use Rattle.basics.proofs.Append.{turns_begin}
use Rattle.lent_bytes.proofs.NumberBytes.{stored_more, stored_end}
use Rattle.lent_bytes.proofs.write_offsets.Goals as goal

pub loop-i-init : goal.loop-i-init
loop-i-init c = turns_begin _ _ _ 0

pub loop-i-preserved : goal.loop-i-preserved
loop-i-preserved c =
    stored_more c.args.numbers.now _ _ _ _ c.loop-i.invariant c.loop-i-test.true c.put.ensures

pub returns : goal.returns
returns c =
    stored_end c.args.numbers.now _ _ _ c.loop-i.invariant c.loop-i-test.false c.requires
