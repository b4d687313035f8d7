-- `fixed_decoder::slots::put_number` meets its contract: the number's bytes, or zeros. Assumes nothing.
use Rattle.fixed_decoder.proofs.Storing.{null_or}
use Rattle.fixed_decoder.proofs.slots.put_number.Goals as goal

pub returns : goal.returns
returns g c = rw (c.put.ensures, c.or_zero.ensures, c.number_at-value.ensures) (null_or c.args.null _ _ _ _)
