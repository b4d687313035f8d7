-- `printer::print` meets its contract: 25 where more follows, and else the output for what was read. Assumes nothing.
use native.Mathlib.Omega.{arith}
use Rattle.printer.proofs.Output.{printed_more, printed_whole}
use Rattle.printer.proofs.print.Goals as goal

pub returns-then-more : goal.returns-then-more
returns-then-more c =
    printed_more _ _ _ c.args.more _ c.if-more.true (omega arith) c.put_refused.ensures

pub returns : goal.returns
returns c =
    printed_whole _ _ _ c.args.more _ c.if-more.false (omega arith) c.print_input.ensures
