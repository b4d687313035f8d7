-- `block_moves::lowest` meets its contract: the zeros below the lowest bit that is set are its place. Assumes nothing.
use mathlib.Core.Path.{◌∙◌}
use native.Mathlib.Omega.{arith}
use Rattle.block_moves.proofs.Marks.{zeros_below}
use Rattle.block_moves.proofs.lowest.Goals as goal

pub returns : goal.returns
returns c = (c.min.ensures ∙ zeros_below 32 64 c.args.marks (omega arith), omega arith)
