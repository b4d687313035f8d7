-- `block_moves::block_byte` meets its contract: a byte more, or the end byte. Assumes nothing.
use mathlib.Core.Path.{◌∙◌}
use native.Mathlib.Omega.{arith}
use Rattle.cutter_laws.proofs.RuleMoves.{size_most}
use Rattle.block_moves.proofs.Marks.{block_on, block_full}
use Rattle.block_moves.proofs.block_byte.Goals as goal

pub marked-requires : goal.marked-requires
marked-requires c = record { seen_bound = omega (arith, size_most c.args.k); marks_bound = c.requires.marks_bound }

pub returns-then-seen-block_size : goal.returns-then-seen-block_size
returns-then-seen-block_size c =
    let a = c.args in
    block_on a.k a.seen a.marks a.at a.byte _ (omega arith) c.marked.ensures

pub returns : goal.returns
returns c =
    let a = c.args in
    c.end_byte.ensures ∙ block_full a.k a.seen a.marks a.at a.byte (omega arith)
