-- `block_moves::marked` meets its contract. Assumes nothing.
use Prim.Native.Nat.{◌+◌}
use mathlib.Core.Path.{ap}
use Rattle.block_moves.proofs.Marks.{mark, mark_fits}
use Rattle.block_moves.proofs.marked.Goals as goal

pub overflow_add-result : goal.overflow_add-result
overflow_add-result c =
    let a = c.args in
    record { fits = rw (mark a.byte a.seen c.requires.seen_bound) (mark_fits a.byte a.marks a.seen c.requires.seen_bound c.requires.marks_bound) }

pub returns : goal.returns
returns c =
    let a = c.args in
    ap (λ n. a.marks + n) (mark a.byte a.seen c.requires.seen_bound)
