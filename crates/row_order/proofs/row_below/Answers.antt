-- `row_order::row_below` meets its contract: each row lies between its offsets. Assumes nothing.
use native.Mathlib.Numerals.{add-one}
use Rattle.row_order.proofs.row_below.Goals as goal

pub returns : goal.returns
returns c =
    let args = c.args in
    rw (add-one args.r, add-one args.q) at c.below.ensures
