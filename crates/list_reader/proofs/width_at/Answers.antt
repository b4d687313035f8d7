-- `list_reader::width_at` meets its contract: outside kind 15 there is no width, and in kind 15 its two bytes are there,
-- since the description takes four. Assumes nothing.
use native.Mathlib.Omega.{arith}
use mathlib.Core.Path.{sym}
use lib.ListN.{get_or}
use Rattle.laws.proofs.Columns.{bytes_wide, bytes_least, width_wide, width_plain}
use Rattle.list_reader.proofs.width_at.Goals as goal

pub bounds-list-at : goal.bounds-list-at
bounds-list-at c = omega (arith, bytes_least (get_or c.args.list.now c.args.at 0))

pub returns-then-list-at-ne15 : goal.returns-then-list-at-ne15
returns-then-list-at-ne15 c = let a = c.args in sym (width_plain a.list.now a.at c.if-list-at-ne15.true)

pub bounds-list-at-2 : goal.bounds-list-at-2
bounds-list-at-2 c = omega (arith, bytes_wide _ c.if-list-at-ne15.false)

pub bounds-list-at-3 : goal.bounds-list-at-3
bounds-list-at-3 c = omega (arith, bytes_wide _ c.if-list-at-ne15.false)

pub returns : goal.returns
returns c =
    let a = c.args in
    omega (arith, width_wide a.list.now a.at c.if-list-at-ne15.false, c.from_le_bytes.ensures)
