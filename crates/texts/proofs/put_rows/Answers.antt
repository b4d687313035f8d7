use native.Mathlib.Numerals.{add-one}
use native.Mathlib.Omega.{arith}
use Rattle.texts.proofs.Rows.{lined_begin, lined_room, lined_more, lined_wrote, row_rises, row_inside}
use Rattle.texts.proofs.put_rows.Goals as goal

pub loop-i-init : goal.loop-i-init
loop-i-init c = lined_begin _ _ _ _

pub bounds-offsets-i : goal.bounds-offsets-i
bounds-offsets-i c = omega (arith, c.requires.cuts.there)

pub bounds-offsets-i-in-loop-i : goal.bounds-offsets-i-in-loop-i
bounds-offsets-i-in-loop-i c = omega (arith, c.requires.cuts.there)

pub slice_bounds-put_row-count : goal.slice_bounds-put_row-count
slice_bounds-put_row-count c = row_rises c.requires.cuts _ c.loop-i-test.true

pub slice_bounds-put_row-start : goal.slice_bounds-put_row-start
slice_bounds-put_row-start c = row_rises c.requires.cuts _ c.loop-i-test.true

pub slice_bounds-put_row-end : goal.slice_bounds-put_row-end
slice_bounds-put_row-end c = row_inside c.requires.cuts _ c.loop-i-test.true

pub put_row-at-requires : goal.put_row-at-requires
put_row-at-requires c =
    rw (add-one c.loop-i.i) (lined_room c.loop-i.invariant c.loop-i-test.true c.requires.offsets_in_bounds)

pub loop-i-preserved : goal.loop-i-preserved
loop-i-preserved c =
    lined_more c.loop-i.invariant c.loop-i-test.true (rw (add-one c.loop-i.i) at c.put_row-at.ensures)

pub shape_of-out : goal.shape_of-out
shape_of-out c = c.loop-i.invariant.turns.1.same

pub returns : goal.returns
returns c = lined_wrote c.loop-i.invariant c.loop-i-test.false
