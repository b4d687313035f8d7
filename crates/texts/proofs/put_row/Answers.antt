-- `texts::put_row` meets its contract: there is room for each pair of digits and for the newline, and they are what is written.
use native.Mathlib.Omega.{arith}
use lib.ListN.{length-set}
use Rattle.texts.proofs.Written.{hex_begin, hex_room, hex_last, hex_more, hex_wrote}
use Rattle.texts.proofs.put_row.Goals as goal

pub loop-byte-init : goal.loop-byte-init
loop-byte-init c = hex_begin _ _ _

pub bounds-out-place : goal.bounds-out-place
bounds-out-place c = omega (arith, hex_room c.loop-byte.invariant c.requires c.loop-byte-test.true)

pub overflow_add-out : goal.overflow_add-out
overflow_add-out c = omega (arith, hex_room c.loop-byte.invariant c.requires c.loop-byte-test.true, c.loop-byte.invariant.walk.same, c.well_formed)

pub bounds-out-place-in-loop-byte : goal.bounds-out-place-in-loop-byte
bounds-out-place-in-loop-byte c = simp length-set (omega (arith, hex_room c.loop-byte.invariant c.requires c.loop-byte-test.true))

pub overflow_add-place : goal.overflow_add-place
overflow_add-place c = omega (arith, hex_room c.loop-byte.invariant c.requires c.loop-byte-test.true, c.loop-byte.invariant.walk.same, c.well_formed)

pub loop-byte-preserved : goal.loop-byte-preserved
loop-byte-preserved c =
    hex_more c.loop-byte.invariant c.loop-byte-test.true _ _ c.digit.ensures c.digit-in-loop-byte.ensures

pub bounds-out-place-2 : goal.bounds-out-place-2
bounds-out-place-2 c = omega (arith, hex_last c.loop-byte.invariant c.requires c.loop-byte-test.false)

pub overflow_add-result : goal.overflow_add-result
overflow_add-result c = omega (arith, hex_last c.loop-byte.invariant c.requires c.loop-byte-test.false, c.loop-byte.invariant.walk.same, c.well_formed)

pub shape_of-out : goal.shape_of-out
shape_of-out c = simp length-set c.loop-byte.invariant.walk.same

pub returns : goal.returns
returns c = hex_wrote c.loop-byte.invariant c.loop-byte-test.false
