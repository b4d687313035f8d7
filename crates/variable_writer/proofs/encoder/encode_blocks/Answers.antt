use Prim.Native.Nat.{◌+◌, ◌<◌}
use mathlib.Core.Path.{refl, ◌∙◌}
use native.Mathlib.Omega.{arith}
use lib.ListN.{length, drop, length-drop}
use Rattle.variable_writer.proofs.Even.{even_is}
use Rattle.variable_writer.proofs.Writing.{spread_start, spread_even, more_room, spread_more, last_room, spread_end}
use Rattle.variable_writer.proofs.encoder.encode_blocks.Goals as goal

pub loop-i-init : goal.loop-i-init
loop-i-init c =
    let A = c.args in
    spread_start _ _ _ _ _ _ _ _ c.requires.from_in_bounds
    (even_is A.size (drop A.from A.val.now) c.requires.size_nonzero.0 (omega (arith, c.requires.from_in_bounds, length-drop A.from A.val.now)))

pub encode_full-requires : goal.encode_full-requires
encode_full-requires c = record { size_value = c.requires.size_nonzero.2; size_in_bounds = omega arith; size_in_bounds_2 = let the_full : c.loop-i.place + c.args.size < length c.loop-i.out = more_room c.loop-i.invariant _ refl (λ _. c.requires.size_nonzero.0) c.loop-i-test.true c.requires.val_in_bounds in the_full }

pub overflow_add-place-in-loop-i : goal.overflow_add-place-in-loop-i
overflow_add-place-in-loop-i c = omega (arith, (let the_full : c.loop-i.place + c.args.size < length c.loop-i.out = more_room c.loop-i.invariant _ refl (λ _. c.requires.size_nonzero.0) c.loop-i-test.true c.requires.val_in_bounds in the_full))

pub loop-i-preserved : goal.loop-i-preserved
loop-i-preserved c =
    spread_even (spread_more c.loop-i.invariant _ refl (λ _. c.requires.size_nonzero.0) c.loop-i-test.true _ c.encode_full.ensures)

pub encode_last-requires : goal.encode_last-requires
encode_last-requires c =
    let left = c.loop-i.invariant.some_left in
    record { size_nonzero = c.requires.size_nonzero; in_bounds = c.requires.in_bounds; from_in_bounds = (left, omega (arith, left)); size_in_bounds = let the_last : c.loop-i.place + c.args.size < length c.loop-i.out = last_room c.loop-i.invariant _ refl c.loop-i-test.false c.requires.val_in_bounds in the_last }

pub overflow_add-result : goal.overflow_add-result
overflow_add-result c = omega (arith, (let the_last : c.loop-i.place + c.args.size < length c.loop-i.out = last_room c.loop-i.invariant _ refl c.loop-i-test.false c.requires.val_in_bounds in the_last))

pub overflow_add-result-2 : goal.overflow_add-result-2
overflow_add-result-2 c = omega (arith, (let the_last : c.loop-i.place + c.args.size < length c.loop-i.out = last_room c.loop-i.invariant _ refl c.loop-i-test.false c.requires.val_in_bounds in the_last))

pub shape_of-out : goal.shape_of-out
shape_of-out c = c.encode_last.auto.out ∙ c.loop-i.invariant.wrote.same

pub returns : goal.returns
returns c = spread_end c.loop-i.invariant _ refl c.loop-i-test.false _ c.encode_last.ensures
