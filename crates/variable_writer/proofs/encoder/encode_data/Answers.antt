use Prim.Native.Nat.{◌+◌, ◌*◌}
use mathlib.Core.Path.{◌≡◌, refl}
use native.Mathlib.Nat.{add-zero}
use native.Mathlib.Omega.{arith}
use lib.ListN.{drop, length-drop}
use Rattle.format.specs.Field.{block_size}
use Rattle.laws.proofs.Lengths.{small}
use Rattle.laws.proofs.Stream.{block_size_room}
use Rattle.variable_writer.proofs.Even.{data_is}
use Rattle.variable_writer.proofs.Writing.{spread_start, more_room, spread_more, last_room, spread_end, later_room, spread_later}
use Rattle.variable_writer.proofs.encoder.encode_data.Goals as goal

pub loop-k-init : goal.loop-k-init
loop-k-init c =
    let A = c.args in
    let is = data_is (drop A.from A.val.now) (omega (arith, c.requires.from_in_bounds, length-drop A.from A.val.now)) in
    simp add-zero (spread_start block_size _ _ _ _ _ _ _ c.requires.from_in_bounds is)

pub encode_last-requires : goal.encode_last-requires
encode_last-requires c =
    let left = c.loop-k.invariant.some_left in
    record {
      size_nonzero = (omega arith, omega arith, refl);
      in_bounds = c.requires.in_bounds;
      from_in_bounds = (left, omega (arith, left, c.if-len-i-le-MINI_BLOCK_SIZE.true));
      size_in_bounds = last_room c.loop-k.invariant 8 (small _ c.loop-k-test.true) c.if-len-i-le-MINI_BLOCK_SIZE.true c.requires.val_in_bounds;
    }

pub returns-then-len-i-le-MINI_BLOCK_SIZE : goal.returns-then-len-i-le-MINI_BLOCK_SIZE
returns-then-len-i-le-MINI_BLOCK_SIZE c =
    spread_end c.loop-k.invariant 8 (small _ c.loop-k-test.true) c.if-len-i-le-MINI_BLOCK_SIZE.true _ c.encode_last.ensures

pub encode_full-requires : goal.encode_full-requires
encode_full-requires c = record {
  size_value = refl;
  size_in_bounds = omega arith;
  size_in_bounds_2 =
      more_room c.loop-k.invariant 8 (small _ c.loop-k-test.true) block_size_room c.if-len-i-le-MINI_BLOCK_SIZE.false c.requires.val_in_bounds;
}

pub loop-k-preserved : goal.loop-k-preserved
loop-k-preserved c =
    let A = c.args in
    let k = c.loop-k.k in
    let place : A.at + (k + 1) * 9 ≡ A.at + k * 9 + 9 = omega arith in
    let from : A.from + (k + 1) * 8 ≡ A.from + k * 8 + 8 = omega arith in
    rw (place, from)
    (spread_more c.loop-k.invariant 8 (small _ c.loop-k-test.true) block_size_room c.if-len-i-le-MINI_BLOCK_SIZE.false _ c.encode_full.ensures)

pub encode_blocks-requires-clause-val_in_bounds : goal.encode_blocks-requires-clause-val_in_bounds
encode_blocks-requires-clause-val_in_bounds c =
    let four : c.loop-k.k ≡ 4 = omega arith in
    later_room (rw four at c.loop-k.invariant) refl c.requires.val_in_bounds

pub returns : goal.returns
returns c =
    let four : c.loop-k.k ≡ 4 = omega arith in
    spread_later (rw four at c.loop-k.invariant) refl _ _ c.encode_blocks.ensures
