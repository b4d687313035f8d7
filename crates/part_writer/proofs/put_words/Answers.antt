use Prim.Native.Nat.{◌+◌, ◌-◌, ◌*◌}
use mathlib.Core.Path.{◌∙◌}
use native.Mathlib.Omega.{arith}
use Rattle.basics.proofs.Append.{walk_start}
use Rattle.part_writer.proofs.Parts.{part_place}
use Rattle.part_writer.proofs.Words.{lower_long, words_more, words_whole, words_end}
use Rattle.part_writer.proofs.put_words.Goals as goal

pub loop-left-init : goal.loop-left-init
loop-left-init c = (omega arith, walk_start _ _ _)

pub put_number-next-requires-in-loop-left-clause-at_in_bounds : goal.put_number-next-requires-in-loop-left-clause-at_in_bounds
put_number-next-requires-in-loop-left-clause-at_in_bounds c =
    let A = c.args in
    let call = c.put_number-next in
    let long = lower_long A.descending A.values.now A.from in
    let inv = c.loop-left.invariant in
    omega (
      arith,
      inv.1.long,
      inv.1.same,
      call.auto.out,
      long c.loop-left.left (omega (arith, inv.0)),
      long (A.words - 1) (omega arith),
      part_place A.descending A.values.now 8 (A.from + 8 * (A.words - 1)) A.at (omega arith) call.ensures.place,
    )

pub loop-left-preserved : goal.loop-left-preserved
loop-left-preserved c =
    let A = c.args in (
      omega (arith, c.loop-left.invariant.0),
      words_more A.descending A.values.now A.from c.loop-left.left (c.loop-left.left - 1) (omega arith) c.loop-left.invariant.1
          c.put_number-next-in-loop-left.ensures,
    )

pub shape_of-out : goal.shape_of-out
shape_of-out c = c.loop-left.invariant.1.same ∙ c.put_number-next.auto.out

pub returns : goal.returns
returns c =
    let A = c.args in
    let d = A.descending in
    let s = A.values.now in
    words_whole d s A.from A.words (A.words - 1) (omega arith) c.requires.words_in_bounds c.put_number-next.ensures
    (words_end d s A.from c.loop-left.left (omega (arith, c.loop-left-test.false)) c.loop-left.invariant.1)
