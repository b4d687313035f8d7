use Prim.Native.Nat.{◌-◌}
use native.Mathlib.Omega.{arith}
use Rattle.number_reader.proofs.Words.{words_more, words_end}
use Rattle.number_reader.proofs.take_words.Goals as goal

pub loop-left-preserved : goal.loop-left-preserved
loop-left-preserved c =
    let A = c.args in
    let inv = c.loop-left.invariant in
    let more = words_more A.descending A.row.now A.from c.loop-left.left (c.loop-left.left - 1) (omega arith) (omega arith)
    (omega (arith, inv.few)) inv.wrote c.take_number.ensures in
    record { some = omega arith; few = omega (arith, inv.few); room = omega (arith, inv.room); wrote = more }

pub returns : goal.returns
returns c =
    let A = c.args in
    words_end A.descending A.row.now A.from c.loop-left.left (omega (arith, c.loop-left.invariant.some, c.loop-left-test.false))
    c.loop-left.invariant.wrote c.take_number-2.ensures
