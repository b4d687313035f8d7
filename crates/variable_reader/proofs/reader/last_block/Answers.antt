-- `variable_reader::reader::last_block` meets its contract: a law for each way out. Assumes nothing.
use Prim.Native.Nat.{◌+◌, ◌-◌}
use native.Mathlib.Omega.{arith}
use lib.ListN.{drop}
use Rattle.format.specs.Field.{directed}
use Rattle.laws.proofs.Directed.{length_directed}
use Rattle.variable_reader.proofs.Padding.{bad_few}
use Rattle.variable_reader.proofs.Reading.{ended_padding, ended_long, ended_done}
use Rattle.variable_reader.proofs.reader.last_block.Goals as goal

pub overflow_add-result : goal.overflow_add-result
overflow_add-result c =
    let A = c.args in
    let few = bad_few c.unpadded-bad.result (A.at + A.size - (A.at + A.end)) (drop (A.at + A.end) (directed A.descending A.row.now))
    c.unpadded-bad.ensures in
    omega (arith, few)

pub returns-then-bad-gt0 : goal.returns-then-bad-gt0
returns-then-bad-gt0 c =
    let A = c.args in
    ended_padding _ _ _ _ _ _ (length_directed A.descending A.row.now) c.requires.size_in_bounds c.requires.fact (omega arith) (omega arith) _
    c.unpadded-bad.ensures (omega arith)

pub returns-then-count-end-gt-MAX_SLOT : goal.returns-then-count-end-gt-MAX_SLOT
returns-then-count-end-gt-MAX_SLOT c =
    let A = c.args in
    ended_long _ _ _ _ _ _ (length_directed A.descending A.row.now) c.requires.size_in_bounds c.requires.fact (omega arith) (omega arith) _
    c.unpadded-bad.ensures (omega arith) (omega arith)

pub returns : goal.returns
returns c =
    let A = c.args in
    ended_done _ _ _ _ _ _ (length_directed A.descending A.row.now) c.requires.size_in_bounds c.requires.fact (omega arith) (omega arith) _
    c.unpadded-bad.ensures (omega arith) (omega arith)
