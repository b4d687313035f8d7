-- So many columns are read, in each turn and at the end. Assumes nothing.
use native.Mathlib.Omega.{arith}
use Rattle.format.specs.Described.{code_at, column_of}
use Rattle.state_bytes.proofs.Reading.{columns_begin, columns_more, columns_end}
use Rattle.state_bytes.proofs.read.read_columns.Goals as goal

pub loop-i-init : goal.loop-i-init
loop-i-init c =
    columns_begin (λ j. column_of (code_at c.args.codes.now j)) c.args.count c.requires.count_le_max_columns _ c.default-columns.ensures

pub coded_column-requires : goal.coded_column-requires
coded_column-requires c = omega (arith, c.requires)

pub bounds-columns-i : goal.bounds-columns-i
bounds-columns-i c = omega (arith, c.requires)

pub loop-i-preserved : goal.loop-i-preserved
loop-i-preserved c =
    columns_more _ _ c.requires.count_le_max_columns _ _ _ c.loop-i.invariant c.loop-i-test.true c.coded_column.ensures

pub returns : goal.returns
returns c =
    columns_end _ _ c.requires.count_le_max_columns _ _ c.loop-i.invariant c.loop-i-test.false
