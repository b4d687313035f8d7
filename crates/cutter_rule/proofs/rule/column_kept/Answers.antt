-- `cutter_rule::rule::column_kept` meets its contract. Assumes nothing.
use native.Mathlib.Omega.{arith}
use borrow.Author.Tests.{lt-leb, le-leb}
use Rattle.format.specs.Limits.{max_width}
use Rattle.format.specs.Kinds.{value_bytes}
use Rattle.cutter_rule.proofs.rule.column_kept.Goals as goal

pub returns-then-width-gt-MAX_WIDTH : goal.returns-then-width-gt-MAX_WIDTH
returns-then-width-gt-MAX_WIDTH c =
    rw (lt-leb (value_bytes c.args.column.kind) max_width (omega arith))

pub returns-then-options : goal.returns-then-options
returns-then-options c =
    rw (le-leb (value_bytes c.args.column.kind) max_width (omega arith), c.if-options.true) c.may_fold.ensures

pub returns : goal.returns
returns c =
    rw (le-leb (value_bytes c.args.column.kind) max_width (omega arith), c.if-options.false)
