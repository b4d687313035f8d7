-- `row_pairs::row_at` meets its contract. Assumes nothing.
use mathlib.Core.Path.{sym, ◌∙◌}
use native.Mathlib.Omega.{arith}
use lib.ListN.{get_or-append}
use Rattle.format.specs.Lent.{eights}
use Rattle.row_pairs.proofs.Pairs.{rows_many, row_in_bytes}
use Rattle.row_pairs.proofs.row_at.Goals as goal

pub returns-then-k-count : goal.returns-then-k-count
returns-then-k-count c =
    let A = c.args in
    sym (get_or-append A.numbers.now (eights A.bytes.now) 0 A.k c.if-k-count.true)

pub overflow_mul-k : goal.overflow_mul-k
overflow_mul-k c = let A = c.args in omega (arith, rows_many A.numbers.now A.bytes.now, c.well_formed.1.0)

pub low-requires : goal.low-requires
low-requires c = let A = c.args in omega (arith, rows_many A.numbers.now A.bytes.now)

pub returns : goal.returns
returns c =
    c.low.ensures ∙ row_in_bytes c.args.numbers.now c.args.bytes.now c.args.k c.if-k-count.false c.requires
