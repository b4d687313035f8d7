-- `comparer::write_orders` meets its contract. Inner loop: the columns before c tie, or one of them decides. Outer loop: the answers to
-- so many pairs are written. Both speak of the facts; what the facts know turns them into the sheets' rows. Assumes nothing.
use Prim.Native.Nat.{◌-◌}
use Rattle.format.specs.Lists.{each}
use Rattle.basics.proofs.Append.{Walk}
use Rattle.row_pairs.specs.Pairs.{pair_rows}
use Rattle.comparer.proofs.Columns.{Deciding, column_order, facts_rank}
use Rattle.comparer.proofs.write_orders.Given as goal

abbrev pub invariant-loop-c : goal.invariant-loop-c
invariant-loop-c l =
    Deciding (column_order l.n l.sheet l.known.facts l.i l.m l.other l.other_known.facts l.j) l.count l.c l.found

abbrev pub invariant-loop-k : goal.invariant-loop-k
invariant-loop-k l =
    let R = facts_rank l.n l.sheet l.known.facts l.m l.other l.other_known.facts l.count (pair_rows l.numbers l.bytes) in Walk (each 0 l.pairs R) (each l.k (l.pairs - l.k) R) l.initial.answers 0 l.answers l.k
