-- `row_pairs::check_pairs` meets its contract: the pairs before k pass. Assumes nothing.
use Rattle.row_pairs.specs.Pairs.{pair_rows}
use Rattle.row_pairs.proofs.Pairs.{Checking}
use Rattle.row_pairs.proofs.check_pairs.Given as goal

abbrev pub invariant-loop-k : goal.invariant-loop-k
invariant-loop-k l = Checking l.n l.m (pair_rows l.numbers l.bytes) l.pairs l.k
