-- `row_pairs::pair_count` meets its contract. Assumes nothing.
use Prim.Native.Nat.{ℕ, ◌/◌}
use mathlib.Core.Path.{ap, sym}
use native.Mathlib.Omega.{arith}
use Rattle.row_pairs.proofs.Pairs.{rows_many}
use Rattle.row_pairs.proofs.pair_count.Goals as goal

pub overflow_add-result : goal.overflow_add-result
overflow_add-result c = omega (arith, c.well_formed.0, c.well_formed.1.0)

pub returns : goal.returns
returns c = let A = c.args in ap (λ (k : ℕ). k / 2) (sym (rows_many A.numbers.now A.bytes.now))
