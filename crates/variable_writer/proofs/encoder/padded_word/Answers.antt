-- `variable_writer::encoder::padded_word` meets its contract: past the end there are zeros only. Assumes nothing.
use Prim.Native.Nat.{ℕ}
use mathlib.Core.Path.{sym, ap}
use mathlib.Core.List.{List}
use borrow.Author.Rules.{rules}
use lib.ListN.{take, drop_of_length-le}
use Rattle.format.specs.Lists.{low}
use Rattle.variable_writer.proofs.encoder.padded_word.Goals as goal

pub returns-then-val-from : goal.returns-then-val-from
returns-then-val-from c =
    let A = c.args in
    sym (ap (λ (z : List ℕ). low (take 8 z)) (drop_of_length-le A.val.now {i = A.from} (search rules)))
