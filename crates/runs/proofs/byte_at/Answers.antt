-- `runs::byte_at` meets its contract: the byte that was turned is the turned row's. Assumes nothing.
use mathlib.Core.Path.{◌∙◌, sym}
use Rattle.laws.proofs.Directed.{turned}
use Rattle.runs.proofs.Direction.{directed_at}
use Rattle.runs.proofs.byte_at.Goals as goal

pub returns : goal.returns
returns c =
    let A = c.args in
    turned A.descending _ _ (c.shared_slice_known-2-1.given A.i).fits c.directed.type_inv c.directed.ensures
    ∙ sym (directed_at A.descending A.row.now A.i c.requires)
