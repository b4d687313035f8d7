-- `variable_writer::encoder::word_at` meets its contract: eight bytes or fewer are all there are. Assumes nothing.
use mathlib.Core.Path.{sym, ap, ◌∙◌}
use native.Mathlib.Omega.{arith}
use lib.ListN.{drop, length-drop}
use lib.Seq.{take_all}
use Rattle.format.specs.Lists.{low}
use Rattle.variable_writer.proofs.encoder.word_at.Goals as goal

pub returns-then-val-from-le8 : goal.returns-then-val-from-le8
returns-then-val-from-le8 c =
    let A = c.args in
    let rest = drop A.from A.val.now in
    c.last_word.ensures ∙ sym (ap low (take_all 8 rest (omega (arith, length-drop A.from A.val.now))))
