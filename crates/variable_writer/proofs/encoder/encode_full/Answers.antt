-- `variable_writer::encoder::encode_full` meets its contract: the data, and the end byte after them. Assumes nothing.
use native.Mathlib.Omega.{arith}
use lib.ListN.{take, drop, length-drop}
use lib.Seq.{length-take-le}
use Rattle.runs.proofs.Parts.{part_copied}
use Rattle.variable_writer.proofs.Writing.{fill_full}
use Rattle.variable_writer.proofs.encoder.encode_full.Goals as goal

pub returns : goal.returns
returns c =
    let A = c.args in
    let rest = drop A.from A.val.now in
    fill_full (take A.size rest) A.size 255 A.descending A.out.now _ _ A.at
    (length-take-le A.size rest (omega (arith, length-drop A.from A.val.now)))
    (part_copied A.at A.size A.from A.descending A.out.now A.val.now _ c.copy_words.ensures c.requires.size_in_bounds (omega (arith, c.requires.size_in_bounds_2)))
    c.put_byte.ensures
