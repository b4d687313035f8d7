-- `fixed_writer::encode_fixed_size_binary` meets its contract: the bytes are copied. Assumes nothing.
use mathlib.Core.Path.{◌≡◌}
use native.Mathlib.Omega.{arith}
use lib.ListN.{length, take, drop, length-drop}
use lib.Seq.{length-take-le}
use Rattle.laws.proofs.Directed.{length_directed}
use Rattle.runs.proofs.Parts.{part_copied}
use Rattle.fixed_writer.proofs.encode_fixed_size_binary.Goals as goal

pub returns : goal.returns
returns c =
    let A = c.args in
    let value = take A.width (drop A.from A.values.now) in
    let long : length value ≡ A.width = length-take-le A.width (drop A.from A.values.now) (omega (arith, length-drop A.from A.values.now)) in
    record {
      place = omega (arith, length_directed A.descending value);
      bytes = part_copied A.at A.width A.from A.descending A.out.now A.values.now _ c.copy_bytes.ensures c.requires.width_in_bounds c.requires.width_in_bounds_2;
    }
