-- `null_writer::encode_boolean` meets its contract: 01 is set, then the byte, which is the number of the bool. Assumes nothing.
use Prim.Native.Nat.{◌+◌}
use mathlib.Core.Path.{◌≡◌, refl, ap, ◌∙◌}
use mathlib.Core.Bool.{Bool, true, false}
use mir.Val as mir
use native.Mathlib.Omega.{arith}
use lib.ListN.{set, length-set}
use lib.Seq.{sets}
use Rattle.format.specs.Lists.{low_bytes}
use Rattle.format.specs.Field.{directed}
use Rattle.format.specs.Sheet.{bool_byte}
use Rattle.number.proofs.Words.{byte_set}
use Rattle.laws.proofs.Directed.{length_directed}
use Rattle.number_writer.proofs.Writing.{lead_run}
use Rattle.null_writer.proofs.encode_boolean.Goals as goal

number_is : (b : Bool) → low_bytes 1 (mir.bool_byte b) ≡ bool_byte b
number_is true = refl
number_is false = refl

pub bounds-out-at-2 : goal.bounds-out-at-2
bounds-out-at-2 c = simp length-set (omega arith)

pub returns : goal.returns
returns c =
    let A = c.args in
    let d = A.options.descending in
    let led = set A.out.now A.at 1 in
    lead_run A.out.now A.at 1 (directed d (bool_byte A.val)) led _ _ refl
    (byte_set led (A.at + 1) _ c.directed.type_inv ∙ ap (sets led (A.at + 1)) (c.directed.ensures ∙ ap (directed d) (number_is A.val)))
    (omega (arith, length_directed d (bool_byte A.val)))
