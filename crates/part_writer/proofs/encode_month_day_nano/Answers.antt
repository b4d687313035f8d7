-- `part_writer::encode_month_day_nano` meets its contract: the parts are written one after the other. Assumes nothing.
use Prim.Native.Nat.{◌+◌}
use mathlib.Core.Path.{refl}
use mathlib.Core.List.{[], ◌∷◌}
use native.Mathlib.Omega.{arith}
use Rattle.basics.proofs.Append.{walk_start, walk_at}
use Rattle.part_writer.proofs.Parts.{keyed, part_place, parts_more, parts_end}
use Rattle.part_writer.proofs.encode_month_day_nano.Goals as goal

pub returns : goal.returns
returns c =
    let A = c.args in
    let d = A.descending in
    let s = A.values.now in
    let from = A.from in
    let whole = walk_start (keyed d s (4 ∷ 4 ∷ 8 ∷ []) 16 from) A.out.now A.at in
    let one = parts_more d s 4 (4 ∷ 8 ∷ []) 16 from (from + 4) (omega arith) refl whole c.put_number.ensures in
    let two = parts_more d s 4 (8 ∷ []) 12 (from + 4) (from + 8) (omega arith) (omega arith)
    (walk_at (A.at + 4) one (part_place d s 4 from A.at (omega arith) c.put_number.ensures.place)) c.put_number-2.ensures in
    let three = parts_more d s 8 [] 8 (from + 8) (from + 16) (omega arith) (omega arith)
    (walk_at (A.at + 8) two (omega (arith, part_place d s 4 (from + 4) (A.at + 4) (omega arith) c.put_number-2.ensures.place))) c.put_number-3.ensures in
    parts_end d s 0 (from + 16) three
