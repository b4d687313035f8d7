-- `sheet_columns::column_bytes` meets its contract: the validity bytes, and those of the values, which stand in the part after
-- them. Assumes nothing.
use Prim.Native.Nat.{ℕ, ◌+◌, ◌-◌, ◌≤◌}
use mathlib.Core.Path.{◌≡◌}
use mathlib.Core.List.{List}
use native.Mathlib.Omega.{arith}
use lib.ListN.{length, take, drop, length-drop}
use Rattle.format.specs.Kinds.{shape}
use Rattle.format.specs.Sheet.{Layout, layout_for, packed, values_bytes, column_bytes}
use Rattle.laws.proofs.Parts.{part_rest}
use Rattle.sheet_columns.proofs.column_bytes.Goals as goal

module _ (ly : Layout) (n p : ℕ) (s : List ℕ) (w : p ≡ packed n) where
  abbrev rest : List ℕ
  rest = take (length s - p) (drop p s)

  bytes : (r : ℕ) → r ≡ values_bytes ly n rest → p + r ≡ column_bytes ly n s
  bytes r v = rw (v, part_rest s p, w)

  room : column_bytes ly n s ≤ length s → values_bytes ly n rest ≤ length rest
  room h = rw (part_rest s p, w) (omega (arith, length-drop (packed n) s))

pub values_bytes-requires : goal.values_bytes-requires
values_bytes-requires c =
    let a = c.args in
    record { n_le_max_rows = c.requires.n_le_max_rows; part_in_bounds = room (layout_for (shape a.kind)) a.n _ a.part.now c.packed-valid.ensures.0 c.requires.part_in_bounds }

pub overflow_add-result : goal.overflow_add-result
overflow_add-result c =
    let a = c.args in
    let sum = bytes (layout_for (shape a.kind)) a.n _ a.part.now c.packed-valid.ensures.0 _ c.values_bytes.ensures in
    omega arith

pub returns : goal.returns
returns c =
    let a = c.args in
    bytes (layout_for (shape a.kind)) a.n _ a.part.now c.packed-valid.ensures.0 _ c.values_bytes.ensures
