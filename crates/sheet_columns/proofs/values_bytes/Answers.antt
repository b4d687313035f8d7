-- `sheet_columns::values_bytes` meets its contract: each arm is the definition's case for the layout of the kinds that it takes.
-- Assumes nothing.
use Prim.Native.Nat.{suc, ◌+◌, ◌*◌, ◌≤◌}
use mathlib.Core.Path.{◌∙◌}
use native.Mathlib.Numerals.{add-one}
use native.Mathlib.Omega.{arith}
use lib.ListN.{length}
use Rattle.format.specs.Kinds.{value_bytes}
use Rattle.format.specs.Sheet.{Layout, values_bytes, end}
use Rattle.sheet_columns.proofs.Arms.{told, layout_arm}
use Rattle.sheet_columns.proofs.values_bytes.Goals as goal

pub end_at-requires : goal.end_at-requires
end_at-requires c =
    let a = c.args in
    let there : 4 * suc a.n + end a.part.now a.n ≤ length a.part.now = rw c.in-Variable.is at c.requires.part_in_bounds in
    omega arith

pub overflow_mul-result-in_default : goal.overflow_mul-result-in_default
overflow_mul-result-in_default c =
    let a = c.args in
    let there : a.n * value_bytes a.kind ≤ length a.part.now = rw (layout_arm a.kind c.in_default.not-Bool c.in_default.not-Variable) at c.requires.part_in_bounds in
    rw c.width.ensures (omega arith)

pub returns-in-Bool : goal.returns-in-Bool
returns-in-Bool c =
    let a = c.args in
    c.packed.ensures.0 ∙ told (λ (ly : Layout). values_bytes ly a.n a.part.now) c.in-Bool.is

pub returns-in-Variable : goal.returns-in-Variable
returns-in-Variable c =
    let a = c.args in
    rw (add-one, c.end_at.ensures.0) (told (λ (ly : Layout). values_bytes ly a.n a.part.now) c.in-Variable.is)

pub returns-in_default : goal.returns-in_default
returns-in_default c =
    let a = c.args in
    rw (c.width.ensures, layout_arm a.kind c.in_default.not-Bool c.in_default.not-Variable)
