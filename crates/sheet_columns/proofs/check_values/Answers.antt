-- `sheet_columns::check_values` meets its contract: each arm is the definition's case for the layout of the kinds that it
-- takes. Assumes nothing.
use borrow.Author.Tests.{lt-ltb, le-ltb}
use Prim.Native.Nat.{ℕ, ◌*◌, ◌<◌, ◌≤◌}
use mathlib.Core.Path.{◌≡◌, ◌∙◌}
use mathlib.Core.List.{List}
use native.Mathlib.Nat.{mul-le-mul, lt_of_le_of_lt}
use lib.Dec.{lit<}
use lib.ListN.{length}
use Rattle.format.specs.declared.Kind.{Kind}
use Rattle.format.specs.declared.Refusal.TheVariants.{ColumnCut}
use Rattle.std.specs.declared.result.Result.TheVariants.{Ok, Err}
use Rattle.format.specs.Kinds.{shape, value_bytes}
use Rattle.format.specs.Sheet.{Layout, layout_for, wide, values_fault}
use Rattle.sheet_columns.proofs.Arms.{told, layout_arm}
use Rattle.sheet_columns.proofs.check_values.Goals as goal

module _ (kind : Kind) (w n c : ℕ) (s : List ℕ) (width : w ≡ value_bytes kind) (fixed : layout_for (shape kind) ≡ wide (value_bytes kind)) where
  cut : length s < n * w → Err (ColumnCut c) ≡ values_fault (layout_for (shape kind)) n c s
  cut h = rw (fixed, lt-ltb (length s) (n * value_bytes kind) (rw width at h))

  whole : n * w ≤ length s → Ok tt ≡ values_fault (layout_for (shape kind)) n c s
  whole h = rw (fixed, le-ltb (length s) (n * value_bytes kind) (rw width at h))

-- n values of w bytes each
pub overflow_mul-n : goal.overflow_mul-n
overflow_mul-n c =
    rw c.width.ensures (record { fits = lt_of_le_of_lt (mul-le-mul c.requires.n_le_max_rows c.requires.kind_bound) (lit< tt) })

pub returns-then-part-n : goal.returns-then-part-n
returns-then-part-n c =
    let a = c.args in
    cut a.kind _ _ _ a.part.now c.width.ensures (layout_arm a.kind c.in_default.not-Bool c.in_default.not-Variable) c.if-part-n.true

pub returns-in-Bool : goal.returns-in-Bool
returns-in-Bool c =
    let a = c.args in
    c.check_bits.ensures ∙ told (λ (ly : Layout). values_fault ly a.n a.c a.part.now) c.in-Bool.is

pub returns-in-Variable : goal.returns-in-Variable
returns-in-Variable c =
    let a = c.args in
    c.check_variable.ensures ∙ told (λ (ly : Layout). values_fault ly a.n a.c a.part.now) c.in-Variable.is

pub returns-else-part-n : goal.returns-else-part-n
returns-else-part-n c =
    let a = c.args in
    whole a.kind _ _ _ a.part.now c.width.ensures (layout_arm a.kind c.in_default.not-Bool c.in_default.not-Variable) c.if-part-n.false
