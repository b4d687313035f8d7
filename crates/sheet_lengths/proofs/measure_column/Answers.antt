-- `sheet_lengths::measure_column` meets its contract: variable bytes are added up, and the fields of a fixed kind are of
-- one length. Assumes nothing.
use Prim.Native.Nat.{ℕ, ◌+◌, ◌*◌, ◌≤◌}
use mathlib.Core.Path.{◌≡◌, sym, ap, ◌∙◌}
use mathlib.Core.Bool.{false}
use mathlib.Core.List.{List}
use native.Mathlib.Nat.{mul-le-mul, lt_of_le_of_lt}
use native.Mathlib.Omega.{arith}
use lib.Dec.{lit<}
use Rattle.format.specs.declared.Kind.TheVariants.{Variable}
use Rattle.format.specs.declared.Column.{Column}
use Rattle.format.specs.Limits.{max_rows, max_width}
use Rattle.format.specs.Kinds.{value_bytes}
use Rattle.format.specs.Sheet.{column_fault, ended, layout, slot_at}
use Rattle.format.specs.Entries.{column_total}
use Rattle.format.specs.Passed.{Passes}
use Rattle.sheet_lengths.specs.Measures.{variable_total}
use Rattle.sheet_lengths.proofs.Arms.{field_arm}
use Rattle.sheet_lengths.proofs.Measures.{sum_same}
use Rattle.sheet_lengths.proofs.measure_column.Goals as goal

module _ (col : Column) (n : ℕ) (s : List ℕ) (e : col.kind ≡ Variable) where
  asked : Passes (λ c. column_fault false (layout col) n c s) → Passes (λ c. column_fault false ended n c s)
  asked p = rw e at p

  added : variable_total n s ≡ column_total col n s
  added = rw e

-- ---- variable bytes
-- ---- a fixed kind
small : (n w : ℕ) → n ≤ max_rows → w ≤ max_width → n * (1 + w) ≤ max_rows * (1 + max_width)
small n w l m = mul-le-mul l (let z : 1 + w ≤ 1 + max_width = omega arith in z)

alike : (col : Column) (n w : ℕ) (s : List ℕ) → (col.kind ≡ Variable → ⊥) → w ≡ value_bytes col.kind → n * (1 + w) ≡ column_total col n s
alike col n w s h e = sym (sum_same _ (1 + w) 0 n (λ r. field_arm col.kind h (slot_at (layout col) n s r) ∙ ap (λ (k : ℕ). 1 + k) (sym e)))

pub measure_variable-requires : goal.measure_variable-requires
measure_variable-requires c = record { n_le_max_rows = c.requires.n_le_max_rows; passes = asked c.args.column c.args.n c.args.part.now c.in-Variable.is c.requires.passes }

pub overflow_add-result : goal.overflow_add-result
overflow_add-result c = omega (arith, c.width.ensures, c.requires.kind_bound)

pub overflow_mul-result : goal.overflow_mul-result
overflow_mul-result c =
    rw c.width.ensures (record { fits = lt_of_le_of_lt (small _ _ c.requires.n_le_max_rows c.requires.kind_bound) (lit< tt) })

pub returns-in-Variable : goal.returns-in-Variable
returns-in-Variable c = record { value = c.measure_variable.ensures.value ∙ added c.args.column c.args.n c.args.part.now c.in-Variable.is; upper_bound = c.measure_variable.ensures.upper_bound }

pub returns-in_default : goal.returns-in_default
returns-in_default c =
    let bound : c.args.n * (1 + c.width.result) ≤ max_rows * (1 + max_width) = rw c.width.ensures (small _ _ c.requires.n_le_max_rows c.requires.kind_bound) in
    record { value = alike c.args.column c.args.n _ c.args.part.now c.in_default.not-Variable c.width.ensures; upper_bound = omega arith }
