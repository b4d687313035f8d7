use Prim.Native.Nat.{ℕ, ◌*◌, ◌<◌, ◌≤◌}
use mathlib.Core.Bool.{false}
use mathlib.Core.List.{List}
use native.Mathlib.Omega.{arith}
use lib.ListN.{get_or}
use Rattle.format.specs.Limits.{max_rows}
use Rattle.format.specs.Passed.{Passes}
use Rattle.format.specs.Sheet.{column_fault, ended}
use Rattle.basics.proofs.Bytes.{bytes_of}
use Rattle.basics.proofs.Lists.{adding_begin, adding_more, adding_most, adding_end}
use Rattle.sheet_lengths.specs.Measures.{variable_total}
use Rattle.sheet_lengths.proofs.Measures.{variable_most}
use Rattle.format.specs.Field.{max_field}
use Rattle.sheet_lengths.proofs.measure_variable.Goals as goal

most : (s : List ℕ) (n : ℕ) → ((i : ℕ) → get_or s i 0 < 256) → Passes (λ c. column_fault false ended n c s) → n ≤ max_rows
    → variable_total n s ≤ max_rows * max_field
most s n b p h = omega (arith, variable_most n s (bytes_of s b) p)

pub loop-row-init : goal.loop-row-init
loop-row-init c = adding_begin _ _

pub overflow_add-total : goal.overflow_add-total
overflow_add-total c =
    let sum = most c.args.part.now c.args.n (λ i. (c.type_inv.part i).fits) c.requires.passes c.requires.n_le_max_rows in
    omega (arith, adding_most _ _ _ _ c.loop-row.invariant c.loop-row-test.true)

pub loop-row-preserved : goal.loop-row-preserved
loop-row-preserved c = rw c.variable_length-total.ensures (adding_more _ _ _ _ c.loop-row.invariant c.loop-row-test.true)

pub returns : goal.returns
returns c =
    let sum = most c.args.part.now c.args.n (λ i. (c.type_inv.part i).fits) c.requires.passes c.requires.n_le_max_rows in
    let all = adding_end _ _ _ _ c.loop-row.invariant c.loop-row-test.false in
    record { value = all; upper_bound = omega arith }
