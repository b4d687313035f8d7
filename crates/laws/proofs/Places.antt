-- Where the columns of a sheet stand, and a slot from its column's place. Assumes nothing.
use Prim.Native.Nat.{ℕ, zero, suc, ◌+◌, ◌<◌, ◌≤◌}
use mathlib.Core.Path.{◌≡◌, refl}
use mathlib.Core.List.{List, [], ◌∷◌}
use native.Mathlib.Nat.{add-zero, add-suc, suc-add, zero-add}
use native.Mathlib.Omega.{arith}
use lib.ListN.{length, get_or, drop, length-drop}
use lib.Seq.{drop-drop}
use Rattle.std.specs.declared.result.Result.TheVariants.{Ok}
use Rattle.format.specs.declared.Column.{Column}
use Rattle.format.specs.Sheet.{Layout, layout, column_fault, column_bytes, sheet_fault_from, sheet_fault, place_from, place}
use Rattle.format.specs.Passed.{Stands}
use Rattle.basics.proofs.Checks.{both_pass}
use Rattle.laws.proofs.Sheets.{column_room}

next_from : (n at : ℕ) (cols : List Column) (s : List ℕ) (c : ℕ) (d : Column) → c < length cols
    → place_from n at cols s (suc c) ≡ place_from n at cols s c + column_bytes (layout (get_or cols c d)) n (drop (place_from n at cols s c) s)
next_from n at [] s c d l = absurd (omega arith)
next_from n at (col ∷ cols) s zero d l = refl
next_from n at (col ∷ cols) s (suc c) d l = next_from n (at + column_bytes (layout col) n (drop at s)) cols s c d (omega arith)

-- a column stands where the one before it ends
pub place_next : (n : ℕ) (cols : List Column) (s : List ℕ) (c : ℕ) (d : Column) → c < length cols
    → place n cols s (suc c) ≡ place n cols s c + column_bytes (layout (get_or cols c d)) n (drop (place n cols s c) s)
place_next n cols s c d l = next_from n 0 cols s c d l

-- past a column that stands at `at`
pub past_column : (ly : Layout) (n at : ℕ) (s : List ℕ) → drop (column_bytes ly n (drop at s)) (drop at s) ≡ drop (at + column_bytes ly n (drop at s)) s
past_column ly n at s = drop-drop (column_bytes ly n (drop at s)) at s

-- ---- a sheet that passes

-- the first of the columns from `at` on, and the others
first_stands : (n c at : ℕ) (col : Column) (cols : List Column) (s : List ℕ) → at ≤ length s → sheet_fault_from n c at (col ∷ cols) (drop at s) ≡ Ok tt
    → Stands col n c at s
    × (sheet_fault_from n (suc c) (at + column_bytes (layout col) n (drop at s)) cols (drop (at + column_bytes (layout col) n (drop at s)) s) ≡ Ok tt)
first_stands n c at col cols s l e =
    let p = both_pass (column_fault col.options.required (layout col) n c (drop at s)) _ e in (
      record { passes = p.0; room = omega (arith, column_room col.options.required (layout col) n c (drop at s) p.0, length-drop at s) },
      rw past_column at p.1,
    )

stands_from : (n k at : ℕ) (cols : List Column) (s : List ℕ) (c : ℕ) (d : Column) → at ≤ length s
    → sheet_fault_from n k at cols (drop at s) ≡ Ok tt → c < length cols → Stands (get_or cols c d) n (k + c) (place_from n at cols s c) s
stands_from n k at [] s c d l e h = absurd (omega arith)
stands_from n k at (col ∷ cols) s zero d l e h = rw add-zero (first_stands n k at col cols s l e).0
stands_from n k at (col ∷ cols) s (suc c) d l e h =
    let p = first_stands n k at col cols s l e in
    rw (add-suc k c, ← suc-add k c) (stands_from n (suc k) (at + column_bytes (layout col) n (drop at s)) cols s c d p.0.room p.1 (omega arith))

pub column_stands : (n : ℕ) (cols : List Column) (s : List ℕ) (c : ℕ) (d : Column) → sheet_fault n cols s ≡ Ok tt → c < length cols
    → Stands (get_or cols c d) n c (place n cols s c) s
unfolding sheet_fault
column_stands n cols s c d e l = rw zero-add at (stands_from n 0 0 cols s c d (omega arith) e l)
