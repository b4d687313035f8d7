-- The null total is the number of clear bits among the validity bits of all rows and columns. Assumes nothing.
use Prim.Native.Nat.{ℕ, zero, suc, ◌+◌}
use mathlib.Core.Path.{◌≡◌, refl, ap, ap₂, sym, ◌∙◌}
use mathlib.Core.Bool.{Bool, true, false, cond}
use mathlib.Core.List.{List, [], ◌∷◌}
use native.Mathlib.Omega.{arith}
use lib.ListN.{length, get_or, drop}
use Rattle.format.specs.declared.Column.{Column}
use Rattle.format.specs.Lists.{each, sum}
use Rattle.format.specs.Kinds.{column_shape}
use Rattle.format.specs.Schemas.{no_column}
use Rattle.format.specs.Sheet.{Layout, layout, packed, bit, value_at, slot_if, column_bytes, slot_at, column_slots, place_from, place, sheet_slots, nulls_in, nulls, clear_bits}
use Rattle.basics.proofs.Lists.{each_next, each_same}
use Rattle.laws.proofs.Folding.{fold_nulls}
use Rattle.laws.proofs.Places.{past_column}

-- column by column
nulls_from : (n at : ℕ) (cols : List Column) (s : List ℕ) (d : Column)
    → nulls (sheet_slots n cols (drop at s))
    ≡ sum (each 0 (length cols) (λ c. nulls_in (column_slots (layout (get_or cols c d)) n (drop (place_from n at cols s c) s))))
nulls_from n at [] s d = refl
nulls_from n at (col ∷ cols) s d =
    ap₂ ◌+◌ (fold_nulls (column_shape col) col.options (column_slots (layout col) n (drop at s)))
    (ap (λ (z : List ℕ). nulls (sheet_slots n cols z)) (past_column (layout col) n at s)
    ∙ nulls_from n (at + column_bytes (layout col) n (drop at s)) cols s d
    ∙ ap sum (sym (each_next 0 (length cols) (λ c. nulls_in (column_slots (layout (get_or (col ∷ cols) c d)) n (drop (place_from n at (col ∷ cols) s c) s))))))

-- and bit by bit
clear_nulls : (ly : Layout) (n : ℕ) (s : List ℕ) (i k : ℕ) → nulls_in (each i k (slot_at ly n s)) ≡ sum (each i k (λ i. cond (bit s i) 0 1))
clear_nulls ly n s i zero = refl
clear_nulls ly n s i (suc k) = go (bit s i) (clear_nulls ly n s (suc i) k)
  where
    go : (t : Bool) → nulls_in (each (suc i) k (slot_at ly n s)) ≡ sum (each (suc i) k (λ i. cond (bit s i) 0 1))
        → nulls_in (slot_if t (value_at ly n (drop (packed n) s) i) ∷ each (suc i) k (slot_at ly n s)) ≡ cond t 0 1 + sum (each (suc i) k (λ i. cond (bit s i) 0 1))
    go true h = omega arith
    go false h = omega arith

pub null_total : (n : ℕ) (cols : List Column) (s : List ℕ)
    → nulls (sheet_slots n cols s) ≡ sum (each 0 (length cols) (λ c. clear_bits n (drop (place n cols s c) s)))
null_total n cols s =
    nulls_from n 0 cols s no_column
    ∙ ap sum (each_same 0 (length cols) _ _ (λ c l m. clear_nulls (layout (get_or cols c no_column)) n (drop (place n cols s c) s) 0 n))
