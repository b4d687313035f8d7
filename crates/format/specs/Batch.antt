-- Sorted batches: rows between offsets, of which none is below the one before it.
use Prim.Native.Nat.Ordering.{eq}
use Prim.Native.Nat.Ordering.{gt}
use Prim.Native.Nat.Ordering.{lt}
use Prim.Native.Nat.{ℕ, suc, Ordering}
use Rattle.std.specs.Prelude.{Bool, true, false, List, [], ◌∷◌, Ok}
use Rattle.format.specs.declared.Column.{Column}
use Rattle.format.specs.Check.{Check, both, fail_if}
use Rattle.format.specs.declared.Refusal.TheVariants.{OutOfOrder}
use Rattle.format.specs.Order.{cmp}
use Rattle.format.specs.Read.{rows_fault}
use Rattle.format.specs.Entries.{row_count_fault, offsets_fault, cut_rows}

abbrev pub is_below : Ordering → Bool
is_below lt = true
is_below eq = false
is_below gt = false

-- a is below b: unsigned bytes, a proper beginning first
abbrev pub below : List ℕ → List ℕ → Bool
below a b = is_below (cmp a b)

-- x is row r of pass p, and the others follow it
abbrev pub order_from : ℕ → ℕ → List ℕ → List (List ℕ) → Check
order_from p r x [] = Ok tt
order_from p r x (y ∷ ys) = fail_if (below y x) (OutOfOrder p (suc r)) (order_from p (suc r) y ys)

-- 26: the first row below its predecessor
abbrev pub order_fault : ℕ → List (List ℕ) → Check
order_fault p [] = Ok tt
order_fault p (x ∷ xs) = order_from p 0 x xs

-- pass p of n rows: 6, 14, 15, 12, 26
unfoldable pub pass_fault : ℕ → ℕ → List ℕ → List ℕ → Check
pass_fault p n bytes offsets =
    both (row_count_fault n)
    (both (offsets_fault n bytes offsets)
    (order_fault p (cut_rows n bytes offsets)))

-- n sorted rows of the columns: 6, 14, 15, 12, row faults, 26; a batch by itself is pass 0
unfoldable pub sorted_fault : List Column → ℕ → List ℕ → List ℕ → Check
sorted_fault cols n bytes offsets =
    both (row_count_fault n)
    (both (offsets_fault n bytes offsets)
    (both (rows_fault 0 cols (cut_rows n bytes offsets))
    (order_fault 0 (cut_rows n bytes offsets))))
