-- Rows of sorted batches, where they lie, and which of two comes next.
use Rattle.std.specs.Prelude.{ℕ, ◌+◌, ◌<◌, ◌≤◌, ◌≡◌, Bool, true, false, cond, List, leb, length, get_or, Ok}
use Rattle.format.specs.Limits.{max_rows}
use Rattle.format.specs.Passed.{Cuts}
use Rattle.format.specs.Entries.{cut_rows}
use Rattle.format.specs.Batch.{below, order_fault}

-- pass p of n rows is in order: nothing of it is refused
pub record Sorted (p n : ℕ) (bytes offsets : List ℕ) : Type 0 where
  pub few : n ≤ max_rows
  pub cuts : Cuts n bytes offsets
  pub rises : order_fault p (cut_rows n bytes offsets) ≡ Ok tt

-- two passes in order, and room for the order of their rows
pub record Joinable (n : ℕ) (rows offsets : List ℕ) (m : ℕ) (others ends order : List ℕ) : Type 0 where
  pub first : Sorted 0 n rows offsets
  pub second : Sorted 1 m others ends
  pub room : n + m ≤ length order

-- rows i on of the n rows f of pass 0, and rows j on of the m rows g of pass 1: row j of pass 1 is next where it is below row i of pass 0,
-- and where only pass 1 has rows left
abbrev pub second_next : ℕ → (ℕ → List ℕ) → ℕ → ℕ → (ℕ → List ℕ) → ℕ → Bool
second_next n f i m g j = cond (leb m j) false (cond (leb n i) true (below (g j) (f i)))
