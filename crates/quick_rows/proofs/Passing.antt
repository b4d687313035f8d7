-- The walk over rows: what holds at its head, and what a row that passes gives. Assumes nothing.
use Prim.Native.Nat.{ℕ, zero, suc, ◌+◌, ◌<◌, ◌≤◌}
use mathlib.Core.Path.{◌≡◌, refl, ap, sym, subst, ◌∙◌}
use mathlib.Core.List.{List, ◌∷◌}
use native.Mathlib.Numerals.{add-one}
use native.Mathlib.Omega.{arith}
use lib.ListN.{length}
use Rattle.format.specs.Check.{Check, both}
use Rattle.std.specs.declared.result.Result.TheVariants.{Ok}
use Rattle.format.specs.declared.Column.{Column}
use Rattle.format.specs.Limits.{max_rows}
use Rattle.format.specs.Lists.{each}
use Rattle.format.specs.Read.{row_fault, rows_fault}
use Rattle.quick_rows.specs.Quick.{Rows, row_data, data_bytes, most_row, most_data}

pub begins : (cols : List Column) (f : ℕ → List ℕ) (n : ℕ) → Rows cols f n 0 0
begins cols f n = record { left = n; counts = omega arith; says = refl; adds = omega arith; small = omega arith }

-- in row r
pub record InRow (cols : List Column) (f : ℕ → List ℕ) (n bytes₀ r : ℕ) (row : List ℕ) : Type 0 where
  pub most : n ≤ max_rows
  pub inside : r < n
  pub head : Rows cols f n bytes₀ r
  pub is : row ≡ f r

module _ {cols : List Column} {f : ℕ → List ℕ} {n bytes₀ r : ℕ} {row : List ℕ} (s : InRow cols f n bytes₀ r row) where
  abbrev t : Rows cols f n bytes₀ r
  t = s.head

  -- there is room to count on
  pub bytes_small : (bytes : ℕ) → bytes ≤ bytes₀ + most_row → bytes ≤ most_data
  bytes_small bytes h = omega (arith, s.most, s.inside, t.small)

  -- the first of the rows that are left
  pub first_left : (A : List (List ℕ) → Type 0) → A (each r t.left f) → (k : ℕ) × (suc k ≡ t.left) × A (row ∷ each (suc r) k f)
  first_left A a = go t.left t.counts a
    where
      go : (left : ℕ) → r + left ≡ n → A (each r left f) → (k : ℕ) × (suc k ≡ left) × A (row ∷ each (suc r) k f)
      go zero counts a = absurd (omega (arith, s.inside))
      go (suc k) counts a = (k, refl, subst (λ (z : List ℕ). A (z ∷ each (suc r) k f)) (sym s.is) a)

  -- it is whole
  pub passed : (bytes : ℕ) → row_fault r (length row) 0 cols row ≡ Ok tt → bytes ≡ bytes₀ + row_data cols row → bytes ≤ bytes₀ + most_row
      → Rows cols f n bytes (r + 1)
  passed bytes passes adds h =
      let k = first_left (λ rows. (rows_fault r cols rows ≡ rows_fault 0 cols (each 0 n f)) × (bytes₀ + data_bytes cols rows ≡ data_bytes cols (each 0 n f)))
      (t.says, t.adds) in
      record {
        left = k.0;
        counts = omega (arith, k.1, t.counts);
        says = rw add-one (sym (ap (λ (y : Check). both y (rows_fault (suc r) cols (each (suc r) k.0 f))) passes) ∙ k.2.0);
        adds = rw add-one (omega (arith, adds, k.2.1));
        small = omega (arith, t.small);
      }
