-- The frames of the columns in use, added up one after the other. Assumes nothing.
use Prim.Native.Nat.{ℕ, suc, ◌+◌, ◌*◌, ◌≤◌}
use mathlib.Core.Path.{◌≡◌, ap}
use mathlib.Core.List.{List, ◌∷◌, map}
use native.Mathlib.Numerals.{add-one}
use native.Mathlib.Omega.{arith}
use lib.ListN.{length, drop, drop_of_length-le}
use Rattle.format.specs.declared.Column.{Column}
use Rattle.format.specs.Lists.{sum}
use Rattle.batch_reader.specs.Batch.{widest_frame}

-- at the head of the loop: what is added up and what is left to add is the sum, and nothing is too wide
pub record Sums (f : Column → ℕ) (cols : List Column) (bytes c : ℕ) : Type 0 where
  pub says : bytes + sum (map f (drop c cols)) ≡ sum (map f cols)
  pub small : bytes ≤ widest_frame * c

pub begins : (f : Column → ℕ) (cols : List Column) → Sums f cols 0 0
begins f cols = record { says = omega arith; small = omega arith }

module _ {f : Column → ℕ} {cols : List Column} {bytes c : ℕ} (t : Sums f cols bytes c) where
  pub adds : {col : Column} → drop c cols ≡ col ∷ drop (suc c) cols → (k : ℕ) → k ≡ f col → k ≤ widest_frame → Sums f cols (bytes + k) (c + 1)
  adds {col} here k e l = record {
    says = rw add-one (omega (arith, e, t.says, ap (λ (l : List Column). sum (map f l)) here));
    small = omega (arith, t.small);
  }

  pub ends : length cols ≤ c → bytes ≡ sum (map f cols)
  ends h = omega (arith, t.says, ap (λ (l : List Column). sum (map f l)) (drop_of_length-le cols {i = c} h))
