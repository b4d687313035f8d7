-- A part of a slice, and an array that is filled from the front, as a proof has them. Assumes nothing.
use Prim.Native.Nat.{ℕ, ◌+◌, ◌-◌, ◌<◌, ◌≤◌}
use mathlib.Core.Path.{◌≡◌, subst}
use mathlib.Core.List.{List}
use mathlib.Core.Logic.{◌⊎◌, inl, inr}
use native.Mathlib.Omega.{arith}
use lib.ListN.{length, get_or, set, take, drop, length-drop}
use lib.Seq.{take_all, get_or-set_same, get_or-set_other}
use Rattle.basics.proofs.Compare.{choose}

-- what `&s[at..]` holds
pub part_rest : {A : Type 0} (s : List A) (at : ℕ) → take (length s - at) (drop at s) ≡ drop at s
part_rest s at = take_all (length s - at) (drop at s) (omega (arith, length-drop at s))

-- what holds of each element below c, and of the one that is set at c, holds of each below c + 1
pub below_set : {A : Type 0} (P : ℕ → A → Type 0) (xs : List A) (d x : A) (c : ℕ) → c < length xs → ((k : ℕ) → k < c → P k (get_or xs k d)) → P c x
    → (k : ℕ) → k < c + 1 → P k (get_or (set xs c x) k d)
below_set P xs d x c room before now k l = go (choose k c)
  where
    go : (k < c) ⊎ (c ≤ k) → P k (get_or (set xs c x) k d)
    go (inl m) = rw (get_or-set_other xs c k x d (λ e. omega arith)) (before k m)
    go (inr m) =
        let e : c ≡ k = omega arith in
        subst (λ (j : ℕ). P j (get_or (set xs c x) j d)) e (rw (get_or-set_same xs c x d room) now)
