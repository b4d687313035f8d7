-- What the native comparison of two numbers says.
use Prim.Native.Nat.Ordering.{eq}
use Prim.Native.Nat.Ordering.{gt}
use Prim.Native.Nat.Ordering.{lt}
use Prim.Native.Nat.{ℕ, zero, suc, ◌<◌, ◌≤◌, suc-le-suc, compare, Ordering}
use Prim.Native.Nat.compare
use mathlib.Core.Path.{◌≡◌, refl, ap}
use mathlib.Core.Logic.{◌⊎◌, inl, inr}
use native.Mathlib.Nat.{zero-lt-suc}
use native.Mathlib.Omega.{arith}
use mathlib.Core.Bool.{Bool, true, false}
use lib.Dec.{ltb}
use borrow.Author.Tests.{ltb-true, ltb-false}

pub data Tri (m n : ℕ) : Ordering → Type 0 where
  below : m < n → Tri m n lt
  same : m ≡ n → Tri m n eq
  above : n < m → Tri m n gt

up : (m n : ℕ) (o : Ordering) → Tri m n o → Tri (suc m) (suc n) o
up m n o (below h) = below (suc-le-suc h)
up m n o (same e) = same (ap suc e)
up m n o (above h) = above (suc-le-suc h)

pub tri : (m n : ℕ) → Tri m n (compare m n)
tri zero zero = same refl
tri zero (suc n) = rw (compare.zero-suc n) (below (zero-lt-suc n))
tri (suc m) zero = rw (compare.suc-zero m) (above (zero-lt-suc m))
tri (suc m) (suc n) = rw (compare.suc-suc m n) (up m n (compare m n) (tri m n))

tri_lt : (m n : ℕ) (o : Ordering) → m < n → Tri m n o → o ≡ lt
tri_lt m n o h (below k) = refl
tri_lt m n o h (same k) = absurd (omega arith)
tri_lt m n o h (above k) = absurd (omega arith)

tri_gt : (m n : ℕ) (o : Ordering) → n < m → Tri m n o → o ≡ gt
tri_gt m n o h (below k) = absurd (omega arith)
tri_gt m n o h (same k) = absurd (omega arith)
tri_gt m n o h (above k) = refl

tri_eq : (m n : ℕ) (o : Ordering) → m ≡ n → Tri m n o → o ≡ eq
tri_eq m n o h (below k) = absurd (omega arith)
tri_eq m n o h (same k) = refl
tri_eq m n o h (above k) = absurd (omega arith)

pub compare_lt : (m n : ℕ) → m < n → compare m n ≡ lt
compare_lt m n h = tri_lt m n (compare m n) h (tri m n)

pub compare_gt : (m n : ℕ) → n < m → compare m n ≡ gt
compare_gt m n h = tri_gt m n (compare m n) h (tri m n)

pub compare_eq : (m n : ℕ) → m ≡ n → compare m n ≡ eq
compare_eq m n h = tri_eq m n (compare m n) h (tri m n)

-- a comparison that follows another: of the same pairs in order, the same answer
pub compare_of : (m n : ℕ) (o : Ordering) → Tri m n o → compare m n ≡ o
compare_of m n o (below h) = compare_lt m n h
compare_of m n o (same h) = compare_eq m n h
compare_of m n o (above h) = compare_gt m n h

-- one number is below another, or not
pub choose : (m n : ℕ) → (m < n) ⊎ (n ≤ m)
choose m n = go (ltb m n) refl
  where
    go : (b : Bool) → ltb m n ≡ b → (m < n) ⊎ (n ≤ m)
    go true e = inl (ltb-true m n e)
    go false e = inr (ltb-false m n e)
