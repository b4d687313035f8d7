-- Comparing: a number with itself, from the other side, a tie; and what `then` and `swap` make of answers. Assumes nothing.
use Prim.Native.Nat.Ordering.{eq}
use Prim.Native.Nat.Ordering.{gt}
use Prim.Native.Nat.Ordering.{lt}
use Prim.Native.Nat.{ℕ, compare, Ordering}
use mathlib.Core.Path.{◌≡◌, refl, sym}
use native.Mathlib.Omega.{arith}
use Rattle.format.specs.Order.{swap, then}
use Rattle.basics.proofs.Compare.{Tri, below, same, above, tri, compare_eq, compare_of}

pub compare_self : (n : ℕ) → compare n n ≡ eq
compare_self n = compare_eq n n refl

turn : (m n : ℕ) (o : Ordering) → Tri m n o → Tri n m (swap o)
turn m n o (below h) = above h
turn m n o (same h) = same (sym h)
turn m n o (above h) = below h

pub compare_swap : (m n : ℕ) → compare n m ≡ swap (compare m n)
compare_swap m n = compare_of n m (swap (compare m n)) (turn m n (compare m n) (tri m n))

-- ---- a tie is no other answer
pub lt≢eq : ¬ (lt ≡ eq)
lt≢eq e = let z : ◌≡◌ {A = ℕ} 0 1 = cc in omega arith

pub gt≢eq : ¬ (gt ≡ eq)
gt≢eq e = let z : ◌≡◌ {A = ℕ} 0 1 = cc in omega arith

tri_same : (m n : ℕ) (o : Ordering) → Tri m n o → o ≡ eq → m ≡ n
tri_same m n o (below h) e = absurd (lt≢eq e)
tri_same m n o (same h) e = h
tri_same m n o (above h) e = absurd (gt≢eq e)

pub eq_of_compare : (m n : ℕ) → compare m n ≡ eq → m ≡ n
eq_of_compare m n e = tri_same m n (compare m n) (tri m n) e

-- ---- `then` and `swap`
pub swap_then : (a b : Ordering) → swap (then a b) ≡ then (swap a) (swap b)
swap_then lt b = refl
swap_then eq b = refl
swap_then gt b = refl

pub swap_eq : (a : Ordering) → swap a ≡ eq → a ≡ eq
swap_eq lt e = absurd (gt≢eq e)
swap_eq eq e = refl
swap_eq gt e = absurd (lt≢eq e)

-- a tie of the two together is a tie of each
pub then_eq_left : (a b : Ordering) → then a b ≡ eq → a ≡ eq
then_eq_left lt b e = e
then_eq_left eq b e = refl
then_eq_left gt b e = e

pub then_eq_right : (a b : Ordering) → then a b ≡ eq → b ≡ eq
then_eq_right lt b e = absurd (lt≢eq e)
then_eq_right eq b e = e
then_eq_right gt b e = absurd (gt≢eq e)
