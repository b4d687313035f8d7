-- The fields of variable bytes stand as the values do. Assumes nothing.
use Prim.Native.Nat.Ordering.{lt}
use Prim.Native.Nat.{ℕ, suc, ◌-◌, ◌<◌, ◌≤◌, compare, Ordering}
use mathlib.Core.Path.{◌≡◌, refl, ap, ap₂, sym, ◌∙◌}
use mathlib.Core.Logic.{◌⊎◌, inl, inr}
use mathlib.Core.List.{List, [], ◌∷◌, ◌++◌}
use native.Mathlib.Omega.{arith}
use native.Mathlib.Nat.{sub-eq-zero_of_le}
use lib.ListN.{replicate}
use borrow.Author.Tests.{lt-ltb, le-ltb}
use Rattle.format.specs.Field.{block_size, variable_bytes}
use Rattle.format.specs.Order.{cmp, swap, then}
use Rattle.basics.proofs.Compare.{choose, Tri, below, same, above, tri, compare_lt}
use Rattle.laws.proofs.Stream.{stream, variable_stream, block_size_room, block_size_small}
use Rattle.demands.proofs.Sep.{sep, sep_self, Ranks, cmp_same, ranks_cmp}
use Rattle.demands.proofs.Orders.{compare_self, compare_swap, swap_then}

sep_swap : (f g : List ℕ) → sep g f ≡ swap (sep f g)
sep_swap [] [] = refl
sep_swap [] (y ∷ ys) = refl
sep_swap (x ∷ xs) [] = refl
sep_swap (x ∷ xs) (y ∷ ys) = ap₂ then (compare_swap x y) (sep_swap xs ys) ∙ sym (swap_then (compare x y) (sep xs ys))

sep_common : (z f g : List ℕ) → sep (z ++ f) (z ++ g) ≡ sep f g
sep_common [] f g = refl
sep_common (x ∷ z) f g = rw (compare_self x) (sep_common z f g)

-- a zero byte is before or at any other
zero_first : (y : ℕ) (o : Ordering) → Tri 0 y o → then o lt ≡ lt
zero_first y o (below h) = refl
zero_first y o (same h) = refl
zero_first y o (above h) = absurd (omega arith)

one_less : (s u : ℕ) → u < s → s - u ≡ suc (s - suc u)
one_less s u h = omega arith

-- ---- the order: every end byte but FF is below FF
module _ (size : ℕ → ℕ) (small : (k : ℕ) → size k < 255) where
  -- zeros and the count u of a block that ends come before any block that holds more than u
  ends_first : (ys : List ℕ) (k u v : ℕ) → u < v → v ≤ size k → sep (replicate (size k - v) 0 ++ (u ∷ [])) (stream size k v ys) ≡ lt
  ends_first [] k u v h m = rw (sep_common (replicate (size k - v) 0) (u ∷ []) (v ∷ [])) (rw (compare_lt u v h))
  ends_first (y ∷ ys) k u v h m = go (choose v (size k)) (λ n. ends_first ys k u (suc v) (omega arith) n)
    where
      go : (v < size k) ⊎ (size k ≤ v) → (suc v ≤ size k → sep (replicate (size k - suc v) 0 ++ (u ∷ [])) (stream size k (suc v) ys) ≡ lt)
          → sep (replicate (size k - v) 0 ++ (u ∷ [])) (stream size k v (y ∷ ys)) ≡ lt
      go (inl n) ih = rw (lt-ltb v (size k) n) (rw (one_less (size k) v n) (rw (ih n) (zero_first y (compare 0 y) (tri 0 y))))
      go (inr n) ih = rw (le-ltb v (size k) n) (rw (sub-eq-zero_of_le n) (rw (compare_lt u 255 (omega (arith, small k)))))

  beginning_first : (y : ℕ) (ys : List ℕ) (k u : ℕ) → u ≤ size k → sep (stream size k u []) (stream size k u (y ∷ ys)) ≡ lt
  beginning_first y ys k u m = go (choose u (size k))
    where
      go : (u < size k) ⊎ (size k ≤ u) → sep (stream size k u []) (stream size k u (y ∷ ys)) ≡ lt
      go (inl n) = rw (lt-ltb u (size k) n) (rw (one_less (size k) u n) (rw (ends_first ys k u (suc u) (omega arith) n) (zero_first y (compare 0 y) (tri 0 y))))
      go (inr n) = rw (le-ltb u (size k) n) (rw (sub-eq-zero_of_le n) (rw (compare_lt u 255 (omega (arith, small k)))))

  stream_order : (some-room : (k : ℕ) → 0 < size k) (x y : List ℕ) (k u : ℕ) → u ≤ size k → sep (stream size k u x) (stream size k u y) ≡ cmp x y
  stream_order room [] [] k u m = sep_self (stream size k u [])
  stream_order room [] (y ∷ ys) k u m = beginning_first y ys k u m
  stream_order room (x ∷ xs) [] k u m = sep_swap (stream size k u []) (stream size k u (x ∷ xs)) ∙ ap swap (beginning_first x xs k u m)
  stream_order room (x ∷ xs) (y ∷ ys) k u m = go (choose u (size k)) (stream_order room xs ys)
    where
      go : (u < size k) ⊎ (size k ≤ u) → ((k u : ℕ) → u ≤ size k → sep (stream size k u xs) (stream size k u ys) ≡ cmp xs ys)
          → sep (stream size k u (x ∷ xs)) (stream size k u (y ∷ ys)) ≡ then (compare x y) (cmp xs ys)
      go (inl n) ih = rw (lt-ltb u (size k) n) (ap (then (compare x y)) (ih k (suc u) n))
      go (inr n) ih = rw (le-ltb u (size k) n) (ap (then (compare x y)) (ih (suc k) 1 (room (suc k))))

-- ---- the field
variable_first : (x y : List ℕ) → sep (variable_bytes x) (variable_bytes y) ≡ cmp x y
variable_first [] [] = refl
variable_first [] (y ∷ ys) = refl
variable_first (x ∷ xs) [] = refl
variable_first (x ∷ xs) (y ∷ ys) =
    ap₂ sep (variable_stream x xs) (variable_stream y ys)
    ∙ stream_order block_size block_size_small block_size_room (x ∷ xs) (y ∷ ys) 0 0 (omega arith)

-- the fields of two values stand as the values do; equal, or neither begins the other
pub variable_ranks : (x y : List ℕ) → Ranks (cmp x y) (variable_bytes x) (variable_bytes y)
variable_ranks x y = record { first = variable_first x y; alike = λ e. ap variable_bytes (cmp_same x y e) }

pub variable_order : (x y : List ℕ) → cmp (variable_bytes x) (variable_bytes y) ≡ cmp x y
variable_order x y = ranks_cmp (variable_ranks x y)
