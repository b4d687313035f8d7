-- Intervals, part after part: each part decides unless it ties, in values that stand at places of two columns. Assumes nothing.
use Prim.Native.Nat.Ordering.{eq}
use Prim.Native.Nat.Ordering.{gt}
use Prim.Native.Nat.Ordering.{lt}
use Prim.Native.Nat.{ℕ, ◌+◌, ◌≤◌, Ordering}
use mathlib.Core.Path.{◌≡◌, refl, ap₂, ◌∙◌}
use mathlib.Core.List.{List, [], ◌∷◌}
use native.Mathlib.Omega.{arith}
use lib.ListN.{length, take, drop, length-take, length-drop}
use lib.Seq.{drop-drop}
use Rattle.format.specs.Key.{parts_key, signed_key}
use Rattle.format.specs.Order.{then, cmp}
use Rattle.number_order.proofs.KeyOrder.{parts_step}
use Rattle.number_order.proofs.Spelled.{part}

then_equal : (o : Ordering) → then o eq ≡ o
then_equal lt = refl
then_equal eq = refl
then_equal gt = refl

-- the order of the part of n bytes that stands at p of one and at q of the other
abbrev pub part_order : List ℕ → List ℕ → ℕ → ℕ → ℕ → Ordering
part_order a b n p q = cmp (signed_key (take n (drop p a))) (signed_key (take n (drop q b)))

-- the m bytes from a place of each on
module _ (a b : List ℕ) (m at to : ℕ) (ia : at + m ≤ length a) (ib : to + m ≤ length b) where
  abbrev first : List ℕ
  first = take m (drop at a)

  abbrev second : List ℕ
  second = take m (drop to b)

  -- the order of the parts ns after k bytes
  abbrev pub parts_from : ℕ → List ℕ → Ordering
  parts_from k ns = cmp (parts_key ns (drop k first)) (parts_key ns (drop k second))

  same_long : (k : ℕ) → length (drop k first) ≡ length (drop k second)
  same_long k =
      omega (
        arith,
        length-drop k first,
        length-drop k second,
        length-take m (drop at a),
        length-take m (drop to b),
        length-drop at a,
        length-drop to b,
      )

  -- the next part is of n bytes, and stands at p and q
  pub next_part : (k n : ℕ) (ns : List ℕ) (p q : ℕ) → at + k ≡ p → to + k ≡ q → k + n ≤ m
      → parts_from k (n ∷ ns) ≡ then (part_order a b n p q) (parts_from (k + n) ns)
  next_part k n ns p q ep eb h =
      parts_step n ns (drop k first) (drop k second) (same_long k)
      ∙ ap₂ then
      (ap₂ (λ (u v : List ℕ). cmp (signed_key u) (signed_key v)) (part a m at k n p ep h) (part b m to k n q eb h))
      (ap₂ (λ (u v : List ℕ). cmp (parts_key ns u) (parts_key ns v)) (drop-drop n k first) (drop-drop n k second))

  -- and is the last
  pub last_part : (k n p q : ℕ) → at + k ≡ p → to + k ≡ q → k + n ≤ m → parts_from k (n ∷ []) ≡ part_order a b n p q
  last_part k n p q ep eb h = next_part k n [] p q ep eb h ∙ then_equal (part_order a b n p q)
