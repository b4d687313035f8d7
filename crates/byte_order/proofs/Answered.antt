-- What the library says of an order, by the orders of the definitions. Assumes nothing.
use Prim.Native.Nat.Ordering.{eq}
use Prim.Native.Nat.Ordering.{gt}
use Prim.Native.Nat.Ordering.{lt}
use Prim.Native.Nat.{ℕ, compare, Ordering as Order}
use mathlib.Core.Path.{◌≡◌, refl, sym, subst}
use mathlib.Core.Bool.{true, false, true≢false}
use native.Mathlib.Omega.{arith}
use borrow.Author.Tests.{lt-ltb, le-ltb, eq-eqb, ne_eqb}
use Rattle.std.specs.declared.cmp.Ordering.{Ordering}
use Rattle.std.specs.declared.cmp.Ordering.TheVariants.{Less, Equal, Greater}
use Rattle.std.specs.Ordering.{is_lt, is_ne, nat_cmp, ordering_index, ordering_reverse, ordering_then, MatchOrdering}
use Rattle.format.specs.Order.{then, swap}
use Rattle.format.specs.Batch.{is_below}
use Rattle.format.specs.CompareSheets.{rank}
use Rattle.basics.proofs.Compare.{Tri, below, same, above, tri}
use Rattle.byte_order.specs.Answers.{ordering}

-- numbers
pub numbers : (x y : ℕ) → nat_cmp x y ≡ ordering (compare x y)
numbers x y = go (compare x y) (tri x y)
  where
    go : (o : Order) → Tri x y o → nat_cmp x y ≡ ordering o
    go lt (below h) = rw (lt-ltb x y h) refl
    go eq (same e) = rw (le-ltb x y (omega arith), eq-eqb x y e) refl
    go gt (above h) = rw (le-ltb x y (omega arith), ne_eqb x y (λ e. omega arith)) refl

-- one order, and then another
pub chained : (o p : Order) → ordering (then o p) ≡ ordering_then (ordering o) (ordering p)
chained lt p = refl
chained eq p = refl
chained gt p = refl

pub reversed : (o : Order) → ordering_reverse (ordering o) ≡ ordering (swap o)
reversed lt = refl
reversed eq = refl
reversed gt = refl

pub ranked : (o : Order) → ordering_index (ordering o) ≡ rank o
ranked lt = refl
ranked eq = refl
ranked gt = refl

pub less : (o : Order) → is_lt (ordering o) ≡ is_below o
less lt = refl
less eq = refl
less gt = refl

-- an order that decides, and one that does not
pub decided : (o p : Ordering) → is_ne o ≡ true → ordering_then o p ≡ o
decided Less p e = refl
decided Equal p e = absurd (true≢false (sym e))
decided Greater p e = refl

pub tied : (o : Ordering) → is_ne o ≡ false → o ≡ Equal
tied Less e = absurd (true≢false e)
tied Equal e = refl
tied Greater e = absurd (true≢false e)

-- an order that is asked for only where the one before ties
pub followed : (p q : Order) {o r : Ordering} {P : Type 0} → o ≡ ordering p → (P → r ≡ ordering q) → MatchOrdering o (r ≡ Less) P (r ≡ Greater)
    → r ≡ ordering (then p q)
followed p q {r = r} {P = P} e next h = go p (subst (λ (z : Ordering). MatchOrdering z (r ≡ Less) P (r ≡ Greater)) e h)
  where
    go : (p : Order) → MatchOrdering (ordering p) (r ≡ Less) P (r ≡ Greater) → r ≡ ordering (then p q)
    go lt h = h
    go eq h = next h
    go gt h = h
