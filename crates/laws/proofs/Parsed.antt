-- What a reading tells of the tests on the way to it.
use Prim.Native.Nat.{ℕ, zero, suc}
use mathlib.Core.Path.{◌≡◌, refl, ap₂}
use mathlib.Core.Bool.{Bool, true, false, cond, ◌&&◌, ◌||◌, true≢false, false≢true}
use mathlib.Core.List.{List, [], ◌∷◌}
use native.Mathlib.Omega.{arith}
use lib.Dec.{eqb}
use lib.ListN.{length, replicate}
use borrow.Author.Tests.{eqb-true}
use Rattle.format.specs.Read.{Parsed, got, fault, all_zero}
use Rattle.format.specs.declared.RowFault.{RowFault}

-- a fault is not a reading
pub fault_got : {A : Type 0} {f : RowFault} {l : ℕ} {v : A} {r : List ℕ} → fault f l ≡ got v r → ⊥
fault_got e = let z : ◌≡◌ {A = ℕ} 0 1 = cc in omega arith

-- a test that would have been a fault turned out the other way
pub not_fault : {A : Type 0} (b : Bool) (f : RowFault) (l : ℕ) {x : Parsed A} {v : A} {r : List ℕ} → cond b (fault f l) x ≡ got v r → (b ≡ false) × (x ≡ got v r)
not_fault true f l e = absurd (fault_got e)
not_fault false f l e = (refl, e)

pub yes_got : {A : Type 0} (b : Bool) (f : RowFault) (l : ℕ) {x : Parsed A} {v : A} {r : List ℕ} → cond b x (fault f l) ≡ got v r → (b ≡ true) × (x ≡ got v r)
yes_got true f l e = (refl, e)
yes_got false f l e = absurd (fault_got e)

-- both tests
pub or_false : (a b : Bool) → a || b ≡ false → (a ≡ false) × (b ≡ false)
or_false true b e = absurd (true≢false e)
or_false false b e = (refl, e)

pub and_true : (a b : Bool) → a && b ≡ true → (a ≡ true) × (b ≡ true)
and_true true b e = (refl, e)
and_true false b e = absurd (false≢true e)

-- zeros pass the test for zeros, and nothing else does
pub zeros_zero : (n : ℕ) → all_zero (replicate n 0) ≡ true
zeros_zero zero = refl
zeros_zero (suc n) = zeros_zero n

pub zero_zeros : (p : List ℕ) → all_zero p ≡ true → p ≡ replicate (length p) 0
zero_zeros [] e = refl
zero_zeros (x ∷ p) e =
    let h : (eqb x 0 ≡ true) × (all_zero p ≡ true) = and_true (eqb x 0) (all_zero p) e in
    ap₂ {C = List ℕ} (λ a b. a ∷ b) (eqb-true x 0 h.0) (zero_zeros p h.1)
