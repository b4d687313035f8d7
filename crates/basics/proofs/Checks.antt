-- What a check that passes went through, and what an answer that is no refusal says. Assumes nothing.
use Prim.Native.Nat.{ℕ, ◌≤◌}
use mathlib.Core.Path.{◌≡◌, refl, ap}
use mathlib.Core.Bool.{Bool, true, false}
use native.Mathlib.Omega.{arith}
use lib.Dec.{ltb}
use borrow.Author.Tests.{ltb-false, le-ltb}
use Rattle.std.specs.Result.{result_and}
use Rattle.format.specs.declared.Refusal.{Refusal}
use Rattle.format.specs.Check.{Check, both, fail_if, given}
use Rattle.std.specs.declared.result.Result.TheVariants.{Ok, Err}
use Rattle.format.specs.Entries.{answer}

-- ---- checks that pass

-- a refusal is not a pass
pub refuse_pass : {r : Refusal} → ◌≡◌ {A = Check} (Err r) (Ok tt) → ⊥
refuse_pass e = let z : ◌≡◌ {A = ℕ} 0 1 = cc in omega arith

-- the test failed, and what follows passes
pub fail_if_pass : (b : Bool) (r : Refusal) (x : Check) → fail_if b r x ≡ Ok tt → (b ≡ false) × (x ≡ Ok tt)
fail_if_pass true r x e = absurd (refuse_pass e)
fail_if_pass false r x e = (refl, e)

-- there is enough, and what follows passes
pub enough : (a b : ℕ) (r : Refusal) (x : Check) → fail_if (ltb a b) r x ≡ Ok tt → (b ≤ a) × (x ≡ Ok tt)
enough a b r x e = let p = fail_if_pass (ltb a b) r x e in (ltb-false a b p.0, p.1)

-- the other way
pub pass_enough : (a b : ℕ) (r : Refusal) (x : Check) → b ≤ a → x ≡ Ok tt → fail_if (ltb a b) r x ≡ Ok tt
pass_enough a b r x l e = rw (le-ltb a b l) e

-- both pass
pub both_pass : (x y : Check) → both x y ≡ Ok tt → (x ≡ Ok tt) × (y ≡ Ok tt)
both_pass (Ok tt) y e = (refl, e)
both_pass (Err r) y e = absurd (refuse_pass e)

pub pass_both : (x y : Check) → x ≡ Ok tt → y ≡ Ok tt → both x y ≡ Ok tt
pass_both x y p q = rw p q

-- the library's word for it
pub and_both : (x y : Check) → result_and x y ≡ both x y
and_both (Ok tt) y = refl
and_both (Err r) y = refl

-- what was given passed, and it is what a pass gives
pub given_ok : {A : Type 0} (f : Check) (x : A) {y : A} → Ok y ≡ given f x → (f ≡ Ok tt) × (y ≡ x)
given_ok (Ok tt) x e = (refl, cc)
given_ok (Err r) x e = absurd (let z : ◌≡◌ {A = ℕ} 0 1 = cc in omega arith)

-- a refusal was
pub given_err : {A : Type 0} (f : Check) (x : A) {r : Refusal} → Err r ≡ given f x → f ≡ Err r
given_err (Ok tt) x e = absurd (let z : ◌≡◌ {A = ℕ} 0 1 = cc in omega arith)
given_err (Err r) x e = cc

-- ---- answers that are no refusal
pub answer_done : (m : Check) (a b c d : ℕ) → answer m a b ≡ Ok (c, d) → (m ≡ Ok tt) × (a ≡ c) × (b ≡ d)
answer_done (Ok tt) a b c d e = let p : ◌≡◌ {A = ℕ × ℕ} (a, b) (c, d) = cc in (refl, ap (λ q. q.0) p, ap (λ q. q.1) p)
answer_done (Err r) a b c d e = absurd (let z : ◌≡◌ {A = ℕ} 0 1 = cc in omega arith)
