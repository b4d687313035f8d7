-- The fewest digits of a number are its digits in decimal. Assumes nothing.
use Prim.Native.Nat.{ℕ, zero, suc, ◌+◌, ◌-◌, ◌/◌, ◌%◌, ◌^◌, ◌<◌, ◌≤◌}
use mathlib.Core.Path.{◌≡◌, ap}
use mathlib.Core.Bool.{Bool, true, false, cond}
use mathlib.Core.List.{List, [], ◌∷◌, ◌++◌}
use mathlib.Core.Logic.{◌⊎◌, inl, inr}
use native.Mathlib.Nat.{mod-lt, pow-suc, one-le-pow, pow-le-pow_right}
use native.Mathlib.Omega.{arith}
use lib.Dec.{ltb}
use lib.ListN.{length, length-append}
use borrow.Author.Tests.{lt-ltb, le-ltb}
use Rattle.format.specs.Program.{decimal}
use Rattle.basics.proofs.Compare.{choose}
use Rattle.texts.specs.Text.{number_text}
use Rattle.io.specs.Digits.{hex_digit_ascii, last_digits, IsDigitCount}

last_digit : (n : ℕ) → hex_digit_ascii (n % 10) ≡ 48 + n % 10
last_digit n = rw (lt-ltb (n % 10) 10 (mod-lt n (omega arith)))

less_one : (k : ℕ) → 10 ^ (suc k - 1) ≡ 10 ^ k
less_one k = ap (λ (e : ℕ). 10 ^ e) {x = suc k - 1} {y = k} (omega arith)

pub decimal_digits : (m k n : ℕ) → k ≤ m → IsDigitCount 10 1 n k → last_digits 10 k n ≡ decimal m n
decimal_digits m zero n l f = absurd (omega (arith, f.0))
decimal_digits zero (suc k) n l f = absurd (omega arith)
decimal_digits (suc m) (suc zero) n l f = rw (last_digit n, lt-ltb n 10 (omega (arith, f.1)))
decimal_digits (suc m) (suc (suc k)) n l f =
    let most : 10 ^ suc k ≤ n = omega (arith, f.2 (omega arith), less_one (suc k)) in
    let ten : 10 ≤ n = omega (arith, pow-suc 10 k, one-le-pow k 10 (omega arith)) in
    rw (last_digit n, le-ltb n 10 ten)
    (ap (λ (ds : List ℕ). ds ++ ((48 + n % 10) ∷ []))
    (decimal_digits m (suc k) (n / 10) (omega arith)
    (omega arith, omega (arith, f.1, pow-suc 10 (suc k)), λ h. omega (arith, less_one k, pow-suc 10 k))))

-- ---- how long they are: 64 bits take at most 20
pub few_digits : (k n : ℕ) → n < 18446744073709551616 → IsDigitCount 10 1 n k → k ≤ 20
few_digits k n h f = by_test (choose k 21)
  where
    by_test : (k < 21) ⊎ (21 ≤ k) → k ≤ 20
    by_test (inl l) = omega arith
    by_test (inr l) = absurd (omega (arith, f.2 (omega arith), pow-le-pow_right {n = 10} (omega arith) {i = 20} {j = k - 1} (omega arith)))

unless : (b : Bool) (xs : List ℕ) (k : ℕ) → length xs ≤ k → length (cond b [] xs) ≤ k
unless true xs k h = omega arith
unless false xs k h = h

pub decimal_short : (k n : ℕ) → length (decimal k n) ≤ k
decimal_short zero n = omega arith
decimal_short (suc k) n =
    let front : List ℕ = cond (ltb n 10) [] (decimal k (n / 10)) in
    omega (arith, length-append front ((48 + n % 10) ∷ []), unless (ltb n 10) (decimal k (n / 10)) k (decimal_short k (n / 10)))

pub number_short : (n after : ℕ) → length (number_text n after) ≤ 21
number_short n after = omega (arith, length-append (decimal 20 n) (after ∷ []), decimal_short 20 n)
