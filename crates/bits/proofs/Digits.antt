-- The bits of a byte as the digits of a number, which a shift cuts: what a shift leaves tells whether one of them is set,
-- and the ones of a number count those that are. Assumes nothing.
use Prim.Native.Nat.{ℕ, zero, suc, ◌+◌, ◌-◌, ◌*◌, ◌/◌, ◌%◌, ◌^◌, ◌<◌, ◌≤◌}
use mathlib.Core.Path.{◌≡◌, refl, sym, ap, ap₂, ◌∙◌}
use mathlib.Core.Bool.{Bool, true, false, cond, not, ◌||◌}
use mathlib.Core.List.{List}
use native.Mathlib.Nat.{mod-lt}
use native.Mathlib.Omega.{arith}
use lib.Count.{ones, ones_step}
use lib.Dec.{eqb, lit<}
use lib.ListN.{length, get_or, take}
use lib.Pow.{shr-shr}
use lib.Seq.{get_or-take, length-take-le}
use borrow.Author.Tests.{eq-eqb, ne_eqb, eqb-true, eqb-false}
use Rattle.format.specs.Sheet.{packed, bit, any_bit, spare_set}

-- the k bits from row i on are the digits of x, lowest first, and x has no more
abbrev Digits : List ℕ → ℕ → ℕ → ℕ → Type 0
Digits bs i zero x = x ≡ 0
Digits bs i (suc k) x = (bit bs i ≡ eqb (x % 2) 1) × Digits bs (suc i) k (x / 2)

-- byte a from its bit m up
pub byte_digits : (bs : List ℕ) (a m k : ℕ) → get_or bs a 0 < 256 → m + k ≡ 8 → Digits bs (8 * a + m) k (get_or bs a 0 / 2 ^ m)
byte_digits bs a m zero h e =
    let z : m ≡ 8 = omega arith in
    rw z (omega arith)
byte_digits bs a m (suc k) h e =
    let q : (8 * a + m) / 8 ≡ a = omega arith in
    let r : (8 * a + m) % 8 ≡ m = omega arith in
    let i : 8 * a + suc m ≡ suc (8 * a + m) = omega arith in
    let x : get_or bs a 0 / 2 ^ suc m ≡ get_or bs a 0 / 2 ^ m / 2
    = ap (λ (j : ℕ). get_or bs a 0 / 2 ^ j) (omega arith) ∙ sym (shr-shr (get_or bs a 0) m 1) in
    (rw (q, r), rw (← i, ← x) (byte_digits bs a (suc m) k h (omega arith)))

-- ---- one of the digits is set
-- a number is not 0 where its lowest digit is set or the others are not 0
not_zero : (x : ℕ) → not (eqb x 0) ≡ (eqb (x % 2) 1 || not (eqb (x / 2) 0))
not_zero x = go (eqb (x % 2) 1) (eqb (x / 2) 0) refl refl
  where
    go : (t u : Bool) → eqb (x % 2) 1 ≡ t → eqb (x / 2) 0 ≡ u → not (eqb x 0) ≡ (t || not u)
    go true u p q = let o = eqb-true (x % 2) 1 p in ap not (ne_eqb x 0 (λ z. omega arith))
    go false true p q = let o = eqb-true (x / 2) 0 q in ap not (eq-eqb x 0 (omega (arith, eqb-false (x % 2) 1 p)))
    go false false p q = ap not (ne_eqb x 0 (λ z. eqb-false (x / 2) 0 q (omega arith)))

-- one of the bits is set where the number is not 0
any_digits : (bs : List ℕ) (i k x : ℕ) → Digits bs i k x → any_bit bs i k ≡ not (eqb x 0)
any_digits bs i zero x d = sym (ap (λ (y : ℕ). not (eqb y 0)) d)
any_digits bs i (suc k) x d = ap₂ (λ (y z : Bool). y || z) d.0 (any_digits bs (suc i) k (x / 2) d.1) ∙ sym (not_zero x)

-- ---- the spare bits of n rows in front of s
module _ (s : List ℕ) (n : ℕ) (room : packed n ≤ length s) where
  -- they are the rest of the bits of the last byte
  spare_count : spare_set (take (packed n) s) n ≡ any_bit (take (packed n) s) n (8 * packed n - n)
  spare_count = ap (λ (m : ℕ). any_bit (take (packed n) s) n (8 * m - n)) (length-take-le (packed n) s room)

  -- none where the rows fill their bytes
  pub spare_full : n % 8 ≡ 0 → spare_set (take (packed n) s) n ≡ false
  spare_full e = spare_count ∙ ap (any_bit (take (packed n) s) n) (let z : 8 * packed n - n ≡ 0 = omega arith in z)

  -- else what a shift past the rows leaves of the byte tells
  pub spare_shift : (n % 8 ≡ 0 → ⊥) → get_or s (n / 8) 0 < 256
      → spare_set (take (packed n) s) n ≡ not (eqb (get_or s (n / 8) 0 / 2 ^ (n % 8)) 0)
  spare_shift e h =
      let z : 8 * packed n - n ≡ 8 - n % 8 = omega (arith, e) in
      let i : 8 * (n / 8) + n % 8 ≡ n = omega arith in
      let b : get_or (take (packed n) s) (n / 8) 0 ≡ get_or s (n / 8) 0 = get_or-take (packed n) s (n / 8) 0 (omega (arith, e)) in
      let d = byte_digits (take (packed n) s) (n / 8) (n % 8) (8 - n % 8) (rw b h) (omega arith) in
      spare_count
      ∙ ap (any_bit (take (packed n) s) n) z
      ∙ any_digits (take (packed n) s) n (8 - n % 8) (get_or s (n / 8) 0 / 2 ^ (n % 8)) (rw (i, b) at d)

-- ---- how many are set
-- the set bits among the k from row i on
unfoldable pub set_in : List ℕ → ℕ → ℕ → ℕ
set_in bs i zero = 0
set_in bs i (suc k) = cond (bit bs i) 1 0 + set_in bs (suc i) k

-- a digit as a flag, and back
low_digit : (x : ℕ) → x < 2 → cond (eqb x 1) 1 0 ≡ x
low_digit zero h = refl
low_digit (suc zero) h = refl
low_digit (suc (suc x)) h = absurd (omega arith)

-- as many bits are set as the number has ones
pub set_digits : (bs : List ℕ) (i k x : ℕ) → Digits bs i k x → set_in bs i k ≡ ones x
unfolding ones set_in
set_digits bs i zero x d = sym (ap ones d)
set_digits bs i (suc k) x d =
    ap₂ (λ (y z : ℕ). y + z)
    (ap (λ (t : Bool). cond t 1 0) d.0 ∙ low_digit (x % 2) (mod-lt x (lit< tt)))
    (set_digits bs (suc i) k (x / 2) d.1)
    ∙ sym (ones_step x)
