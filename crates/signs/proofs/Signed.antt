-- The top bit of a word and the bits below it, over the count n of its bytes. Assumes nothing.
use Prim.Native.Nat.{ℕ, zero, suc, ◌+◌, ◌-◌, ◌*◌, ◌/◌, ◌%◌, ◌^◌, ◌<◌}
use mathlib.Core.Path.{◌≡◌, refl, sym, ap, ap₂, ◌∙◌}
use mathlib.Core.Bool.{Bool, true, false, cond}
use mathlib.Core.List.{reverse}
use native.Mathlib.Nat.{div-eq_of_lt, zero-mul, one-mul, pow-succ'}
use native.Mathlib.Numerals.{add-one}
use native.Mathlib.Omega.{arith}
use lib.Dec.{ltb}
use lib.Arith.{digits_div, digits_mod}
use lib.Bits.{bit_and, bit_xor, xor_zero_r, and_mask, xor_add_and, xor_disjoint, xor_block, and_comm, and_shifted}
use lib.Pow.{pow_pos, pow-add}
use borrow.Author.Tests.{ltb-true, ltb-false}
use Rattle.format.specs.Lists.{low_bytes}
use Rattle.format.specs.Key.{flipped_top, rest_inverted}
use Rattle.words.proofs.Words.{pow_bytes}
use Rattle.signs.proofs.Keys.{flip_top, invert_rest, top_flipped, rest_inverted_lem}

-- ---- k bits below the top one

module _ (k x : ℕ) (h : x < 2 ^ k + 2 ^ k) where
  abbrev P : ℕ
  P = 2 ^ k

  -- the exclusive or with the top bit, by which half x is in
  flips : (t : Bool) → ltb x P ≡ t → bit_xor x P ≡ cond t (x + P) (x - P)
  flips true e =
      let m : bit_and x P ≡ 0 = and_comm x P ∙ ap (λ (n : ℕ). bit_and n x) (sym (one-mul P)) ∙ and_shifted 1 k x (ltb-true x P e) in
      xor_disjoint x P m
  flips false e =
      let l = ltb-false x P e in
      let a : x ≡ 1 * P + (x - P) = omega arith in
      let p : P ≡ 1 * P + 0 = omega arith in
      ap₂ bit_xor a p ∙ xor_block k 1 1 (x - P) 0 (omega arith) (pow_pos k) ∙ omega (arith, xor_zero_r (x - P))

  -- and with the mask that the sign gives, all bits or none
  ranks : (t : Bool) → ltb x P ≡ t → bit_xor x (bit_and (x / P * (P + P - 1)) (P - 1)) ≡ cond t x (P + ((P - 1) - (x - P)))
  ranks true e = rw (div-eq_of_lt (ltb-true x P e), zero-mul (P + P - 1)) (xor_zero_r x)
  ranks false e =
      let l = ltb-false x P e in
      let a : x ≡ 1 * P + (x - P) = omega arith in
      let d : x - P < P = omega arith in
      let q : x / P ≡ 1 = ap (λ (n : ℕ). n / P) a ∙ digits_div 1 d in
      let all : P + P - 1 ≡ 1 * P + (P - 1) = omega (arith, pow_pos k) in
      let mask : bit_and (P + P - 1) (P - 1) ≡ P - 1 = and_mask (P + P - 1) k ∙ ap (λ (n : ℕ). n % P) all ∙ digits_mod 1 (omega (arith, pow_pos k)) in
      let r : bit_and x (P - 1) ≡ x - P = and_mask x k ∙ ap (λ (n : ℕ). n % P) a ∙ digits_mod 1 d in
      rw (q, one-mul (P + P - 1), mask) (omega (arith, xor_add_and x (P - 1), r, pow_pos k))

  -- either is a word of as many bits
  flip_small : (t : Bool) → ltb x P ≡ t → cond t (x + P) (x - P) < P + P
  flip_small true e = omega (arith, ltb-true x P e)
  flip_small false e = omega (arith, h)

  rank_small : (t : Bool) → ltb x P ≡ t → cond t x (P + ((P - 1) - (x - P))) < P + P
  rank_small true e = h
  rank_small false e = omega (arith, pow_pos k)

-- ---- the top bit of n bytes is half of what they spell: that of the top byte, with the bytes below it

module _ (m : ℕ) where
  half : 128 * 256 ^ m ≡ 2 ^ (7 + 8 * m)
  half = ap (λ (p : ℕ). 128 * p) (pow_bytes m) ∙ sym (pow-add 2 7 (8 * m))

  halves : 256 ^ (m + 1) ≡ 2 ^ (7 + 8 * m) + 2 ^ (7 + 8 * m)
  halves = rw (add-one m) (omega (arith, pow-succ' 256 m, half))

-- what holds of the top bit above m bytes holds of that of n
by_size : (Q : ℕ → ℕ → Type 0) → ((m : ℕ) → Q (m + 1) (128 * 256 ^ m)) → (n top : ℕ) → top + top ≡ 256 ^ n → Q n top
by_size Q f zero top e = absurd (omega (arith, e))
by_size Q f (suc m) top e =
    let p : top ≡ 128 * 256 ^ m = omega (arith, e, pow-succ' 256 m) in
    rw (p, ← add-one m) (f m)

-- what the exclusive or with the top bit gives is a word, whose top bit is flipped
pub flipped : (n top : ℕ) → top + top ≡ 256 ^ n → (x : ℕ) → x < 256 ^ n
    → (bit_xor x top < 256 ^ n) × (reverse (low_bytes n (bit_xor x top)) ≡ flipped_top (reverse (low_bytes n x)))
flipped =
    by_size (λ n top. (x : ℕ) → x < 256 ^ n → (bit_xor x top < 256 ^ n) × (reverse (low_bytes n (bit_xor x top)) ≡ flipped_top (reverse (low_bytes n x))))
    (λ m x h.
    let g : x < 2 ^ (7 + 8 * m) + 2 ^ (7 + 8 * m) = rw (halves m) at h in
    let e : bit_xor x (128 * 256 ^ m) ≡ flip_top (128 * 256 ^ m) x = rw (half m) (flips (7 + 8 * m) x g (ltb x (2 ^ (7 + 8 * m))) refl) in
    (rw (e, half m, halves m) (flip_small (7 + 8 * m) x g (ltb x (2 ^ (7 + 8 * m))) refl), rw e (top_flipped m x h)))

-- and with the mask, one whose other bits are inverted under the sign
pub ranked : (n top all : ℕ) → top + top ≡ 256 ^ n → all + 1 ≡ 256 ^ n → (x : ℕ) → x < 256 ^ n
    → (bit_xor x (bit_and (x / top * all) (top - 1)) < 256 ^ n)
    × (reverse (low_bytes n (bit_xor x (bit_and (x / top * all) (top - 1)))) ≡ rest_inverted (reverse (low_bytes n x)))
ranked n top all h a =
    let e : all ≡ top + top - 1 = omega (arith, h, a) in
    rw e (by_size (λ n top. (x : ℕ) → x < 256 ^ n
    → (bit_xor x (bit_and (x / top * (top + top - 1)) (top - 1)) < 256 ^ n)
    × (reverse (low_bytes n (bit_xor x (bit_and (x / top * (top + top - 1)) (top - 1)))) ≡ rest_inverted (reverse (low_bytes n x))))
    (λ m x h.
    let P : ℕ = 128 * 256 ^ m in
    let g : x < 2 ^ (7 + 8 * m) + 2 ^ (7 + 8 * m) = rw (halves m) at h in
    let e : bit_xor x (bit_and (x / P * (P + P - 1)) (P - 1)) ≡ invert_rest P x = rw (half m) (ranks (7 + 8 * m) x g (ltb x (2 ^ (7 + 8 * m))) refl) in
    (rw (e, half m, halves m) (rank_small (7 + 8 * m) x g (ltb x (2 ^ (7 + 8 * m))) refl), rw e (rest_inverted_lem m x h)))
    n top h)
