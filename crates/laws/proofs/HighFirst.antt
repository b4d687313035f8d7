-- Numbers as the bytes that spell them, high byte first: the bytes stand as the numbers do, for every count of bytes. Assumes nothing.
use Prim.Native.Nat.{ℕ, ◌+◌, ◌*◌, ◌^◌, ◌<◌, compare, Ordering}
use mathlib.Core.Path.{◌≡◌, refl, ap₂, sym, ◌∙◌}
use mathlib.Core.List.{List, [], ◌∷◌, ◌++◌, reverse, reverse-cons}
use native.Mathlib.Omega.{arith}
use native.Mathlib.Nat.{suc_inj, pow-succ'}
use lib.Arith.{digits_lt}
use lib.Pow.{pow-add}
use lib.ListN.{length, length-append, length-reverse}
use Rattle.format.specs.Key.{unsigned_key}
use Rattle.format.specs.Lists.{Bytes, low}
use Rattle.format.specs.Order.{cmp, then}
use Rattle.basics.proofs.Compare.{Tri, below, same, above, tri, compare_lt, compare_gt, compare_of}
use Rattle.basics.proofs.Bytes.{bytes_reverse}

-- the number that bytes spell, high byte first
abbrev pub high : List ℕ → ℕ
high [] = 0
high (x ∷ xs) = x * 256 ^ length xs + high xs

pub high_lt : (f : List ℕ) → Bytes f → high f < 256 ^ length f
high_lt [] b = omega arith
high_lt (x ∷ xs) b = rw (pow-succ' 256 (length xs)) (digits_lt b.0 (high_lt xs b.1))

shifted : (k m n : ℕ) (o : Ordering) → Tri m n o → Tri (k + m) (k + n) o
shifted k m n o (below h) = below (omega arith)
shifted k m n o (same h) = same (omega arith)
shifted k m n o (above h) = above (omega arith)

pub compare_shift : (k m n : ℕ) → compare (k + m) (k + n) ≡ compare m n
compare_shift k m n = compare_of (k + m) (k + n) (compare m n) (shifted k m n (compare m n) (tri m n))

-- one digit before others
digit : (p x y r s : ℕ) (o : Ordering) → r < p → s < p → Tri x y o → then o (compare r s) ≡ compare (x * p + r) (y * p + s)
digit p x y r s o hr hs (below h) = sym (compare_lt (x * p + r) (y * p + s) (omega (arith, digits_lt h hr)))
digit p x y r s o hr hs (same h) = rw h (sym (compare_shift (y * p) r s))
digit p x y r s o hr hs (above h) = sym (compare_gt (x * p + r) (y * p + s) (omega (arith, digits_lt h hs)))

-- high byte first: the order of the bytes is the order of the numbers
pub cmp_high : (f g : List ℕ) → length f ≡ length g → Bytes f → Bytes g → cmp f g ≡ compare (high f) (high g)
cmp_high [] [] e bf bg = refl
cmp_high [] (y ∷ ys) e bf bg = absurd (omega arith)
cmp_high (x ∷ xs) [] e bf bg = absurd (omega arith)
cmp_high (x ∷ xs) (y ∷ ys) e bf bg =
    rw (cmp_high xs ys (suc_inj e) bf.1 bg.1) (rw (← suc_inj e)
    (digit (256 ^ length xs) x y (high xs) (high ys) (compare x y) (high_lt xs bf.1) (rw (suc_inj e) (high_lt ys bg.1)) (tri x y)))

-- ---- low byte first

high_append : (f g : List ℕ) → high (f ++ g) ≡ high f * 256 ^ length g + high g
high_append [] g = omega arith
high_append (x ∷ xs) g = rw (length-append xs g) (rw (pow-add 256 (length xs) (length g)) (rw (high_append xs g) (omega arith)))

pub low_high : (b : List ℕ) → low b ≡ high (reverse b)
low_high [] = refl
low_high (x ∷ b) = rw (reverse-cons x b) (rw (high_append (reverse b) (x ∷ [])) (rw (← low_high b) (omega arith)))

-- turned round, of one length still
pub even : (a b : List ℕ) → length a ≡ length b → length (reverse a) ≡ length (reverse b)
even a b e = length-reverse a ∙ e ∙ sym (length-reverse b)

-- unsigned numbers
pub unsigned_order : (a b : List ℕ) → length a ≡ length b → Bytes a → Bytes b → cmp (unsigned_key a) (unsigned_key b) ≡ compare (low a) (low b)
unsigned_order a b e ha hb =
    cmp_high (reverse a) (reverse b) (even a b e) (bytes_reverse a ha) (bytes_reverse b hb)
    ∙ ap₂ compare (sym (low_high a)) (sym (low_high b))
