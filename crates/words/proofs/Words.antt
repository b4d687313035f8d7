-- A number and its bytes, low byte first, over the count of bytes: in halves, as the library makes them, and of a slice. Assumes nothing.
use Prim.Native.Nat.{ℕ, zero, suc, ◌+◌, ◌-◌, ◌*◌, ◌/◌, ◌%◌, ◌^◌, ◌≤◌, ◌<◌}
use mathlib.Core.Path.{◌≡◌, refl, sym, ap, ap₂, ◌∙◌}
use mathlib.Core.List.{List, [], ◌∷◌, ◌++◌, append_assoc}
use native.Mathlib.Nat.{one-le-pow, mod-eq_of_lt, pow-succ', div-one}
use native.Mathlib.Omega.{arith}
use lib.Dec.{lit<}
use lib.Pow.{pow-add, shr-shr}
use lib.ListN.{length, get_or, set, take, drop, replicate, length-append, length-drop}
use lib.Seq.{sets, sets-eq, drop-cons, drop-drop, length-take-le}
use borrow.Rule.Slice.PartMut.{put_mid}
use Rattle.std.specs.Int.{byte_at, bytes_low_first}
use Rattle.format.specs.Lists.{Bytes, low, low_bytes}
use Rattle.basics.proofs.LowBytes.{length_low_bytes, bytes_low_bytes, low_low_bytes, low_bytes_low, low_small}
use Rattle.basics.proofs.Bytes.{bytes_append, bytes_drop, bytes_of, bytes_take}

-- ---- the bytes of a number

pub powers : (n : ℕ) → 0 < 256 ^ n
powers n = one-le-pow n 256 (lit< tt)

-- the bytes of the number that b spells are b
pub spelled : (n x : ℕ) (b : List ℕ) → Bytes b → length b ≡ n → x ≡ low b → low_bytes n x ≡ b
spelled n x b h l e = ap₂ low_bytes (sym l) e ∙ low_bytes_low b h

-- those of 0
pub zeros : (n : ℕ) → low_bytes n 0 ≡ replicate n 0
zeros zero = refl
zeros (suc n) = ap (λ (f : List ℕ). 0 ∷ f) (zeros n)

-- ---- halves: m low bytes and n high ones

pub low_append : (a b : List ℕ) → low (a ++ b) ≡ low a + 256 ^ length a * low b
low_append [] b = omega arith
low_append (x ∷ a) b = rw (low_append a b) (rw (pow-succ' 256 (length a)) (omega arith))

-- two halves joined
pub join : (m n lo hi : ℕ) → lo < 256 ^ m → hi < 256 ^ n → low_bytes (m + n) (lo + 256 ^ m * hi) ≡ low_bytes m lo ++ low_bytes n hi
join m n lo hi p q =
    spelled (m + n) (lo + 256 ^ m * hi) (low_bytes m lo ++ low_bytes n hi)
    (bytes_append (low_bytes m lo) (low_bytes n hi) (bytes_low_bytes m lo) (bytes_low_bytes n hi))
    (length-append (low_bytes m lo) (low_bytes n hi) ∙ ap₂ ◌+◌ (length_low_bytes m lo) (length_low_bytes n hi))
    (sym (low_append (low_bytes m lo) (low_bytes n hi)
    ∙ rw (length_low_bytes m lo) (ap₂ (λ (y z : ℕ). y + 256 ^ m * z) (low_low_bytes m lo p) (low_low_bytes n hi q))))

-- ---- the bytes that the library makes of a number, and where they are written

pub pow_bytes : (n : ℕ) → 256 ^ n ≡ 2 ^ (8 * n)
pow_bytes zero = refl
pow_bytes (suc n) =
    pow-succ' 256 n ∙ ap (λ (k : ℕ). 256 * k) (pow_bytes n) ∙ sym (pow-add 2 8 (8 * n))
    ∙ ap (λ (k : ℕ). 2 ^ k) {x = 8 + 8 * n} {y = 8 * suc n} (omega arith)

byte_is : (i x : ℕ) → byte_at i x ≡ x / 2 ^ (8 * i) % 256
byte_is zero x = ap (λ (k : ℕ). k % 256) (sym (div-one x))
byte_is (suc i) x = ap (λ (k : ℕ). x / k % 256) (pow_bytes (suc i))

bytes_from : (k i x : ℕ) → bytes_low_first i k x ≡ low_bytes k (x / 2 ^ (8 * i))
bytes_from zero i x = refl
bytes_from (suc k) i x =
    ap₂ (λ (b : ℕ) (f : List ℕ). b ∷ f) (byte_is i x)
    (bytes_from k (suc i) x
    ∙ ap (low_bytes k) (ap (λ (j : ℕ). x / 2 ^ j) {x = 8 * suc i} {y = 8 * i + 8} (omega arith) ∙ sym (shr-shr x (8 * i) 8)))

-- written over the n bytes that stood there
pub written : (n at x : ℕ) (l : List ℕ) {b : List ℕ} → b ≡ bytes_low_first 0 n x → at + n ≤ length l
    → put_mid at (at + n - at) l b ≡ sets l at (low_bytes n x)
written n at x l e h =
    let k = length_low_bytes n x in
    ap (put_mid at (at + n - at) l) (e ∙ bytes_from n 0 x ∙ ap (low_bytes n) (div-one x))
    ∙ ap (λ (m : ℕ). put_mid at m l (low_bytes n x)) {x = at + n - at} {y = length (low_bytes n x)} (omega (arith, k))
    ∙ ap (λ (r : List ℕ). take at l ++ (low_bytes n x ++ r)) (drop-drop (length (low_bytes n x)) at l)
    ∙ sym (append_assoc (take at l) (low_bytes n x) (drop (at + length (low_bytes n x)) l))
    ∙ sym (sets-eq (low_bytes n x) l at (omega (arith, k, h)))

-- ---- bytes of a slice

-- one byte, as what is read
pub byte : (l : List ℕ) (at : ℕ) → at < length l → get_or l at 0 ≡ low (take 1 (drop at l))
byte l at h = rw (drop-cons l at 0 h) (omega arith)

-- the bytes of a number that was read are those that stand at its place
pub read_back : (n : ℕ) (l : List ℕ) (at x : ℕ) → ((i : ℕ) → get_or l i 0 < 256) → at + n ≤ length l → x ≡ low (take n (drop at l))
    → low_bytes n x ≡ take n (drop at l)
read_back n l at x b h e =
    spelled n x (take n (drop at l)) (bytes_take n (drop at l) (bytes_drop at l (bytes_of l b)))
    (length-take-le n (drop at l) (rw (length-drop at l) (omega arith))) e

-- and it is a number that as many bytes can spell
pub read_fits : (n : ℕ) (l : List ℕ) (at x : ℕ) → ((i : ℕ) → get_or l i 0 < 256) → at + n ≤ length l → x ≡ low (take n (drop at l)) → x < 256 ^ n
read_fits n l at x b h e =
    rw e
    (rw (length-take-le n (drop at l) (rw (length-drop at l) (omega arith)))
    at (low_small (take n (drop at l)) (bytes_take n (drop at l) (bytes_drop at l (bytes_of l b)))))

pub byte_back : (l : List ℕ) (at : ℕ) → ((i : ℕ) → get_or l i 0 < 256) → at + 1 ≤ length l → low_bytes 1 (get_or l at 0) ≡ take 1 (drop at l)
byte_back l at b h = read_back 1 l at (get_or l at 0) b h (byte l at (omega arith))

-- a byte that is stored is one byte of itself
pub byte_set : (l : List ℕ) (at x : ℕ) → x < 256 → set l at x ≡ sets l at (low_bytes 1 x)
byte_set l at x h = ap (set l at) (sym (mod-eq_of_lt h))
