-- Signed numbers and floats: their keys stand as the numbers do, for every count of bytes. Assumes nothing.
use Prim.Native.Nat.{ℕ, suc, ◌+◌, ◌-◌, ◌*◌, ◌^◌, ◌<◌, ◌≤◌, compare, Ordering}
use mathlib.Core.Path.{◌≡◌, ap, sym, ◌∙◌}
use mathlib.Core.Logic.{◌⊎◌, inl, inr}
use mathlib.Core.List.{List, [], ◌∷◌, reverse}
use native.Mathlib.Omega.{arith}
use native.Mathlib.Nat.{suc_inj, pow-succ', add-mul, sub-add_cancel, mul-le-mul_right, le-pred_of_lt, add-sub_cancel_left}
use lib.Arith.{digits_lt}
use lib.ListN.{length, length-reverse, length-map}
use lib.IntN.{ℤ, pos, negsuc}
use Rattle.format.specs.Key.{flip, float_key, invert, inverted, rest_inverted, signed_key, flipped_top}
use Rattle.format.specs.Lists.{Bytes, low}
use Rattle.format.specs.Order.{cmp, cmpℤ}
use Rattle.format.specs.Value.{float_rank, half, signed}
use Rattle.basics.proofs.Compare.{choose, Tri, below, same, above, tri, compare_lt, compare_gt, compare_of}
use borrow.Author.Tests.{lt-ltb, le-ltb}
use Rattle.basics.proofs.Bytes.{flip_byte, bytes_rest_inverted, bytes_reverse, bytes_top_flipped, length_rest_inverted, length_top_flipped}
use Rattle.laws.proofs.HighFirst.{high, high_lt, compare_shift, cmp_high, low_high, even}

-- ---- signed numbers and floats: the bytes of the row spell the integer, moved up by half of the range

abbrev Moved : ℕ → ℤ → ℕ → Type 0
Moved h (pos a) u = u ≡ h + a
Moved h (negsuc a) u = u + suc a ≡ h

fall : (h a b u v : ℕ) (o : Ordering) → u + suc a ≡ h → v + suc b ≡ h → Tri b a o → Tri u v o
fall h a b u v o p q (below t) = below (omega arith)
fall h a b u v o p q (same t) = same (omega arith)
fall h a b u v o p q (above t) = above (omega arith)

moved_order : (h : ℕ) (y z : ℤ) (u v : ℕ) → Moved h y u → Moved h z v → compare u v ≡ cmpℤ y z
moved_order h (pos a) (pos b) u v p q = rw p (rw q (compare_shift h a b))
moved_order h (pos a) (negsuc b) u v p q = compare_gt u v (omega arith)
moved_order h (negsuc a) (pos b) u v p q = compare_lt u v (omega arith)
moved_order h (negsuc a) (negsuc b) u v p q = compare_of u v (compare b a) (fall h a b u v (compare b a) p q (tri b a))

-- ---- the bytes of a signed number, high byte first; p is what the bytes after the first can spell

signed_low : (x r p : ℕ) → x < 128 → r < p → Moved (128 * p) (signed (128 * p) (x * p + r)) (flip x * p + r)
signed_low x r p hx hr = rw (lt-ltb (x * p + r) (128 * p) (digits_lt hx hr)) (rw (lt-ltb x 128 hx) (omega arith))

upper : (x r p : ℕ) → 128 ≤ x → 128 * p ≤ x * p + r
upper x r p hx = omega (arith, mul-le-mul_right p hx)

less : (x k p : ℕ) → k ≤ x → (x - k) * p + k * p ≡ x * p
less x k p h = sym (add-mul (x - k) k p) ∙ ap (λ (n : ℕ). n * p) (sub-add_cancel h)

within : (x r p : ℕ) → x < 256 → r < p → x * p + r < 2 * (128 * p)
within x r p hb hr = omega (arith, digits_lt hb hr)

signed_high : (x r p : ℕ) → 128 ≤ x → x < 256 → r < p → Moved (128 * p) (signed (128 * p) (x * p + r)) (flip x * p + r)
signed_high x r p hx hb hr =
    rw (le-ltb (x * p + r) (128 * p) (upper x r p hx)) (rw (lt-ltb (x * p + r) (2 * (128 * p)) (within x r p hb hr)) (rw (le-ltb x 128 hx)
    (omega (arith, less x 128 p hx, within x r p hb hr))))

signed_moved : (x r p : ℕ) → x < 256 → r < p → Moved (128 * p) (signed (128 * p) (x * p + r)) (flip x * p + r)
signed_moved x r p hb hr = go (choose x 128)
  where
    go : (x < 128) ⊎ (128 ≤ x) → Moved (128 * p) (signed (128 * p) (x * p + r)) (flip x * p + r)
    go (inl h) = signed_low x r p h hr
    go (inr h) = signed_high x r p h hb hr

half_suc : (n : ℕ) → half (suc n) ≡ 128 * 256 ^ n
half_suc n = rw (pow-succ' 256 n) (omega arith)

signed_high_first : (f g : List ℕ) → length f ≡ length g → Bytes f → Bytes g → 0 < length f
    → cmp (flipped_top f) (flipped_top g) ≡ cmpℤ (signed (half (length f)) (high f)) (signed (half (length g)) (high g))
signed_high_first [] g e bf bg h = absurd (omega arith)
signed_high_first (x ∷ xs) [] e bf bg h = absurd (omega arith)
signed_high_first (x ∷ xs) (y ∷ ys) e bf bg h =
    cmp_high (flip x ∷ xs) (flip y ∷ ys) e (flip_byte x bf.0, bf.1) (flip_byte y bg.0, bg.1)
    ∙ rw (half_suc (length xs)) (rw (half_suc (length ys)) (rw (← suc_inj e)
    (moved_order (128 * p) (signed (128 * p) (x * p + high xs)) (signed (128 * p) (y * p + high ys)) (flip x * p + high xs) (flip y * p + high ys)
    (signed_moved x (high xs) p bf.0 (high_lt xs bf.1)) (signed_moved y (high ys) p bg.0 (rw (suc_inj e) (high_lt ys bg.1))))))
  where
    p : ℕ
    p = 256 ^ length xs

-- signed numbers, of every count of bytes but none
pub signed_order : (a b : List ℕ) → length a ≡ length b → Bytes a → Bytes b → 0 < length a
    → cmp (signed_key a) (signed_key b) ≡ cmpℤ (signed (half (length a)) (low a)) (signed (half (length b)) (low b))
signed_order a b e ha hb h =
    rw (low_high a) (rw (low_high b) (rw (← length-reverse a) (rw (← length-reverse b)
    (signed_high_first (reverse a) (reverse b) (even a b e) (bytes_reverse a ha) (bytes_reverse b hb) (rw (length-reverse a) h)))))

-- ---- floats

-- the bytes after the first, inverted
high_inverted : (f : List ℕ) → Bytes f → high (inverted f) + suc (high f) ≡ 256 ^ length f
high_inverted [] b = omega arith
high_inverted (x ∷ xs) b =
    rw (pow-succ' 256 (length xs)) (rw (length-map xs invert) (omega (arith, high_inverted xs b.1, less 255 x (256 ^ length xs) (le-pred_of_lt b.0))))

float_low : (x r p : ℕ) → x < 128 → r < p → Moved (128 * p) (float_rank (128 * p) (x * p + r)) (flip x * p + r)
float_low x r p hx hr = rw (lt-ltb (x * p + r) (128 * p) (digits_lt hx hr)) (rw (lt-ltb x 128 hx) (omega arith))

float_high : (x r i p : ℕ) → 128 ≤ x → x < 256 → r < p → i + suc r ≡ p
    → Moved (128 * p) (float_rank (128 * p) (x * p + r)) (flip (128 + (255 - x)) * p + i)
float_high x r i p hx hb hr hi =
    rw (le-ltb (x * p + r) (128 * p) (upper x r p hx)) (rw (le-ltb (128 + (255 - x)) 128 (omega arith)) (rw (add-sub_cancel_left 128 (255 - x))
    (omega (arith, less 255 x p (le-pred_of_lt hb), upper x r p hx))))

float_moved : (x : ℕ) (xs : List ℕ) → Bytes (x ∷ xs)
    → Moved (128 * 256 ^ length xs) (float_rank (128 * 256 ^ length xs) (high (x ∷ xs))) (high (flipped_top (rest_inverted (x ∷ xs))))
float_moved x xs b = go (choose x 128)
  where
    go : (x < 128) ⊎ (128 ≤ x)
        → Moved (128 * 256 ^ length xs) (float_rank (128 * 256 ^ length xs) (high (x ∷ xs))) (high (flipped_top (rest_inverted (x ∷ xs))))
    go (inl h) = rw (lt-ltb x 128 h) (float_low x (high xs) (256 ^ length xs) h (high_lt xs b.1))
    go (inr h) = rw (le-ltb x 128 h) (rw (length-map xs invert)
        (float_high x (high xs) (high (inverted xs)) (256 ^ length xs) h b.0 (high_lt xs b.1) (high_inverted xs b.1)))

float_high_first : (f g : List ℕ) → length f ≡ length g → Bytes f → Bytes g → 0 < length f
    → cmp (flipped_top (rest_inverted f)) (flipped_top (rest_inverted g)) ≡ cmpℤ (float_rank (half (length f)) (high f)) (float_rank (half (length g)) (high g))
float_high_first [] g e bf bg h = absurd (omega arith)
float_high_first (x ∷ xs) [] e bf bg h = absurd (omega arith)
float_high_first (x ∷ xs) (y ∷ ys) e bf bg h =
    cmp_high (key x xs) (key y ys) (long x xs ∙ e ∙ sym (long y ys)) (bytes x xs bf) (bytes y ys bg)
    ∙ rw (half_suc (length xs)) (rw (half_suc (length ys)) (rw (← suc_inj e)
    (moved_order (128 * p) (float_rank (128 * p) (high (x ∷ xs))) (float_rank (128 * p) (y * p + high ys)) (high (key x xs)) (high (key y ys))
    (float_moved x xs bf) (rw (suc_inj e) (float_moved y ys bg)))))
  where
    p : ℕ
    p = 256 ^ length xs

    key : ℕ → List ℕ → List ℕ
    key x xs = flipped_top (rest_inverted (x ∷ xs))

    long : (x : ℕ) (xs : List ℕ) → length (flipped_top (rest_inverted (x ∷ xs))) ≡ suc (length xs)
    long x xs = length_top_flipped (rest_inverted (x ∷ xs)) ∙ length_rest_inverted (x ∷ xs)

    bytes : (x : ℕ) (xs : List ℕ) → Bytes (x ∷ xs) → Bytes (flipped_top (rest_inverted (x ∷ xs)))
    bytes x xs b = bytes_top_flipped (rest_inverted (x ∷ xs)) (bytes_rest_inverted (x ∷ xs) b)

-- floats, of every count of bytes but none
pub float_order : (a b : List ℕ) → length a ≡ length b → Bytes a → Bytes b → 0 < length a
    → cmp (float_key a) (float_key b) ≡ cmpℤ (float_rank (half (length a)) (low a)) (float_rank (half (length b)) (low b))
float_order a b e ha hb h =
    rw (low_high a) (rw (low_high b) (rw (← length-reverse a) (rw (← length-reverse b)
    (float_high_first (reverse a) (reverse b) (even a b e) (bytes_reverse a ha) (bytes_reverse b hb) (rw (length-reverse a) h)))))
