-- What a codec does to a number, told of the number's bytes, over the count of bytes. Assumes nothing.
use Prim.Native.Nat.{ℕ, ◌+◌, ◌-◌, ◌*◌, ◌/◌, ◌%◌, ◌^◌, ◌≤◌, ◌<◌}
use mathlib.Core.Path.{◌≡◌, refl, sym, ap, ◌∙◌, subst}
use mathlib.Core.Bool.{Bool, true, false, cond}
use mathlib.Core.List.{List, [], ◌∷◌, ◌++◌, map, reverse, reverse_aux, reverse-append}
use native.Mathlib.Nat.{mod-lt, mod-add-div, mod-eq_of_lt, div-lt_iff_lt-mul, pow-succ', mul_comm, mul-le-mul_left, sub-add_cancel, mul-add}
use native.Mathlib.Omega.{arith}
use lib.Dec.{ltb}
use lib.Pow.{pow-add}
use lib.ListN.{length, length-map}
use borrow.Author.Tests.{lt-ltb, le-ltb, ltb-true, ltb-false}
use Rattle.format.specs.Lists.{Bytes, low, low_bytes}
use Rattle.format.specs.Key.{invert, inverted, flipped_top, rest_inverted}
use Rattle.basics.proofs.LowBytes.{length_low_bytes, bytes_low_bytes, low_low_bytes}
use Rattle.words.proofs.Words.{powers, spelled, join}
use Rattle.basics.proofs.Bytes.{bytes_invert}

-- ---- every byte inverted

-- a number and its inverse make the largest
low_inverted : (b : List ℕ) → Bytes b → low (inverted b) + low b + 1 ≡ 256 ^ length b
low_inverted [] h = refl
low_inverted (x ∷ b) h = omega (arith, low_inverted b h.1, h.0, pow-succ' 256 (length b))

-- the largest number less x has the inverted bytes
pub invert_all : (n x : ℕ) → x < 256 ^ n → low_bytes n ((256 ^ n - 1) - x) ≡ inverted (low_bytes n x)
invert_all n x h =
    spelled n ((256 ^ n - 1) - x) (inverted (low_bytes n x)) (bytes_invert (low_bytes n x))
    (length-map (low_bytes n x) invert ∙ length_low_bytes n x)
    (omega (arith, low_inverted (low_bytes n x) (bytes_low_bytes n x), low_low_bytes n x h, ap (λ (k : ℕ). 256 ^ k) (length_low_bytes n x)))

-- ---- a top byte above n others; half of what they can spell is 128 * 256 ^ n

-- the top bit flipped, where the number's half is h
abbrev pub flip_top : ℕ → ℕ → ℕ
flip_top h x = cond (ltb x h) (x + h) (x - h)

-- all other bits inverted where the top one is set
abbrev pub invert_rest : ℕ → ℕ → ℕ
invert_rest h x = cond (ltb x h) x (h + ((h - 1) - (x - h)))

map_reverse_aux : (f : ℕ → ℕ) (a b : List ℕ) → map f (reverse_aux a b) ≡ reverse_aux (map f a) (map f b)
map_reverse_aux f [] b = refl
map_reverse_aux f (x ∷ a) b = map_reverse_aux f a (x ∷ b)

module _ (n : ℕ) where
  abbrev P : ℕ
  P = 256 ^ n

  -- a number is a rest r and a top byte t
  by_top : (Q : ℕ → Type 0) → ((r t : ℕ) → r < P → t < 256 → Q (r + P * t)) → (x : ℕ) → x < 256 ^ (n + 1) → Q x
  by_top Q f x h =
      subst Q (mod-add-div x P)
      (f (x % P) (x / P) (mod-lt x (powers n)) ((div-lt_iff_lt-mul (powers n)).1 (rw (pow-add 256 n 1, mul_comm P 256) at h)))

  -- high byte first, the top byte stands before the rest
  top_first : (x r t : ℕ) → r < P → t < 256 → x ≡ r + P * t → reverse (low_bytes (n + 1) x) ≡ t ∷ reverse (low_bytes n r)
  top_first x r t p q e =
      ap (λ (y : ℕ). reverse (low_bytes (n + 1) y)) e
      ∙ ap reverse (join n 1 r t p q ∙ ap (λ (k : ℕ). low_bytes n r ++ k ∷ []) (mod-eq_of_lt q))
      ∙ reverse-append (low_bytes n r) (t ∷ [])

  -- a difference below a factor, which omega does not see
  less : (a b : ℕ) → b ≤ a → P * (a - b) + P * b ≡ P * a
  less a b l = sym (mul-add P (a - b) b) ∙ ap (λ (m : ℕ). P * m) (sub-add_cancel l)

  module _ (r t : ℕ) (p : r < P) (q : t < 256) where
    -- the number's half is that of its top byte
    lower : t < 128 → ltb (r + P * t) (128 * P) ≡ true
    lower l = lt-ltb (r + P * t) (128 * P) (omega (arith, mul-le-mul_left P l))

    upper : 128 ≤ t → ltb (r + P * t) (128 * P) ≡ false
    upper l = le-ltb (r + P * t) (128 * P) (omega (arith, mul-le-mul_left P l))

    flipped : (b : Bool) → ltb t 128 ≡ b → reverse (low_bytes (n + 1) (flip_top (128 * P) (r + P * t))) ≡ flipped_top (t ∷ reverse (low_bytes n r))
    flipped true e =
        let l = ltb-true t 128 e in
        rw (lower l, e) (top_first (r + P * t + 128 * P) r (t + 128) p (omega arith) (omega arith))
    flipped false e =
        let l = ltb-false t 128 e in
        rw (upper l, e) (top_first (r + P * t - 128 * P) r (t - 128) p (omega arith) (omega (arith, less t 128 l)))

    turned : (b : Bool) → ltb t 128 ≡ b → reverse (low_bytes (n + 1) (invert_rest (128 * P) (r + P * t))) ≡ rest_inverted (t ∷ reverse (low_bytes n r))
    turned true e = rw (lower (ltb-true t 128 e), e) (top_first (r + P * t) r t p q refl)
    turned false e =
        let l = ltb-false t 128 e in
        rw (upper l, e)
        (top_first (128 * P + ((128 * P - 1) - (r + P * t - 128 * P))) ((P - 1) - r) (128 + (255 - t)) (omega arith) (omega arith)
        (omega (arith, less 255 t (omega arith), mul-le-mul_left P l))
        ∙ ap (λ (f : List ℕ). (128 + (255 - t)) ∷ f) (ap reverse (invert_all n r p) ∙ sym (map_reverse_aux invert (low_bytes n r) [])))

  -- the number with its top bit flipped has the bytes with their top bit flipped
  pub top_flipped : (x : ℕ) → x < 256 ^ (n + 1) → reverse (low_bytes (n + 1) (flip_top (128 * P) x)) ≡ flipped_top (reverse (low_bytes (n + 1) x))
  top_flipped =
      by_top (λ x. reverse (low_bytes (n + 1) (flip_top (128 * P) x)) ≡ flipped_top (reverse (low_bytes (n + 1) x)))
      (λ r t p q. rw (top_first (r + P * t) r t p q refl) (flipped r t p q (ltb t 128) refl))

  -- and likewise where all bits but the top one are inverted under it
  pub rest_inverted_lem : (x : ℕ) → x < 256 ^ (n + 1) → reverse (low_bytes (n + 1) (invert_rest (128 * P) x)) ≡ rest_inverted (reverse (low_bytes (n + 1) x))
  rest_inverted_lem =
      by_top (λ x. reverse (low_bytes (n + 1) (invert_rest (128 * P) x)) ≡ rest_inverted (reverse (low_bytes (n + 1) x)))
      (λ r t p q. rw (top_first (r + P * t) r t p q refl) (turned r t p q (ltb t 128) refl))
