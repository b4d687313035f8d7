-- Bytes stay bytes, and keys keep their length: under joining, cutting, reversing, inverting and the keys.
use Prim.Native.Nat.{ℕ, zero, suc, ◌+◌, ◌-◌, ◌<◌, ◌≤◌}
use mathlib.Core.Path.{◌≡◌, refl, ap, ap₂, ◌∙◌}
use mathlib.Core.Bool.{Bool, true, false, cond}
use mathlib.Core.List.{List, [], ◌∷◌, ◌++◌, reverse, reverse-cons}
use mathlib.Core.Logic.{◌⊎◌, inl, inr}
use native.Mathlib.Omega.{arith}
use native.Mathlib.Nat.{sub-le}
use lib.Dec.{ltb}
use lib.ListN.{length, take, drop, get_or, replicate, length-map, length-reverse}
use Rattle.format.specs.Key.{float_key, flip, invert, inverted, key, parts_key, rest_inverted, signed_key, flipped_top}
use Rattle.format.specs.Kinds.{Fixed, bool, float, integer, number, parts, plain}
use Rattle.format.specs.Lists.{Bytes}
use Rattle.basics.proofs.Compare.{choose}
use borrow.Author.Tests.{lt-ltb, le-ltb}

pub bytes_append : (f g : List ℕ) → Bytes f → Bytes g → Bytes (f ++ g)
bytes_append [] g bf bg = bg
bytes_append (x ∷ xs) g bf bg = (bf.0, bytes_append xs g bf.1 bg)

pub bytes_right : (f g : List ℕ) → Bytes (f ++ g) → Bytes g
bytes_right [] g b = b
bytes_right (x ∷ f) g b = bytes_right f g b.1

pub bytes_take : (n : ℕ) (v : List ℕ) → Bytes v → Bytes (take n v)
bytes_take zero v b = tt
bytes_take (suc n) [] b = tt
bytes_take (suc n) (x ∷ v) b = (b.0, bytes_take n v b.1)

pub bytes_drop : (n : ℕ) (v : List ℕ) → Bytes v → Bytes (drop n v)
bytes_drop zero v b = b
bytes_drop (suc n) [] b = tt
bytes_drop (suc n) (x ∷ v) b = bytes_drop n v b.1

pub bytes_reverse : (b : List ℕ) → Bytes b → Bytes (reverse b)
bytes_reverse [] h = tt
bytes_reverse (x ∷ b) h = rw (reverse-cons x b) (bytes_append (reverse b) (x ∷ []) (bytes_reverse b h.1) (h.0, tt))

-- ---- the bytes of a variable field are bytes
pub bytes_zeros : (n : ℕ) (f : List ℕ) → Bytes f → Bytes (replicate n 0 ++ f)
bytes_zeros zero f b = b
bytes_zeros (suc n) f b = (omega arith, bytes_zeros n f b)

-- a list of which each element is known to be a byte, as a slice's proof has it
pub bytes_of : (f : List ℕ) → ((i : ℕ) → get_or f i 0 < 256) → Bytes f
bytes_of [] h = tt
bytes_of (x ∷ f) h = (h 0, bytes_of f (λ i. h (suc i)))

pub bytes_invert : (f : List ℕ) → Bytes (inverted f)
bytes_invert [] = tt
bytes_invert (x ∷ xs) = (omega (arith, sub-le 255 x), bytes_invert xs)

-- inverted twice they are the same
pub invert_invert : (f : List ℕ) → Bytes f → inverted (inverted f) ≡ f
invert_invert [] b = refl
invert_invert (x ∷ xs) b = ap₂ {C = List ℕ} (λ a r. a ∷ r) (omega arith) (invert_invert xs b.1)

pub length_top_flipped : (f : List ℕ) → length (flipped_top f) ≡ length f
length_top_flipped [] = refl
length_top_flipped (x ∷ xs) = refl

pub flip_byte : (x : ℕ) → x < 256 → flip x < 256
flip_byte x hb = go (choose x 128)
  where
    go : (x < 128) ⊎ (128 ≤ x) → flip x < 256
    go (inl h) = rw (lt-ltb x 128 h) (omega arith)
    go (inr h) = rw (le-ltb x 128 h) (omega arith)

pub bytes_top_flipped : (f : List ℕ) → Bytes f → Bytes (flipped_top f)
bytes_top_flipped [] b = tt
bytes_top_flipped (x ∷ xs) b = (flip_byte x b.0, b.1)

pub length_rest_inverted : (f : List ℕ) → length (rest_inverted f) ≡ length f
length_rest_inverted [] = refl
length_rest_inverted (x ∷ xs) = go (ltb x 128)
  where
    go : (t : Bool) → length (cond t (x ∷ xs) ((128 + (255 - x)) ∷ inverted xs)) ≡ suc (length xs)
    go true = refl
    go false = ap suc (length-map xs invert)

pub bytes_rest_inverted : (f : List ℕ) → Bytes f → Bytes (rest_inverted f)
bytes_rest_inverted [] b = tt
bytes_rest_inverted (x ∷ xs) b = go (choose x 128)
  where
    go : (x < 128) ⊎ (128 ≤ x) → Bytes (rest_inverted (x ∷ xs))
    go (inl h) = rw (lt-ltb x 128 h) b
    go (inr h) = rw (le-ltb x 128 h) (omega arith, bytes_invert xs)

-- ---- the keys
pub long_signed : (a : List ℕ) → length (signed_key a) ≡ length a
long_signed a = length_top_flipped (reverse a) ∙ length-reverse a

pub long_float : (a : List ℕ) → length (float_key a) ≡ length a
long_float a = length_top_flipped (rest_inverted (reverse a)) ∙ length_rest_inverted (reverse a) ∙ length-reverse a

bytes_signed : (a : List ℕ) → Bytes a → Bytes (signed_key a)
bytes_signed a b = bytes_top_flipped (reverse a) (bytes_reverse a b)

bytes_float : (a : List ℕ) → Bytes a → Bytes (float_key a)
bytes_float a b = bytes_top_flipped (rest_inverted (reverse a)) (bytes_rest_inverted (reverse a) (bytes_reverse a b))

bytes_parts : (ns v : List ℕ) → Bytes v → Bytes (parts_key ns v)
bytes_parts [] v b = tt
bytes_parts (n ∷ ns) v b = bytes_append (signed_key (take n v)) (parts_key ns (drop n v)) (bytes_signed (take n v) (bytes_take n v b))
    (bytes_parts ns (drop n v) (bytes_drop n v b))

-- ---- one column
pub bytes_key : (k : Fixed) (v : List ℕ) → Bytes v → Bytes (key k v)
bytes_key bool v b = b
bytes_key (plain n) v b = b
bytes_key (number n) v b = bytes_reverse v b
bytes_key (integer n) v b = bytes_signed v b
bytes_key (float n) v b = bytes_float v b
bytes_key (parts ns) v b = bytes_parts ns v b
