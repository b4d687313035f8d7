-- The value bytes of a fixed field give the bytes of the sheet back, and the other way round.
use Prim.Native.Nat.{ℕ, ◌+◌, ◌-◌, ◌<◌, ◌≤◌}
use mathlib.Core.Path.{◌≡◌, refl, ap, ap₂, ◌∙◌}
use mathlib.Core.Logic.{◌⊎◌, inl, inr}
use mathlib.Core.List.{List, [], ◌∷◌, ◌++◌, reverse, reverse-reverse}
use native.Mathlib.Omega.{arith}
use lib.ListN.{length, take, drop, take-append-drop, length-drop, length-reverse, length-append}
use lib.Seq.{length-take-le, take_at, drop_at}
use Rattle.format.specs.Key.{flip, key, parts_key, parts_unkey, rest_inverted, signed_key, flipped_top, unkey}
use Rattle.format.specs.Kinds.{Fixed, bool, float, integer, number, parts, plain, width}
use Rattle.format.specs.Lists.{Bytes, sum}
use Rattle.basics.proofs.Compare.{choose}
use borrow.Author.Tests.{lt-ltb, le-ltb}
use Rattle.basics.proofs.Bytes.{bytes_append, bytes_drop, bytes_rest_inverted, bytes_reverse, bytes_take, bytes_top_flipped, length_rest_inverted, length_top_flipped, long_float, long_signed, invert_invert}

flip_flip : (x : ℕ) → x < 256 → flip (flip x) ≡ x
flip_flip x b = go (choose x 128)
  where
    go : (x < 128) ⊎ (128 ≤ x) → flip (flip x) ≡ x
    go (inl h) = rw (lt-ltb x 128 h) (rw (le-ltb (x + 128) 128 (omega arith)) (omega arith))
    go (inr h) = rw (le-ltb x 128 h) (rw (lt-ltb (x - 128) 128 (omega arith)) (omega arith))

top_top : (f : List ℕ) → Bytes f → flipped_top (flipped_top f) ≡ f
top_top [] b = refl
top_top (x ∷ f) b = ap (λ (z : ℕ). z ∷ f) (flip_flip x b.0)

rest_rest : (f : List ℕ) → Bytes f → rest_inverted (rest_inverted f) ≡ f
rest_rest [] b = refl
rest_rest (x ∷ f) b = go (choose x 128)
  where
    go : (x < 128) ⊎ (128 ≤ x) → rest_inverted (rest_inverted (x ∷ f)) ≡ x ∷ f
    go (inl h) = rw (lt-ltb x 128 h) (rw (lt-ltb x 128 h))
    go (inr h) = rw (le-ltb x 128 h) (rw (le-ltb (128 + (255 - x)) 128 (omega arith)) (ap₂ {C = List ℕ} (λ a z. a ∷ z) (omega arith) (invert_invert f b.1)))

unsign : (v : List ℕ) → Bytes v → reverse (flipped_top (signed_key v)) ≡ v
unsign v b = ap reverse (top_top (reverse v) (bytes_reverse v b)) ∙ reverse-reverse v

resign : (f : List ℕ) → Bytes f → signed_key (reverse (flipped_top f)) ≡ f
resign f b = ap flipped_top (reverse-reverse (flipped_top f)) ∙ top_top f b

parts_back : (ns v : List ℕ) → Bytes v → length v ≡ sum ns → parts_unkey ns (parts_key ns v) ≡ v
parts_back [] v b l = nil v l
  where
    nil : (v : List ℕ) → length v ≡ 0 → [] ≡ v
    nil [] l = refl
    nil (x ∷ v) l = absurd (omega arith)
parts_back (n ∷ ns) v b l =
    ap₂ (λ (p q : List ℕ). reverse (flipped_top p) ++ parts_unkey ns q) (take_at (signed_key (take n v)) (parts_key ns (drop n v)) n long)
    (drop_at (signed_key (take n v)) (parts_key ns (drop n v)) n long)
    ∙ ap₂ (λ (p q : List ℕ). p ++ q) (unsign (take n v) (bytes_take n v b)) (parts_back ns (drop n v) (bytes_drop n v b) (omega (arith, length-drop n v)))
    ∙ take-append-drop n v
  where
    long : length (signed_key (take n v)) ≡ n
    long = long_signed (take n v) ∙ length-take-le n v (omega arith)

parts_again : (ns f : List ℕ) → Bytes f → length f ≡ sum ns → parts_key ns (parts_unkey ns f) ≡ f
parts_again [] v b l = nil v l
  where
    nil : (v : List ℕ) → length v ≡ 0 → [] ≡ v
    nil [] l = refl
    nil (x ∷ v) l = absurd (omega arith)
parts_again (n ∷ ns) f b l =
    ap₂ (λ (p q : List ℕ). signed_key p ++ parts_key ns q) (take_at (reverse (flipped_top (take n f))) (parts_unkey ns (drop n f)) n long)
    (drop_at (reverse (flipped_top (take n f))) (parts_unkey ns (drop n f)) n long)
    ∙ ap₂ (λ (p q : List ℕ). p ++ q) (resign (take n f) (bytes_take n f b)) (parts_again ns (drop n f) (bytes_drop n f b) (omega (arith, length-drop n f)))
    ∙ take-append-drop n f
  where
    long : length (reverse (flipped_top (take n f))) ≡ n
    long = length-reverse (flipped_top (take n f)) ∙ length_top_flipped (take n f) ∙ length-take-le n f (omega arith)

pub unkey_key : (k : Fixed) (v : List ℕ) → Bytes v → length v ≡ width k → unkey k (key k v) ≡ v
unkey_key bool v b l = refl
unkey_key (plain n) v b l = refl
unkey_key (number n) v b l = reverse-reverse v
unkey_key (integer n) v b l = unsign v b
unkey_key (float n) v b l =
    ap (λ (z : List ℕ). reverse (rest_inverted z)) (top_top (rest_inverted (reverse v)) (bytes_rest_inverted (reverse v) (bytes_reverse v b)))
    ∙ ap reverse (rest_rest (reverse v) (bytes_reverse v b)) ∙ reverse-reverse v
unkey_key (parts ns) v b l = parts_back ns v b l

pub key_unkey : (k : Fixed) (f : List ℕ) → Bytes f → length f ≡ width k → key k (unkey k f) ≡ f
key_unkey bool f b l = refl
key_unkey (plain n) f b l = refl
key_unkey (number n) f b l = reverse-reverse f
key_unkey (integer n) f b l = resign f b
key_unkey (float n) f b l =
    ap (λ (z : List ℕ). flipped_top (rest_inverted z)) (reverse-reverse (rest_inverted (flipped_top f)))
    ∙ ap flipped_top (rest_rest (flipped_top f) (bytes_top_flipped f b)) ∙ top_top f b
key_unkey (parts ns) f b l = parts_again ns f b l

length_parts : (ns v : List ℕ) → length v ≡ sum ns → length (parts_key ns v) ≡ sum ns
length_parts [] v l = refl
length_parts (n ∷ ns) v l =
    length-append (signed_key (take n v)) (parts_key ns (drop n v))
    ∙ ap₂ ◌+◌ (long_signed (take n v) ∙ length-take-le n v (omega arith)) (length_parts ns (drop n v) (omega (arith, length-drop n v)))

pub length_key : (k : Fixed) (v : List ℕ) → length v ≡ width k → length (key k v) ≡ width k
length_key bool v l = l
length_key (plain n) v l = l
length_key (number n) v l = length-reverse v ∙ l
length_key (integer n) v l = long_signed v ∙ l
length_key (float n) v l = long_float v ∙ l
length_key (parts ns) v l = length_parts ns v l

bytes_parts_unkey : (ns f : List ℕ) → Bytes f → Bytes (parts_unkey ns f)
bytes_parts_unkey [] f b = tt
bytes_parts_unkey (n ∷ ns) f b =
    bytes_append (reverse (flipped_top (take n f))) (parts_unkey ns (drop n f))
    (bytes_reverse (flipped_top (take n f)) (bytes_top_flipped (take n f) (bytes_take n f b)))
    (bytes_parts_unkey ns (drop n f) (bytes_drop n f b))

pub bytes_unkey : (k : Fixed) (f : List ℕ) → Bytes f → Bytes (unkey k f)
bytes_unkey bool f b = b
bytes_unkey (plain n) f b = b
bytes_unkey (number n) f b = bytes_reverse f b
bytes_unkey (integer n) f b = bytes_reverse (flipped_top f) (bytes_top_flipped f b)
bytes_unkey (float n) f b = bytes_reverse (rest_inverted (flipped_top f)) (bytes_rest_inverted (flipped_top f) (bytes_top_flipped f b))
bytes_unkey (parts ns) f b = bytes_parts_unkey ns f b

length_parts_unkey : (ns f : List ℕ) → length f ≡ sum ns → length (parts_unkey ns f) ≡ sum ns
length_parts_unkey [] f l = refl
length_parts_unkey (n ∷ ns) f l =
    length-append (reverse (flipped_top (take n f))) (parts_unkey ns (drop n f))
    ∙ ap₂ ◌+◌ (length-reverse (flipped_top (take n f)) ∙ length_top_flipped (take n f) ∙ length-take-le n f (omega arith))
    (length_parts_unkey ns (drop n f) (omega (arith, length-drop n f)))

pub length_unkey : (k : Fixed) (f : List ℕ) → length f ≡ width k → length (unkey k f) ≡ width k
length_unkey bool f l = l
length_unkey (plain n) f l = l
length_unkey (number n) f l = length-reverse f ∙ l
length_unkey (integer n) f l = length-reverse (flipped_top f) ∙ length_top_flipped f ∙ l
length_unkey (float n) f l = length-reverse (rest_inverted (flipped_top f)) ∙ length_rest_inverted (flipped_top f) ∙ length_top_flipped f ∙ l
length_unkey (parts ns) f l = length_parts_unkey ns f l
