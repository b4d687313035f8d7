-- Bytes with zeros past their end: a block's data and padding, and what a word of them spells. Assumes nothing.
use Prim.Native.Nat.{ℕ, zero, suc, ◌+◌, ◌-◌, ◌*◌, ◌/◌, ◌^◌, ◌≤◌}
use mathlib.Core.Path.{◌≡◌, refl, sym, ap, ◌∙◌}
use mathlib.Core.List.{List, [], ◌∷◌, ◌++◌}
use native.Mathlib.Nat.{zero-add, suc-add, sub-zero, suc-sub-suc}
use native.Mathlib.Omega.{arith}
use lib.ListN.{length, take, drop, replicate, length-drop}
use lib.Seq.{drop-drop, drop-nil, take_all, take-nil}
use Rattle.format.specs.Field.{block}
use Rattle.format.specs.Lists.{Bytes, low, low_bytes}
use Rattle.number.proofs.Words.{spelled}
use Rattle.number.proofs.Tops.{word_top}

-- the first n of x, and zeros past its end
abbrev pub padded : ℕ → List ℕ → List ℕ
padded zero x = []
padded (suc n) [] = 0 ∷ padded n []
padded (suc n) (y ∷ x) = y ∷ padded n x

-- n bytes
pub length_padded : (n : ℕ) (x : List ℕ) → length (padded n x) ≡ n
length_padded zero x = refl
length_padded (suc n) [] = ap suc (length_padded n [])
length_padded (suc n) (y ∷ x) = ap suc (length_padded n x)

bytes_padded : (n : ℕ) (x : List ℕ) → Bytes x → Bytes (padded n x)
bytes_padded zero x b = tt
bytes_padded (suc n) [] b = (omega arith, bytes_padded n [] b)
bytes_padded (suc n) (y ∷ x) b = (b.0, bytes_padded n x b.1)

-- so many, then so many more
padded_more : (n m : ℕ) (x : List ℕ) → padded (n + m) x ≡ padded n x ++ padded m (drop n x)
padded_more zero m x = ap (λ (k : ℕ). padded k x) (zero-add m)
padded_more (suc n) m [] =
    ap (λ (k : ℕ). padded k []) (suc-add n m)
    ∙ ap (λ (z : List ℕ). 0 ∷ z) (padded_more n m [] ∙ ap (λ (z : List ℕ). padded n [] ++ padded m z) (drop-nil n))
padded_more (suc n) m (y ∷ x) = ap (λ (k : ℕ). padded k (y ∷ x)) (suc-add n m) ∙ ap (λ (z : List ℕ). y ∷ z) (padded_more n m x)

-- and at place i of a block
pub padded_step : (size i w : ℕ) (x : List ℕ) → i + w ≤ size
    → padded (size - i) (drop i x) ≡ padded w (drop i x) ++ padded (size - (i + w)) (drop (i + w) x)
padded_step size i w x h =
    ap (λ (k : ℕ). padded k (drop i x)) {x = size - i} {y = w + (size - (i + w))} (omega arith)
    ∙ padded_more w (size - (i + w)) (drop i x)
    ∙ ap (λ (z : List ℕ). padded w (drop i x) ++ padded (size - (i + w)) z) (drop-drop w i x)

-- a block is its data, padded, and the end byte
padded_is : (n : ℕ) (x : List ℕ) → length x ≤ n → padded n x ≡ x ++ replicate (n - length x) 0
padded_is zero [] h = refl
padded_is zero (y ∷ x) h = absurd (omega arith)
padded_is (suc n) [] h =
    ap (λ (z : List ℕ). 0 ∷ z) (padded_is n [] (omega arith) ∙ ap (λ (k : ℕ). replicate k 0) (sub-zero n))
    ∙ ap (λ (k : ℕ). replicate k 0) (sym (sub-zero (suc n)))
padded_is (suc n) (y ∷ x) h =
    ap (λ (z : List ℕ). y ∷ z) (padded_is n x (omega arith) ∙ ap (λ (k : ℕ). x ++ replicate k 0) (sym (suc-sub-suc n (length x))))

pub block_padded : (size : ℕ) (x : List ℕ) (end : ℕ) → length x ≤ size → block size x end ≡ padded size x ++ (end ∷ [])
block_padded size x end h = ap (λ (z : List ℕ). z ++ (end ∷ [])) (sym (padded_is size x h))

-- ---- words

-- zeros past the end add nothing
low_padded : (n : ℕ) (x : List ℕ) → low (take n x) ≡ low (padded n x)
low_padded zero x = refl
low_padded (suc n) [] = omega (arith, low_padded n [], ap low (take-nil {A = ℕ} n))
low_padded (suc n) (y ∷ x) = ap (λ (k : ℕ). y + 256 * k) (low_padded n x)

-- the bytes of a word that is read from x
pub word_padded : (n : ℕ) (x : List ℕ) → Bytes x → low_bytes n (low (take n x)) ≡ padded n x
word_padded n x b = spelled n (low (take n x)) (padded n x) (bytes_padded n x b) (length_padded n x) (low_padded n x)

-- the last bytes of l, from place i on
pub word_last : (w x : ℕ) (l : List ℕ) (i : ℕ) → i ≤ length l → length l ≤ i + w → w ≤ length l → Bytes l
    → x ≡ low (take w (drop (length l - w) l)) → x / 2 ^ (8 * (w - (length l - i))) ≡ low (drop i l)
word_last w x l i h k m b e =
    word_top w x l i (length l) h (omega arith) m (omega arith) b e
    ∙ ap low (take_all (length l - i) (drop i l) (omega (arith, length-drop i l)))
