-- The top bytes of a word: what a word that ends at a place holds of the bytes before that place. Assumes nothing.
use Prim.Native.Nat.{ℕ, zero, suc, ◌+◌, ◌-◌, ◌*◌, ◌/◌, ◌^◌, ◌≤◌}
use mathlib.Core.Path.{◌≡◌, sym, ap, ◌∙◌}
use mathlib.Core.List.{List, [], ◌∷◌}
use native.Mathlib.Nat.{sub-zero, suc-sub-suc, div-one}
use native.Mathlib.Omega.{arith}
use lib.Arith.{digits_div}
use lib.Pow.{shr-shr}
use lib.ListN.{length, take, drop, length-drop}
use lib.Seq.{drop-drop, length-take-le, take-nil}
use Rattle.format.specs.Lists.{Bytes, low}
use Rattle.basics.proofs.Bytes.{bytes_drop, bytes_take}

-- a part's part
pub drop_take : (n m : ℕ) (l : List ℕ) → n ≤ m → drop n (take m l) ≡ take (m - n) (drop n l)
drop_take zero m l h = ap (λ (k : ℕ). take k l) (sym (sub-zero m))
drop_take (suc n) zero l h = absurd (omega arith)
drop_take (suc n) (suc m) [] h = sym (take-nil (suc m - suc n))
drop_take (suc n) (suc m) (x ∷ l) h = drop_take n m l (omega arith) ∙ ap (λ (k : ℕ). take k (drop n l)) (sym (suc-sub-suc m n))

-- the bytes above the n lowest
top_bytes : (n : ℕ) (l : List ℕ) → Bytes l → n ≤ length l → low l / 2 ^ (8 * n) ≡ low (drop n l)
top_bytes zero l b h = div-one (low l)
top_bytes (suc n) [] b h = absurd (omega arith)
top_bytes (suc n) (x ∷ l) b h =
    ap (λ (k : ℕ). (x + 256 * low l) / 2 ^ k) {x = 8 * suc n} {y = 8 + 8 * n} (omega arith)
    ∙ sym (shr-shr (x + 256 * low l) 8 (8 * n))
    ∙ ap (λ (k : ℕ). k / 2 ^ (8 * n)) (shifted ∙ digits_div (low l) b.0)
    ∙ top_bytes n l b.1 (omega arith)
  where
    shifted : (x + 256 * low l) / 256 ≡ (low l * 256 + x) / 256
    shifted = ap (λ (k : ℕ). k / 256) {x = x + 256 * low l} {y = low l * 256 + x} (omega arith)

-- the bytes from place i up to `to` are the top bytes of the word that ends there
module _ (w x : ℕ) (l : List ℕ) (i to : ℕ) (h : i ≤ to) (k : to - i ≤ w) (m : w ≤ to) (inside : to ≤ length l) (b : Bytes l) where
  abbrev word : List ℕ
  word = take w (drop (to - w) l)

  top : drop (w - (to - i)) (take w (drop (to - w) l)) ≡ take (to - i) (drop i l)
  top =
      drop_take (w - (to - i)) w (drop (to - w) l) (omega arith)
      ∙ ap (take (w - (w - (to - i)))) (drop-drop (w - (to - i)) (to - w) l)
      ∙ ap (λ (n : ℕ). take n (drop (to - w + (w - (to - i))) l)) {x = w - (w - (to - i))} {y = to - i} (omega arith)
      ∙ ap (λ (j : ℕ). take (to - i) (drop j l)) {x = to - w + (w - (to - i))} {y = i} (omega arith)

  pub word_top : x ≡ low (take w (drop (to - w) l)) → x / 2 ^ (8 * (w - (to - i))) ≡ low (take (to - i) (drop i l))
  word_top e =
      ap (λ (y : ℕ). y / 2 ^ (8 * (w - (to - i)))) e
      ∙ top_bytes (w - (to - i)) word (bytes_take w (drop (to - w) l) (bytes_drop (to - w) l b)) (omega (arith, long))
      ∙ ap low top
    where
      long : length word ≡ w
      long = length-take-le w (drop (to - w) l) (omega (arith, length-drop (to - w) l))
