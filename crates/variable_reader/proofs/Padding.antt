-- The walk over a block's padding: up to here all is zero. Assumes nothing.
use Prim.Native.Nat.{ℕ, zero, suc, ◌+◌, ◌-◌, ◌*◌, ◌/◌, ◌^◌, ◌<◌, ◌≤◌}
use mathlib.Core.Path.{◌≡◌, refl, sym, ap, ◌∙◌}
use mathlib.Core.Bool.{Bool, true, false, cond}
use mathlib.Core.List.{List, [], ◌∷◌, ◌++◌}
use native.Mathlib.Numerals.{add-one}
use native.Mathlib.Omega.{arith}
use lib.Dec.{eqb}
use lib.ListN.{length, get_or, take, drop, length-take, length-drop}
use lib.Seq.{drop-cons, drop-drop, length-take-le, take-add}
use borrow.Author.Tests.{eq-eqb, ne_eqb}
use Rattle.format.specs.Lists.{Bytes, low, low_bytes}
use Rattle.format.specs.Field.{directed}
use Rattle.format.specs.Read.{from_bad}
use Rattle.laws.proofs.Directed.{directed_take, directed_drop}
use Rattle.basics.proofs.LowBytes.{low_low_bytes}
use Rattle.number.proofs.Words.{read_back}
use Rattle.number.proofs.Tops.{word_top}

-- no more than there are
few : (n : ℕ) (l : List ℕ) → from_bad (take n l) ≤ n
few zero l = omega arith
few (suc n) [] = omega arith
few (suc n) (x ∷ l) = go (eqb x 0) (few n l)
  where
    go : (b : Bool) → from_bad (take n l) ≤ n → cond b (from_bad (take n l)) (suc (length (take n l))) ≤ suc n
    go true h = omega arith
    go false h = omega (arith, length-take n l)

pub bad_few : (r n : ℕ) (l : List ℕ) → r ≡ from_bad (take n l) → r ≤ n
bad_few r n l e = omega (arith, few n l)

-- from `from` to place i
pub record Clear (t : List ℕ) (from to i : ℕ) : Type 0 where
  pub low : from ≤ i
  pub high : i ≤ to
  pub same : from_bad (take (to - from) (drop from t)) ≡ from_bad (take (to - i) (drop i t))

module _ {t : List ℕ} {from to i : ℕ} (k : Clear t from to i) where
  -- what follows the byte at place i
  abbrev after : List ℕ
  after = take (to - (i + 1)) (drop (i + 1) t)

  -- that byte decides
  step : i < to → to ≤ length t → from_bad (take (to - from) (drop from t)) ≡ cond (eqb (get_or t i 0) 0) (from_bad after) (suc (length after))
  step h l =
      k.same
      ∙ ap (λ (n : ℕ). from_bad (take n (drop i t))) {x = to - i} {y = suc (to - (i + 1))} (omega arith)
      ∙ ap (λ (z : List ℕ). from_bad (take (suc (to - (i + 1))) z)) (drop-cons t i 0 (omega arith))
      ∙ rw (add-one i)

  -- a zero, another byte, or the end
  pub clear_more : i < to → to ≤ length t → get_or t i 0 ≡ 0 → Clear t from to (i + 1)
  clear_more h l z = record { low = omega (arith, k.low); high = omega arith; same = step h l ∙ rw (eq-eqb (get_or t i 0) 0 z) }

  pub clear_bad : i < to → to ≤ length t → (get_or t i 0 ≡ 0 → ⊥) → to - i ≡ from_bad (take (to - from) (drop from t))
  clear_bad h l z =
      sym (step h l ∙ rw (ne_eqb (get_or t i 0) 0 z)
      (omega (arith, length-take-le (to - (i + 1)) (drop (i + 1) t) (omega (arith, length-drop (i + 1) t)))))

-- ---- a word at a time

-- a word of a row that was read and turned
pub turned_word : (d : Bool) (l : List ℕ) (i w x y : ℕ) → ((j : ℕ) → get_or l j 0 < 256) → i + w ≤ length l → y < 256 ^ w
    → x ≡ low (take w (drop i l)) → low_bytes w y ≡ directed d (low_bytes w x) → y ≡ low (take w (drop i (directed d l)))
turned_word d l i w x y b inside h e f =
    sym (low_low_bytes w y h)
    ∙ ap low (f ∙ ap (directed d) (read_back w l i x b inside e) ∙ directed_take d w (drop i l) ∙ ap (take w) (directed_drop d i l))

-- a number that is zero spells zeros
low_clear : (l : List ℕ) → low l ≡ 0 → from_bad l ≡ 0
low_clear [] h = refl
low_clear (x ∷ l) h = rw (eq-eqb x 0 (omega arith)) (low_clear l (omega arith))

-- zeros in front change nothing
bad_append : (a b : List ℕ) → from_bad a ≡ 0 → from_bad (a ++ b) ≡ from_bad b
bad_append [] b h = refl
bad_append (x ∷ a) b h = go (eqb x 0) h (bad_append a b)
  where
    go : (t : Bool) → cond t (from_bad a) (suc (length a)) ≡ 0 → (from_bad a ≡ 0 → from_bad (a ++ b) ≡ from_bad b)
        → cond t (from_bad (a ++ b)) (suc (length (a ++ b))) ≡ from_bad b
    go true h ih = ih h
    go false h ih = absurd (omega arith)

module _ {t : List ℕ} {from to i : ℕ} (k : Clear t from to i) where
  -- a whole word of zeros
  pub clear_word : (w x : ℕ) → i + w ≤ to → x ≡ low (take w (drop i t)) → x ≡ 0 → Clear t from to (i + w)
  clear_word w x h e z = record {
    low = omega (arith, k.low);
    high = h;
    same =
        k.same
        ∙ ap (λ (n : ℕ). from_bad (take n (drop i t))) {x = to - i} {y = w + (to - (i + w))} (omega arith)
        ∙ ap from_bad (take-add w (to - (i + w)) (drop i t))
        ∙ bad_append (take w (drop i t)) (take (to - (i + w)) (drop w (drop i t))) (low_clear (take w (drop i t)) (sym e ∙ z))
        ∙ ap (λ (z : List ℕ). from_bad (take (to - (i + w)) z)) (drop-drop w i t);
  }

  -- the top bytes of the word that ends there
  pub clear_top : (w x : ℕ) → to - i ≤ w → w ≤ to → to ≤ length t → Bytes t → x ≡ low (take w (drop (to - w) t))
      → x / 2 ^ (8 * (w - (to - i))) ≡ 0 → from_bad (take (to - from) (drop from t)) ≡ 0
  clear_top w x h m l b e z = k.same ∙ low_clear (take (to - i) (drop i t)) (sym (word_top w x t i to k.high h m l b e) ∙ z)
