-- Folding, once over the width: what is folded stays so, is bytes of the same count, and is folded as the reader tests it; and what the
-- reader takes is what folding leaves. Assumes nothing.
use Prim.Native.Nat.{ℕ, suc, ◌^◌, ◌<◌}
use mathlib.Core.Path.{◌≡◌, refl, ap, sym, subst, ◌∙◌}
use mathlib.Core.Bool.{Bool as Truth, true, false, cond}
use mathlib.Core.Option.{none, some}
use mathlib.Core.List.{List, [], ◌∷◌, map}
use native.Mathlib.Omega.{arith}
use lib.Dec.{T, ltb, eqb}
use lib.ListN.{length}
use borrow.Author.Tests.{eqb-true, lt-ltb, le-ltb, eq-eqb, ne_eqb}
use Rattle.format.specs.declared.SortOptions.{SortOptions}
use Rattle.format.specs.Limits.{max_slot}
use Rattle.format.specs.Key.{allowed}
use Rattle.format.specs.Fits.{Fits, SlotFits}
use Rattle.format.specs.Lists.{Bytes, low, low_bytes}
use Rattle.format.specs.Kinds.{Fixed, bool, plain, number, integer, float, parts, Shape, fixed, variable, Slot, width}
use Rattle.format.specs.Value.{half}
use Rattle.basics.proofs.Sorts.{Foldable, Folding, ShapeFolding}
use Rattle.basics.proofs.LowBytes.{length_low_bytes, bytes_low_bytes, low_low_bytes, low_bytes_low, low_small}
use Rattle.format.specs.Field.{field_length}
use Rattle.format.specs.Sheet.{nulls_in}
use Rattle.format.specs.Fold.{magnitude, infinity, one_na_n, folded_bits, folds, folded_value, is_folded, folded_slot}

-- ---- the bits of a float of n bytes

module _ (n : ℕ) (f : Foldable n) where
  -- the one NaN stays
  nan_stays : folded_bits n (one_na_n n) ≡ one_na_n n
  nan_stays = rw (lt-ltb (one_na_n n) (half n) f.below) (rw (lt-ltb (infinity n) (one_na_n n) f.above))

  -- so does +0
  zero_stays : folded_bits n 0 ≡ 0
  zero_stays = rw (lt-ltb 0 (half n) (omega (arith, f.below))) (rw (le-ltb (infinity n) 0 (omega arith), ne_eqb 0 (half n) (λ e. omega (arith, f.below))))

  -- and whatever folding leaves: folding twice is folding once
  pub folded_twice : (v : ℕ) → folded_bits n (folded_bits n v) ≡ folded_bits n v
  folded_twice v = go (ltb (infinity n) (magnitude n v)) refl (eqb v (half n)) refl
    where
      go : (t : Truth) → ltb (infinity n) (magnitude n v) ≡ t → (u : Truth) → eqb v (half n) ≡ u
          → folded_bits n (cond t (one_na_n n) (cond u 0 v)) ≡ cond t (one_na_n n) (cond u 0 v)
      go true p u q = nan_stays
      go false p true q = zero_stays
      go false p false q = rw (p, q)

  -- in as many bytes
  pub folded_small : (v : ℕ) → v < 256 ^ n → folded_bits n v < 256 ^ n
  folded_small v h = go (ltb (infinity n) (magnitude n v)) (eqb v (half n))
    where
      go : (t u : Truth) → cond t (one_na_n n) (cond u 0 v) < 256 ^ n
      go true u = omega (arith, f.below, f.holds)
      go false true = omega (arith, f.holds)
      go false false = h

-- ---- values

module _ (k : Fixed) (b : Truth) (v : List ℕ) where
  -- a folded value is bytes, as many, and is folded
  pub folded_bytes : Bytes v → Bytes (folded_value k b v)
  folded_bytes h = go (folds k b)
    where
      go : (t : Truth) → Bytes (cond t (low_bytes (width k) (folded_bits (width k) (low v))) v)
      go true = bytes_low_bytes (width k) (folded_bits (width k) (low v))
      go false = h

  pub folded_length : length v ≡ width k → length (folded_value k b v) ≡ width k
  folded_length h = go (folds k b)
    where
      go : (t : Truth) → length (cond t (low_bytes (width k) (folded_bits (width k) (low v))) v) ≡ width k
      go true = length_low_bytes (width k) (folded_bits (width k) (low v))
      go false = h

  -- what is folded stays
  pub folded_stays : Bytes v → length v ≡ width k → T (is_folded k b v) → folded_value k b v ≡ v
  folded_stays h l t = go (folds k b) t
    where
      n : ℕ
      n = width k

      same : (u : Truth) → eqb (folded_bits n (low v)) (low v) ≡ u → T u → low_bytes n (folded_bits n (low v)) ≡ v
      same true q t = ap (low_bytes n) (eqb-true (folded_bits n (low v)) (low v) q) ∙ ap (λ (m : ℕ). low_bytes m (low v)) (sym l) ∙ low_bytes_low v h
      same false q t = absurd t

      go : (u : Truth) → T (cond u (eqb (folded_bits n (low v)) (low v)) true) → cond u (low_bytes n (folded_bits n (low v))) v ≡ v
      go true t = same (eqb (folded_bits n (low v)) (low v)) refl t
      go false t = refl

  -- what does not fold is folded as it is
  pub free_folded : folds k b ≡ false → T (is_folded k b v)
  free_folded e = rw e tt

-- and it is folded
pub folded_folded : (k : Fixed) (b : Truth) (v : List ℕ) → Folding k → Bytes v → length v ≡ width k → T (is_folded k b (folded_value k b v))
folded_folded bool b v f h l = tt
folded_folded (plain n) b v f h l = tt
folded_folded (number n) b v f h l = tt
folded_folded (integer n) b v f h l = tt
folded_folded (float n) true v f h l =
    let small : low v < 256 ^ n = subst (λ (m : ℕ). low v < 256 ^ m) l (low_small v h) in
    rw (low_low_bytes n (folded_bits n (low v)) (folded_small n f (low v) small))
    (rw (eq-eqb (folded_bits n (folded_bits n (low v))) (folded_bits n (low v)) (folded_twice n f (low v))) tt)
folded_folded (float n) false v f h l = tt
folded_folded (parts ns) b v f h l = tt

-- ---- slots

allowed_folded : (k : Fixed) (b : Truth) (v : List ℕ) → T (allowed k v) → T (allowed k (folded_value k b v))
allowed_folded bool b v h = h
allowed_folded (plain n) b v h = h
allowed_folded (number n) b v h = h
allowed_folded (integer n) b v h = h
allowed_folded (float n) b v h = tt
allowed_folded (parts ns) b v h = h

-- a value that fits a column that does not fold fits, folded, one that does
pub fold_fits : (sh : Shape) (o : SortOptions) (v : List ℕ) → ShapeFolding sh → Fits max_slot sh false v → SlotFits max_slot sh o (folded_slot sh o (some v))
fold_fits (fixed k) o v f h =
    (folded_bytes k o.fold v h.0, folded_length k o.fold v h.1, allowed_folded k o.fold v h.2, folded_folded k o.fold v f h.0 h.1)
fold_fits variable o v f h = h

-- folding leaves a slot that fits
pub fold_stays : (sh : Shape) (o : SortOptions) (s : Slot) → SlotFits max_slot sh o s → folded_slot sh o s ≡ s
fold_stays sh o none h = refl
fold_stays (fixed k) o (some v) h = ap some (folded_stays k o.fold v h.0 h.1 h.3)
fold_stays variable o (some v) h = refl

-- folding changes neither the length of a field nor which slots are null
pub fold_length : (sh : Shape) (o : SortOptions) (s : Slot) → field_length sh (folded_slot sh o s) ≡ field_length sh s
fold_length (fixed k) o s = refl
fold_length variable o none = refl
fold_length variable o (some v) = refl

pub fold_nulls : (sh : Shape) (o : SortOptions) (ss : List Slot) → nulls_in (map (folded_slot sh o) ss) ≡ nulls_in ss
fold_nulls sh o [] = refl
fold_nulls sh o (none ∷ ss) = ap suc (fold_nulls sh o ss)
fold_nulls (fixed k) o (some v ∷ ss) = fold_nulls (fixed k) o ss
fold_nulls variable o (some v ∷ ss) = fold_nulls variable o ss
