-- Fixed kinds, of every width: a field is read back as its slot, and only the field of such a slot is read.
use Prim.Native.Nat.{ℕ, suc, ◌+◌}
use mathlib.Core.Path.{◌≡◌, refl, ap, ap₂, sym, ◌∙◌, subst}
use mathlib.Core.Bool.{Bool, true, false, cond}
use mathlib.Core.Option.{none, some}
use mathlib.Core.List.{List, [], ◌∷◌, ◌++◌}
use native.Mathlib.Omega.{arith}
use lib.Dec.{T, ltb, eqb}
use lib.ListN.{length, take, drop, replicate, take-append-drop, length-append, length-replicate}
use lib.Seq.{length-take-le, take_at, drop_at}
use borrow.Author.Tests.{le-ltb, ltb-false, eqb-true}
use Rattle.format.specs.Field.{directed, fixed_field, null_byte}
use Rattle.format.specs.Fits.{SlotFits}
use Rattle.format.specs.Fold.{is_folded}
use Rattle.format.specs.Key.{allowed, key, unkey}
use Rattle.format.specs.Kinds.{Fixed, bool, float, integer, number, parts, plain, fixed, Slot, width}
use Rattle.format.specs.Lists.{Bytes}
use Rattle.format.specs.Read.{Parsed, got, fault, all_zero, from_bad, null_lead, read_bytes, read_fixed, read_key, read_null}
use Rattle.format.specs.declared.RowFault.TheVariants.{Lead, NullRest, Unfolded}
use Rattle.format.specs.declared.SortOptions.{SortOptions}
use Rattle.basics.proofs.Bytes.{bytes_key, bytes_take}
use Rattle.laws.proofs.Directed.{bytes_directed, directed_twice, length_directed}
use Rattle.laws.proofs.Fields.{not_null, null_led, led_null}
use Rattle.laws.proofs.Parsed.{fault_got, not_fault, yes_got, zeros_zero, zero_zeros}
use Rattle.laws.proofs.Unkey.{unkey_key, key_unkey, length_key, bytes_unkey, length_unkey}

yes_true : (b : Bool) → T b → b ≡ true
yes_true true t = refl
yes_true false t = absurd t

-- 00 or 01 for a bool, in the sheet and in the row alike
allowed_key : (k : Fixed) (v : List ℕ) → T (allowed k v) → allowed k (key k v) ≡ true
allowed_key bool v h = yes_true (allowed bool v) h
allowed_key (plain n) v h = refl
allowed_key (number n) v h = refl
allowed_key (integer n) v h = refl
allowed_key (float n) v h = refl
allowed_key (parts ns) v h = refl

allowed_unkey : (k : Fixed) (f : List ℕ) → allowed k f ≡ true → T (allowed k (unkey k f))
allowed_unkey bool f h = subst T (sym h) tt
allowed_unkey (plain n) f h = tt
allowed_unkey (number n) f h = tt
allowed_unkey (integer n) f h = tt
allowed_unkey (float n) f h = tt
allowed_unkey (parts ns) f h = tt

module _ (limit : ℕ) (k : Fixed) (o : SortOptions) where
  -- the field of a slot is read back, and what follows it is left
  pub fixed_read : (s : Slot) (t : List ℕ) → SlotFits limit (fixed k) o s → read_fixed k o (fixed_field k o s ++ t) ≡ got s t
  fixed_read none t h =
      rw (null_led o h) (rw (le-ltb (length (zs ++ t)) (width k) (omega (arith, length-append zs t, long)))
      (rw (take_at zs t (width k) long) (rw (zeros_zero (width k)) (rw (drop_at zs t (width k) long)))))
    where
      zs : List ℕ
      zs = replicate (width k) 0

      long : length zs ≡ width k
      long = length-replicate (width k) 0
  fixed_read (some v) t h =
      rw (not_null o 1 (omega arith) (omega arith)) (rw (le-ltb (length (f ++ t)) (width k) (omega (arith, length-append f t, long)))
      (rw (take_at f t (width k) long) (rw (directed_twice o.descending (key k v) (bytes_key k v h.0)) (rw (allowed_key k v h.2)
      (rw (unkey_key k v h.0 h.1) (rw (yes_true (is_folded k o.fold v) h.3) (rw (drop_at f t (width k) long))))))))
    where
      f : List ℕ
      f = directed o.descending (key k v)

      long : length f ≡ width k
      long = length_directed o.descending (key k v) ∙ length_key k v h.1

  -- ---- the converse

  -- b and f are the field of slot s, and then r; and s fits
  abbrev Spells : ℕ → List ℕ → List ℕ → Slot → Type 0
  Spells b f r s = (b ∷ f ≡ fixed_field k o s ++ r) × SlotFits limit (fixed k) o s

  -- after the null byte
  read_null_lem : (f r : List ℕ) (s : Slot) → o.required ≡ false → read_null (width k) f ≡ got s r → Spells (null_byte o) f r s
  read_null_lem f r s free h =
      let a : (ltb (length f) w ≡ false) × (nothing ≡ got s r) = not_fault (ltb (length f) w) _ _ h in
      let z : (all_zero (take w f) ≡ true) × (got none (drop w f) ≡ got s r) = yes_got (all_zero (take w f)) _ _ a.1 in
      let e : none ≡ s = cc z.1 in
      let i : drop w f ≡ r = cc z.1 in
      let l : length (take w f) ≡ w = length-take-le w f (ltb-false (length f) w a.0) in
      subst (Spells (null_byte o) f r) e (
        ap (λ (x : List ℕ). null_byte o ∷ x)
            (sym (take-append-drop w f) ∙ ap₂ (λ (x y : List ℕ). x ++ y) (zero_zeros (take w f) z.0 ∙ ap (λ (n : ℕ). replicate n 0) l) i),
        free,
      )
    where
      w : ℕ
      w = width k

      nothing : Parsed Slot
      nothing = cond (all_zero (take w f)) (got none (drop w f)) (fault NullRest (from_bad (take w f) + length (drop w f)))

  -- after 01
  read_bytes_lem : (f r : List ℕ) (s : Slot) → Bytes f → read_bytes k o f ≡ got s r → Spells 1 f r s
  read_bytes_lem f r s bf h =
      let a : (ltb (length f) w ≡ false) × (read_key k o.fold v (drop w f) ≡ got s r) = not_fault (ltb (length f) w) _ _ h in
      let z : (allowed k v ≡ true) × (taken ≡ got s r) = yes_got (allowed k v) _ _ a.1 in
      let y : (is_folded k o.fold (unkey k v) ≡ true) × (got (some (unkey k v)) (drop w f) ≡ got s r) = yes_got (is_folded k o.fold (unkey k v)) _ _ z.1 in
      let e : some (unkey k v) ≡ s = cc y.1 in
      let i : drop w f ≡ r = cc y.1 in
      let bt : Bytes (take w f) = bytes_take w f bf in
      let bv : Bytes v = bytes_directed d (take w f) bt in
      let lv : length v ≡ w = length_directed d (take w f) ∙ length-take-le w f (ltb-false (length f) w a.0) in
      subst (Spells 1 f r) e (
        ap (λ (x : List ℕ). 1 ∷ x)
            (sym (take-append-drop w f)
            ∙ ap₂ (λ (x y : List ℕ). x ++ y) (sym (directed_twice d (take w f) bt) ∙ ap (directed d) (sym (key_unkey k v bv lv))) i),
        (bytes_unkey k v bv, length_unkey k v lv, allowed_unkey k v z.0, subst T (sym y.0) tt),
      )
    where
      w : ℕ
      w = width k

      d : Bool
      d = o.descending

      v : List ℕ
      v = directed d (take w f)

      taken : Parsed Slot
      taken = cond (is_folded k o.fold (unkey k v)) (got (some (unkey k v)) (drop w f)) (fault Unfolded (length v + length (drop w f)))

  -- only the field of a slot that fits is read
  pub read_fixed_lem : (f : List ℕ) (s : Slot) (r : List ℕ) → Bytes f → read_fixed k o f ≡ got s r → (f ≡ fixed_field k o s ++ r) × SlotFits limit (fixed k) o s
  read_fixed_lem [] s r bf h = absurd (fault_got h)
  read_fixed_lem (b ∷ f) s r bf h = go (null_lead o b) refl h
    where
      go : (c : Bool) → null_lead o b ≡ c
          → cond c (read_null (width k) f) (cond (eqb b 1) (read_bytes k o f) (fault Lead (suc (length f)))) ≡ got s r → Spells b f r s
      go true q h = let n = led_null o b q in rw n.1 (read_null_lem f r s n.0 h)
      go false q h =
          let a : (eqb b 1 ≡ true) × (read_bytes k o f ≡ got s r) = yes_got (eqb b 1) _ _ h in
          rw (eqb-true b 1 a.0) (read_bytes_lem f r s bf.1 a.1)
