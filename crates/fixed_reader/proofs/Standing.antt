-- A field that was read: what its lead byte says of its slot. Assumes nothing.
use Prim.Native.Nat.{ℕ, suc, ◌+◌, ◌≤◌}
use mathlib.Core.Path.{◌≡◌, refl, sym, ap, ◌∙◌, subst}
use mathlib.Core.Bool.{Bool, true, false, false≢true, cond}
use mathlib.Core.Option.{none, some}
use mathlib.Core.List.{List, [], ◌∷◌}
use native.Mathlib.Omega.{arith}
use lib.Dec.{ltb, eqb}
use lib.ListN.{length, get_or, take, drop}
use lib.Seq.{sets, drop-cons}
use borrow.Author.Tests.{ltb-false, eqb-true}
use Rattle.format.specs.declared.SortOptions.{SortOptions}
use Rattle.format.specs.declared.Kind.{Kind}
use Rattle.format.specs.declared.RowFault.{RowFault}
use Rattle.format.specs.declared.RowFault.TheVariants.{BoolByte, Cut, Lead, NullRest, Unfolded}
use Rattle.format.specs.Kinds.{Fixed, Shape, Slot, fixed, shape, value_bytes, width}
use Rattle.format.specs.Key.{allowed, unkey}
use Rattle.format.specs.Fold.{is_folded}
use Rattle.format.specs.Field.{directed}
use Rattle.format.specs.Read.{Good, Parsed, got, fault, all_zero, from_bad, null_lead, read_bytes, read_field, read_fixed, read_key, slot_read}
use Rattle.format.specs.Cleared.{fixed_slot}
use Rattle.fixed_reader.proofs.Reading.{lead_null, lead_value}

good_no : {A : Type 0} (t : Bool) (f : RowFault) (l : ℕ) (x : Parsed A) → Good (cond t (fault f l) x) → (t ≡ false) × Good x
good_no true f l x g = absurd g
good_no false f l x g = (refl, g)

good_yes : {A : Type 0} (t : Bool) (f : RowFault) (l : ℕ) (x : Parsed A) → Good (cond t x (fault f l)) → (t ≡ true) × Good x
good_yes true f l x g = (refl, g)
good_yes false f l x g = absurd g

module _ (k : Fixed) (o : SortOptions) where
  -- the value bytes of s, inverted back
  abbrev pub keyIn : List ℕ → List ℕ
  keyIn s = directed o.descending (take (width k) (drop 1 s))

  pub record Stands (s : List ℕ) : Type 0 where
    pub whole : 1 + width k ≤ length s
    pub null : null_lead o (get_or s 0 0) ≡ true → (slot_read (read_fixed k o s) ≡ none) × (all_zero (take (width k) (drop 1 s)) ≡ true)
    pub value : null_lead o (get_or s 0 0) ≡ false → (slot_read (read_fixed k o s) ≡ some (unkey k (keyIn s))) × (allowed k (keyIn s) ≡ true)

  pub stands : (s : List ℕ) → Good (read_fixed k o s) → Stands s
  stands [] g = absurd g
  stands (b ∷ s) g = go (null_lead o b) refl
    where
      w : ℕ
      w = width k

      null_rest : Parsed Slot
      null_rest = cond (all_zero (take w s)) (got none (drop w s)) (fault NullRest (from_bad (take w s) + length (drop w s)))

      key : List ℕ
      key = keyIn (b ∷ s)

      value_rest : Parsed Slot
      value_rest =
          cond (is_folded k o.fold (unkey k key)) (got (some (unkey k key)) (drop w s)) (fault Unfolded (length key + length (drop w s)))

      go : (t : Bool) → null_lead o b ≡ t → Stands (b ∷ s)
      go true q =
          let r = lead_null k o (b ∷ s) (omega arith) q in
          let a = good_no (ltb (length s) w) Cut 0 null_rest (subst Good r g) in
          let z = good_yes (all_zero (take w s)) NullRest (from_bad (take w s) + length (drop w s)) (got none (drop w s)) a.1 in
          record {
            whole = omega (arith, ltb-false (length s) w a.0);
            null = λ h. (ap slot_read r ∙ rw (a.0, z.0), z.0);
            value = λ h. absurd (false≢true (sym h ∙ q));
          }
      go false q =
          let y = good_yes (eqb b 1) Lead (suc (length s)) (read_bytes k o s) (rw q at g) in
          let r = lead_value k o (b ∷ s) (omega arith) q (eqb-true b 1 y.0) in
          let a = good_no (ltb (length s) w) Cut 0 (read_key k o.fold key (drop w s)) y.1 in
          let z = good_yes (allowed k key) BoolByte (length key + length (drop w s)) value_rest a.1 in
          let d = good_yes (is_folded k o.fold (unkey k key)) Unfolded (length key + length (drop w s)) (got (some (unkey k key)) (drop w s)) z.1 in
          record {
            whole = omega (arith, ltb-false (length s) w a.0);
            null = λ h. absurd (false≢true (sym q ∙ h));
            value = λ h. (ap slot_read r ∙ rw (a.0, z.0, d.0), z.0);
          }

-- ---- a field of a kind that has the shape k, as `decode` finds it

module _ (kind : Kind) (k : Fixed) (says : shape kind ≡ fixed k) (o : SortOptions) (s : List ℕ) (g : Good (read_field (shape kind) o s)) where
  good_fixed : Good (read_fixed k o s)
  good_fixed = subst (λ (sh : Shape). Good (read_field sh o s)) says g

  -- what was written is the slot
  module _ (out : List ℕ) (at : ℕ) (last : List ℕ) where
    abbrev Slotted : Type 0
    Slotted = last ≡ sets out at (fixed_slot (value_bytes kind) (slot_read (read_field (shape kind) o s)))

    pub field_value : null_lead o (get_or s 0 0) ≡ false → last ≡ sets out at (unkey k (directed o.descending (take (value_bytes kind) (drop 1 s)))) → Slotted
    field_value t p = p ∙ rw (says, ((stands k o s good_fixed).value t).0)

-- ---- bools

-- the one value byte
pub one_byte : (s : List ℕ) → 2 ≤ length s → take 1 (drop 1 s) ≡ get_or s 1 0 ∷ []
one_byte s h = rw (drop-cons s 1 0 (omega arith))
