-- A column of variable bytes: its fields, and what its loop needs. Assumes nothing.
use Prim.Native.Nat.{ℕ, ◌-◌}
use mathlib.Core.Path.{◌≡◌, refl, sym, ap, ap₂, subst, ◌∙◌}
use mathlib.Core.Bool.{Bool}
use mathlib.Core.List.{List}
use mathlib.Core.Option.{none, some}
use lib.ListN.{length, take, drop}
use Rattle.format.specs.declared.Kind.{Kind}
use Rattle.format.specs.declared.Kind.TheVariants.{Variable}
use Rattle.format.specs.declared.Column.{Column}
use Rattle.format.specs.Kinds.{variable, Slot, shape}
use Rattle.format.specs.Fold.{folded_slot}
use Rattle.format.specs.Field.{field}
use Rattle.format.specs.Sheet.{bit, ended, layout_for, packed, slot_at, slot_if, value_at}
use Rattle.basics.specs.Wrote.{Wrote}
use Rattle.laws.proofs.Parts.{part_rest}
use Rattle.chunk_writer.specs.Cursors.{slot_field}

module _ (col : Column) (e : col.kind ≡ Variable) (n : ℕ) (s : List ℕ) (r : ℕ) (b : Bool) (p : ℕ) (h : b ≡ bit s r) (q : p ≡ packed n) where
  -- the slot, from a bit and from values after p bytes of the part
  abbrev slot : Slot
  slot = slot_if b (value_at ended n (take (length s - p) (drop p s)) r)

  same : slot ≡ slot_at ended n s r
  same = ap₂ {C = Slot} (λ (b : Bool) (t : List ℕ). slot_if b (value_at ended n t r)) h (part_rest s p ∙ ap (λ (m : ℕ). drop m s) q)

  -- and is that of the column
  pub name_wrote : {rows last : List ℕ} {at next : ℕ} → Wrote (field variable col.options slot) at rows last next → Wrote (slot_field col n s r) at rows last next
  name_wrote {rows} {last} {at} {next} w =
      subst (λ (f : List ℕ). Wrote f at rows last next)
      (ap (field variable col.options) (same ∙ sym (unfolded (slot_at ended n s r)))
      ∙ ap (λ (k : Kind). field (shape k) col.options (folded_slot (shape k) col.options (slot_at (layout_for (shape k)) n s r))) (sym e)) w
    where
      unfolded : (x : Slot) → folded_slot variable col.options x ≡ x
      unfolded none = refl
      unfolded (some v) = refl
