-- One row: it is read back as its slots, and refused exactly when no slots within the limits have its bytes. Assumes nothing.
use Prim.Native.Nat.{ℕ, suc}
use mathlib.Core.Path.{◌≡◌, refl, ap, sym, ◌∙◌}
use mathlib.Core.List.{List, [], ◌∷◌}
use Rattle.format.specs.Fits.{RowFits}
use Rattle.format.specs.Kinds.{Slot, column_shape}
use Rattle.format.specs.Lists.{Bytes}
use Rattle.format.specs.Read.{Parsed, got, field_check, left_after, read_field, row_fault, row_slots, slot_read}
use Rattle.format.specs.Row.{row}
use Rattle.format.specs.Check.{Check}
use Rattle.std.specs.declared.result.Result.TheVariants.{Ok, Err}
use Rattle.format.specs.declared.Column.{Column}
use Rattle.format.specs.declared.Refusal.{Refusal}
use Rattle.basics.proofs.Checks.{refuse_pass}
use Rattle.laws.proofs.Fields.{bytes_row}
use Rattle.laws.proofs.ReadField.{field_read}
use Rattle.laws.proofs.ReadRow.{passed_row}

-- ---- what was written is read back

-- the first field of a row, read
first_read : (col : Column) (cols : List Column) (x : Slot) (xs : List Slot) → RowFits (col ∷ cols) (x ∷ xs)
    → read_field (column_shape col) col.options (row (col ∷ cols) (x ∷ xs)) ≡ got x (row cols xs)
first_read col cols x xs h = field_read (column_shape col) col.options x (row cols xs) h.0 (bytes_row cols xs h.1)

-- a row has no fault
pub row_passes : (r n c : ℕ) (cols : List Column) (xs : List Slot) → RowFits cols xs → row_fault r n c cols (row cols xs) ≡ Ok tt
row_passes r n c [] [] h = refl
row_passes r n c [] (x ∷ xs) h = absurd h
row_passes r n c (col ∷ cols) [] h = absurd h
row_passes r n c (col ∷ cols) (x ∷ xs) h =
    ap (λ (p : Parsed Slot). field_check r n c p (row_fault r n (suc c) cols)) (first_read col cols x xs h) ∙ row_passes r n (suc c) cols xs h.1

-- and its slots are those that were written
pub row_slots_lem : (cols : List Column) (xs : List Slot) → RowFits cols xs → row_slots cols (row cols xs) ≡ xs
row_slots_lem [] [] h = refl
row_slots_lem [] (x ∷ xs) h = absurd h
row_slots_lem (col ∷ cols) [] h = absurd h
row_slots_lem (col ∷ cols) (x ∷ xs) h =
    ap (λ (p : Parsed Slot). slot_read p ∷ row_slots cols (left_after p)) (first_read col cols x xs h)
    ∙ ap (λ (ys : List Slot). x ∷ ys) (row_slots_lem cols xs h.1)

-- so two lists of slots with one row are the same
pub row_injective : (cols : List Column) (xs ys : List Slot) → RowFits cols xs → RowFits cols ys → row cols xs ≡ row cols ys → xs ≡ ys
row_injective cols xs ys hx hy e = sym (row_slots_lem cols xs hx) ∙ ap (row_slots cols) e ∙ row_slots_lem cols ys hy

-- ---- a row is refused exactly when no slots within the limits have its bytes

-- what is refused is the row of no slots that fit
pub refused_none : (r n c : ℕ) (cols : List Column) (f : List ℕ) (x : Refusal) → row_fault r n c cols f ≡ Err x
    → (xs : List Slot) → RowFits cols xs → row cols xs ≡ f → ⊥
refused_none r n c cols f x h xs fits e = refuse_pass (sym h ∙ ap (row_fault r n c cols) (sym e) ∙ row_passes r n c cols xs fits)

-- and what is the row of none is refused
pub none_refused : (r n c : ℕ) (cols : List Column) (f : List ℕ) → Bytes f → ((xs : List Slot) → RowFits cols xs → row cols xs ≡ f → ⊥)
    → (x : Refusal) × (row_fault r n c cols f ≡ Err x)
none_refused r n c cols f b never = go (row_fault r n c cols f) refl
  where
    go : (k : Check) → row_fault r n c cols f ≡ k → (x : Refusal) × (row_fault r n c cols f ≡ Err x)
    go (Ok tt) q = let t = passed_row r n c cols f b q in absurd (never (row_slots cols f) t.1 t.0)
    go (Err x) q = (x, q)
