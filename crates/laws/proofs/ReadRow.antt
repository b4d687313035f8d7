-- Rows that pass are those of the slots that are read from them, which fit. Assumes nothing.
use Prim.Native.Nat.{ℕ, suc}
use mathlib.Core.Path.{◌≡◌, refl, ap, ap₂, sym, ◌∙◌, subst}
use mathlib.Core.List.{List, [], ◌∷◌, ◌++◌, map}
use lib.ListN.{length}
use Rattle.format.specs.Field.{field}
use Rattle.format.specs.Fits.{RowFits, SlotFits}
use Rattle.format.specs.Kinds.{Slot, column_shape}
use Rattle.format.specs.Limits.{max_slot}
use Rattle.format.specs.Lists.{Bytes}
use Rattle.format.specs.Read.{Parsed, got, fault, field_check, left_after, read_field, row_fault, row_slots, rows_fault, slot_read}
use Rattle.format.specs.Row.{row}
use Rattle.std.specs.declared.result.Result.TheVariants.{Ok}
use Rattle.format.specs.declared.Column.{Column}
use Rattle.basics.proofs.Bytes.{bytes_right}
use Rattle.basics.proofs.Checks.{refuse_pass, both_pass}
use Rattle.basics.proofs.Lists.{Every}
use Rattle.laws.proofs.ReadField.{read_field_lem}

-- one row
pub passed_row : (r n c : ℕ) (cols : List Column) (f : List ℕ) → Bytes f → row_fault r n c cols f ≡ Ok tt
    → (row cols (row_slots cols f) ≡ f) × RowFits cols (row_slots cols f)
passed_row r n c [] [] b h = (refl, tt)
passed_row r n c [] (x ∷ f) b h = absurd (refuse_pass h)
passed_row r n c (col ∷ cols) f b h = go (read_field (column_shape col) col.options f) refl h (passed_row r n (suc c) cols)
  where
    go : (p : Parsed Slot) → read_field (column_shape col) col.options f ≡ p → field_check r n c p (row_fault r n (suc c) cols) ≡ Ok tt
        → ((g : List ℕ) → Bytes g → row_fault r n (suc c) cols g ≡ Ok tt → (row cols (row_slots cols g) ≡ g) × RowFits cols (row_slots cols g))
        → (row (col ∷ cols) (slot_read p ∷ row_slots cols (left_after p)) ≡ f) × RowFits (col ∷ cols) (slot_read p ∷ row_slots cols (left_after p))
    go (fault e l) q h ih = absurd (refuse_pass h)
    go (got s g) q h ih =
        let e : (f ≡ field (column_shape col) col.options s ++ g) × SlotFits max_slot (column_shape col) col.options s
        = read_field_lem (column_shape col) col.options f s g b q in
        let t : (row cols (row_slots cols g) ≡ g) × RowFits cols (row_slots cols g)
        = ih g (bytes_right (field (column_shape col) col.options s) g (subst Bytes e.0 b)) h in
        (ap (λ (z : List ℕ). field (column_shape col) col.options s ++ z) t.0 ∙ sym e.0, (e.1, t.1))

-- and each of some rows
pub rows_passed : (r : ℕ) (cols : List Column) (bs : List (List ℕ)) → Every Bytes bs → rows_fault r cols bs ≡ Ok tt
    → (map (row cols) (map (row_slots cols) bs) ≡ bs) × Every (RowFits cols) (map (row_slots cols) bs)
rows_passed r cols [] b e = (refl, tt)
rows_passed r cols (f ∷ bs) b e =
    let p = both_pass (row_fault r (length f) 0 cols f) _ e in
    let now = passed_row r (length f) 0 cols f b.0 p.0 in
    let later = rows_passed (suc r) cols bs b.1 p.1 in
    (ap₂ {C = List (List ℕ)} (λ x y. x ∷ y) now.0 later.0, (now.1, later.1))
