-- The rows of a checked sheet, field by field, each from the facts of its column. Assumes nothing.
use Prim.Native.Nat.{ℕ, suc, ◌<◌}
use mathlib.Core.Path.{◌≡◌, refl, ap, sym, ◌∙◌}
use mathlib.Core.List.{List, [], ◌∷◌, ◌++◌}
use native.Mathlib.Omega.{arith}
use lib.ListN.{length, get_or, drop}
use Rattle.format.specs.declared.Column.{Column}
use Rattle.format.specs.Lists.{Bytes, each, joined}
use Rattle.format.specs.Kinds.{Slot, column_shape}
use Rattle.format.specs.Fold.{folded_slot}
use Rattle.format.specs.Field.{field, field_length}
use Rattle.format.specs.Row.{row}
use Rattle.format.specs.Sheet.{layout, slot_at, sheet_slots, slots_in}
use Rattle.format.specs.Schemas.{no_column}
use Rattle.format.specs.Entries.{sheet_rows}
use Rattle.basics.proofs.Bytes.{bytes_drop}
use Rattle.basics.proofs.Sorts.{foldable}
use Rattle.laws.proofs.Fields.{length_field}
use Rattle.laws.proofs.Folding.{fold_length}
use Rattle.basics.proofs.Lists.{each_next, each_same, map_each}
use Rattle.format.specs.Passed.{Stands}
use Rattle.laws.proofs.Sheets.{slot_fits}
use Rattle.sheet_reader.specs.declared.sheet.Facts.{Facts}
use Rattle.sheet_reader.specs.Sheets.{Known}
use Rattle.sheet_reader.proofs.Values.{slot_of, slots_known}
use Rattle.chunk_writer.specs.Cursors.{slot_field}
use Rattle.row_writer.specs.Rows.{field_at, row_at}

-- ---- a row, field by field

-- the row of slots that are given column by column
row_each : (cols : List Column) (d : Column) (g : ℕ → Slot)
    → row cols (each 0 (length cols) g) ≡ joined (each 0 (length cols) (λ c. field (column_shape (get_or cols c d)) (get_or cols c d).options (g c)))
row_each [] d g = refl
row_each (col ∷ cols) d g =
    ap (λ (rest : List ℕ). field (column_shape col) col.options (g 0) ++ rest)
    (ap (row cols) (each_next 0 (length cols) g) ∙ row_each cols d (λ c. g (suc c))
    ∙ ap joined (sym (each_next 0 (length cols) (λ c. field (column_shape (get_or (col ∷ cols) c d)) (get_or (col ∷ cols) c d).options (g c)))))

module _ (n : ℕ) (cols : List Column) (s : List ℕ) (facts : List Facts) (k : Known n cols s facts) (many : length facts ≡ length cols) where
  -- row r
  row_known : (r : ℕ) → r < n → row cols (slots_in (sheet_slots n cols s) r) ≡ row_at n s facts r
  row_known r l =
      ap (row cols) (slots_known n cols s facts k r l) ∙ row_each cols no_column (slot_of n s facts r)
      ∙ ap joined (each_same 0 (length cols) _ _ (λ c a b.
      ap (λ (col : Column). field (column_shape col) col.options (slot_of n s facts r c)) (sym (k c (omega arith)).column)))
      ∙ ap (λ (m : ℕ). joined (each 0 m (field_at n s facts r))) (sym many)

  -- and all of them
  pub rows_known : sheet_rows n cols s ≡ each 0 n (row_at n s facts)
  rows_known = map_each (row cols) 0 n (slots_in (sheet_slots n cols s)) ∙ each_same 0 n _ _ (λ r a b. row_known r (omega arith))

-- ---- the field of row r in a column that stands at a place is as long as the table says
pub field_long : (n c r at : ℕ) (col : Column) (s : List ℕ) → Stands col n c at s → Bytes s → r < n
    → length (slot_field col n (drop at s) r) ≡ field_length (column_shape col) (slot_at (layout col) n (drop at s) r)
field_long n c r at col s g b l =
    length_field (column_shape col) col.options (folded_slot (column_shape col) col.options (slot_at (layout col) n (drop at s) r))
    (slot_fits (column_shape col) col.options n c (drop at s) (foldable col.kind) (bytes_drop at s b) g.passes r l)
    ∙ fold_length (column_shape col) col.options (slot_at (layout col) n (drop at s) r)
