-- A column part by part: validity, and then what its kind's layout has. Assumes nothing.
use Prim.Native.Nat.{ℕ, ◌+◌, ◌<◌, ◌≤◌}
use mathlib.Core.Path.{◌≡◌, sym, ap, ◌∙◌, subst}
use mathlib.Core.Bool.{Bool}
use mathlib.Core.List.{List, ◌++◌, map, map-map}
use native.Mathlib.Omega.{arith}
use lib.ListN.{length, get_or, drop, length-drop, length-map}
use Rattle.format.specs.declared.Kind.{Kind}
use Rattle.format.specs.declared.Kind.TheVariants.{Bool as KindBool, Variable}
use Rattle.format.specs.declared.Column.{Column}
use Rattle.format.specs.Lists.{Bytes}
use Rattle.format.specs.Kinds.{bool, shape, column_shape, shape_bytes}
use Rattle.format.specs.Sheet.{Layout, layout_for, layout, nulls_in, packed}
use Rattle.format.specs.Cleared.{pack, valid, is_true, cleared_column, cleared_values}
use Rattle.bits.specs.Ones.{ones_in}
use Rattle.bits.proofs.Bits.{length_pack}
use Rattle.basics.specs.Wide.{WideKind}
use Rattle.basics.proofs.Bytes.{bytes_drop}
use Rattle.cursors.specs.Cursors.{cursor_slot, next_at, Readable, cursor_slots, nexts_at}
use Rattle.flag_packer.specs.Flags.{valid_at, true_at, flags_at}
use Rattle.cursors.specs.Cursors.{wides_at}
use Rattle.end_mover.specs.Ends.{variable_column, ends_at, data_at}
use Rattle.sheet_writer.specs.Writing.{values_at}
use Rattle.basics.proofs.Sorts.{wide_layout}
use Rattle.cursors.proofs.Lead.{Whole, whole, inside}
use Rattle.cursors.proofs.Maps.{map_same}
use Rattle.sheet_writer.proofs.Ones.{ones_nulls}

module _ (col : Column) (rows cursors : List ℕ) where
  pub flags_long : (flag : ℕ → Bool) → length (flags_at flag cursors) ≡ packed (length cursors)
  flags_long flag = length_pack (packed (length cursors)) (map flag cursors)

  -- the validity, and how many slots are null by its ones
  validity : flags_at (valid_at col rows) cursors ≡ pack (packed (length cursors)) (map valid (cursor_slots col rows cursors))
  validity = ap (pack (packed (length cursors))) (sym (map-map valid (cursor_slot col rows) cursors))

  pub column_is : flags_at (valid_at col rows) cursors ++ values_at col rows cursors ≡ cleared_column (layout col) (length cursors) (cursor_slots col rows cursors)
  column_is = ap (λ (l : List ℕ). l ++ values_at col rows cursors) validity

  pub validity_nulls : ones_in (flags_at (valid_at col rows) cursors) + nulls_in (cursor_slots col rows cursors) ≡ length cursors
  validity_nulls =
      let many : length (cursor_slots col rows cursors) ≡ length cursors = length-map cursors (cursor_slot col rows) in
      ap (λ (l : List ℕ). ones_in l + nulls_in (cursor_slots col rows cursors)) (
      validity ∙ ap (λ (n : ℕ). pack (packed n) (map valid (cursor_slots col rows cursors))) (sym many)
      )
      ∙ ones_nulls (cursor_slots col rows cursors)
      ∙ many

  -- ---- bools

  module _ (e : col.kind ≡ KindBool) where
    pub bool_values : values_at col rows cursors ≡ flags_at (true_at col rows) cursors
    bool_values =
        ap (λ (k : Kind). cleared_values (layout_for (shape k)) (length cursors) (cursor_slots col rows cursors)) e
        ∙ ap (pack (packed (length cursors))) (map-map is_true (cursor_slot col rows) cursors)

    module _ (b : Bytes rows) (h : Readable col rows cursors) where
      field : (r : ℕ) → r < length cursors → Whole (column_shape col) col.options (drop (get_or cursors r 0) rows)
      field r l = whole (column_shape col) bool col.options (drop (get_or cursors r 0) rows) (ap shape e) (bytes_drop (get_or cursors r 0) rows b) (h r l)

      two : 1 + shape_bytes (column_shape col) ≡ 2
      two = ap (λ (k : Kind). 1 + shape_bytes (shape k)) e

      -- a field has two bytes, which are there
      pub bool_there : (r : ℕ) → r < length cursors → get_or cursors r 0 + 2 ≤ length rows
      bool_there r l = omega (arith, two, (field r l).there, inside col rows (get_or cursors r 0) (h r l), length-drop (get_or cursors r 0) rows)

      pub bool_next : map (λ p. p + 2) cursors ≡ nexts_at col rows cursors
      bool_next = map_same (λ p. p + 2) (next_at col rows) 0 cursors (λ r l. ap (λ (n : ℕ). get_or cursors r 0 + n) (sym ((field r l).field_long ∙ two)))

  -- ---- values of one width

  pub wide_values : WideKind col.kind → values_at col rows cursors ≡ wides_at col rows cursors
  wide_values w = ap (λ (ly : Layout). cleared_values ly (length cursors) (cursor_slots col rows cursors)) (wide_layout w)

  -- ---- variable bytes

  module _ (e : col.kind ≡ Variable) where
    column_variable : col ≡ variable_column col.options
    column_variable = ap (λ (k : Kind). record { kind = k; options = col.options }) e

    pub variable_values : values_at col rows cursors ≡ ends_at col.options rows cursors ++ data_at col.options rows cursors
    variable_values = ap (λ (c : Column). cleared_values (layout c) (length cursors) (cursor_slots c rows cursors)) column_variable

    pub variable_readable : Readable col rows cursors → Readable (variable_column col.options) rows cursors
    variable_readable h = subst (λ (c : Column). Readable c rows cursors) column_variable h

    pub variable_next : nexts_at (variable_column col.options) rows cursors ≡ nexts_at col rows cursors
    variable_next = ap (λ (c : Column). nexts_at c rows cursors) (sym column_variable)
