-- The flags of a field, as they are read. Assumes nothing.
use Prim.Native.Nat.{ℕ}
use mathlib.Core.Path.{◌≡◌, sym, ap, ◌∙◌, subst}
use mathlib.Core.Bool.{not}
use mathlib.Core.List.{List}
use native.Mathlib.Nat.{add-zero}
use lib.Dec.{eqb}
use lib.ListN.{get_or, drop}
use lib.Seq.{get_or-drop}
use Rattle.format.specs.declared.Column.{Column}
use Rattle.format.specs.Lists.{Bytes}
use Rattle.format.specs.Kinds.{bool, Shape, fixed, column_shape}
use Rattle.format.specs.Cleared.{is_true}
use Rattle.format.specs.Field.{null_byte}
use Rattle.format.specs.Read.{Good, slot_read, read_field, read_fixed}
use Rattle.basics.proofs.Bytes.{bytes_drop}
use Rattle.cursors.specs.Cursors.{cursor_field}
use Rattle.cursors.proofs.Lead.{valid_lead}
use Rattle.flag_packer.specs.Flags.{valid_at, true_at}

module _ (col : Column) (rows : List ℕ) (p : ℕ) (g : Good (cursor_field col rows p)) where
  -- validity, by the lead byte
  pub valid_flag : Bytes rows → not (eqb (get_or rows p 0) (null_byte col.options)) ≡ valid_at col rows p
  valid_flag b =
      let lead : get_or (drop p rows) 0 0 ≡ get_or rows p 0 = get_or-drop p rows 0 0 ∙ ap (λ (i : ℕ). get_or rows i 0) (add-zero p) in
      ap (λ (n : ℕ). not (eqb n (null_byte col.options))) (sym lead)
      ∙ sym (valid_lead (column_shape col) col.options (drop p rows) (bytes_drop p rows b) g)

  module _ (e : column_shape col ≡ fixed bool) where
    -- a bool can be read
    pub bool_good : Good (read_fixed bool col.options (drop p rows))
    bool_good = subst (λ (sh : Shape). Good (read_field sh col.options (drop p rows))) e g

    pub bool_flag : is_true (slot_read (read_fixed bool col.options (drop p rows))) ≡ true_at col rows p
    bool_flag = sym (ap (λ (sh : Shape). is_true (slot_read (read_field sh col.options (drop p rows)))) e)
