-- A turn of the loop over values of one width: the field at the cursor, its slot, and how both move on; and the columns that are decoded
-- word by word. Assumes nothing.
use Prim.Native.Nat.{ℕ, ◌+◌, ◌<◌, ◌≤◌}
use mathlib.Core.Path.{◌≡◌, refl, sym, ap, ap₂, ◌∙◌, subst}
use mathlib.Core.Logic.{inl, inr}
use mathlib.Core.List.{List}
use native.Mathlib.Omega.{arith}
use lib.ListN.{length, get_or, set, drop, length-drop}
use lib.Seq.{sets}
use Rattle.format.specs.declared.Column.{Column}
use Rattle.format.specs.declared.SortOptions.{SortOptions}
use Rattle.format.specs.Kinds.{Fixed, Shape, fixed, column_shape, shape, shape_bytes, value_bytes}
use Rattle.format.specs.Cleared.{fixed_slot}
use Rattle.format.specs.Read.{Good, read_field, read_fixed, slot_read}
use Rattle.number.specs.declared.Coding.{Coding}
use Rattle.number.specs.declared.Coding.TheVariants.{Unsigned, Signed, Float}
use Rattle.number_reader.specs.Words.{WordWidth}
use Rattle.basics.proofs.Bytes.{bytes_of, bytes_drop}
use Rattle.fixed_decoder.specs.Worded.{Worded, worded}
use Rattle.fixed_decoder.proofs.Storing.{worded_width}
use Rattle.cursors.specs.Cursors.{Readable, cursor_field, cursor_slot, wides_at}
use Rattle.cursors.proofs.Lead.{Whole, whole, inside}
use Rattle.cursors.proofs.Moving.{Moving, move_readable, move_room, move_more}
use Rattle.value_mover.specs.WordKinds.{word_column, word_kind}

module _ {col : Column} {rows xs out₀ : List ℕ} {at₀ : ℕ} {now out : List ℕ} {at r : ℕ}
    (t : Moving col rows (fixed_slot (value_bytes col.kind)) xs out₀ at₀ now out at r) (h : r < length now)
    (k : Fixed) (is : column_shape col ≡ fixed k) (known : (i : ℕ) → get_or rows i 0 < 256) (such : Readable col rows xs) where
  abbrev p : ℕ
  p = get_or now r 0

  good : Good (cursor_field col rows p)
  good = move_readable t h such

  -- the field at the cursor is whole, and there is room for its slot
  field : Whole (column_shape col) col.options (drop p rows)
  field = whole (column_shape col) k col.options (drop p rows) is (bytes_drop p rows (bytes_of rows known)) good

  pub turn_there : p + (1 + value_bytes col.kind) ≤ length rows
  turn_there = omega (arith, field.there, length-drop p rows, inside col rows p good)

  pub turn_room : at₀ + length (wides_at col rows xs) ≤ length out₀ → at + value_bytes col.kind ≤ length out
  turn_room fits = omega (arith, move_room t h fits, field.slot_is)

  -- the slot is stored, and the cursor moved
  pub turn_more : (w : ℕ) → w ≡ value_bytes col.kind
      → Moving col rows (fixed_slot (value_bytes col.kind)) xs out₀ at₀ (set now r (p + 1 + w))
      (sets out at (fixed_slot (value_bytes col.kind) (cursor_slot col rows p))) (at + w) (r + 1)
  turn_more w e = move_more t h w (p + 1 + w) (field.slot_is ∙ sym e) (omega (arith, field.field_long, e))

-- ---- the kinds of each width

word_shape : (c : Coding) (w : ℕ) → WordWidth w → shape (word_kind c w) ≡ fixed (worded c w)
word_shape Unsigned w (inl e) = rw e refl
word_shape Unsigned w (inr (inl e)) = rw e refl
word_shape Unsigned w (inr (inr e)) = rw e refl
word_shape Signed w (inl e) = rw e refl
word_shape Signed w (inr (inl e)) = rw e refl
word_shape Signed w (inr (inr e)) = rw e refl
word_shape Float w (inl e) = rw e refl
word_shape Float w (inr (inl e)) = rw e refl
word_shape Float w (inr (inr e)) = rw e refl

pub worded_shape : (c : Coding) (w : ℕ) → Worded w → shape (word_kind c w) ≡ fixed (worded c w)
worded_shape c w (inl e) = rw e refl
worded_shape c w (inr h) = word_shape c w h

-- ---- a column that is decoded word by word

module _ (c : Coding) (w : ℕ) (o : SortOptions) (rows : List ℕ) (p : ℕ) (ok : Worded w) where
  pub word_good : Good (cursor_field (word_column c w o) rows p) → Good (read_fixed (worded c w) o (drop p rows))
  word_good g = subst (λ (sh : Shape). Good (read_field sh o (drop p rows))) (worded_shape c w ok) g

  pub word_bytes : w ≡ value_bytes (word_kind c w)
  word_bytes = sym (ap shape_bytes (worded_shape c w ok) ∙ worded_width c w ok)

  pub word_slot : fixed_slot w (slot_read (read_fixed (worded c w) o (drop p rows)))
      ≡ fixed_slot (value_bytes (word_kind c w)) (cursor_slot (word_column c w o) rows p)
  word_slot =
      ap₂ {C = List ℕ} (λ (n : ℕ) (sh : Shape). fixed_slot n (slot_read (read_field sh o (drop p rows)))) word_bytes (sym (worded_shape c w ok))

module _ (c : Coding) (w : ℕ) (o : SortOptions) {rows xs out₀ : List ℕ} {at₀ : ℕ} {now out : List ℕ} {at r : ℕ}
    (t : Moving (word_column c w o) rows (fixed_slot (value_bytes (word_kind c w))) xs out₀ at₀ now out at r) (h : r < length now)
    (ok : Worded w) (known : (i : ℕ) → get_or rows i 0 < 256) (such : Readable (word_column c w o) rows xs) where
  pub word_there : get_or now r 0 + (1 + w) ≤ length rows
  word_there = omega (arith, turn_there t h (worded c w) (worded_shape c w ok) known such, word_bytes c w o rows 0 ok)

  pub word_room : at₀ + length (wides_at (word_column c w o) rows xs) ≤ length out₀ → at + w ≤ length out
  word_room fits = omega (arith, turn_room t h (worded c w) (worded_shape c w ok) known such fits, word_bytes c w o rows 0 ok)
