-- A field that can be read in front of bytes: its lead byte tells null from value, and how long it and its slot are.
-- Assumes nothing.
use Prim.Native.Nat.{ℕ, ◌+◌, ◌-◌, ◌<◌, ◌≤◌}
use mathlib.Core.Path.{◌≡◌, refl, sym, ap, ◌∙◌, subst}
use mathlib.Core.Bool.{Bool, true, false, cond, not}
use mathlib.Core.Option.{none, some}
use mathlib.Core.List.{List, [], ◌∷◌, ◌++◌}
use native.Mathlib.Omega.{arith}
use lib.Dec.{eqb}
use lib.ListN.{length, get_or, take, drop, length-append, length-take, length-drop, length-replicate}
use lib.Seq.{get_or-take, get_or-drop}
use borrow.Author.Tests.{eq-eqb, ne_eqb}
use Rattle.format.specs.declared.SortOptions.{SortOptions}
use Rattle.format.specs.declared.Column.{Column}
use Rattle.format.specs.Limits.{max_slot}
use Rattle.format.specs.Lists.{Bytes}
use Rattle.format.specs.Kinds.{Fixed, Shape, fixed, variable, Slot, width, shape_bytes, column_shape}
use Rattle.format.specs.Field.{directed, field, null_byte, variable_bytes}
use Rattle.format.specs.Fits.{SlotFits}
use Rattle.format.specs.Cleared.{valid, fixed_slot, variable_slot}
use Rattle.format.specs.Read.{Parsed, got, fault, Good, slot_read, left_after, read_field}
use Rattle.laws.proofs.Fields.{Led, led_variable, length_field}
use Rattle.laws.proofs.ReadField.{read_field_lem}
use Rattle.cursors.specs.Cursors.{cursor_field, Readable}

-- bytes that open with the field of a slot that fits
record Opens (sh : Shape) (o : SortOptions) (s : List ℕ) : Type 0 where
  pub slot : Slot
  pub rest : List ℕ
  pub reads : read_field sh o s ≡ got slot rest
  pub is : s ≡ field sh o slot ++ rest
  pub fits : SlotFits max_slot sh o slot

-- what can be read is such a field
opens : (sh : Shape) (o : SortOptions) (s : List ℕ) → Bytes s → Good (read_field sh o s) → Opens sh o s
opens sh o s b g = go (read_field sh o s) refl g
  where
    go : (p : Parsed Slot) → read_field sh o s ≡ p → Good p → Opens sh o s
    go (got x r) e g = let t = read_field_lem sh o s x r b e in record { slot = x; rest = r; reads = e; is = t.0; fits = t.1 }
    go (fault f l) e g = absurd g

-- ---- the lead byte

-- no byte between 00 and FF is the null byte
no_null : (o : SortOptions) (b : ℕ) → 0 < b → b < 255 → eqb b (null_byte o) ≡ false
no_null o b h l = go o.nulls_first
  where
    go : (n : Bool) → eqb b (cond n 0 255) ≡ false
    go true = ne_eqb b 0 (omega arith)
    go false = ne_eqb b 255 (omega arith)

-- the first byte of a field is the null byte exactly when its slot is null
lead_is : (sh : Shape) (o : SortOptions) (x : Slot) (t : List ℕ) → valid x ≡ not (eqb (get_or (field sh o x ++ t) 0 0) (null_byte o))
lead_is (fixed k) o none t = sym (ap not (eq-eqb (null_byte o) (null_byte o) refl))
lead_is variable o none t = sym (ap not (eq-eqb (null_byte o) (null_byte o) refl))
lead_is (fixed k) o (some v) t = sym (ap not (no_null o 1 (omega arith) (omega arith)))
lead_is variable o (some v) t =
    let l : Led (directed o.descending (variable_bytes v)) = led_variable o.descending v in
    sym (ap not (
    ap (λ (f : List ℕ). eqb (get_or (f ++ t) 0 0) (null_byte o)) l.splits ∙ no_null o l.lead l.above l.below
    ))

-- there is one
pub lead_there : (sh : Shape) (o : SortOptions) (s : List ℕ) → Good (read_field sh o s) → 0 < length s
lead_there (fixed k) o [] g = absurd g
lead_there variable o [] g = absurd g
lead_there sh o (b ∷ s) g = omega arith

-- a cursor in front of a field stands within the rows
pub inside : (col : Column) (rows : List ℕ) (p : ℕ) → Good (cursor_field col rows p) → p < length rows
inside col rows p g = omega (arith, lead_there (column_shape col) col.options (drop p rows) g, length-drop p rows)

-- some of the cursors
pub readable_part : (col : Column) (rows cursors : List ℕ) (a m : ℕ) → Readable col rows cursors → Readable col rows (take m (drop a cursors))
readable_part col rows cursors a m h r l =
    let k = length-take m (drop a cursors) in
    subst (λ (p : ℕ). Good (cursor_field col rows p)) (sym (get_or-take m (drop a cursors) r 0 (omega arith) ∙ get_or-drop a cursors r 0))
    (h (a + r) (omega (arith, length-drop a cursors)))

-- a field that can be read is null exactly when its lead byte is the null byte, which opens none of a required column
pub valid_lead : (sh : Shape) (o : SortOptions) (s : List ℕ) → Bytes s → Good (read_field sh o s)
    → valid (slot_read (read_field sh o s)) ≡ not (eqb (get_or s 0 0) (null_byte o))
valid_lead sh o s b g =
    let t = opens sh o s b g in
    ap (λ (p : Parsed Slot). valid (slot_read p)) t.reads
    ∙ lead_is sh o t.slot t.rest
    ∙ ap (λ (z : List ℕ). not (eqb (get_or z 0 0) (null_byte o))) (sym t.is)

-- ---- lengths

-- what a slot takes up in a column of values of one length
slot_long : (k : Fixed) (o : SortOptions) (x : Slot) → SlotFits max_slot (fixed k) o x → length (fixed_slot (width k) x) ≡ width k
slot_long k o none h = length-replicate (width k) 0
slot_long k o (some v) h = h.1

-- of a fixed kind: the field is a byte longer than a value, is there whole, and its slot is as long as every other
pub record Whole (sh : Shape) (o : SortOptions) (s : List ℕ) : Type 0 where
  pub field_long : length s - length (left_after (read_field sh o s)) ≡ 1 + shape_bytes sh
  pub there : 1 + shape_bytes sh ≤ length s
  pub slot_is : length (fixed_slot (shape_bytes sh) (slot_read (read_field sh o s))) ≡ shape_bytes sh

whole_fixed : (k : Fixed) (o : SortOptions) (s : List ℕ) → Bytes s → Good (read_field (fixed k) o s) → Whole (fixed k) o s
whole_fixed k o s b g =
    let t = opens (fixed k) o s b g in
    let l = length_field (fixed k) o t.slot t.fits in
    let m = ap length t.is ∙ length-append (field (fixed k) o t.slot) t.rest in
    let r = ap (λ (p : Parsed Slot). length (left_after p)) t.reads in
    record {
      field_long = omega arith;
      there = omega arith;
      slot_is = ap (λ (p : Parsed Slot). length (fixed_slot (width k) (slot_read p))) t.reads ∙ slot_long k o t.slot t.fits;
    }

pub whole : (sh : Shape) (k : Fixed) (o : SortOptions) (s : List ℕ) → sh ≡ fixed k → Bytes s → Good (read_field sh o s) → Whole sh o s
whole sh k o s e b = subst (λ (z : Shape). Good (read_field z o s) → Whole z o s) (sym e) (whole_fixed k o s b)

-- no value of variable bytes is over the limit
slot_short : (o : SortOptions) (x : Slot) → SlotFits max_slot variable o x → length (variable_slot x) ≤ max_slot
slot_short o none h = omega arith
slot_short o (some v) h = h.1

pub variable_short : (o : SortOptions) (s : List ℕ) → Bytes s → length (variable_slot (slot_read (read_field variable o s))) ≤ max_slot
variable_short o s b = go (read_field variable o s) refl
  where
    go : (p : Parsed Slot) → read_field variable o s ≡ p → length (variable_slot (slot_read p)) ≤ max_slot
    go (got x r) e = slot_short o x (read_field_lem variable o s x r b e).1
    go (fault f l) e = omega arith
