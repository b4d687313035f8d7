-- What a field reader's answer says of the bytes that it read, and what a row is past that field. Assumes nothing.
use Prim.Native.Nat.{ℕ, suc, ◌+◌, ◌-◌, ◌≤◌}
use mathlib.Core.Path.{◌≡◌, refl, ap, sym, subst, ◌∙◌}
use mathlib.Core.Logic.{inl, inr}
use mathlib.Core.Option.{none, some}
use mathlib.Core.List.{List, ◌∷◌}
use native.Mathlib.Omega.{arith}
use lib.ListN.{length, take, drop, length-append, length-drop}
use lib.Seq.{drop_at, take_all}
use Rattle.std.specs.declared.option.Option.{Option}
use Rattle.std.specs.declared.option.Option.TheVariants.{Some, None}
use Rattle.std.specs.declared.result.Result.TheVariants.{Ok, Err}
use Rattle.format.specs.declared.SortOptions.{SortOptions}
use Rattle.format.specs.declared.Column.{Column}
use Rattle.format.specs.Field.{field}
use Rattle.format.specs.Fits.{SlotFits}
use Rattle.format.specs.Kinds.{bool, plain, number, integer, float, parts, Shape, fixed, variable, Slot, column_shape}
use Rattle.format.specs.Limits.{max_slot}
use Rattle.format.specs.Lists.{Bytes}
use Rattle.format.specs.Read.{Parsed, got, fault, field_check, field_read, left_after, read_field, row_fault, row_slots, slot_read, FieldAnswer}
use Rattle.format.specs.Sheet.{Layout, bits, ended, wide, layout, layout_for}
use Rattle.format.specs.Cleared.{added, row_added}
use Rattle.basics.proofs.Bytes.{bytes_drop}
use Rattle.plain_fields.specs.Plain.{Opens, Plain}
use Rattle.field_reader.specs.Counts.{Adds, AddsOf, Counts}
use Rattle.laws.proofs.ReadField.{read_field_lem}

-- the field in front of s is slot x, and takes len bytes
pub record Took (col : Column) (s : List ℕ) (x : Slot) (len : ℕ) : Type 0 where
  pub is : read_field (column_shape col) col.options s ≡ got x (drop len s)
  pub inside : len ≤ length s
  pub fits : SlotFits max_slot (column_shape col) col.options x

-- a null, or a value of k bytes
abbrev pub TookOf : Column → List ℕ → ℕ → Option ℕ → Type 0
TookOf col s len None = Took col s none len
TookOf col s len (Some k) = (v : List ℕ) × (length v ≡ k) × Took col s (some v) len

-- what each answer says
abbrev pub Says : Column → List ℕ → FieldAnswer → Type 0
Says col s (Ok read) = TookOf col s read.length read.value
Says col s (Err found) = read_field (column_shape col) col.options s ≡ fault found.0 found.1

took : (col : Column) (s : List ℕ) (x : Slot) (r : List ℕ) → Bytes s → read_field (column_shape col) col.options s ≡ got x r
    → Took col s x (length s - length r)
took col s x r b q =
    let e = read_field_lem (column_shape col) col.options s x r b q in
    let f : List ℕ = field (column_shape col) col.options x in
    let l : length s ≡ length f + length r = ap length e.0 ∙ length-append f r in
    let d : drop (length s - length r) s ≡ r = ap (drop (length s - length r)) e.0 ∙ drop_at f r (length s - length r) (omega arith) in
    record { is = q ∙ ap (got x) (sym d); inside = omega arith; fits = e.1 }

pub says : (col : Column) (s : List ℕ) (a : FieldAnswer) → Bytes s → a ≡ field_read s (read_field (column_shape col) col.options s) → Says col s a
says col s a b e = subst (Says col s) (sym e) (go (read_field (column_shape col) col.options s) refl)
  where
    go : (p : Parsed Slot) → read_field (column_shape col) col.options s ≡ p → Says col s (field_read s p)
    go (got none r) q = took col s none r b q
    go (got (some v) r) q = (v, refl, took col s (some v) r b q)
    go (fault f l) q = q

-- the same of the rest of a row, as a walk hands it over
pub says_rest : (col : Column) (row : List ℕ) (at : ℕ) (a : FieldAnswer) → Bytes row
    → a ≡ field_read (take (length row - at) (drop at row)) (read_field (column_shape col) col.options (take (length row - at) (drop at row)))
    → Says col (drop at row) a
says_rest col row at a b e =
    says col (drop at row) a (bytes_drop at row b) (rw (take_all (length row - at) (drop at row) (omega (arith, length-drop at row))) at e)

-- ---- a row past its first field
module _ (col : Column) (s : List ℕ) (x : Slot) (len : ℕ) (t : Took col s x len) (cols : List Column) where
  pub past_fault : (r n c : ℕ) → row_fault r n c (col ∷ cols) s ≡ row_fault r n (suc c) cols (drop len s)
  past_fault r n c = ap (λ (p : Parsed Slot). field_check r n c p (row_fault r n (suc c) cols)) t.is

  past_slots : row_slots (col ∷ cols) s ≡ x ∷ row_slots cols (drop len s)
  past_slots = ap (λ (p : Parsed Slot). slot_read p ∷ row_slots cols (left_after p)) t.is

  pub past_added : row_added (col ∷ cols) (row_slots (col ∷ cols) s) ≡ added (layout col) x + row_added cols (row_slots cols (drop len s))
  past_added = ap (row_added (col ∷ cols)) past_slots

-- a slot adds no more than the ceiling
pub added_small : (sh : Shape) (o : SortOptions) (x : Slot) → SlotFits max_slot sh o x → added (layout_for sh) x ≤ max_slot
added_small (fixed bool) o x h = omega arith
added_small (fixed (plain w)) o x h = omega arith
added_small (fixed (number w)) o x h = omega arith
added_small (fixed (integer w)) o x h = omega arith
added_small (fixed (float w)) o x h = omega arith
added_small (fixed (parts ws)) o x h = omega arith
added_small variable o none h = omega arith
added_small variable o (some v) h = h.1

-- a null adds nothing
pub null_added : (ly : Layout) → added ly none ≡ 0
null_added bits = refl
null_added (wide w) = refl
null_added ended = refl

-- ---- fields that are counted or good by their length

-- a field that was counted is a slot, and adds so much
pub adds_took : (col : Column) (s : List ℕ) (len more : ℕ) → Bytes s → Counts col s len more → (x : Slot) × Took col s x len × (more ≡ added (layout col) x)
adds_took col s len more b h = let a = field_read s (read_field (column_shape col) col.options s) in go a (says col s a b refl) h
  where
    of : (l : ℕ) (n : Option ℕ) → TookOf col s l n → (len ≡ l) × AddsOf col more n → (x : Slot) × Took col s x len × (more ≡ added (layout col) x)
    of l None t h = (none, subst (Took col s none) (sym h.0) t, h.1 ∙ sym (null_added (layout col)))
    of l (Some n) t h = (some t.0, subst (Took col s (some t.0)) (sym h.0) t.2, h.1 (some t.0) t.1)

    go : (a : FieldAnswer) → Says col s a → Adds col len more a → (x : Slot) × Took col s x len × (more ≡ added (layout col) x)
    go (Ok read) t h = of read.length read.value t h
    go (Err found) t h = absurd h

-- a plain field is a slot
pub plain_took : (col : Column) (s : List ℕ) (len : ℕ) → Bytes s → Plain col len → len ≤ length s → Opens col.options len s → (x : Slot) × Took col s x len
plain_took col s len b p l (inl one) = let v = says col s _ b (sym (p.reads s l one)) in (some v.0, v.2)
plain_took col s len b p l (inr null) = (none, says col s _ b (sym (p.nulls s l null.0 null.1)))
