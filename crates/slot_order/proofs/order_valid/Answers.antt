-- `slot_order::order_valid` meets its contract: values compare by their keys, and descending reverses that. Assumes nothing.
use Prim.Native.Nat.{ℕ, ◌-◌, ◌<◌}
use mathlib.Core.Path.{◌≡◌, ap, ◌∙◌}
use mathlib.Core.Bool.{false}
use mathlib.Core.List.{List}
use lib.ListN.{length, get_or, take, drop}
use Rattle.std.specs.declared.cmp.Ordering.{Ordering as Answer}
use Rattle.format.specs.declared.Column.{Column}
use Rattle.format.specs.Limits.{max_slot}
use Rattle.format.specs.Kinds.{column_shape}
use Rattle.format.specs.Fits.{Fits}
use Rattle.format.specs.Sheet.{layout, packed, column_fault, value_at}
use Rattle.format.specs.Passed.{Passes}
use Rattle.basics.proofs.Bytes.{bytes_drop, bytes_of}
use Rattle.basics.proofs.Sorts.{signs}
use Rattle.laws.proofs.Parts.{part_rest}
use Rattle.laws.proofs.Sheets.{value_fits}
use Rattle.sheet_slots.proofs.Values.{values_pass}
use Rattle.number_order.specs.Orders.{value_key, Ordered}
use Rattle.value_order.proofs.Values.{values_rise, values_fall}
use Rattle.slot_order.proofs.order_valid.Goals as goal

-- the value of row i of n in a column in front of s, after its validity bytes
abbrev value : Column → ℕ → List ℕ → ℕ → List ℕ
value col n s i = value_at (layout col) n (drop (packed n) s) i

fits : (col : Column) (n : ℕ) (s : List ℕ) (i : ℕ) → ((k : ℕ) → get_or s k 0 < 256) → Passes (λ c. column_fault false (layout col) n c s) → i < n
    → Fits max_slot (column_shape col) false (value col n s i)
fits col n s i known h l =
    let p = values_pass (layout col) n s h in
    value_fits (column_shape col) n p.c (drop (packed n) s) (bytes_drop (packed n) s (bytes_of s known)) p.pass i l

-- the part that is lent
lent : (n k : ℕ) (s : List ℕ) → k ≡ packed n → take (length s - k) (drop k s) ≡ drop (packed n) s
lent n k s e = ap (λ (j : ℕ). take (length s - j) (drop j s)) e ∙ part_rest s (packed n)

-- the values in front of what is lent are those of the columns
lent_ordered : (col : Column) (n k : ℕ) (a : List ℕ) (i m l : ℕ) (b : List ℕ) (j : ℕ) {r : Answer} → let key_of = value_key (column_shape col) col.options.fold in
    k ≡ packed n → l ≡ packed m
    → Ordered (key_of (value_at (layout col) n (take (length a - k) (drop k a)) i)) (key_of (value_at (layout col) m (take (length b - l) (drop l b)) j)) r
    → Ordered (key_of (value col n a i)) (key_of (value col m b j)) r
lent_ordered col n k a i m l b j p q o = rw (← lent n k a p, ← lent m l b q) o

pub returns-then-column : goal.returns-then-column
returns-then-column c =
    let A = c.args in
    c.reverse.ensures
    ∙ values_fall (column_shape A.column) A.column.options _ _ (signs A.column.kind)
    (fits A.column A.n A.a.now A.i (λ i. (c.type_inv.a i).fits) c.requires.passes c.requires.n_le_max_rows.1)
    (fits A.column A.m A.b.now A.j (λ i. (c.type_inv.b i).fits) c.requires.passes_2 c.requires.m_le_max_rows.1)
    (lent_ordered A.column A.n _ A.a.now A.i A.m _ A.b.now A.j c.packed-from.ensures.0 c.packed-start.ensures.0 c.order_values-found.ensures)
    c.if-column.true

pub returns : goal.returns
returns c =
    let A = c.args in
    values_rise (column_shape A.column) A.column.options _ _ (signs A.column.kind)
    (fits A.column A.n A.a.now A.i (λ i. (c.type_inv.a i).fits) c.requires.passes c.requires.n_le_max_rows.1)
    (fits A.column A.m A.b.now A.j (λ i. (c.type_inv.b i).fits) c.requires.passes_2 c.requires.m_le_max_rows.1)
    (lent_ordered A.column A.n _ A.a.now A.i A.m _ A.b.now A.j c.packed-from.ensures.0 c.packed-start.ensures.0 c.order_values-found.ensures)
    c.if-column.false
