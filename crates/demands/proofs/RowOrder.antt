-- Rows stand as their slots do, column by column, and of two unequal rows neither begins the other.
use Prim.Native.Nat.Ordering.{gt}
use Prim.Native.Nat.Ordering.{lt}
use Prim.Native.Nat.{ℕ, ◌+◌, ◌<◌, Ordering}
use mathlib.Core.Path.{◌≡◌, ap, sym, ◌∙◌, subst}
use mathlib.Core.Bool.{Bool, true, false, cond}
use mathlib.Core.Option.{none, some}
use mathlib.Core.List.{List, [], ◌∷◌, ◌++◌}
use native.Mathlib.Omega.{arith}
use lib.ListN.{length, take, replicate}
use Rattle.format.specs.Field.{directed, field, null_byte, variable_bytes}
use Rattle.format.specs.Fits.{RowFits, SlotFits}
use Rattle.format.specs.Key.{key}
use Rattle.format.specs.Kinds.{Fixed, Shape, fixed, variable, Slot, column_shape, width}
use Rattle.format.specs.Limits.{max_slot}
use Rattle.format.specs.Lists.{Bytes}
use Rattle.format.specs.Order.{Begins, cmp}
use Rattle.format.specs.Row.{row}
use Rattle.format.specs.Value.{fixed_order, row_order, slot_order}
use Rattle.format.specs.declared.Column.{Column}
use Rattle.format.specs.declared.SortOptions.{SortOptions}
use Rattle.basics.proofs.Bytes.{bytes_key}
use Rattle.basics.proofs.Compare.{compare_lt, compare_gt}
use Rattle.basics.proofs.Sorts.{Signs, ShapeSigns, signs}
use Rattle.laws.proofs.Fields.{bytes_variable, Led, led_variable}
use Rattle.demands.proofs.Invert.{ranks_directed}
use Rattle.laws.proofs.Unkey.{length_key}
use Rattle.number_order.proofs.KeyOrder.{key_order}
use Rattle.demands.proofs.Sep.{Ranks, ranks_self, ranks_append, ranks_even, ranks_cmp, ranks_front, ranks_begins, ranks_begun}
use Rattle.demands.proofs.VariableOrder.{variable_ranks}
use Rattle.demands.proofs.Orders.{lt≢eq, gt≢eq}

-- ---- the value bytes of the fixed kinds

-- the value bytes stand as the values do, for every width
key_ranks : (k : Fixed) → Signs k → (a b : List ℕ) → Bytes a → Bytes b → length a ≡ width k → length b ≡ width k
    → Ranks (fixed_order k a b) (key k a) (key k b)
key_ranks k so a b ha hb la lb =
    subst (λ (o : Ordering). Ranks o (key k a) (key k b)) (key_order k so a b ha hb la lb)
    (ranks_even (key k a) (key k b) (length_key k a la ∙ sym (length_key k b lb)))

-- ---- fields

-- two strings that differ at the first byte
lead_lt : {a b : ℕ} {f g : List ℕ} → a < b → Ranks lt (a ∷ f) (b ∷ g)
lead_lt {a} {b} h = record { first = rw (compare_lt a b h); alike = λ e. absurd (lt≢eq e) }

lead_gt : {a b : ℕ} {f g : List ℕ} → b < a → Ranks gt (a ∷ f) (b ∷ g)
lead_gt {a} {b} h = record { first = rw (compare_gt a b h); alike = λ e. absurd (gt≢eq e) }

-- a null against a value
null_value : (n : Bool) (b : ℕ) (f g : List ℕ) → 0 < b → b < 255 → Ranks (cond n lt gt) (cond n 0 255 ∷ f) (b ∷ g)
null_value true b f g h l = lead_lt h
null_value false b f g h l = lead_gt l

value_null : (n : Bool) (b : ℕ) (f g : List ℕ) → 0 < b → b < 255 → Ranks (cond n gt lt) (b ∷ g) (cond n 0 255 ∷ f)
value_null true b f g h l = lead_gt h
value_null false b f g h l = lead_lt l

-- both values
ones : {o : Ordering} {f g : List ℕ} → Ranks o f g → Ranks o (1 ∷ f) (1 ∷ g)
ones k = record { first = k.first; alike = λ e. ap {B = List ℕ} (λ z. 1 ∷ z) (k.alike e) }

-- the fields of two slots of a column stand as the slots do
field_ranks : (sh : Shape) (o : SortOptions) → ShapeSigns sh → (a b : Slot) → SlotFits max_slot sh o a → SlotFits max_slot sh o b
    → Ranks (slot_order sh o a b) (field sh o a) (field sh o b)
field_ranks (fixed k) o so none none ha hb = ranks_self (null_byte o ∷ replicate (width k) 0)
field_ranks (fixed k) o so none (some y) ha hb =
    null_value o.nulls_first 1 (replicate (width k) 0) (directed o.descending (key k y)) (omega arith) (omega arith)
field_ranks (fixed k) o so (some x) none ha hb =
    value_null o.nulls_first 1 (replicate (width k) 0) (directed o.descending (key k x)) (omega arith) (omega arith)
field_ranks (fixed k) o so (some x) (some y) ha hb =
    ones (ranks_directed o.descending (bytes_key k x ha.0) (bytes_key k y hb.0) (key_ranks k so x y ha.0 hb.0 ha.1 hb.1))
field_ranks variable o so none none ha hb = ranks_self (null_byte o ∷ [])
field_ranks variable o so none (some y) ha hb =
    let l : Led (directed o.descending (variable_bytes y)) = led_variable o.descending y in
    rw l.splits (null_value o.nulls_first l.lead [] l.rest l.above l.below)
field_ranks variable o so (some x) none ha hb =
    let l : Led (directed o.descending (variable_bytes x)) = led_variable o.descending x in
    rw l.splits (value_null o.nulls_first l.lead [] l.rest l.above l.below)
field_ranks variable o so (some x) (some y) ha hb = ranks_directed o.descending (bytes_variable x ha.0) (bytes_variable y hb.0) (variable_ranks x y)

-- ---- rows

-- field after field
row_ranks : (cols : List Column) (xs ys : List Slot) → RowFits cols xs → RowFits cols ys → Ranks (row_order cols xs ys) (row cols xs) (row cols ys)
row_ranks [] [] [] hx hy = ranks_self []
row_ranks [] [] (y ∷ ys) hx hy = absurd hy
row_ranks [] (x ∷ xs) ys hx hy = absurd hx
row_ranks (col ∷ cols) [] ys hx hy = absurd hx
row_ranks (col ∷ cols) (x ∷ xs) [] hx hy = absurd hy
row_ranks (col ∷ cols) (x ∷ xs) (y ∷ ys) hx hy =
    ranks_append (field_ranks (column_shape col) col.options (signs col.kind) x y hx.0 hy.0) (row_ranks cols xs ys hx.1 hy.1)

-- two rows compare as their slots do, column by column
pub row_order_lem : (cols : List Column) (xs ys : List Slot) → RowFits cols xs → RowFits cols ys → cmp (row cols xs) (row cols ys) ≡ row_order cols xs ys
row_order_lem cols xs ys hx hy = ranks_cmp (row_ranks cols xs ys hx hy)

-- so does the first, whatever follows it, cut to the length of the second
pub row_front : (cols : List Column) (xs ys : List Slot) (s : List ℕ) → RowFits cols xs → RowFits cols ys
    → cmp (take (length (row cols ys)) (row cols xs ++ s)) (row cols ys) ≡ row_order cols xs ys
row_front cols xs ys s hx hy = ranks_front (row_ranks cols xs ys hx hy) s

-- one begins the other only if they are the same
pub row_begins : (cols : List Column) (xs ys : List Slot) → RowFits cols xs → RowFits cols ys → Begins (row cols xs) (row cols ys) → row cols xs ≡ row cols ys
row_begins cols xs ys hx hy b = ranks_begins (row_ranks cols xs ys hx hy) b

pub row_begun : (cols : List Column) (xs ys : List Slot) → RowFits cols xs → RowFits cols ys → Begins (row cols ys) (row cols xs) → row cols xs ≡ row cols ys
row_begun cols xs ys hx hy b = ranks_begun (row_ranks cols xs ys hx hy) b
