-- The bytes of a field: each is a byte, there are as many as its length says, and a value's field never begins as a null's.
use Prim.Native.Nat.{ℕ, suc, ◌-◌, ◌<◌, ◌≤◌}
use mathlib.Core.Path.{◌≡◌, refl, sym, ◌∙◌, subst}
use mathlib.Core.Logic.{◌⊎◌, inl, inr}
use mathlib.Core.Bool.{Bool, true, false, cond, not, ◌&&◌, true≢false}
use mathlib.Core.Option.{none, some}
use mathlib.Core.List.{List, [], ◌∷◌, ◌++◌, append-nil}
use native.Mathlib.Omega.{arith}
use lib.Dec.{ltb, eqb}
use lib.ListN.{length, replicate, length-replicate}
use borrow.Author.Tests.{lt-ltb, le-ltb, eq-eqb, ne_eqb, eqb-true}
use Rattle.format.specs.Field.{block_size, directed, field, field_length, null_byte, variable_bytes}
use Rattle.format.specs.Read.{null_lead}
use Rattle.format.specs.Fits.{RowFits, SlotFits}
use Rattle.format.specs.Key.{key}
use Rattle.format.specs.Kinds.{Shape, fixed, variable, Slot, column_shape, width}
use Rattle.format.specs.Limits.{max_slot}
use Rattle.format.specs.Lists.{Bytes}
use Rattle.format.specs.Row.{row}
use Rattle.format.specs.declared.Column.{Column}
use Rattle.format.specs.declared.SortOptions.{SortOptions}
use Rattle.basics.proofs.Bytes.{bytes_append, bytes_key, bytes_zeros}
use Rattle.basics.proofs.Compare.{choose}
use Rattle.laws.proofs.Directed.{bytes_directed, length_directed}
use Rattle.laws.proofs.Lengths.{length_variable}
use Rattle.laws.proofs.Stream.{stream, variable_stream, block_size_room, block_size_small}
use Rattle.laws.proofs.Unkey.{length_key}

-- ---- the bytes of variable bytes

-- the blocks of bytes are bytes
bytes_stream : (size : ℕ → ℕ) → ((k : ℕ) → 0 < size k) → ((k : ℕ) → size k < 255) → (x : List ℕ) (k u : ℕ) → u ≤ size k → Bytes x → Bytes (stream size k u x)
bytes_stream size room small [] k u m b = bytes_zeros (size k - u) (u ∷ []) (omega (arith, small k), tt)
bytes_stream size room small (x ∷ xs) k u m b = go (choose u (size k)) (λ k u m. bytes_stream size room small xs k u m b.1)
  where
    go : (u < size k) ⊎ (size k ≤ u) → ((k u : ℕ) → u ≤ size k → Bytes (stream size k u xs)) → Bytes (stream size k u (x ∷ xs))
    go (inl n) ih = rw (lt-ltb u (size k) n) (b.0, ih k (suc u) n)
    go (inr n) ih = rw (le-ltb u (size k) n) (omega arith, (b.0, ih (suc k) 1 (room (suc k))))

pub bytes_variable : (x : List ℕ) → Bytes x → Bytes (variable_bytes x)
bytes_variable [] b = (omega arith, tt)
bytes_variable (x ∷ xs) b =
    subst Bytes (sym (variable_stream x xs)) (omega arith, bytes_stream block_size block_size_room block_size_small (x ∷ xs) 0 0 (omega arith) b)

-- and the other way round: the data of bytes is bytes
bytes_data : (size : ℕ → ℕ) (x t : List ℕ) (k u : ℕ) → Bytes (stream size k u x ++ t) → Bytes x
bytes_data size [] t k u b = tt
bytes_data size (x ∷ xs) t k u b = go (ltb u (size k)) b (λ k u b. bytes_data size xs t k u b)
  where
    go : (c : Bool) → Bytes (cond c (x ∷ stream size k (suc u) xs) (255 ∷ x ∷ stream size (suc k) 1 xs) ++ t)
        → ((k u : ℕ) → Bytes (stream size k u xs ++ t) → Bytes xs) → Bytes (x ∷ xs)
    go true b ih = (b.0, ih k (suc u) b.1)
    go false b ih = (b.1.0, ih (suc k) 1 b.1.1)

pub bytes_value : (x t : List ℕ) → Bytes (variable_bytes x ++ t) → Bytes x
bytes_value [] t b = tt
bytes_value (x ∷ xs) t b = bytes_data block_size (x ∷ xs) t 0 0 (subst (λ (z : List ℕ). Bytes (z ++ t)) (variable_stream x xs) b).1

-- ---- the first byte

-- a field whose first byte is neither null byte, whatever the options
pub record Led (f : List ℕ) : Type 0 where
  pub lead : ℕ
  pub rest : List ℕ
  pub splits : f ≡ lead ∷ rest
  pub above : 0 < lead
  pub below : lead < 255

-- 01 or 02, and inverted FE or FD
pub led_variable : (d : Bool) (x : List ℕ) → Led (directed d (variable_bytes x))
led_variable true [] = record { lead = 254; rest = []; splits = refl; above = omega arith; below = omega arith }
led_variable true (x ∷ xs) = record { lead = 253; rest = _; splits = refl; above = omega arith; below = omega arith }
led_variable false [] = record { lead = 1; rest = []; splits = refl; above = omega arith; below = omega arith }
led_variable false (x ∷ xs) = record { lead = 2; rest = _; splits = refl; above = omega arith; below = omega arith }

-- such a byte is no null byte
pub not_null : (o : SortOptions) (b : ℕ) → 0 < b → b < 255 → null_lead o b ≡ false
not_null o b h l = go o.required o.nulls_first
  where
    go : (r n : Bool) → (not r && eqb b (cond n 0 255)) ≡ false
    go true n = refl
    go false true = ne_eqb b 0 (omega arith)
    go false false = ne_eqb b 255 (omega arith)

-- the null byte is one, unless the column is required
pub null_led : (o : SortOptions) → o.required ≡ false → null_lead o (null_byte o) ≡ true
null_led o h = rw h (eq-eqb (null_byte o) (null_byte o) refl)

-- and nothing else
pub led_null : (o : SortOptions) (b : ℕ) → null_lead o b ≡ true → (o.required ≡ false) × (b ≡ null_byte o)
led_null o b e = go o.required refl e
  where
    go : (r : Bool) → o.required ≡ r → (not r && eqb b (null_byte o)) ≡ true → (o.required ≡ false) × (b ≡ null_byte o)
    go true q e = absurd (true≢false (sym e))
    go false q e = (q, eqb-true b (null_byte o) e)

-- ---- fields and rows

null_byte_lem : (o : SortOptions) → null_byte o < 256
null_byte_lem o = go o.nulls_first
  where
    go : (n : Bool) → cond n 0 255 < 256
    go true = omega arith
    go false = omega arith

-- a field is bytes
bytes_field : (sh : Shape) (o : SortOptions) (s : Slot) → SlotFits max_slot sh o s → Bytes (field sh o s)
bytes_field (fixed k) o none h = (null_byte_lem o, subst Bytes (append-nil (replicate (width k) 0)) (bytes_zeros (width k) [] tt))
bytes_field (fixed k) o (some v) h = (omega arith, bytes_directed o.descending (key k v) (bytes_key k v h.0))
bytes_field variable o none h = (null_byte_lem o, tt)
bytes_field variable o (some v) h = bytes_directed o.descending (variable_bytes v) (bytes_variable v h.0)

-- a field is as long as the table says
pub length_field : (sh : Shape) (o : SortOptions) (s : Slot) → SlotFits max_slot sh o s → length (field sh o s) ≡ field_length sh s
length_field (fixed k) o none h = omega (arith, length-replicate {A = ℕ} (width k) 0)
length_field (fixed k) o (some v) h = omega (arith, length_directed o.descending (key k v), length_key k v h.1)
length_field variable o none h = refl
length_field variable o (some v) h = length_directed o.descending (variable_bytes v) ∙ length_variable v

-- a row is bytes
pub bytes_row : (cols : List Column) (xs : List Slot) → RowFits cols xs → Bytes (row cols xs)
bytes_row [] [] h = tt
bytes_row [] (x ∷ xs) h = absurd h
bytes_row (col ∷ cols) [] h = absurd h
bytes_row (col ∷ cols) (x ∷ xs) h =
    bytes_append (field (column_shape col) col.options x) (row cols xs) (bytes_field (column_shape col) col.options x h.0) (bytes_row cols xs h.1)
