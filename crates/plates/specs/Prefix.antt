-- The first k fields: two encoded rows share them exactly when they share the first k values, they are the row of these values under
-- the first k columns, and in a sorted batch the rows that share them stand side by side. For every k; past the columns it is all.
use Prim.Native.Nat.Ordering.{lt}
use Rattle.std.specs.Prelude.{ℕ, zero, suc, ◌+◌, ◌-◌, ◌<◌, ◌≤◌, ◌≡◌, cond, ◌&&◌, ◌↔◌, List, ltb, ℤ, length, get_or, take, Ok}
use Rattle.format.specs.Check.{Check, both}
use Rattle.format.specs.Kinds.{Slot}
use Rattle.format.specs.Columns.{description_bytes}
use Rattle.format.specs.Described.{ColumnList, columns}
use Rattle.format.specs.Order.{Begins, cmp}
use Rattle.format.specs.Prefix.{first_fields, values_length}
use Rattle.format.specs.Row.{row}
use Rattle.format.specs.Value.{row_order}
use Rattle.format.specs.Entries.{sign, compare_answer}
use Rattle.demands.specs.Order.{Batch, batch_fault, row_in, values_in, ordered, Ordered}

-- the first k fields of row r of a batch, and the first k values of row r of its sheet
abbrev pub fields_in : ColumnList → Batch → ℕ → ℕ → List ℕ
fields_in list b k r = first_fields k (columns list) (row_in b r)

abbrev pub first_values : ColumnList → Batch → ℕ → ℕ → List Slot
first_values list b k r = take k (values_in list b r)

-- of n rows none is below the one before it
abbrev pub Sorted : ℕ → (ℕ → List ℕ) → Type 0
Sorted n rows = (i : ℕ) → suc i < n → ¬ (cmp (rows (suc i)) (rows i) ≡ lt)

-- what rows i and l share, all rows between them share
abbrev pub Together : {A : Type 0} → ℕ → (ℕ → A) → Type 0
Together n f = (i j l : ℕ) → i ≤ j → j ≤ l → l < n → f i ≡ f l → f j ≡ f i

-- the first k fields are the row of the first k values under the first k columns, and as long as these values say
pub record Fields (list : ColumnList) (b : Batch) (k r : ℕ) : Type 0 where
  pub spell : fields_in list b k r ≡ row (take k (columns list)) (first_values list b k r)
  pub long : length (fields_in list b k r) ≡ values_length k (columns list) (values_in list b r)

-- two sheets encoded under one list
pub record FieldsAgree (list : ColumnList) (b d : Batch) (x : Check) : Type 0 where
  pub answers : x ≡ both (batch_fault list b) (batch_fault list d)
  pub agree : x ≡ Ok tt → (k r q : ℕ) → r < b.n → q < d.n → first_values list b k r ≡ first_values list d k q ↔ fields_in list b k r ≡ fields_in list d k q
  pub fields : x ≡ Ok tt → (k r : ℕ) → r < b.n → Fields list b k r
  pub together : x ≡ Ok tt → Sorted b.n (row_in b) → (k : ℕ) → Together b.n (fields_in list b k)

-- ---- keys under the first k columns

-- where k descriptions end that begin at `at`
abbrev pub list_end : ℕ → List ℕ → ℕ → ℕ
list_end zero s at = at
list_end (suc k) s at = list_end k s (at + description_bytes (get_or s at 0))

-- the first k descriptions of a list
abbrev pub first_list : ℕ → List ℕ → List ℕ
first_list k list = take (list_end k list 0) list

-- where what stands from `from` up to `to` ends if it is cut to `size`
abbrev pub front_end : ℕ → ℕ → ℕ → ℕ
front_end from to size = cond (ltb size (to - from)) (from + size) to

-- row r of a batch, cut to the length of key q, compared with that key
abbrev pub key_order : Batch → Batch → ℕ → ℕ → ℤ
key_order b d r q = compare_answer (take (length (row_in d q)) (row_in b r)) (row_in d q)

-- both sheets are encoded, the second under the first k columns, and both rows are there
pub record KeyThere (list short : ColumnList) (b d : Batch) (k r q : ℕ) : Type 0 where
  pub passes : both (batch_fault list b) (batch_fault short d) ≡ Ok tt
  pub first : columns short ≡ take k (columns list)
  pub row : r < b.n
  pub key : q < d.n

-- such a key stands to the row as to its first k values, and is its first k fields, and begins it, exactly where it has those values
pub record KeyOrdered (list short : ColumnList) (b d : Batch) (r q : ℕ) (x : Ordered) : Type 0 where
  pub answers : x ≡ ordered (both (batch_fault list b) (batch_fault short d)) (ltb r b.n && ltb q d.n) (key_order b d r q)
  pub order : (k : ℕ) → KeyThere list short b d k r q
      → key_order b d r q ≡ sign (row_order (take k (columns list)) (first_values list b k r) (values_in short d q))
  pub shares : (k : ℕ) → KeyThere list short b d k r q → first_values list b k r ≡ values_in short d q ↔ fields_in list b k r ≡ row_in d q
  pub begins : (k : ℕ) → KeyThere list short b d k r q → first_values list b k r ≡ values_in short d q ↔ Begins (row_in d q) (row_in b r)
