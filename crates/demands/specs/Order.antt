-- The order: what comparing two encoded rows answers, and that neither begins the other unless their values are equal.
use Rattle.std.specs.Prelude.{ℕ, ◌<◌, ◌≡◌, Bool, cond, ◌&&◌, List, ltb, ℤ, length, Ok, Err, Result, Option, Some, None}
use Rattle.format.specs.declared.Refusal.{Refusal}
use Rattle.format.specs.Check.{Check, both}
use Rattle.format.specs.Kinds.{Slot}
use Rattle.format.specs.Described.{ColumnList, columns}
use Rattle.format.specs.Order.{Begins}
use Rattle.format.specs.Value.{row_order}
use Rattle.format.specs.Entries.{row_values, encode_check, row_bytes, sign}

-- a sheet of n rows with the row buffer and the offsets lent for it, and these two at exit
pub record Batch : Type 0 where
  pub n : ℕ
  pub sheet : List ℕ
  pub rows : List ℕ
  pub offsets : List ℕ
  pub rows' : List ℕ
  pub offsets' : List ℕ

abbrev pub batch : ℕ → List ℕ → List ℕ → List ℕ → List ℕ → List ℕ → Batch
batch n sheet rows offsets rows' offsets' = record { n = n; sheet = sheet; rows = rows; offsets = offsets; rows' = rows'; offsets' = offsets' }

-- what encode refuses of it
abbrev pub batch_fault : ColumnList → Batch → Check
batch_fault list b = encode_check list b.n b.sheet (length b.rows) (length b.offsets)

-- row r, cut out by the offsets at exit, and its values in the sheet
abbrev pub row_in : Batch → ℕ → List ℕ
row_in b r = row_bytes b.rows' b.offsets' r

abbrev pub values_in : ColumnList → Batch → ℕ → List Slot
values_in list b r = row_values (columns list) b.n b.sheet r

-- what comparing a row of one sheet with a row of another answers: encode's refusal of one of them, no such row, or the order
abbrev pub Ordered : Type 0
Ordered = Result (Option ℤ) Refusal

-- a refusal; a row past its sheet; and else the order
abbrev pub ordered : Check → Bool → ℤ → Ordered
ordered (Err x) there order = Err x
ordered (Ok tt) there order = Ok (cond there (Some order) None)

-- −1, 0 or 1, as the values of row r of one batch and of row q of another stand
abbrev pub order_in : ColumnList → Batch → Batch → ℕ → ℕ → ℤ
order_in list b d r q = sign (row_order (columns list) (values_in list b r) (values_in list d q))

-- both sheets are encoded, and both rows are there
pub record There (list : ColumnList) (b d : Batch) (r q : ℕ) : Type 0 where
  pub passes : both (batch_fault list b) (batch_fault list d) ≡ Ok tt
  pub row : r < b.n
  pub other : q < d.n

-- comparing the bytes of the rows gives the order of their values, and neither begins the other unless the values are equal
pub record OrderedAs (list : ColumnList) (b d : Batch) (r q : ℕ) (x : Ordered) : Type 0 where
  pub answers : x ≡ ordered (both (batch_fault list b) (batch_fault list d)) (ltb r b.n && ltb q d.n) (order_in list b d r q)
  pub begins : There list b d r q → Begins (row_in b r) (row_in d q) → values_in list b r ≡ values_in list d q
  pub begun : There list b d r q → Begins (row_in d q) (row_in b r) → values_in list b r ≡ values_in list d q
