-- A sheet by its raw columns: a null slot may hold anything, of any length within the limit, and so may what stands before a first
-- end; a cleared sheet has zeros, and length 0, there.
use Rattle.std.specs.Prelude.{ℕ, suc, ◌+◌, ◌*◌, ◌^◌, ◌<◌, ◌≡◌, Bool, false, List, [], ◌∷◌, ◌++◌, map, eqb, length, get_or, take, drop, replicate}
use Rattle.format.specs.declared.Column.{Column}
use Rattle.format.specs.Limits.{max_slot}
use Rattle.format.specs.Lists.{Bytes, each, ends_from, joined, low_bytes}
use Rattle.format.specs.Kinds.{Shape, Slot, column_shape}
use Rattle.format.specs.Fold.{folded_slot}
use Rattle.format.specs.Fits.{Fits, AllSlots}
use Rattle.format.specs.Sheet.{Layout, bits, ended, wide, layout, packed, bit, end, bool_byte, value_at, slot_if, slot_at, column_bytes}
use Rattle.format.specs.Cleared.{pack}

-- a slot as it stands in the sheet: its validity bit, and its bytes whatever that bit says
pub record Raw : Type 0 where
  pub valid : Bool
  pub bytes : List ℕ

-- the slot that it is
abbrev pub slot_of : Raw → Slot
slot_of r = slot_if r.valid r.bytes

-- a column as it stands in the sheet: what is before its first end, which columns of variable bytes alone have, and its slots
pub record RawColumn : Type 0 where
  pub before : List ℕ
  pub slots : List Raw

-- the slots that encode takes of it: those that its raw slots are, folded where the column folds
abbrev pub taken_of : Column → RawColumn → List Slot
taken_of col c = map (folded_slot (column_shape col) col.options) (map slot_of c.slots)

-- and of all columns
abbrev pub taken_from : List Column → List RawColumn → List (List Slot)
taken_from [] cs = []
taken_from (col ∷ cols) [] = []
taken_from (col ∷ cols) (c ∷ cs) = taken_of col c ∷ taken_from cols cs

-- ---- the sheet of raw columns

-- the values of a column, each given by its bytes, after what is before the first end
abbrev pub standing : Layout → ℕ → List ℕ → List (List ℕ) → List ℕ
standing bits n a xs = pack (packed n) (map (λ x. eqb (get_or x 0 0) 1) xs)
standing (wide w) n a xs = joined xs
standing ended n a xs = joined (map (low_bytes 4) (ends_from (length a) xs)) ++ (a ++ joined xs)

abbrev pub raw_column : Layout → ℕ → RawColumn → List ℕ
raw_column ly n c = pack (packed n) (map (λ r. r.valid) c.slots) ++ standing ly n c.before (map (λ r. r.bytes) c.slots)

-- columns in list order
abbrev pub raw_sheet : ℕ → List Column → List RawColumn → List ℕ
raw_sheet n [] cs = []
raw_sheet n (col ∷ cols) [] = []
raw_sheet n (col ∷ cols) (c ∷ cs) = raw_column (layout col) n c ++ raw_sheet n cols cs

-- ---- within the limits

-- whatever stands in a slot is of its column's shape, in null slots too
abbrev pub AllRaw : Shape → List Raw → Type 0
AllRaw sh [] = Unit {0}
AllRaw sh (r ∷ rs) = Fits max_slot sh false r.bytes × AllRaw sh rs

-- the last end is a number of four bytes
abbrev pub EndFits : Layout → List ℕ → List (List ℕ) → Type 0
EndFits bits a xs = Unit {0}
EndFits (wide w) a xs = Unit {0}
EndFits ended a xs = length a + length (joined xs) < 256 ^ 4

-- n raw slots to a column; the slots that encode takes fit, so that none is null in a required column
pub record ColumnFits (n : ℕ) (col : Column) (c : RawColumn) : Type 0 where
  pub many : length c.slots ≡ n
  pub all : AllRaw (column_shape col) c.slots
  pub fit : AllSlots (column_shape col) col.options (taken_of col c)
  pub below : Bytes c.before
  pub end_fits : EndFits (layout col) c.before (map (λ r. r.bytes) c.slots)

abbrev pub RawFits : ℕ → List Column → List RawColumn → Type 0
RawFits n [] [] = Unit {0}
RawFits n [] (c ∷ cs) = ⊥
RawFits n (col ∷ cols) [] = ⊥
RawFits n (col ∷ cols) (c ∷ cs) = ColumnFits n col c × RawFits n cols cs

-- ---- the raw columns of a sheet

-- what is before the first end of the values in front of v
abbrev pub before_first : Layout → ℕ → List ℕ → List ℕ
before_first bits n v = []
before_first (wide w) n v = []
before_first ended n v = take (end v 0) (drop (4 * suc n) v)

-- of row i of the column in front of s
abbrev pub raw_at : Layout → ℕ → List ℕ → ℕ → Raw
raw_at ly n s i = record { valid = bit s i; bytes = value_at ly n (drop (packed n) s) i }

-- the column in front of s
abbrev pub column_of : Layout → ℕ → List ℕ → RawColumn
column_of ly n s = record { before = before_first ly n (drop (packed n) s); slots = each 0 n (raw_at ly n s) }

abbrev pub raw_columns : ℕ → List Column → List ℕ → List RawColumn
raw_columns n [] s = []
raw_columns n (col ∷ cols) s = column_of (layout col) n s ∷ raw_columns n cols (drop (column_bytes (layout col) n s) s)

-- ---- slices

-- other columns of the same slots, with as many other bytes before the first ends
abbrev pub Resliced : List RawColumn → List RawColumn → Type 0
Resliced [] [] = Unit {0}
Resliced [] (d ∷ ds) = ⊥
Resliced (c ∷ cs) [] = ⊥
Resliced (c ∷ cs) (d ∷ ds) = (d.slots ≡ c.slots) × (length d.before ≡ length c.before) × Bytes d.before × Resliced cs ds

-- t is the sheet s but for the bytes before its first ends
pub record DiffersBefore (n : ℕ) (cols : List Column) (s t : List ℕ) : Type 0 where
  pub others : List RawColumn
  pub resliced : Resliced (raw_columns n cols s) others
  pub is : t ≡ raw_sheet n cols others

-- ---- cleared

-- what stands in a null slot of a cleared sheet
abbrev pub cleared : Layout → List ℕ
cleared bits = bool_byte false
cleared (wide w) = replicate w 0
cleared ended = []

-- a raw slot that is null holds that
abbrev pub IsClear : Layout → Raw → Type 0
IsClear ly r = r.valid ≡ false → r.bytes ≡ cleared ly

-- a column in front of s starts at 0, and every null slot of it does
pub record ClearColumn (ly : Layout) (n : ℕ) (s : List ℕ) : Type 0 where
  pub starts : before_first ly n (drop (packed n) s) ≡ []
  pub slots_clear : (i : ℕ) → i < n → IsClear ly (raw_at ly n s i)

-- so does every column of a sheet
abbrev pub IsCleared : ℕ → List Column → List ℕ → Type 0
IsCleared n [] s = Unit {0}
IsCleared n (col ∷ cols) s = ClearColumn (layout col) n s × IsCleared n cols (drop (column_bytes (layout col) n s) s)

-- ---- folded

-- encode takes every slot of a column in front of s as it stands
abbrev pub FoldedColumn : Column → ℕ → List ℕ → Type 0
FoldedColumn col n s = (i : ℕ) → i < n → folded_slot (column_shape col) col.options (slot_at (layout col) n s i) ≡ slot_at (layout col) n s i

-- and every one of a sheet: no float that folding would change stands in a column that folds
abbrev pub IsFolded : ℕ → List Column → List ℕ → Type 0
IsFolded n [] s = Unit {0}
IsFolded n (col ∷ cols) s = FoldedColumn col n s × IsFolded n cols (drop (column_bytes (layout col) n s) s)
