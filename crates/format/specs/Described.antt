-- Column descriptions that the caller lends: read from a list in bytes, or made by the caller. They are held as columns, or coded in
-- four bytes each.
use Rattle.std.specs.Prelude.{ℕ, zero, suc, ◌+◌, ◌*◌, ◌/◌, false, cond, List, [], ◌∷◌, map, eqb, length, get_or, Ok, Err}
use Rattle.format.specs.declared.Kind.{Kind}
use Rattle.format.specs.declared.Kind.TheVariants.{Bool, I8, I16, I32, I64, U8, U16, U32, U64, F16, F32, F64, DayTime, MonthDayNano, FixedBinary, Variable, I128, I256}
use Rattle.format.specs.declared.SortOptions.{SortOptions}
use Rattle.format.specs.declared.Column.{Column}
use Rattle.format.specs.Check.{Check, both, fail_if}
use Rattle.format.specs.declared.Refusal.TheVariants.{ListCut, ManyColumns}
use Rattle.format.specs.Limits.{max_columns}
use Rattle.format.specs.Lists.{each, joined, low_bytes}
use Rattle.format.specs.Kinds.{value_bytes}
use Rattle.format.specs.Columns.{kind_of, options_of, numbers_fault, spelled_fault, spelled_columns}

-- ---- the three numbers of a description

pub record Description : Type 0 where
  pub kind : ℕ
  pub options : ℕ
  pub width : ℕ

-- the kind byte
abbrev pub kind_number : Kind → ℕ
kind_number Bool = 1
kind_number I8 = 2
kind_number I16 = 3
kind_number I32 = 4
kind_number I64 = 5
kind_number U8 = 6
kind_number U16 = 7
kind_number U32 = 8
kind_number U64 = 9
kind_number F16 = 10
kind_number F32 = 11
kind_number F64 = 12
kind_number DayTime = 13
kind_number MonthDayNano = 14
kind_number (FixedBinary w) = 15
kind_number Variable = 16
kind_number I128 = 17
kind_number I256 = 18

-- the options byte
abbrev pub options_number : SortOptions → ℕ
options_number o = cond o.descending 1 0 + cond o.nulls_first 2 0 + cond o.required 4 0 + cond o.fold 8 0

-- the width: fixed binary alone has one
abbrev pub held_width : Kind → ℕ
held_width kind = cond (eqb (kind_number kind) 15) (value_bytes kind) 0

-- the numbers of a column
abbrev pub held : Column → Description
held col = record { kind = kind_number col.kind; options = options_number col.options; width = held_width col.kind }

-- the column of numbers that are not refused
abbrev pub column_of : Description → Column
column_of d = record { kind = kind_of d.kind d.width; options = options_of d.options }

-- ---- four bytes a description: kind, options, width low byte first

-- those of a column
abbrev pub code : Column → List ℕ
code col = kind_number col.kind ∷ options_number col.options ∷ low_bytes 2 (held_width col.kind)

abbrev pub codes : List Column → List ℕ
codes cols = joined (map code cols)

-- description i of coded bytes
abbrev pub code_at : List ℕ → ℕ → Description
code_at s i = record { kind = get_or s (4 * i) 0; options = get_or s (4 * i + 1) 0; width = get_or s (4 * i + 2) 0 + 256 * get_or s (4 * i + 3) 0 }

-- all of them; a tail shorter than four bytes does not count
abbrev pub descriptions_in : List ℕ → List Description
descriptions_in s = each 0 (length s / 4) (code_at s)

-- ---- what is refused

-- a description is refused as its bytes would be, with its index i as place; its body is never cut
abbrev pub held_fault : ℕ → Description → Check
held_fault i d = numbers_fault i d.kind false d.options d.width

-- left to right from index i on, with room for so many more: at each 5, then its own faults
abbrev pub descriptions_fault_from : ℕ → ℕ → List Description → Check
descriptions_fault_from room i [] = Ok tt
descriptions_fault_from zero i (d ∷ ds) = Err (ManyColumns i)
descriptions_fault_from (suc room) i (d ∷ ds) = both (held_fault i d) (descriptions_fault_from room (suc i) ds)

-- refusals 1 to 5 of lent descriptions; none lent is 1 at place 0
unfoldable pub descriptions_fault : List Description → Check
descriptions_fault ds = fail_if (eqb (length ds) 0) (ListCut 0) (descriptions_fault_from max_columns 0 ds)

-- ---- a column list, in each of three ways

-- spelled in list bytes; described by columns, which can hold neither an unknown kind nor other option bits nor a width outside kind
-- 15; coded in four bytes a description, which can hold all of these
pub data ColumnList : Type 0 where
  spelled : List ℕ → ColumnList
  described : List Column → ColumnList
  coded : List ℕ → ColumnList

-- refusals 1 to 5
abbrev pub list_fault : ColumnList → Check
list_fault (spelled s) = spelled_fault s
list_fault (described cols) = descriptions_fault (map held cols)
list_fault (coded s) = descriptions_fault (descriptions_in s)

-- the columns of a list that is not refused
abbrev pub columns : ColumnList → List Column
columns (spelled s) = spelled_columns s
columns (described cols) = cols
columns (coded s) = map column_of (descriptions_in s)
