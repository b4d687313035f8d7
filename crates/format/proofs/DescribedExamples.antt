-- Lent descriptions, computed: what reading fills in, 29, and which descriptions are refused, with their index. Assumes nothing.
use Prim.Native.Nat.{ℕ}
use mathlib.Core.Path.{◌≡◌, refl}
use mathlib.Core.Bool.{true, false}
use mathlib.Core.List.{List, [], ◌∷◌, ◌++◌}
use lib.ListN.{replicate}
use Rattle.format.specs.declared.Kind.{Kind}
use Rattle.format.specs.declared.Kind.TheVariants.{Bool, I32, F32, FixedBinary, Variable}
use Rattle.format.specs.declared.Column.{Column}
use Rattle.std.specs.declared.result.Result.TheVariants.{Ok, Err}
use Rattle.format.specs.declared.Refusal.TheVariants.{ListCut, UnknownKind, OptionBits, Width, ManyColumns}
use Rattle.format.specs.Lists.{joined}
use Rattle.format.specs.Columns.{spelled_fault, spelled_columns}
use Rattle.format.specs.Described.{descriptions_fault, list_fault, columns, spelled, described, coded}
use Rattle.format.specs.Sheet.{sheet_fault}
use Rattle.format.specs.Numbers.{three, numbers_of}
use Rattle.format.specs.Entries.{read_list_check, read_list_answer, read_list_columns, measure_check, measure_answer}
use Rattle.format.specs.Lent.{lent_read_list, lent_read_list_codes}

abbrev of : Kind → Column
of kind = record { kind = kind; options = record { descending = false; nulls_first = false; required = false; fold = false } }

abbrev folds : Kind → Column
folds kind = record { kind = kind; options = record { descending = false; nulls_first = false; required = false; fold = true } }

-- i32, f32 folding, and fixed binary of 258 bytes
abbrev list : List ℕ
list = 4 ∷ 0 ∷ 11 ∷ 8 ∷ 15 ∷ 0 ∷ 2 ∷ 1 ∷ []

abbrev list_columns : List Column
list_columns = of I32 ∷ folds F32 ∷ of (FixedBinary 258) ∷ []

abbrev list_codes : List ℕ
list_codes = 4 ∷ 0 ∷ 0 ∷ 0 ∷ 11 ∷ 8 ∷ 0 ∷ 0 ∷ 15 ∷ 0 ∷ 2 ∷ 1 ∷ []

-- exact room suffices, and what is past the written part stays; 29 after the list's faults, and nothing is written
pub reads : (numbers_of (read_list_answer list 3) ≡ three 0 3 0)
    × (read_list_columns list (replicate 4 (of Bool)) ≡ list_columns ++ of Bool ∷ [])
    × (numbers_of (read_list_answer list 2) ≡ three 29 3 0)
    × (read_list_columns list (replicate 2 (of Bool)) ≡ replicate 2 (of Bool))
    × (numbers_of (read_list_answer (4 ∷ 0 ∷ 99 ∷ []) 0) ≡ three 2 2 0)
unfolding read_list_answer read_list_columns read_list_check spelled_fault spelled_columns
reads = (refl, refl, refl, refl, refl)

-- the same in four bytes each: a shorter tail does not count and stays
pub reads_codes : (lent_read_list_codes list (replicate 15 7) (replicate 32 7) ≡ list_codes ++ replicate 3 7)
    × (lent_read_list_codes list (replicate 11 7) (replicate 32 7) ≡ replicate 11 7)
    × (lent_read_list_codes list (replicate 15 7) (replicate 31 7) ≡ replicate 15 7)
    × (lent_read_list list (replicate 11 7) (replicate 32 7) ≡ 29 ∷ replicate 7 0 ++ 3 ∷ replicate 23 0)
    × (lent_read_list list (replicate 12 7) (replicate 33 7) ≡ replicate 8 0 ++ 3 ∷ replicate 23 0 ++ 7 ∷ [])
unfolding lent_read_list lent_read_list_codes read_list_answer read_list_check spelled_fault spelled_columns
reads_codes = (refl, refl, refl, refl, refl)

-- the columns are the same in all three ways
pub same_columns : (columns (spelled list) ≡ list_columns)
    × (columns (described list_columns) ≡ list_columns)
    × (columns (coded list_codes) ≡ list_columns)
unfolding spelled_columns
same_columns = (refl, refl, refl)

-- none lent 1, bit 3 outside the kinds 10 to 12 is 3, a width over 1,024 is 4, a 65th is 5
pub refused : (list_fault (described []) ≡ Err (ListCut 0))
    × (list_fault (described (folds F32 ∷ folds I32 ∷ [])) ≡ Err (OptionBits 1))
    × (list_fault (described (of (FixedBinary 1024) ∷ of (FixedBinary 1025) ∷ [])) ≡ Err (Width 1))
    × (list_fault (described (of (FixedBinary 65535) ∷ [])) ≡ Err (Width 0))
    × (list_fault (described (folds (FixedBinary 1025) ∷ [])) ≡ Err (OptionBits 0))
    × (list_fault (described (replicate 64 (of Variable))) ≡ Ok tt)
    × (list_fault (described (replicate 64 (of Variable) ++ folds Bool ∷ [])) ≡ Err (ManyColumns 64))
unfolding descriptions_fault
refused = (refl, refl, refl, refl, refl, refl, refl)

-- in four bytes also an unknown kind 2, every other option bit 3, a width outside kind 15 is 4: 2 before 3 before 4, 5 before all
pub refused_codes : (list_fault (coded (4 ∷ 0 ∷ 0 ∷ [])) ≡ Err (ListCut 0))
    × (list_fault (coded (4 ∷ 7 ∷ 0 ∷ 0 ∷ 19 ∷ 16 ∷ 1 ∷ 0 ∷ [])) ≡ Err (UnknownKind 1))
    × (list_fault (coded (0 ∷ 16 ∷ 1 ∷ 0 ∷ [])) ≡ Err (UnknownKind 0))
    × (list_fault (coded (10 ∷ 15 ∷ 0 ∷ 0 ∷ 10 ∷ 16 ∷ 0 ∷ 0 ∷ [])) ≡ Err (OptionBits 1))
    × (list_fault (coded (9 ∷ 8 ∷ 1 ∷ 0 ∷ [])) ≡ Err (OptionBits 0))
    × (list_fault (coded (9 ∷ 7 ∷ 0 ∷ 1 ∷ [])) ≡ Err (Width 0))
    × (list_fault (coded (15 ∷ 7 ∷ 0 ∷ 4 ∷ 15 ∷ 0 ∷ 1 ∷ 4 ∷ [])) ≡ Err (Width 1))
    × (list_fault (coded (list_codes ++ 99 ∷ 0 ∷ 0 ∷ [])) ≡ Ok tt)
    × (list_fault (coded (joined (replicate 64 (16 ∷ 0 ∷ 0 ∷ 0 ∷ [])) ++ 99 ∷ 0 ∷ 0 ∷ 0 ∷ [])) ≡ Err (ManyColumns 64))
unfolding descriptions_fault
refused_codes = (refl, refl, refl, refl, refl, refl, refl, refl, refl)

-- the entries under descriptions: the list's faults come before 6
pub measures : (numbers_of (measure_answer (described (of I32 ∷ [])) 2 (1 ∷ 1 ∷ 0 ∷ 0 ∷ 0 ∷ 0 ∷ 0 ∷ 0 ∷ 0 ∷ [])) ≡ three 0 10 1)
    × (numbers_of (measure_answer (coded (4 ∷ 0 ∷ 0 ∷ 0 ∷ [])) 2 (1 ∷ 1 ∷ 0 ∷ 0 ∷ 0 ∷ 0 ∷ 0 ∷ 0 ∷ 0 ∷ [])) ≡ three 0 10 1)
    × (numbers_of (measure_answer (described (of Bool ∷ folds I32 ∷ [])) 5000 []) ≡ three 3 1 0)
    × (numbers_of (measure_answer (coded (1 ∷ 0 ∷ 0 ∷ 0 ∷ 1 ∷ 0 ∷ 1 ∷ 0 ∷ [])) 5000 []) ≡ three 4 1 0)
unfolding measure_answer measure_check descriptions_fault sheet_fault
measures = (refl, refl, refl, refl)
