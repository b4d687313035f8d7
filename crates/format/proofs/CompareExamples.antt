-- Sheet rows compared, computed on small cases. Assumes nothing.
use Prim.Native.Nat.{ℕ}
use mathlib.Core.Path.{◌≡◌, refl}
use mathlib.Core.List.{List, [], ◌∷◌}
use lib.ListN.{replicate}
use Rattle.format.specs.Numbers.{three, numbers_of}
use Rattle.format.specs.Columns.{spelled_fault, spelled_columns}
use Rattle.format.specs.Described.{spelled}
use Rattle.format.specs.Sheet.{sheet_fault}
use Rattle.format.specs.CompareSheets.{sheets_fault, compare_sheets_check, compare_sheets_answer, compare_pairs_check, compare_pairs_answer, compare_pairs_ranks}

-- i8 columns, one row each: -1 and 1; descending; nulls, whatever their slots hold; a null against a value, last, descending too
pub compares : (numbers_of (compare_sheets_answer (spelled (2 ∷ 2 ∷ [])) 1 (1 ∷ 255 ∷ []) 0 1 (1 ∷ 1 ∷ []) 0) ≡ three 0 0 0)
    × (numbers_of (compare_sheets_answer (spelled (2 ∷ 3 ∷ [])) 1 (1 ∷ 255 ∷ []) 0 1 (1 ∷ 1 ∷ []) 0) ≡ three 0 2 0)
    × (numbers_of (compare_sheets_answer (spelled (2 ∷ 3 ∷ [])) 1 (0 ∷ 9 ∷ []) 0 1 (0 ∷ 1 ∷ []) 0) ≡ three 0 1 0)
    × (numbers_of (compare_sheets_answer (spelled (2 ∷ 0 ∷ [])) 1 (0 ∷ 0 ∷ []) 0 1 (1 ∷ 1 ∷ []) 0) ≡ three 0 2 0)
    × (numbers_of (compare_sheets_answer (spelled (2 ∷ 1 ∷ [])) 1 (0 ∷ 0 ∷ []) 0 1 (1 ∷ 1 ∷ []) 0) ≡ three 0 2 0)
unfolding compare_sheets_answer compare_sheets_check sheets_fault spelled_fault spelled_columns sheet_fault
compares = (refl, refl, refl, refl, refl)

-- f16 columns: -0 is below +0, and equal to it where the column folds, as are two NaNs
pub compares_floats : (numbers_of (compare_sheets_answer (spelled (10 ∷ 2 ∷ [])) 1 (1 ∷ 0 ∷ 128 ∷ []) 0 1 (1 ∷ 0 ∷ 0 ∷ []) 0) ≡ three 0 0 0)
    × (numbers_of (compare_sheets_answer (spelled (10 ∷ 10 ∷ [])) 1 (1 ∷ 0 ∷ 128 ∷ []) 0 1 (1 ∷ 0 ∷ 0 ∷ []) 0) ≡ three 0 1 0)
    × (numbers_of (compare_sheets_answer (spelled (10 ∷ 10 ∷ [])) 1 (1 ∷ 1 ∷ 252 ∷ []) 0 1 (1 ∷ 0 ∷ 126 ∷ []) 0) ≡ three 0 1 0)
unfolding compare_sheets_answer compare_sheets_check sheets_fault spelled_fault spelled_columns sheet_fault
compares_floats = (refl, refl, refl)

-- what is refused: sheet 0 before 6 of sheet 1, which is before 32; then 32 of sheet 0, and of sheet 1
pub compare_refuses : (numbers_of (compare_sheets_answer (spelled (2 ∷ 2 ∷ [])) 1 (3 ∷ 0 ∷ []) 0 5000 [] 0) ≡ three 8 0 0)
    × (numbers_of (compare_sheets_answer (spelled (2 ∷ 2 ∷ [])) 1 (1 ∷ 0 ∷ []) 9 5000 [] 0) ≡ three 6 5000 0)
    × (numbers_of (compare_sheets_answer (spelled (2 ∷ 2 ∷ [])) 1 (1 ∷ 0 ∷ []) 1 1 (1 ∷ 0 ∷ []) 1) ≡ three 32 0 1)
    × (numbers_of (compare_sheets_answer (spelled (2 ∷ 2 ∷ [])) 1 (1 ∷ 0 ∷ []) 0 1 (1 ∷ 0 ∷ []) 7) ≡ three 32 1 7)
unfolding compare_sheets_answer compare_sheets_check sheets_fault spelled_fault spelled_columns sheet_fault
compare_refuses = (refl, refl, refl, refl)

-- u8 columns of two rows, 5 and 7, and 5 and 6
abbrev sheet0 : List ℕ
sheet0 = 3 ∷ 5 ∷ 7 ∷ []

abbrev sheet1 : List ℕ
sheet1 = 3 ∷ 5 ∷ 6 ∷ []

-- three pairs and an odd number; past the answers the list stays
abbrev rows : List ℕ
rows = 0 ∷ 0 ∷ 0 ∷ 1 ∷ 1 ∷ 1 ∷ 9 ∷ []

pub compares_pairs : (numbers_of (compare_pairs_answer (spelled (6 ∷ 2 ∷ [])) 2 sheet0 2 sheet1 rows 4) ≡ three 0 3 0)
    × (compare_pairs_ranks (spelled (6 ∷ 2 ∷ [])) 2 sheet0 2 sheet1 rows (replicate 4 9) ≡ 1 ∷ 0 ∷ 2 ∷ 9 ∷ [])
    × (numbers_of (compare_pairs_answer (spelled (6 ∷ 2 ∷ [])) 2 sheet0 2 sheet1 rows 2) ≡ three 14 3 0)
    × (compare_pairs_ranks (spelled (6 ∷ 2 ∷ [])) 2 sheet0 2 sheet1 rows (replicate 2 9) ≡ 9 ∷ 9 ∷ [])
    × (numbers_of (compare_pairs_answer (spelled (6 ∷ 2 ∷ [])) 2 sheet0 2 sheet1 (0 ∷ 2 ∷ 3 ∷ 0 ∷ []) 0) ≡ three 32 1 2)
unfolding compare_pairs_answer compare_pairs_ranks compare_pairs_check sheets_fault spelled_fault spelled_columns sheet_fault
compares_pairs = (refl, refl, refl, refl, refl)
