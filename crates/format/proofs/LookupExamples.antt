-- The look-up, computed on small cases. Assumes nothing.
use Prim.Native.Nat.{ℕ}
use mathlib.Core.Path.{◌≡◌, refl}
use mathlib.Core.List.{List, [], ◌∷◌, ◌++◌}
use lib.ListN.{replicate}
use Rattle.format.specs.declared.Returned.{Returned}
use Rattle.format.specs.Columns.{spelled_fault, spelled_columns}
use Rattle.format.specs.Described.{ColumnList, descriptions_fault, spelled, coded}
use Rattle.format.specs.Numbers.{three, four, numbers_of}
use Rattle.format.specs.Batch.{sorted_fault}
use Rattle.format.specs.Lookup.{lookup_check, lookup_answer}
use Rattle.format.specs.Lent.{lent_lookup}

-- a bool, then an i8; rows (false, 1), (true, 1), (true, 2)
abbrev list : ColumnList
list = spelled (1 ∷ 2 ∷ 2 ∷ 2 ∷ [])

abbrev rows : List ℕ
rows = 1 ∷ 0 ∷ 1 ∷ 129 ∷ 1 ∷ 1 ∷ 1 ∷ 129 ∷ 1 ∷ 1 ∷ 1 ∷ 130 ∷ []

abbrev ends : List ℕ
ends = 0 ∷ 4 ∷ 8 ∷ 12 ∷ []

abbrev of : ℕ → List ℕ → Returned
of k key = numbers_of (lookup_answer list k key 3 rows ends)

-- the rows that begin with the key; where none does, the first that is greater, or n; in no rows 0
pub looks_up : (of 1 (1 ∷ 1 ∷ []) ≡ three 0 1 3)
    × (of 2 (1 ∷ 1 ∷ 1 ∷ 129 ∷ []) ≡ three 0 1 2)
    × (of 1 (0 ∷ 0 ∷ []) ≡ three 0 0 0)
    × (of 2 (1 ∷ 0 ∷ 1 ∷ 130 ∷ []) ≡ three 0 1 1)
    × (of 2 (1 ∷ 1 ∷ 1 ∷ 200 ∷ []) ≡ three 0 3 3)
    × (numbers_of (lookup_answer list 1 (1 ∷ 1 ∷ []) 0 [] (0 ∷ [])) ≡ three 0 0 0)
unfolding lookup_answer lookup_check sorted_fault spelled_fault spelled_columns
looks_up = (refl, refl, refl, refl, refl, refl)

-- list faults before 31; 31 before the key; a key that is no good field, or cut, or more than those of its columns; then 6, 14, 15, row
-- faults, 26
pub look_up_refuses : (numbers_of (lookup_answer (spelled (1 ∷ 2 ∷ 99 ∷ [])) 0 [] 9 [] []) ≡ three 2 2 0)
    × (numbers_of (lookup_answer list 0 (1 ∷ 2 ∷ []) 9 [] []) ≡ three 31 0 0)
    × (numbers_of (lookup_answer list 3 (1 ∷ 2 ∷ []) 9 [] []) ≡ three 31 3 0)
    × (numbers_of (lookup_answer list 1 (1 ∷ 2 ∷ []) 5000 [] []) ≡ four 19 0 0 1)
    × (numbers_of (lookup_answer list 2 (1 ∷ 1 ∷ []) 5000 [] []) ≡ four 16 0 1 2)
    × (numbers_of (lookup_answer list 1 (1 ∷ 1 ∷ 1 ∷ []) 5000 [] []) ≡ four 22 0 1 2)
    × (numbers_of (lookup_answer list 1 (1 ∷ 1 ∷ []) 5000 [] []) ≡ three 6 5000 0)
    × (numbers_of (lookup_answer list 1 (1 ∷ 1 ∷ []) 9 [] []) ≡ three 14 10 0)
    × (numbers_of (lookup_answer list 1 (1 ∷ 1 ∷ []) 1 rows (0 ∷ 13 ∷ [])) ≡ three 15 1 0)
    × (numbers_of (lookup_answer list 1 (1 ∷ 1 ∷ []) 2 rows (0 ∷ 4 ∷ 6 ∷ [])) ≡ four 16 1 1 2)
    × (numbers_of (lookup_answer list 1 (1 ∷ 1 ∷ []) 2 (1 ∷ 1 ∷ 1 ∷ 129 ∷ 1 ∷ 0 ∷ 1 ∷ 129 ∷ []) (0 ∷ 4 ∷ 8 ∷ [])) ≡ three 26 0 1)
unfolding lookup_answer lookup_check sorted_fault spelled_fault spelled_columns
look_up_refuses = (refl, refl, refl, refl, refl, refl, refl, refl, refl, refl, refl)

-- on lent bytes: the same under the four bytes of each description; an answer that cannot hold four numbers stays
abbrev lent_ends : List ℕ
lent_ends = replicate 8 0 ++ 4 ∷ replicate 7 0 ++ 8 ∷ replicate 7 0 ++ 12 ∷ replicate 7 0

pub looks_up_lent : (lent_lookup list 1 (1 ∷ 1 ∷ []) 3 rows lent_ends (replicate 33 7) ≡ replicate 8 0 ++ 1 ∷ replicate 7 0 ++ 3 ∷ replicate 15 0 ++ 7 ∷ [])
    × (lent_lookup (coded (1 ∷ 2 ∷ 0 ∷ 0 ∷ 2 ∷ 2 ∷ 0 ∷ 0 ∷ [])) 1 (1 ∷ 1 ∷ []) 3 rows lent_ends (replicate 32 7)
    ≡ replicate 8 0 ++ 1 ∷ replicate 7 0 ++ 3 ∷ replicate 15 0)
    × (lent_lookup list 1 (1 ∷ 1 ∷ []) 3 rows lent_ends (replicate 31 7) ≡ replicate 31 7)
unfolding lent_lookup lookup_answer lookup_check sorted_fault spelled_fault spelled_columns descriptions_fault
looks_up_lent = (refl, refl, refl)
