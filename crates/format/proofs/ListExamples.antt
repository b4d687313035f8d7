-- The column list, computed: refusals 1 to 5 with their places, in order 5, 2, 1, 3, 4; and what is read. Assumes nothing.
use Prim.Native.Nat.{ℕ}
use mathlib.Core.Path.{◌≡◌, refl}
use mathlib.Core.Bool.{true, false}
use mathlib.Core.List.{List, [], ◌∷◌, ◌++◌}
use lib.ListN.{replicate}
use Rattle.format.specs.declared.Kind.TheVariants.{I32, U32, F16, FixedBinary, Variable, I128, I256}
use Rattle.format.specs.Columns.{spelled_fault, spelled_columns}
use Rattle.format.specs.Lists.{joined}
use Rattle.format.specs.Numbers.{three, numbers_of}
use Rattle.format.specs.Entries.{check_list_answer}

-- n columns of kind 1
abbrev bools : ℕ → List ℕ
bools n = joined (replicate n (1 ∷ 0 ∷ []))

pub accepted : (numbers_of (check_list_answer (4 ∷ 2 ∷ 16 ∷ 3 ∷ [])) ≡ three 0 2 0)
    × (numbers_of (check_list_answer (15 ∷ 1 ∷ 0 ∷ 4 ∷ [])) ≡ three 0 1 0)
    × (numbers_of (check_list_answer (bools 64)) ≡ three 0 64 0)
unfolding check_list_answer spelled_fault spelled_columns
accepted = (refl, refl, refl)

-- 1: empty, no options byte, no second width byte
pub cut : (numbers_of (check_list_answer []) ≡ three 1 0 0)
    × (numbers_of (check_list_answer (4 ∷ 0 ∷ 4 ∷ [])) ≡ three 1 2 0)
    × (numbers_of (check_list_answer (15 ∷ 0 ∷ 1 ∷ [])) ≡ three 1 0 0)
unfolding check_list_answer spelled_fault spelled_columns
cut = (refl, refl, refl)

-- 2 stands before 1, 1 before 3, 3 before 4; 5 before all. Bit 3 in the kinds 10 to 12 only, bits 4 to 7 in none
pub in_order : (numbers_of (check_list_answer (0 ∷ [])) ≡ three 2 0 0)
    × (numbers_of (check_list_answer (4 ∷ 0 ∷ 19 ∷ [])) ≡ three 2 2 0)
    × (numbers_of (check_list_answer (15 ∷ 8 ∷ 1 ∷ [])) ≡ three 1 0 0)
    × (numbers_of (check_list_answer (4 ∷ 0 ∷ 15 ∷ 8 ∷ 255 ∷ 255 ∷ [])) ≡ three 3 2 0)
    × (numbers_of (check_list_answer (10 ∷ 15 ∷ 9 ∷ 8 ∷ [])) ≡ three 3 2 0)
    × (numbers_of (check_list_answer (12 ∷ 8 ∷ 11 ∷ 16 ∷ [])) ≡ three 3 2 0)
    × (numbers_of (check_list_answer (11 ∷ 8 ∷ 13 ∷ 8 ∷ [])) ≡ three 3 2 0)
    × (numbers_of (check_list_answer (15 ∷ 0 ∷ 1 ∷ 4 ∷ [])) ≡ three 4 0 0)
    × (numbers_of (check_list_answer (bools 64 ++ 99 ∷ [])) ≡ three 5 128 0)
unfolding check_list_answer spelled_fault spelled_columns
in_order = (refl, refl, refl, refl, refl, refl, refl, refl, refl)

pub read : spelled_columns (4 ∷ 2 ∷ 15 ∷ 1 ∷ 2 ∷ 1 ∷ 16 ∷ 3 ∷ 8 ∷ 5 ∷ 17 ∷ 0 ∷ 18 ∷ 1 ∷ 10 ∷ 8 ∷ [])
    ≡ record { kind = I32; options = record { descending = false; nulls_first = true; required = false; fold = false } }
    ∷ record { kind = FixedBinary 258; options = record { descending = true; nulls_first = false; required = false; fold = false } }
    ∷ record { kind = Variable; options = record { descending = true; nulls_first = true; required = false; fold = false } }
    ∷ record { kind = U32; options = record { descending = true; nulls_first = false; required = true; fold = false } }
    ∷ record { kind = I128; options = record { descending = false; nulls_first = false; required = false; fold = false } }
    ∷ record { kind = I256; options = record { descending = true; nulls_first = false; required = false; fold = false } }
    ∷ record { kind = F16; options = record { descending = false; nulls_first = false; required = false; fold = true } }
    ∷ []
unfolding spelled_columns
read = refl
