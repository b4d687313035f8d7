-- The join, computed on small cases. Assumes nothing.
use Prim.Native.Nat.{ℕ}
use mathlib.Core.Path.{◌≡◌, refl}
use mathlib.Core.List.{List, [], ◌∷◌}
use lib.ListN.{replicate}
use Rattle.format.specs.Numbers.{three, numbers_of}
use Rattle.format.specs.Batch.{pass_fault}
use Rattle.format.specs.Join.{join_check, join_answer, join_list}

-- rows 5, 5, 7 of pass 0 and 5, 6 of pass 1
abbrev pass0 : List ℕ
pass0 = 5 ∷ 5 ∷ 7 ∷ []

abbrev pass1 : List ℕ
pass1 = 5 ∷ 6 ∷ []

abbrev ends0 : List ℕ
ends0 = 0 ∷ 1 ∷ 2 ∷ 3 ∷ []

abbrev ends1 : List ℕ
ends1 = 0 ∷ 1 ∷ 2 ∷ []

-- equal rows in their order, pass 0 first; past the order the list stays; any bytes, and a proper beginning first
pub joins : (numbers_of (join_answer 3 pass0 ends0 2 pass1 ends1 6) ≡ three 0 5 0)
    × (join_list 3 pass0 ends0 2 pass1 ends1 (replicate 6 9) ≡ 0 ∷ 1 ∷ 4096 ∷ 4097 ∷ 2 ∷ 9 ∷ [])
    × (join_list 2 (4 ∷ 4 ∷ 0 ∷ []) (0 ∷ 1 ∷ 3 ∷ []) 1 (4 ∷ []) (0 ∷ 1 ∷ []) (replicate 3 9) ≡ 0 ∷ 4096 ∷ 1 ∷ [])
    × (join_list 0 [] (0 ∷ []) 0 [] (0 ∷ []) (9 ∷ []) ≡ 9 ∷ [])
unfolding join_answer join_list join_check pass_fault
joins = (refl, refl, refl, refl)

-- each pass 6, 14, 15, 12, 26, pass 0 first; then the list; nothing is written
pub join_refuses : (numbers_of (join_answer 4097 [] [] 2 (6 ∷ 5 ∷ []) ends1 0) ≡ three 6 4097 0)
    × (numbers_of (join_answer 2 (7 ∷ 5 ∷ []) ends1 4097 [] [] 0) ≡ three 26 0 1)
    × (numbers_of (join_answer 3 pass0 ends0 2 (6 ∷ 5 ∷ []) ends1 0) ≡ three 26 1 1)
    × (numbers_of (join_answer 3 pass0 ends0 2 (6 ∷ 5 ∷ []) (0 ∷ 1 ∷ []) 0) ≡ three 14 3 0)
    × (numbers_of (join_answer 3 pass0 ends0 2 (6 ∷ 5 ∷ []) (0 ∷ 2 ∷ 1 ∷ []) 0) ≡ three 15 2 0)
    × (numbers_of (join_answer 3 pass0 ends0 2 pass1 ends1 4) ≡ three 14 5 0)
    × (join_list 3 pass0 ends0 2 pass1 ends1 (replicate 4 9) ≡ replicate 4 9)
unfolding join_answer join_list join_check pass_fault
join_refuses = (refl, refl, refl, refl, refl, refl, refl)
