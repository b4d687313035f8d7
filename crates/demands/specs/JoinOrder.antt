-- The joined order as it is asked for: sorted by row bytes, every row of both passes once, equal rows in their order, pass 0 before pass 1.
use Rattle.std.specs.Prelude.{ℕ, ◌+◌, ◌-◌, ◌<◌, ◌≡◌, false, cond, List, [], ◌∷◌, ltb, eqb, length, get_or}
use Rattle.format.specs.Limits.{max_rows}
use Rattle.format.specs.Batch.{below}

-- the row that entry e stands for, of the rows xs of pass 0 and ys of pass 1
abbrev pub entry_row : List (List ℕ) → List (List ℕ) → ℕ → List ℕ
entry_row xs ys e = cond (ltb e max_rows) (get_or xs e []) (get_or ys (e - max_rows) [])

-- how often entry e is wanted: once, if there is such a row
abbrev pub wanted : List (List ℕ) → List (List ℕ) → ℕ → ℕ
wanted xs ys e = cond (ltb e max_rows) (cond (ltb e (length xs)) 1 0) (cond (ltb (e - max_rows) (length ys)) 1 0)

-- how often e is in a list
abbrev pub times : ℕ → List ℕ → ℕ
times e [] = 0
times e (x ∷ xs) = cond (eqb e x) 1 0 + times e xs

-- R holds of each entry and each one after it
abbrev pub Along : (ℕ → ℕ → Type 0) → List ℕ → Type 0
Along R order = (i j : ℕ) → i < j → j < length order → R (get_or order i 0) (get_or order j 0)

pub record InOrder (xs ys : List (List ℕ)) (order : List ℕ) : Type 0 where
  -- sorted by row bytes: no row is below one before it
  pub rises : Along (λ d e. below (entry_row xs ys e) (entry_row xs ys d) ≡ false) order
  -- every row of both passes appears once, and nothing else
  pub once : (e : ℕ) → times e order ≡ wanted xs ys e
  -- equal rows keep their order, and pass 0 comes before pass 1: their entries rise
  pub keeps : Along (λ d e. entry_row xs ys d ≡ entry_row xs ys e → d < e) order
