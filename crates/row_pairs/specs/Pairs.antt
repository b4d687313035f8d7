-- Pairs of rows, by their numbers.
use Rattle.std.specs.Prelude.{ℕ, ◌<◌, List, ◌++◌}
use Rattle.format.specs.Lent.{eights}
use Rattle.format.specs.CompareSheets.{pair_count, first_row, second_row}

-- the row numbers that are lent: a list, and after it those in bytes, eight a number
abbrev pub pair_rows : List ℕ → List ℕ → List ℕ
pair_rows numbers bytes = numbers ++ eights bytes

-- every pair is of rows that the sheets have
pub record InSheets (n m : ℕ) (rows : List ℕ) : Type 0 where
  pub first : (k : ℕ) → k < pair_count rows → first_row rows k < n
  pub second : (k : ℕ) → k < pair_count rows → second_row rows k < m
