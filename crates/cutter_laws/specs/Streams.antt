-- What the ends that the row cutter finds say of a stream: they cut it as decode reads it.
use Rattle.std.specs.Prelude.{ℕ, ◌≡◌, ◌⊎◌, List, [], ◌∷◌, ltb, length, get_or, drop, Ok}
use Rattle.format.specs.declared.Column.{Column}
use Rattle.format.specs.declared.RowFault.TheVariants.{Extra}
use Rattle.format.specs.declared.Refusal.TheVariants.{Row}
use Rattle.format.specs.Check.{Check, fail_if}
use Rattle.format.specs.declared.Spot.TheVariants.{Start}
use Rattle.format.specs.declared.Cutter.{Cutter}
use Rattle.format.specs.Schemas.{schema_of}
use Rattle.format.specs.Read.{row_fault, rows_fault}
use Rattle.format.specs.Entries.{cut_rows}
use Rattle.format.specs.Cutter.{fed, ends_in, begun, finish_fault}

-- the state after r rows of n bytes
abbrev pub at_row : List Column → ℕ → ℕ → Cutter
at_row cols r n = record { schema = schema_of cols; refusal = Ok tt; rows = r; bytes = n; row = 0; column = 0; spot = Start }

-- one row by itself, as row r of so many bytes and columns, by the ends found in it: none, and it is judged as a finish says; or the first,
-- where it is whole, or 22 at the first extra byte
abbrev pub row_judged : ℕ → ℕ → ℕ → List ℕ → Check → Check
row_judged len r count [] finished = finished
row_judged len r count (e ∷ es) finished = fail_if (ltb e len) (Row Extra r count e) (Ok tt)

module _ (cols : List Column) (xs : List ℕ) where
  -- the ends of the rows of a stream
  abbrev pub streamEnds : List ℕ
  streamEnds = ends_in (begun cols) xs

  -- what is left after the last end
  abbrev pub openRow : List ℕ
  openRow = drop (get_or (0 ∷ streamEnds) (length streamEnds) 0) xs

  -- the rows between the ends are rows that decode accepts; what is left after the last, if anything, decode refuses as that row, for what a
  -- finish answers: the fault that stands, with its place, or 16
  pub record CutAsRead : Type 0 where
    pub accepted : rows_fault 0 cols (cut_rows (length streamEnds) xs (0 ∷ streamEnds)) ≡ Ok tt
    pub left : ((length openRow ≡ 0) × (finish_fault (fed (begun cols) xs) ≡ Ok tt))
        ⊎ (row_fault (length streamEnds) (length openRow) 0 cols openRow ≡ finish_fault (fed (begun cols) xs))
