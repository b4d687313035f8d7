-- What a byte does to its field, as the code answers it.
use Rattle.std.specs.Prelude.{ℕ, cond, eqb}
use Rattle.format.specs.declared.SortOptions.{SortOptions}
use Rattle.format.specs.declared.RowFault.TheVariants.{Lead}
use Rattle.format.specs.declared.Spot.TheVariants.{Nulls, Value}
use Rattle.format.specs.Read.{null_lead}
use Rattle.format.specs.Cutter.{Move, on, whole, bad, led}
use Rattle.moves.specs.declared.Moved.{Moved}
use Rattle.moves.specs.declared.Moved.TheVariants.{On, Whole, Bad}

abbrev pub as_move : Moved → Move
as_move (On spot) = on spot
as_move Whole = whole
as_move (Bad f place) = bad f place

-- the lead byte of a fixed field of w value bytes
abbrev pub fixed_lead : ℕ → SortOptions → ℕ → ℕ → Move
fixed_lead w o at b =
    cond (null_lead o b) (led w (Nulls 0 0))
    (cond (eqb b 1) (led w (Value 0 0))
    (bad Lead at))
