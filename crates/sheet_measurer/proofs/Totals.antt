-- The total of a sheet known by its facts. Assumes nothing.
use Prim.Native.Nat.{ℕ}
use mathlib.Core.Path.{◌≡◌, sym, ap, ap₂, ◌∙◌}
use mathlib.Core.List.{List}
use native.Mathlib.Omega.{arith}
use lib.ListN.{length, get_or, drop}
use Rattle.format.specs.declared.Column.{Column}
use Rattle.std.specs.declared.result.Result.TheVariants.{Ok}
use Rattle.format.specs.Lists.{Bytes, each, sum}
use Rattle.format.specs.Sheet.{sheet_fault, place}
use Rattle.format.specs.Schemas.{no_column}
use Rattle.format.specs.Entries.{sheet_total, column_total}
use Rattle.basics.proofs.Lists.{each_same}
use Rattle.laws.proofs.Totals.{total_is}
use Rattle.sheet_reader.specs.declared.sheet.Facts.{Facts}
use Rattle.sheet_reader.specs.Sheets.{no_facts, Known}

-- what column c adds, by its facts
abbrev pub facts_total : ℕ → List ℕ → List Facts → ℕ → ℕ
facts_total n sheet facts c = column_total (get_or facts c no_facts).column n (drop (get_or facts c no_facts).base sheet)

-- the facts of all columns give the total
pub known_total : (n : ℕ) (cols : List Column) (sheet : List ℕ) (facts : List Facts) → Bytes sheet → sheet_fault n cols sheet ≡ Ok tt → Known n cols sheet facts
    → sum (each 0 (length cols) (facts_total n sheet facts)) ≡ sheet_total n cols sheet
known_total n cols sheet facts b e k =
    ap sum (each_same 0 (length cols) (facts_total n sheet facts) (λ c. column_total (get_or cols c no_column) n (drop (place n cols sheet c) sheet)) (λ c x y.
    ap₂ (λ (col : Column) (at : ℕ). column_total col n (drop at sheet)) (k c (omega arith)).column (k c (omega arith)).base))
    ∙ sym (total_is n cols sheet no_column b e)
