-- Lent descriptions: a column by its numbers is that column; and the columns of a list that passes, in each of the three ways, are 1 to
-- 64, none wider than the limit. Assumes nothing.
use Prim.Native.Nat.{ℕ, zero, suc, ◌+◌, ◌≤◌}
use mathlib.Core.Path.{◌≡◌, refl, ap₂, subst}
use mathlib.Core.Bool.{Bool, true, false, cond}
use mathlib.Core.List.{List, [], ◌∷◌, map}
use native.Mathlib.Omega.{arith}
use lib.Dec.{eqb}
use lib.ListN.{length, length-map}
use borrow.Author.Tests.{eqb-false}
use Rattle.format.specs.declared.Kind.{Kind}
use Rattle.format.specs.declared.Kind.TheVariants.{Bool as KindBool, I8, I16, I32, I64, U8, U16, U32, U64, F16, F32, F64, DayTime, MonthDayNano, FixedBinary, Variable, I128, I256}
use Rattle.format.specs.declared.SortOptions.{SortOptions}
use Rattle.format.specs.declared.Column.{Column}
use Rattle.std.specs.declared.result.Result.TheVariants.{Ok}
use Rattle.format.specs.Limits.{max_columns}
use Rattle.format.specs.Columns.{kind_of, options_of}
use Rattle.format.specs.Described.{Description, kind_number, options_number, held_width, held, column_of, descriptions_in, held_fault, descriptions_fault_from, descriptions_fault, ColumnList, spelled, described, coded, list_fault, columns}
use Rattle.basics.proofs.Lists.{Every}
use Rattle.basics.proofs.Checks.{refuse_pass, fail_if_pass, both_pass}
use Rattle.laws.proofs.Columns.{Fine, fine, most_width_lem, kind_narrow, Narrow, spelled_few, spelled_narrow}

-- ---- a column from its numbers

pub kind_again : (k : Kind) → kind_of (kind_number k) (held_width k) ≡ k
kind_again KindBool = refl
kind_again I8 = refl
kind_again I16 = refl
kind_again I32 = refl
kind_again I64 = refl
kind_again U8 = refl
kind_again U16 = refl
kind_again U32 = refl
kind_again U64 = refl
kind_again F16 = refl
kind_again F32 = refl
kind_again F64 = refl
kind_again DayTime = refl
kind_again MonthDayNano = refl
kind_again (FixedBinary w) = refl
kind_again Variable = refl
kind_again I128 = refl
kind_again I256 = refl

pub options_again : (o : SortOptions) → options_of (options_number o) ≡ o
options_again o = go o.descending o.nulls_first o.required o.fold
  where
    go : (d n r f : Bool) → options_of (cond d 1 0 + cond n 2 0 + cond r 4 0 + cond f 8 0) ≡ record { descending = d; nulls_first = n; required = r; fold = f }
    go true true true true = refl
    go true true true false = refl
    go true true false true = refl
    go true true false false = refl
    go true false true true = refl
    go true false true false = refl
    go true false false true = refl
    go true false false false = refl
    go false true true true = refl
    go false true true false = refl
    go false true false true = refl
    go false true false false = refl
    go false false true true = refl
    go false false true false = refl
    go false false false true = refl
    go false false false false = refl

pub column_again : (col : Column) → column_of (held col) ≡ col
column_again col = ap₂ {C = Column} (λ k o. record { kind = k; options = o }) (kind_again col.kind) (options_again col.options)

pub columns_again : (cols : List Column) → map column_of (map held cols) ≡ cols
columns_again [] = refl
columns_again (col ∷ cols) = ap₂ {C = List Column} (λ x y. x ∷ y) (column_again col) (columns_again cols)

-- ---- descriptions that pass

pub held_fine : (i : ℕ) (d : Description) → held_fault i d ≡ Ok tt → Fine d.kind false d.options d.width
held_fine i d e = fine i d.kind false d.options d.width e

few_from : (room i : ℕ) (ds : List Description) → descriptions_fault_from room i ds ≡ Ok tt → length ds ≤ room
few_from room i [] e = omega arith
few_from zero i (d ∷ ds) e = absurd (refuse_pass e)
few_from (suc room) i (d ∷ ds) e = omega (arith, few_from room (suc i) ds (both_pass (held_fault i d) _ e).1)

-- each of them passes
abbrev pub AllFine : List Description → Type 0
AllFine ds = Every (λ d. Fine d.kind false d.options d.width) ds

fine_from : (room i : ℕ) (ds : List Description) → descriptions_fault_from room i ds ≡ Ok tt → AllFine ds
fine_from room i [] e = tt
fine_from zero i (d ∷ ds) e = absurd (refuse_pass e)
fine_from (suc room) i (d ∷ ds) e = let p = both_pass (held_fault i d) _ e in (held_fine i d p.0, fine_from room (suc i) ds p.1)

pub all_fine : (ds : List Description) → descriptions_fault ds ≡ Ok tt → AllFine ds
unfolding descriptions_fault
all_fine ds e = fine_from max_columns 0 ds (fail_if_pass (eqb (length ds) 0) _ _ e).1

all_narrow : (ds : List Description) → AllFine ds → Narrow (map column_of ds)
all_narrow [] h = tt
all_narrow (d ∷ ds) h = (kind_narrow d.kind d.width (most_width_lem d.kind d.width h.0.width), all_narrow ds h.1)

pub descriptions_few : (ds : List Description) → descriptions_fault ds ≡ Ok tt → (1 ≤ length ds) × (length ds ≤ max_columns)
unfolding descriptions_fault
descriptions_few ds e =
    let p = fail_if_pass (eqb (length ds) 0) _ _ e in
    let n = eqb-false (length ds) 0 p.0 in
    (omega arith, few_from max_columns 0 ds p.1)

-- ---- a list that passes, in any way
pub columns_narrow : (list : ColumnList) → list_fault list ≡ Ok tt → Narrow (columns list)
columns_narrow (spelled s) e = spelled_narrow s e
columns_narrow (described cols) e = subst Narrow (columns_again cols) (all_narrow (map held cols) (all_fine (map held cols) e))
columns_narrow (coded s) e = all_narrow (descriptions_in s) (all_fine (descriptions_in s) e)

pub columns_few : (list : ColumnList) → list_fault list ≡ Ok tt → (1 ≤ length (columns list)) × (length (columns list) ≤ max_columns)
columns_few (spelled s) e = spelled_few s e
columns_few (described cols) e = let f = descriptions_few (map held cols) e in (omega (arith, f, length-map cols held), omega (arith, f, length-map cols held))
columns_few (coded s) e =
    let f = descriptions_few (descriptions_in s) e in
    let l = length-map (descriptions_in s) column_of in
    (omega (arith, f, l), omega (arith, f, l))
