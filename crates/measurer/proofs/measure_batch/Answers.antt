-- `measurer::measure_batch` meets its contract: each way out is that of the checks that led there. Assumes nothing.
use Prim.Native.Nat.{ℕ}
use mathlib.Core.Path.{◌≡◌, refl, sym, ap, ◌∙◌}
use mathlib.Core.List.{List}
use native.Mathlib.Omega.{arith}
use lib.ListN.{length, take}
use Rattle.std.proofs.lemmas.Result.{err_from_is_err_and}
use Rattle.std.specs.declared.result.Result.{Result}
use Rattle.std.specs.declared.result.Result.TheVariants.{Ok}
use Rattle.format.specs.declared.Refusal.{Refusal}
use Rattle.format.specs.declared.Schema.{Schema}
use Rattle.format.specs.Check.{verdict}
use Rattle.format.specs.Described.{ColumnList}
use Rattle.format.specs.Schemas.{Limited, cols_of, schema_of}
use Rattle.format.specs.Sheet.{sheet_fault}
use Rattle.laws.proofs.InUse.{limited_in_use}
use Rattle.list_reader.specs.Listing.{Sound}
use Rattle.checks.proofs.Begun.{begun_sound}
use Rattle.sheet_reader.specs.declared.sheet.Facts.{Facts}
use Rattle.sheet_reader.specs.declared.sheet.Sheeted.{Sheeted}
use Rattle.sheet_reader.specs.Sheets.{SheetedAs, columns_of, Known}
use Rattle.sheet_reader.proofs.Values.{columns_cut, known_cut}
use Rattle.measurer.proofs.Batches.{bad_begin, bad_sheet, measured}
use Rattle.measurer.proofs.measure_batch.Goals as goal

pub returns-in_err-schema : goal.returns-in_err-schema
returns-in_err-schema c =
    let p = err_from_is_err_and c.from_residual.result c.from_residual.ensures.1 in
    λ list l.
    rw (p.1, p.2) (bad_begin list _ _ _ (c.begin.ensures list l) _ c.in_err-schema.was)

pub check_sheet-requires : goal.check_sheet-requires
check_sheet-requires c =
    let sound = begun_sound c.requires.list _ _ (c.begin.ensures c.requires.list c.requires.says) _ c.in_ok-schema.was in
    record { n_le_max_rows = sound.1; limited = sound.0.limited }

pub returns-in_err-sheeted : goal.returns-in_err-sheeted
returns-in_err-sheeted c =
    let p = err_from_is_err_and c.from_residual-in_err-sheeted.result c.from_residual-in_err-sheeted.ensures.1 in
    λ list l.
    rw (p.1, p.2) (bad_sheet list _ _ _ (c.begin.ensures list l) _ c.in_ok-schema.was _ c.check_sheet.ensures _ c.in_err-sheeted.was)

-- ---- the sheet passes

module _ (list : ColumnList) (n : ℕ) (sheet : List ℕ) (schema : Schema) (sound : Sound list schema) (r : Result Sheeted Refusal)
    (s : SheetedAs n (cols_of schema) sheet r) (t : Sheeted) (e : r ≡ Ok t) (facts : List Facts) (is : facts ≡ take schema.count t.facts)
    (long : length facts ≡ schema.count) where
  many : length (cols_of schema) ≡ schema.count
  many = ap length sound.cols ∙ sym sound.count

  as_many : length (take schema.count t.facts) ≡ length (cols_of schema)
  as_many = omega (arith, ap length is, long, many)

  -- the facts of the columns in use are of these
  cut : columns_of facts ≡ cols_of schema
  cut = rw is (columns_cut n (cols_of schema) sheet t.facts (s.facts t e) schema.count as_many)

  limited : Limited (schema_of (columns_of facts))
  limited = rw cut (limited_in_use schema many sound.limited)

  passes : sheet_fault n (columns_of facts) sheet ≡ Ok tt
  passes = rw cut (sym s.check ∙ ap verdict e)

  known : Known n (columns_of facts) sheet facts
  known = rw is (known_cut n (cols_of schema) sheet t.facts (s.facts t e) schema.count as_many)

pub measure_sheet-total-requires : goal.measure_sheet-total-requires
measure_sheet-total-requires c =
    let sound = begun_sound c.requires.list _ _ (c.begin.ensures c.requires.list c.requires.says) _ c.in_ok-schema.was in
    let says = c.check_sheet.ensures in
    let was = c.in_ok-sheeted.was in
    record {
      n_le_max_rows = sound.1;
      limited = limited _ _ _ _ sound.0 _ says _ was _ refl (omega arith);
      sheet_value = passes _ _ _ _ sound.0 _ says _ was _ refl (omega arith);
      known = known _ _ _ _ sound.0 _ says _ was _ refl (omega arith);
    }

pub returns : goal.returns
returns c =
    λ list l.
    let sound = begun_sound list _ _ (c.begin.ensures list l) _ c.in_ok-schema.was in
    measured list _ _ _ (c.begin.ensures list l) _ c.in_ok-schema.was _ c.check_sheet.ensures _ c.in_ok-sheeted.was
    _ (rw (← cut _ _ _ _ sound.0 _ c.check_sheet.ensures _ c.in_ok-sheeted.was _ refl (omega arith)) c.measure_sheet-total.ensures)
