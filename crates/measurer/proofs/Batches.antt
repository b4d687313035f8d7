-- The ways out of `measure_batch`, and what `measure_listed` answers. Assumes nothing.
use Prim.Native.Nat.{ℕ}
use mathlib.Core.Path.{◌≡◌, refl, sym, ◌∙◌, ap}
use mathlib.Core.List.{List}
use Rattle.format.specs.declared.Refusal.{Refusal}
use Rattle.format.specs.declared.Schema.{Schema}
use Rattle.format.specs.Check.{both, verdict}
use Rattle.std.specs.declared.result.Result.TheVariants.{Ok, Err}
use Rattle.std.specs.declared.result.Result.{Result}
use Rattle.format.specs.Described.{ColumnList, list_fault, columns}
use Rattle.format.specs.Schemas.{cols_of}
use Rattle.format.specs.Sheet.{sheet_fault}
use Rattle.format.specs.Entries.{row_count_fault, sheet_total, total_fault, measure_check, measure_answer}
use Rattle.format.specs.Promises.{Measured}
use Rattle.format.specs.Numbers.{numbers_of}
use Rattle.basics.proofs.Checks.{refuse_pass}
use Rattle.list_reader.specs.Listing.{Listed}
use Rattle.checks.specs.Begun.{Begun}
use Rattle.checks.proofs.Begun.{both_grouped, begun_refused, begun_passed, begun_sound}
use Rattle.sheet_reader.specs.declared.sheet.Sheeted.{Sheeted}
use Rattle.sheet_reader.specs.Sheets.{SheetedAs}
use Rattle.measurer.specs.declared.Measuring.{Measuring}
use Rattle.measurer.specs.Measuring.{batch_check, Found, Measures}

-- ---- list, 6, sheet
module _ (list : ColumnList) (n : ℕ) (sheet : List ℕ) where
  -- the refusal x is the first fault of the batch, and so it is answered
  refused : (x : Refusal) → batch_check list n sheet ≡ Err x → Measures list n sheet (Err x)
  refused x e = record { check = sym e; found = λ m p. absurd (refuse_pass (ap verdict p)) }

  module _ (b : Listed) (begun : Begun list n b) where
    grouped : batch_check list n sheet ≡ both (both (list_fault list) (row_count_fault n)) (sheet_fault n (columns list) sheet)
    grouped = both_grouped (list_fault list) (row_count_fault n) _

    pub bad_begin : (x : Refusal) → b ≡ Err x → Measures list n sheet (Err x)
    bad_begin x e = refused x (grouped ∙ rw (begun_refused list n b begun x e))

    module _ (schema : Schema) (e : b ≡ Ok schema) (r : Result Sheeted Refusal) (s : SheetedAs n (cols_of schema) sheet r) where
      cols : cols_of schema ≡ columns list
      cols = (begun_sound list n b begun schema e).0.cols

      fault : batch_check list n sheet ≡ verdict r
      fault = grouped ∙ rw (begun_passed list n b begun schema e, ← cols) (sym s.check)

      pub bad_sheet : (x : Refusal) → r ≡ Err x → Measures list n sheet (Err x)
      bad_sheet x f = refused x (fault ∙ ap verdict f)

      pub measured : (t : Sheeted) → r ≡ Ok t → (total : ℕ) → total ≡ sheet_total n (cols_of schema) sheet
          → Measures list n sheet (Ok (record { schema = schema; sheeted = t; total = total }))
      measured t f total w =
          let it : Measuring = record { schema = schema; sheeted = t; total = total } in
          let found : Found list n sheet it = record {
            few = (begun_sound list n b begun schema e).1;
            sound = (begun_sound list n b begun schema e).0;
            known = s.facts t f;
            total = rw (← cols) w;
            nulls = rw (← cols) (s.nulls t f);
          } in
          record {
            check = sym (fault ∙ ap verdict f);
            found = λ m p. let q : it ≡ m = cc in rw (← q) found;
          }

-- ---- then 12

-- list, 6 and sheet, then 12
pub batch_first : (list : ColumnList) (n : ℕ) (sheet : List ℕ)
    → measure_check list n sheet ≡ both (batch_check list n sheet) (total_fault (sheet_total n (columns list) sheet))
unfolding measure_check
batch_first list n sheet =
    let s = sheet_fault n (columns list) sheet in
    let t = total_fault (sheet_total n (columns list) sheet) in
    rw (both_grouped (row_count_fault n) s t, both_grouped (list_fault list) (both (row_count_fault n) s) t) refl

-- what is measured is the answer: a refusal, 12, or the total and the null total
module _ (list : ColumnList) (n : ℕ) (sheet : List ℕ) (r : Result Measuring Refusal) (h : Measures list n sheet r) where
  pub bad_batch : (x : Refusal) → r ≡ Err x → Measured list n sheet (Err x)
  unfolding measure_answer
  bad_batch x e =
      let says : measure_answer list n sheet ≡ Err x = rw (batch_first list n sheet, ← h.check, e) in
      record { answers = ap numbers_of (sym says) }

  module _ (m : Measuring) (e : r ≡ Ok m) where
    pub heavy : (x : Refusal) → total_fault m.total ≡ Err x → Measured list n sheet (Err x)
    unfolding measure_answer
    heavy x t =
        let says : measure_answer list n sheet ≡ Err x = rw (batch_first list n sheet, ← h.check, e, ← (h.found m e).total, t) in
        record { answers = ap numbers_of (sym says) }

    pub light : total_fault m.total ≡ Ok tt → Measured list n sheet (Ok (m.total, m.sheeted.nulls))
    unfolding measure_answer
    light t =
        let says : measure_answer list n sheet ≡ Ok (m.total, m.sheeted.nulls) =
        rw (batch_first list n sheet, ← h.check, e, ← (h.found m e).total, t, ← (h.found m e).nulls) refl in
        record { answers = ap numbers_of (sym says) }
