-- From an accepted sheet to its rows and back, and from accepted rows to their sheet and back. Assumes nothing.
use Prim.Native.Nat.{ℕ, suc, ◌≤◌}
use mathlib.Core.Path.{◌≡◌, refl, ap, ap₂, sym, subst, ◌∙◌}
use mathlib.Core.List.{List, [], ◌∷◌, ◌++◌, map}
use native.Mathlib.Omega.{arith}
use lib.ListN.{length, get_or, take, length-map}
use lib.Seq.{length-take-le}
use Rattle.std.specs.declared.result.Result.TheVariants.{Ok}
use Rattle.format.specs.declared.Column.{Column}
use Rattle.format.specs.Limits.{max_total}
use Rattle.format.specs.Lists.{Bytes, ends_from, joined}
use Rattle.format.specs.Kinds.{Slot}
use Rattle.format.specs.Fits.{RowFits, SheetFits}
use Rattle.format.specs.Row.{row}
use Rattle.format.specs.Sheet.{sheet_slots, turned}
use Rattle.format.specs.Cleared.{cleared_sheet}
use Rattle.format.specs.Read.{row_fault, row_slots, rows_fault}
use Rattle.format.specs.Entries.{sheet_rows, sheet_total, cut_rows, rows_slots, decoded_sheet}
use Rattle.basics.proofs.Lists.{Every, length_each}
use Rattle.basics.proofs.Checks.{pass_both}
use Rattle.laws.proofs.Sheets.{sheet_fits}
use Rattle.laws.proofs.Turned.{rows_many}
use Rattle.laws.proofs.Cuts.{written_cuts, written_rows, cut_bytes}
use Rattle.laws.proofs.Accept.{Accepted}
use Rattle.laws.proofs.ReadRow.{rows_passed}
use Rattle.demands.proofs.Turning.{turned_turned, rows_fit, sheet_count, rows_count, columns_fit}
use Rattle.demands.proofs.Cleared.{cleared_passes, cleared_slots_lem}
use Rattle.demands.proofs.CutRows.{cut_joined, cut_ends}
use Rattle.demands.proofs.Accept.{AcceptedRows}
use Rattle.demands.proofs.OneRow.{row_passes, row_slots_lem}

-- ---- rows of slots that fit are read back
rows_pass : (r : ℕ) (cols : List Column) (yss : List (List Slot)) → Every (RowFits cols) yss → rows_fault r cols (map (row cols) yss) ≡ Ok tt
rows_pass r cols [] h = refl
rows_pass r cols (ys ∷ yss) h =
    let n : ℕ = length (row cols ys) in
    pass_both (row_fault r n 0 cols (row cols ys)) _ (row_passes r n 0 cols ys h.0) (rows_pass (suc r) cols yss h.1)

rows_back : (cols : List Column) (yss : List (List Slot)) → Every (RowFits cols) yss → map (row_slots cols) (map (row cols) yss) ≡ yss
rows_back cols [] h = refl
rows_back cols (ys ∷ yss) h = ap₂ {C = List (List Slot)} (λ x y. x ∷ y) (row_slots_lem cols ys h.0) (rows_back cols yss h.1)

-- ---- the rows of an accepted sheet, written before t, and their ends before u: decode
module _ (cols : List Column) (n : ℕ) (sheet t u : List ℕ) (b : Bytes sheet) (a : Accepted cols n sheet) where
  abbrev slots : List (List Slot)
  slots = sheet_slots n cols sheet

  abbrev rows : List (List ℕ)
  rows = sheet_rows n cols sheet

  fits : SheetFits n cols slots
  fits = sheet_fits n cols sheet b a.passes

  -- cuts the same rows out
  cut_back : cut_rows n (joined rows ++ t) (ends_from 0 rows ++ u) ≡ rows
  cut_back = written_rows rows t u n (rows_many n cols slots)

  -- refuses none
  pub written_accepted : AcceptedRows cols n (joined rows ++ t) (ends_from 0 rows ++ u)
  written_accepted = record {
    few = a.few;
    cuts = written_cuts rows t u n (rows_many n cols slots) a.small;
    passes = ap (rows_fault 0 cols) cut_back ∙ rows_pass 0 cols (turned n slots) (rows_fit n cols slots fits);
  }

  -- and reads the same slots
  pub slots_back : rows_slots cols (cut_rows n (joined rows ++ t) (ends_from 0 rows ++ u)) ≡ slots
  slots_back =
      ap (rows_slots cols) cut_back
      ∙ ap (turned (length cols)) (rows_back cols (turned n slots) (rows_fit n cols slots fits))
      ∙ turned_turned (length cols) n slots (sheet_count n cols slots fits).0 (sheet_count n cols slots fits).1

-- ---- the cleared sheet of an accepted sheet
module _ (cols : List Column) (n : ℕ) (sheet : List ℕ) (b : Bytes sheet) (a : Accepted cols n sheet) where
  -- has the same slots
  pub cleared_same : sheet_slots n cols (cleared_sheet n cols (sheet_slots n cols sheet)) ≡ sheet_slots n cols sheet
  cleared_same = cleared_slots_lem n cols (sheet_slots n cols sheet) a.few (sheet_fits n cols sheet b a.passes)

  -- and is accepted
  pub cleared_accepted : Accepted cols n (cleared_sheet n cols (sheet_slots n cols sheet))
  cleared_accepted = record {
    few = a.few;
    passes = cleared_passes n cols (sheet_slots n cols sheet) a.few (sheet_fits n cols sheet b a.passes);
    small = subst (λ (sss : List (List Slot)). length (joined (map (row cols) (turned n sss))) ≤ max_total) (sym cleared_same) a.small;
  }

-- ---- the sheet of accepted rows
module _ (cols : List Column) (n : ℕ) (bytes offsets : List ℕ) (b : Bytes bytes) (r : AcceptedRows cols n bytes offsets) where
  abbrev cut : List (List ℕ)
  cut = cut_rows n bytes offsets

  abbrev out : List ℕ
  out = decoded_sheet n cols cut

  abbrev read : List (List Slot)
  read = map (row_slots cols) cut

  passed : (map (row cols) read ≡ cut) × Every (RowFits cols) read
  passed = rows_passed 0 cols cut (cut_bytes n bytes offsets b) r.passes

  count : length read ≡ n
  count = length-map cut (row_slots cols) ∙ length_each 0 n _

  -- what was read fits
  pub read_fits : SheetFits n cols (rows_slots cols cut)
  read_fits = columns_fit n cols read count passed.1

  -- it has the slots that were read
  pub out_slots : sheet_slots n cols out ≡ rows_slots cols cut
  out_slots = cleared_slots_lem n cols (rows_slots cols cut) r.few read_fits

  -- and so the same rows
  out_rows : sheet_rows n cols out ≡ cut
  out_rows =
      ap (λ (sss : List (List Slot)). map (row cols) (turned n sss)) out_slots
      ∙ ap (map (row cols)) (turned_turned n (length cols) read count (rows_count cols read passed.1))
      ∙ passed.0

  -- joined, the bytes up to the last offset, which is their total
  pub out_joined : joined (sheet_rows n cols out) ≡ take (get_or offsets n 0) bytes
  out_joined = ap joined out_rows ∙ cut_joined n bytes offsets r.cuts.there r.cuts.rising r.cuts.inside r.cuts.first

  pub out_total : sheet_total n cols out ≡ get_or offsets n 0
  out_total = ap length out_joined ∙ length-take-le (get_or offsets n 0) bytes r.cuts.inside

  -- with the same offsets
  pub out_ends : ends_from 0 (sheet_rows n cols out) ≡ take (suc n) offsets
  out_ends = ap (ends_from 0) out_rows ∙ cut_ends n bytes offsets r.cuts.there r.cuts.rising r.cuts.inside r.cuts.first

  -- it is accepted
  pub out_accepted : Accepted cols n out
  out_accepted = record {
    few = r.few;
    passes = cleared_passes n cols (rows_slots cols cut) r.few read_fits;
    small = omega (arith, out_total, r.cuts.small);
  }
