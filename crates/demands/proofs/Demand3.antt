-- Demand 3, on what encode writes, cut out by the offsets that it writes: comparing row bytes is comparing values, and a row begins
-- another only where their values are equal. Assumes nothing.
use Prim.Native.Nat.{ℕ, ◌<◌, Ordering}
use mathlib.Core.Path.{◌≡◌, ap, ap₂, ◌∙◌}
use mathlib.Core.List.{List, ◌++◌}
use lib.ListN.{length, drop}
use Rattle.std.specs.declared.result.Result.TheVariants.{Ok}
use Rattle.format.specs.declared.Column.{Column}
use Rattle.format.specs.Lists.{Bytes, ends_from, joined}
use Rattle.format.specs.Described.{ColumnList, columns}
use Rattle.format.specs.Order.{Begins, cmp}
use Rattle.format.specs.Fits.{RowFits}
use Rattle.format.specs.Row.{row}
use Rattle.format.specs.Passed.{Cuts, Lies}
use Rattle.format.specs.Sheet.{sheet_slots}
use Rattle.format.specs.Value.{row_order}
use Rattle.format.specs.Entries.{sheet_rows, encode_rows, encode_offsets, row_bytes, sign, compare_answer}
use Rattle.laws.proofs.Sheets.{sheet_fits}
use Rattle.laws.proofs.Turned.{rows_many}
use Rattle.laws.proofs.Cuts.{written_cuts, written_row, cuts_lie}
use Rattle.laws.proofs.Accept.{encoded, encode_rows_lem, encode_offsets_lem}
use Rattle.demands.specs.Order.{Batch, batch_fault, row_in, values_in}
use Rattle.demands.proofs.RowOrder.{row_order_lem, row_begins, row_begun}
use Rattle.demands.proofs.OneRow.{row_injective}
use Rattle.demands.proofs.Turning.{row_at, row_fits}

-- a batch that encode did not refuse, with what it wrote
pub record Written (list : ColumnList) (b : Batch) : Type 0 where
  pub bytes : Bytes b.sheet
  pub passes : batch_fault list b ≡ Ok tt
  pub row_bytes : b.rows' ≡ encode_rows list b.n b.sheet b.rows (length b.offsets)
  pub row_ends : b.offsets' ≡ encode_offsets list b.n b.sheet (length b.rows) b.offsets

module _ {list : ColumnList} {b : Batch} (w : Written list b) where
  abbrev cols : List Column
  cols = columns list

  abbrev rs : List (List ℕ)
  rs = sheet_rows b.n cols b.sheet

  rows_are : b.rows' ≡ joined rs ++ drop (length (joined rs)) b.rows
  rows_are = w.row_bytes ∙ encode_rows_lem list b.n b.sheet b.rows b.offsets w.passes

  ends_are : b.offsets' ≡ ends_from 0 rs ++ drop (length (ends_from 0 rs)) b.offsets
  ends_are = w.row_ends ∙ encode_offsets_lem list b.n b.sheet b.rows b.offsets w.passes

  many : length rs ≡ b.n
  many = rows_many b.n cols (sheet_slots b.n cols b.sheet)

  -- the offsets cut rows out
  written_cut : Cuts b.n b.rows' b.offsets'
  written_cut = rw (rows_are, ends_are)
      (written_cuts rs _ _ b.n many (encoded list b.n b.sheet (length b.rows) (length b.offsets) w.passes).1.small)

  module _ (r : ℕ) (l : r < b.n) where
    -- row r lies between its offsets
    pub row_lies : Lies b.rows' b.offsets' r
    row_lies = cuts_lie written_cut r l

    -- and is the row of its values
    pub row_is : row_in b r ≡ row cols (values_in list b r)
    row_is =
        ap₂ {C = List ℕ} (λ (x y : List ℕ). row_bytes x y r) rows_are ends_are
        ∙ written_row rs _ _ b.n many r l
        ∙ row_at b.n cols (sheet_slots b.n cols b.sheet) r l

    -- and they fit
    pub values_fit : RowFits cols (values_in list b r)
    values_fit =
        row_fits b.n cols (sheet_slots b.n cols b.sheet) r l
        (sheet_fits b.n cols b.sheet w.bytes (encoded list b.n b.sheet (length b.rows) (length b.offsets) w.passes).1.passes)

-- row r of one batch and row q of another under one list
module _ {list : ColumnList} {b d : Batch} (v : Written list b) (w : Written list d) (r q : ℕ) (lr : r < b.n) (lq : q < d.n) where
  -- comparing their bytes compares their values
  pub written_order : compare_answer (row_in b r) (row_in d q) ≡ sign (row_order (columns list) (values_in list b r) (values_in list d q))
  unfolding compare_answer
  written_order =
      ap sign (ap₂ {C = Ordering} (λ (x y : List ℕ). cmp x y) (row_is v r lr) (row_is w q lq)
      ∙ row_order_lem (columns list) (values_in list b r) (values_in list d q) (values_fit v r lr) (values_fit w q lq))

  -- equal bytes are equal values
  same_values : row (columns list) (values_in list b r) ≡ row (columns list) (values_in list d q) → values_in list b r ≡ values_in list d q
  same_values e = row_injective (columns list) (values_in list b r) (values_in list d q) (values_fit v r lr) (values_fit w q lq) e

  -- and one begins the other only where the values are equal
  pub written_begins : Begins (row_in b r) (row_in d q) → values_in list b r ≡ values_in list d q
  written_begins h = same_values (row_begins (columns list) _ _ (values_fit v r lr) (values_fit w q lq) (rw (row_is v r lr, row_is w q lq) at h))

  pub written_begun : Begins (row_in d q) (row_in b r) → values_in list b r ≡ values_in list d q
  written_begun h = same_values (row_begun (columns list) _ _ (values_fit v r lr) (values_fit w q lq) (rw (row_is v r lr, row_is w q lq) at h))
