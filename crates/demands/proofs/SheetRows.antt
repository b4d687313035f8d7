-- Comparing two sheet rows is comparing the bytes of the two encoded rows: the definition's rows, even where encode would answer 12.
-- Assumes nothing.
use Prim.Native.Nat.Ordering.{eq}
use Prim.Native.Nat.Ordering.{gt}
use Prim.Native.Nat.Ordering.{lt}
use Prim.Native.Nat.{ℕ, zero, suc, ◌<◌, Ordering}
use mathlib.Core.Path.{◌≡◌, refl, ap, sym, ◌∙◌}
use mathlib.Core.List.{List}
use native.Mathlib.Omega.{arith}
use lib.Dec.{leb}
use lib.IntN.{ℤ, pos, negsuc}
use borrow.Author.Tests.{leb-false}
use Rattle.std.specs.declared.result.Result.TheVariants.{Ok}
use Rattle.format.specs.declared.Refusal.TheVariants.{SheetRow}
use Rattle.format.specs.declared.Column.{Column}
use Rattle.format.specs.Lists.{Bytes, each}
use Rattle.format.specs.Described.{ColumnList, list_fault, columns}
use Rattle.format.specs.Row.{row}
use Rattle.format.specs.Fits.{RowFits}
use Rattle.format.specs.Sheet.{sheet_fault, sheet_slots}
use Rattle.format.specs.Value.{row_order}
use Rattle.format.specs.Entries.{row_count_fault, row_values, sign, compare_answer}
use Rattle.format.specs.CompareSheets.{rank, rows_rank, counted_fault, sheets_fault, sheet_row_fault, pair_fault, compare_sheets_check, compare_sheets_answer, pairs_fault, pair_count, first_row, second_row, pair_ranks, compare_pairs_check, compare_pairs_answer}
use Rattle.basics.proofs.Checks.{fail_if_pass, both_pass, answer_done}
use Rattle.basics.proofs.Lists.{each_same}
use Rattle.laws.proofs.Sheets.{sheet_fits}
use Rattle.row_pairs.proofs.Pairs.{pairs_passed}
use Rattle.demands.proofs.RowOrder.{row_order_lem}
use Rattle.demands.proofs.Turning.{row_fits}

-- the sign that compare answers, as 0, 1 or 2
abbrev pub sign_rank : ℤ → ℕ
sign_rank (pos zero) = 1
sign_rank (pos (suc n)) = 2
sign_rank (negsuc n) = 0

rank_sign : (o : Ordering) → rank o ≡ sign_rank (sign o)
rank_sign lt = refl
rank_sign eq = refl
rank_sign gt = refl

-- what comparing the bytes of row r₀ of the first sheet and of row r₁ of the second answers
abbrev pub bytes_rank : List Column → ℕ → List ℕ → ℕ → ℕ → List ℕ → ℕ → ℕ
bytes_rank cols n₀ sheet₀ r₀ n₁ sheet₁ r₁ = sign_rank (compare_answer (row cols (row_values cols n₀ sheet₀ r₀)) (row cols (row_values cols n₁ sheet₁ r₁)))

-- ---- two sheets that pass under a list, and rows that they have
module _ (list : ColumnList) (n₀ : ℕ) (sheet₀ : List ℕ) (n₁ : ℕ) (sheet₁ : List ℕ) (b₀ : Bytes sheet₀) (b₁ : Bytes sheet₁)
    (p : sheets_fault list n₀ sheet₀ n₁ sheet₁ ≡ Ok tt) where
  counted : (counted_fault n₀ (columns list) sheet₀ ≡ Ok tt) × (counted_fault n₁ (columns list) sheet₁ ≡ Ok tt)
  unfolding sheets_fault
  counted = both_pass (counted_fault n₀ (columns list) sheet₀) (counted_fault n₁ (columns list) sheet₁) (both_pass (list_fault list) _ p).1

  fits : (n : ℕ) (sheet : List ℕ) (r : ℕ) → Bytes sheet → counted_fault n (columns list) sheet ≡ Ok tt → r < n → RowFits (columns list) (row_values (columns list) n sheet r)
  fits n sheet r b q l =
      row_fits n (columns list) (sheet_slots n (columns list) sheet) r l
      (sheet_fits n (columns list) sheet b (both_pass (row_count_fault n) (sheet_fault n (columns list) sheet) q).1)

  rows_are_bytes : (r₀ r₁ : ℕ) → r₀ < n₀ → r₁ < n₁ → rows_rank (columns list) n₀ sheet₀ r₀ n₁ sheet₁ r₁ ≡ bytes_rank (columns list) n₀ sheet₀ r₀ n₁ sheet₁ r₁
  unfolding compare_answer
  rows_are_bytes r₀ r₁ l₀ l₁ =
      let xs = row_values (columns list) n₀ sheet₀ r₀ in
      let ys = row_values (columns list) n₁ sheet₁ r₁ in
      rank_sign (row_order (columns list) xs ys)
      ∙ ap (λ (o : Ordering). sign_rank (sign o)) (sym (row_order_lem (columns list) xs ys (fits n₀ sheet₀ r₀ b₀ counted.0 l₀) (fits n₁ sheet₁ r₁ b₁ counted.1 l₁)))

-- ---- one row of each
pub compare_is_bytes : (list : ColumnList) (n₀ : ℕ) (sheet₀ : List ℕ) (r₀ n₁ : ℕ) (sheet₁ : List ℕ) (r₁ a b : ℕ) → Bytes sheet₀ → Bytes sheet₁
    → compare_sheets_answer list n₀ sheet₀ r₀ n₁ sheet₁ r₁ ≡ Ok (a, b) → (a ≡ bytes_rank (columns list) n₀ sheet₀ r₀ n₁ sheet₁ r₁) × (b ≡ 0)
unfolding compare_sheets_answer compare_sheets_check
compare_is_bytes list n₀ sheet₀ r₀ n₁ sheet₁ r₁ a b b₀ b₁ e =
    let d = answer_done (compare_sheets_check list n₀ sheet₀ r₀ n₁ sheet₁ r₁) _ 0 a b e in
    let p = both_pass (sheets_fault list n₀ sheet₀ n₁ sheet₁) (pair_fault n₀ r₀ n₁ r₁) d.0 in
    let w = both_pass (sheet_row_fault 0 r₀ n₀) (sheet_row_fault 1 r₁ n₁) p.1 in
    let l₀ : r₀ < n₀ = leb-false n₀ r₀ (fail_if_pass (leb n₀ r₀) (SheetRow 0 r₀) (Ok tt) w.0).0 in
    let l₁ : r₁ < n₁ = leb-false n₁ r₁ (fail_if_pass (leb n₁ r₁) (SheetRow 1 r₁) (Ok tt) w.1).0 in
    (sym d.1 ∙ rows_are_bytes list n₀ sheet₀ n₁ sheet₁ b₀ b₁ p.0 r₀ r₁ l₀ l₁, sym d.2)

-- ---- every pair
pub pairs_are_bytes : (list : ColumnList) (n₀ : ℕ) (sheet₀ : List ℕ) (n₁ : ℕ) (sheet₁ rows : List ℕ) (room a b : ℕ) → Bytes sheet₀ → Bytes sheet₁
    → compare_pairs_answer list n₀ sheet₀ n₁ sheet₁ rows room ≡ Ok (a, b)
    → pair_ranks (columns list) n₀ sheet₀ n₁ sheet₁ rows
    ≡ each 0 (pair_count rows) (λ k. bytes_rank (columns list) n₀ sheet₀ (first_row rows k) n₁ sheet₁ (second_row rows k))
unfolding compare_pairs_answer compare_pairs_check
pairs_are_bytes list n₀ sheet₀ n₁ sheet₁ rows room a b b₀ b₁ e =
    let d = answer_done (compare_pairs_check list n₀ sheet₀ n₁ sheet₁ rows room) _ 0 a b e in
    let p = both_pass (sheets_fault list n₀ sheet₀ n₁ sheet₁) _ d.0 in
    let l = pairs_passed n₀ n₁ rows (both_pass (pairs_fault n₀ n₁ rows 0 (pair_count rows)) _ p.1).0 in
    each_same 0 (pair_count rows) _ _ (λ k x y.
    rows_are_bytes list n₀ sheet₀ n₁ sheet₁ b₀ b₁ p.0 (first_row rows k) (second_row rows k) (l.first k (omega arith)) (l.second k (omega arith)))
