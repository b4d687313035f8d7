use Prim.Native.Nat.{ℕ, ◌-◌, ◌≤◌}
use mathlib.Core.Path.{◌≡◌, refl, sym, ap, ◌∙◌}
use mathlib.Core.List.{List}
use native.Mathlib.Omega.{arith}
use lib.ListN.{length, get_or, take, drop, length-drop}
use Rattle.std.proofs.lemmas.Result.{err_from_is_err_and}
use Rattle.format.specs.declared.Column.{Column}
use Rattle.format.specs.Check.{Check}
use Rattle.std.specs.declared.result.Result.TheVariants.{Ok}
use Rattle.format.specs.Sheet.{layout, bits_fault, column_fault, column_bytes, column_slots, nulls_in}
use Rattle.bits.proofs.Nulls.{bits_passed}
use Rattle.laws.proofs.InUse.{used_narrow}
use Rattle.laws.proofs.Parts.{part_rest}
use Rattle.laws.proofs.Sheets.{column_passed, column_room}
use Rattle.format.specs.Schemas.{no_column}
use Rattle.sheet_reader.proofs.SheetTurns.{start, bad, more, after, good}
use Rattle.sheet_reader.proofs.sheet.check_sheet.Goals as goal

-- a column that was checked in the part of the sheet from `at` on, which the code takes as a range
module _ (n c at : ℕ) (col : Column) (s : List ℕ) (check : Check)
    (e : check ≡ column_fault col.options.required (layout col) n c (take (length s - at) (drop at s))) where
  abbrev part : List ℕ
  part = drop at s

  said : check ≡ column_fault col.options.required (layout col) n c part
  said = e ∙ rw (part_rest s at)

  module _ (p : check ≡ Ok tt) where
    passes : column_fault col.options.required (layout col) n c part ≡ Ok tt
    passes = sym said ∙ p

    room : column_bytes (layout col) n part ≤ length part
    room = column_room col.options.required (layout col) n c part passes

    bytes_there : column_bytes (layout col) n (take (length s - at) part) ≤ length (take (length s - at) part)
    bytes_there = rw (part_rest s at) room

    valid : bits_fault n c (take (length s - at) part) ≡ Ok tt
    valid = rw (part_rest s at) (column_passed col.options.required (layout col) n c part passes).0

-- what the code takes of the part
wide : (n at w : ℕ) (col : Column) (s : List ℕ) → w ≡ column_bytes (layout col) n (take (length s - at) (drop at s))
    → w ≡ column_bytes (layout col) n (drop at s)
wide n at w col s e = e ∙ rw (part_rest s at)

pub loop-c-init : goal.loop-c-init
loop-c-init c = start _ _ _ _

pub check_column-requires : goal.check_column-requires
check_column-requires c = record {
  n_le_max_rows = c.requires.n_le_max_rows;
  kind_bound = used_narrow c.args.schema c.in_use-column-items.ensures.says c.in_use-column-items.ensures.long c.requires.limited c.loop-c.c c.loop-c-test.true;
}

pub returns-in_err-check_column : goal.returns-in_err-check_column
returns-in_err-check_column c =
    let p = err_from_is_err_and c.from_residual.result c.from_residual.ensures.1 in
    let col = get_or c.in_use-column-items.result.now c.loop-c.c no_column in
    rw (p.1, p.2, ← c.in_use-column-items.ensures.says) (bad _ _ _ _ _ _ _ c.loop-c.invariant col c.loop-c-test.true refl _
    (sym (said _ _ c.loop-c.at col c.args.sheet.now _ c.check_column.ensures) ∙ c.in_err-check_column.was))

pub column_bytes-requires : goal.column_bytes-requires
column_bytes-requires c = record {
  n_le_max_rows = c.requires.n_le_max_rows;
  part_in_bounds = bytes_there c.args.n c.loop-c.c c.loop-c.at (get_or c.in_use-column-items.result.now c.loop-c.c no_column) c.args.sheet.now _
      c.check_column.ensures c.in_ok-check_column.was;
}

pub overflow_add-next : goal.overflow_add-next
overflow_add-next c =
    let col = get_or c.in_use-column-items.result.now c.loop-c.c no_column in
    let s = c.args.sheet.now in
    omega (
      arith,
      wide _ c.loop-c.at _ col s c.column_bytes.ensures,
      room _ _ c.loop-c.at col s _ c.check_column.ensures c.in_ok-check_column.was,
      length-drop c.loop-c.at s,
    )

pub null_rows-nulls-requires : goal.null_rows-nulls-requires
null_rows-nulls-requires c =
    let checked = bits_passed _ _ _ (valid c.args.n c.loop-c.c c.loop-c.at (get_or c.in_use-column-items.result.now c.loop-c.c no_column) c.args.sheet.now _
    c.check_column.ensures c.in_ok-check_column.was) in
    record { n_le_max_rows = c.requires.n_le_max_rows; n_in_bounds = checked.0; n_value = checked.1 }

-- ---- the end of a turn
pub loop-c-preserved : goal.loop-c-preserved
loop-c-preserved c =
    let col = get_or c.in_use-column-items.result.now c.loop-c.c no_column in
    let s = c.args.sheet.now in
    let null = c.null_rows-nulls.ensures.value (layout col) ∙ ap (λ (t : List ℕ). nulls_in (column_slots (layout col) c.args.n t)) (part_rest s c.loop-c.at) in
    more _ _ _ _ _ _ _ c.loop-c.invariant col c.loop-c-test.true refl
    (passes _ _ c.loop-c.at col s _ c.check_column.ensures c.in_ok-check_column.was) _ _ null c.null_rows-nulls.ensures.upper_bound
    c.requires.n_le_max_rows (wide _ c.loop-c.at _ col s c.column_bytes.ensures) (omega (arith, c.in_use-column-items.ensures.long, c.requires.limited.few))

pub returns-then-at-sheet : goal.returns-then-at-sheet
returns-then-at-sheet c =
    rw (← c.in_use-column-items.ensures.says) (after _ _ _ _ _ _ _ c.loop-c.invariant c.loop-c-test.false c.if-at-sheet.true)

pub returns : goal.returns
returns c =
    rw (← c.in_use-column-items.ensures.says) (good _ _ _ _ _ _ _ c.loop-c.invariant c.loop-c-test.false c.if-at-sheet.false)
