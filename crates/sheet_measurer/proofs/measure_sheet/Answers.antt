use Prim.Native.Nat.{ℕ, ◌-◌, ◌<◌, ◌≤◌}
use mathlib.Core.Path.{◌≡◌, sym, ap, ◌∙◌}
use mathlib.Core.Bool.{false}
use mathlib.Core.List.{List}
use native.Mathlib.Omega.{arith}
use lib.ListN.{length, get_or, take, drop, replicate, length-map, get_or-append}
use Rattle.format.specs.declared.Column.{Column}
use Rattle.format.specs.Limits.{max_columns, max_width}
use Rattle.format.specs.Lists.{each, sum}
use Rattle.format.specs.Kinds.{value_bytes}
use Rattle.format.specs.Passed.{Passes}
use Rattle.format.specs.Schemas.{Limited, no_column, schema_of}
use Rattle.format.specs.Sheet.{layout, column_fault}
use Rattle.format.specs.Entries.{column_total}
use Rattle.basics.proofs.Bytes.{bytes_of}
use Rattle.basics.proofs.Lists.{adding_begin, adding_more, adding_end}
use Rattle.laws.proofs.Parts.{part_rest}
use Rattle.laws.proofs.Sheets.{not_asked}
use Rattle.sheet_reader.specs.declared.sheet.Facts.{Facts}
use Rattle.sheet_reader.specs.Sheets.{FactsOf, columns_of, Known, no_facts}
use Rattle.sheet_measurer.proofs.Totals.{facts_total, known_total}
use Rattle.sheet_measurer.proofs.measure_sheet.Goals as goal

module _ (n : ℕ) (sheet : List ℕ) (facts : List Facts) where
  abbrev cols : List Column
  cols = columns_of facts

  many : length cols ≡ length facts
  many = length-map facts (λ (f : Facts). f.column)

  -- column c
  module _ (known : Known n cols sheet facts) (c : ℕ) (used : c < length facts) where
    abbrev fact : Facts
    fact = get_or facts c no_facts

    here : FactsOf n cols sheet c fact
    here = known c (omega (arith, many))

    narrow : Limited (schema_of cols) → value_bytes fact.column.kind ≤ max_width
    narrow limited =
        let inside : c < length cols = omega (arith, many) in
        rw (here.column, ← get_or-append cols (replicate (max_columns - length cols) no_column) no_column c inside) (limited.narrow c inside)

    -- it passes, in the part that the code takes as a range
    passes : Passes (λ i. column_fault false (layout fact.column) n i (take (length sheet - fact.base) (drop fact.base sheet)))
    passes = rw (part_rest sheet fact.base)
        (record { c = c; pass = not_asked fact.column.options.required (layout fact.column) n c (drop fact.base sheet) here.stands.passes })

pub loop-f-init : goal.loop-f-init
loop-f-init c = (adding_begin _ _, omega arith)

pub slice_bounds-measure_column-count : goal.slice_bounds-measure_column-count
slice_bounds-measure_column-count c = omega (arith, (here _ _ c.args.facts.now c.requires.known _ c.loop-f-test.true).stands.room)

pub slice_bounds-measure_column-start : goal.slice_bounds-measure_column-start
slice_bounds-measure_column-start c = omega (arith, (here _ _ c.args.facts.now c.requires.known _ c.loop-f-test.true).stands.room)

pub measure_column-total-requires : goal.measure_column-total-requires
measure_column-total-requires c = record {
  n_le_max_rows = c.requires.n_le_max_rows;
  kind_bound = narrow _ _ c.args.facts.now c.requires.known _ c.loop-f-test.true c.requires.limited;
  passes = passes _ _ c.args.facts.now c.requires.known _ c.loop-f-test.true;
}

-- ---- the column is measured
pub overflow_add-total : goal.overflow_add-total
overflow_add-total c = omega (arith, c.requires.limited.few, many c.args.n c.args.sheet.now c.args.facts.now)

pub loop-f-preserved : goal.loop-f-preserved
loop-f-preserved c =
    let f = get_or c.args.facts.now c.loop-f.f-index no_facts in
    let added = c.measure_column-total.ensures.value ∙ ap (column_total f.column c.args.n) (part_rest c.args.sheet.now f.base) in
    (rw added (adding_more _ _ _ _ c.loop-f.invariant.0 c.loop-f-test.true), omega arith)

pub returns : goal.returns
returns c =
    let A = c.args in
    let facts = A.facts.now in
    adding_end _ _ _ _ c.loop-f.invariant.0 c.loop-f-test.false
    ∙ ap (λ (k : ℕ). sum (each 0 k (facts_total A.n A.sheet.now facts))) (sym (many A.n A.sheet.now facts))
    ∙ known_total A.n (columns_of facts) A.sheet.now facts (bytes_of A.sheet.now (λ i. (c.type_inv.sheet i).fits)) c.requires.sheet_value c.requires.known
