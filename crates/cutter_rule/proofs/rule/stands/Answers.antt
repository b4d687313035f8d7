-- `cutter_rule::rule::stands` meets its contract. Test by test. Assumes nothing.
use Prim.Native.Nat.{ℕ, ◌<◌}
use mathlib.Core.Path.{◌≡◌, sym, ap, ◌∙◌}
use mathlib.Core.List.{List}
use native.Mathlib.Omega.{arith}
use lib.ListN.{length, get_or}
use lib.Seq.{get_or-take}
use borrow.Author.Tests.{not-true, not-false}
use Rattle.format.specs.declared.Column.{Column}
use Rattle.format.specs.declared.Schema.{Schema}
use Rattle.format.specs.Kinds.{column_shape}
use Rattle.format.specs.Schemas.{no_column, cols_of}
use Rattle.cutter_laws.proofs.RuleKept.{over_length}
use Rattle.cutter_rule.proofs.Rules.{stands_many, stands_unkept, stands_past, column_narrow, stands_spot, stands_row, stands_stream, stream_sums, spot_small}
use Rattle.cutter_rule.proofs.rule.stands.Goals as goal

-- the columns in use, as the code takes them
module _ (schema : Schema) {cols : List Column} (is : cols ≡ cols_of schema) (long : length cols ≡ schema.count) where
  full : length (cols_of schema) ≡ schema.count
  full = ap length (sym is) ∙ long

  here : (c : ℕ) → c < schema.count → get_or cols c no_column ≡ get_or schema.columns c no_column
  here c l = ap (λ (cs : List Column). get_or cs c no_column) is ∙ get_or-take schema.count schema.columns c no_column l

pub returns-then-count-gt-MAX_COLUMNS : goal.returns-then-count-gt-MAX_COLUMNS
returns-then-count-gt-MAX_COLUMNS c =
    let a = c.args.state.now in
    stands_many a c.if-count-gt-MAX_COLUMNS.true

pub returns-then-not-sums : goal.returns-then-not-sums
returns-then-not-sums c =
    let sums = rw c.in_use-columns.ensures.says at c.sum_columns-sums.ensures in
    stands_unkept c.args.state.now c.if-count-gt-MAX_COLUMNS.false (sym sums.kept ∙ not-true _ c.if-not-sums.true)

pub returns-then-count-c : goal.returns-then-count-c
returns-then-count-c c =
    let sums = rw c.in_use-columns.ensures.says at c.sum_columns-sums.ensures in
    stands_past c.args.state.now c.if-count-gt-MAX_COLUMNS.false (sym sums.kept ∙ not-false _ c.if-not-sums.false) c.if-count-c.true

pub bounds-columns-c : goal.bounds-columns-c
bounds-columns-c c = omega (arith, c.in_use-columns.ensures.long, c.if-count-c.false)

pub returns-then-not-spot_kept : goal.returns-then-not-spot_kept
returns-then-not-spot_kept c =
    let a = c.args.state.now in
    let sums = rw c.in_use-columns.ensures.says at c.sum_columns-sums.ensures in
    let same = here a.schema c.in_use-columns.ensures.says c.in_use-columns.ensures.long a.column c.if-count-c.false in
    stands_spot a c.if-count-gt-MAX_COLUMNS.false (sym sums.kept ∙ not-false _ c.if-not-sums.false) c.if-count-c.false
    (rw same at (sym c.spot_kept.ensures ∙ c.if-not-spot_kept.true))

pub field_seen-seen-requires : goal.field_seen-seen-requires
field_seen-seen-requires c =
    let a = c.args.state.now in
    let few = c.if-count-gt-MAX_COLUMNS.false in
    let sums = rw c.in_use-columns.ensures.says at c.sum_columns-sums.ensures in
    let same = here a.schema c.in_use-columns.ensures.says c.in_use-columns.ensures.long a.column c.if-count-c.false in
    spot_small (column_shape (get_or a.schema.columns a.column no_column)) _ a.row a.spot
    (column_narrow a few (sym sums.kept ∙ not-false _ c.if-not-sums.false) c.if-count-c.false
    (full a.schema c.in_use-columns.ensures.says c.in_use-columns.ensures.long))
    (rw same at (sym c.spot_kept.ensures ∙ c.if-not-spot_kept.false))

pub returns-then-not-within : goal.returns-then-not-within
returns-then-not-within c =
    let a = c.args.state.now in
    let sums = rw c.in_use-columns.ensures.says at c.sum_columns-sums.ensures in
    let kept = not-false _ c.if-not-sums.false in
    let same = here a.schema c.in_use-columns.ensures.says c.in_use-columns.ensures.long a.column c.if-count-c.false in
    stands_row a c.if-count-gt-MAX_COLUMNS.false (sym sums.kept ∙ kept) c.if-count-c.false
    (rw same at (sym c.spot_kept.ensures ∙ c.if-not-spot_kept.false))
    _ _ (omega (arith, sums.low kept)) (omega (arith, sums.high kept)) (sym c.within.ensures ∙ c.if-not-within.true)

pub stream_kept-requires : goal.stream_kept-requires
stream_kept-requires c =
    let schema = c.args.state.now.schema in
    let sums = rw c.in_use-columns.ensures.says at c.sum_columns-sums.ensures in
    let many = full schema c.in_use-columns.ensures.says c.in_use-columns.ensures.long in
    (omega (arith, many, sums.fewest_all (not-false _ c.if-not-sums.false), over_length (cols_of schema)), sums.small_fewest, sums.small_most)

pub returns : goal.returns
returns c =
    let a = c.args.state.now in
    let sums = rw c.in_use-columns.ensures.says at c.sum_columns-sums.ensures in
    let kept = not-false _ c.if-not-sums.false in
    let same = here a.schema c.in_use-columns.ensures.says c.in_use-columns.ensures.long a.column c.if-count-c.false in
    stands_stream a c.if-count-gt-MAX_COLUMNS.false (sym sums.kept ∙ kept) c.if-count-c.false
    (rw same at (sym c.spot_kept.ensures ∙ c.if-not-spot_kept.false))
    _ _ (omega (arith, sums.low kept)) (omega (arith, sums.high kept)) (sym c.within.ensures ∙ c.if-not-within.false) _
    (c.stream_kept.ensures ∙ stream_sums (cols_of a.schema) a.rows a.row a.bytes _ _ (sums.fewest_all kept) (sums.most_all kept))
