-- `comparer::write_orders` meets its contract: the answers to so many pairs are written, each once its columns tie or one of them decides.
-- Assumes nothing.
use Prim.Native.Nat.{ℕ, ◌+◌, ◌-◌, ◌<◌}
use mathlib.Core.Path.{◌≡◌, refl, ap, ap₂, sym, subst, ◌∙◌}
use mathlib.Core.List.{List, [], ◌∷◌, ◌++◌}
use native.Mathlib.Numerals.{add-one}
use native.Mathlib.Omega.{arith}
use lib.ListN.{length, get_or}
use lib.Seq.{sets}
use Rattle.std.specs.Ordering.{ordering_index}
use Rattle.format.specs.declared.Column.{Column}
use Rattle.format.specs.Lists.{each}
use Rattle.format.specs.Schemas.{cols_of}
use Rattle.format.specs.Passed.{Stands}
use Rattle.basics.proofs.Append.{walk_piece, walk_end, each_step, each_none}
use Rattle.laws.proofs.InUse.{in_use}
use Rattle.laws.proofs.Parts.{part_rest}
use Rattle.sheet_reader.specs.declared.sheet.Facts.{Facts}
use Rattle.sheet_reader.specs.Sheets.{no_facts, Known}
use Rattle.sheet_reader.proofs.Values.{stands_passes}
use Rattle.format.specs.CompareSheets.{rank, pair_ranks}
use Rattle.byte_order.specs.Answers.{ordering}
use Rattle.byte_order.proofs.Answered.{ranked}
use Rattle.row_pairs.specs.Pairs.{pair_rows}
use Rattle.comparer.proofs.Columns.{deciding_ties, deciding_differs, deciding_end, first_of, column_order, facts_rank, rows_known}
use Rattle.comparer.proofs.write_orders.Goals as goal
use Rattle.comparer.proofs.write_orders.Goals.{else-loop-c-test, then-loop-c-test+then-is_ne}

-- a column is the same in both sheets
others_stand : (cols : List Column) (n : ℕ) (s : List ℕ) (facts : List Facts) (m : ℕ) (t : List ℕ) (known : List Facts) (k : ℕ)
    → Known n cols s facts → Known m cols t known → k < length cols
    → Stands (get_or facts k no_facts).column m k (get_or known k no_facts).base t
others_stand cols n s facts m t known k h g l =
    subst (λ (col : Column). Stands col m k (get_or known k no_facts).base t) ((g k l).column ∙ sym (h k l).column) (g k l).stands

pub order_slots-found-requires-clause-passes : goal.order_slots-found-requires-clause-passes
order_slots-found-requires-clause-passes c =
    let A = c.args in
    let k = c.loop-c.c in
    let f = get_or A.known.now.facts k no_facts in
    let below : k < length (cols_of A.schema) = omega (arith, in_use A.schema c.well_formed.0 c.requires.count_le_max_columns) in
    rw (part_rest A.sheet.now f.base) (stands_passes A.n k f.base f.column A.sheet.now (c.requires.known k below).stands)

pub order_slots-found-requires-clause-passes_2 : goal.order_slots-found-requires-clause-passes_2
order_slots-found-requires-clause-passes_2 c =
    let A = c.args in
    let k = c.loop-c.c in
    let g = get_or A.other_known.now.facts k no_facts in
    let below : k < length (cols_of A.schema) = omega (arith, in_use A.schema c.well_formed.0 c.requires.count_le_max_columns) in
    rw (part_rest A.other.now g.base)
    (stands_passes A.m k g.base (get_or A.known.now.facts k no_facts).column A.other.now
    (others_stand (cols_of A.schema) A.n A.sheet.now A.known.now.facts A.m A.other.now A.other_known.now.facts k c.requires.known c.requires.known_2 below))

pub loop-c-preserved : goal.loop-c-preserved
loop-c-preserved c =
    let A = c.args in
    let k = c.loop-c.c in
    deciding_ties (column_order A.n A.sheet.now A.known.now.facts c.row_at-i.result A.m A.other.now A.other_known.now.facts c.row_at-j.result) A.schema.count k
    c.loop-c.invariant c.loop-c-test.true
    (rw (part_rest A.sheet.now (get_or A.known.now.facts k no_facts).base, part_rest A.other.now (get_or A.other_known.now.facts k no_facts).base) at c.order_slots-found.ensures)
    (sym c.is_ne.ensures ∙ c.if-is_ne.false)

-- the pairs that are left begin with this one, which all columns left tied, or one decided
pub loop-k-preserved : goal.loop-k-preserved
loop-k-preserved c =
    let A = c.args in
    let k = c.loop-k.k in
    let n = c.pair_count-pairs.result in
    let count = A.schema.count in
    let R = facts_rank A.n A.sheet.now A.known.now.facts A.m A.other.now A.other_known.now.facts count (pair_rows A.numbers.now A.bytes.now) in
    let f = column_order A.n A.sheet.now A.known.now.facts c.row_at-i.result A.m A.other.now A.other_known.now.facts c.row_at-j.result in
    let at = c.loop-c.c in
    let first : c.loop-c-test.found ≡ ordering (first_of (each 0 count f)) =
    elim c.loop-c-test.branch [
      | else-loop-c-test w ↦ w.found-is ∙ deciding_end f count at c.loop-c.invariant w.loop-c-test.false
      | then-loop-c-test+then-is_ne w ↦
          w.found-is
          ∙ deciding_end f count count
          (deciding_differs f count at c.loop-c.invariant w.loop-c-test.true
          (rw (part_rest A.sheet.now (get_or A.known.now.facts at no_facts).base, part_rest A.other.now (get_or A.other_known.now.facts at no_facts).base)
          at w.order_slots-found.ensures)
          (sym w.is_ne.ensures ∙ w.if-is_ne.true))
          (omega arith)
    ] in
    let found : c.rank.result ≡ R k =
    c.rank.ensures ∙ ap ordering_index first ∙ ranked (first_of (each 0 count f))
    ∙ ap₂ (λ (i j : ℕ). rank (first_of (each 0 count (column_order A.n A.sheet.now A.known.now.facts i A.m A.other.now A.other_known.now.facts j))))
    c.row_at-i.ensures c.row_at-j.ensures in
    let rest : each k (n - k) R ≡ (c.rank.result ∷ []) ++ each (k + 1) (n - (k + 1)) R = each_step R n k c.loop-k-test.true ∙ rw (found, add-one k) in
    walk_piece 1 (c.rank.result ∷ []) _ c.loop-k.invariant rest refl

-- all of them are those of the sheets' rows
pub returns : goal.returns
returns c =
    let A = c.args in
    let n = c.pair_count-pairs.result in
    let rows = pair_rows A.numbers.now A.bytes.now in
    let R = facts_rank A.n A.sheet.now A.known.now.facts A.m A.other.now A.other_known.now.facts in
    let all : pair_ranks (cols_of A.schema) A.n A.sheet.now A.m A.other.now rows ≡ each 0 n (R A.schema.count rows) =
    rows_known A.n A.sheet.now A.known.now.facts A.m A.other.now A.other_known.now.facts (cols_of A.schema) rows c.requires.known c.requires.known_2 c.requires.in_sheets
    ∙ ap₂ (λ (k n : ℕ). each 0 k (R n rows)) (sym c.pair_count-pairs.ensures) (in_use A.schema c.well_formed.0 c.requires.count_le_max_columns) in
    (walk_end c.loop-k.invariant (each_none (R A.schema.count rows) n c.loop-k.k c.loop-k-test.false)).1 ∙ ap (sets A.answers.now 0) (sym all)
