use Prim.Native.Nat.{ℕ, ◌+◌, ◌-◌, ◌<◌}
use mathlib.Core.Bool.{Bool}
use mathlib.Core.Path.{◌≡◌}
use mathlib.Core.List.{List}
use native.Mathlib.Numerals.{add-one}
use native.Mathlib.Omega.{arith}
use lib.ListN.{get_or, take, drop}
use Rattle.format.specs.declared.Column.{Column}
use Rattle.format.specs.Lists.{Bytes}
use Rattle.format.specs.Schemas.{cols_of}
use Rattle.format.specs.Entries.{row_bytes}
use Rattle.basics.proofs.Bytes.{bytes_of, bytes_take, bytes_drop}
use Rattle.laws.proofs.InUse.{in_use}
use Rattle.laws.proofs.Parsed.{and_true}
use Rattle.quick_rows.proofs.Turns.{Walking, past_plain, past_slot, past_counted, whole}
use Rattle.quick_rows.proofs.Passing.{begins, InRow, passed}
use Rattle.quick_rows.proofs.pass_rows.Goals as goal
use Rattle.quick_rows.proofs.pass_rows.Goals.{then-plain_there, else-plain_there+then-whole_there}
use Rattle.quick_rows.proofs.pass_rows.Goals.{else-plain_there+else-whole_there+else-field-eq0}

-- as it was told
moved : {columns : List Column} {count : ℕ} {row plain plain' : List ℕ} {good good' : Bool} {more more' at at' c : ℕ}
    → plain' ≡ plain → good' ≡ good → more' ≡ more → at' ≡ at
    → Walking columns count row plain good more at c → Walking columns count row plain' good' more' at' c
moved p g m a w = rw (p, g, m, a) w

-- the bytes of a row, between two offsets
cut : (rows : List ℕ) → ((i : ℕ) → get_or rows i 0 < 256) → (from to : ℕ) → Bytes (take (to - from) (drop from rows))
cut rows known from to = bytes_take (to - from) (drop from rows) (bytes_drop from rows (bytes_of rows known))

pub loop-r-init : goal.loop-r-init
loop-r-init c = (begins _ _ _, c.plain_lengths-lengths.ensures)

pub overflow_add-more : goal.overflow_add-more
overflow_add-more c =
    let row = cut c.args.rows.now (λ i. (c.type_inv.rows i).fits) (get_or c.args.offsets.now c.loop-r.r 0) (get_or c.args.offsets.now (c.loop-r.r + 1) 0) in
    let few = c.requires.limited.few in
    let next = past_counted c.well_formed.0 few c.loop-c.invariant c.loop-c-test.true row c.count_field-field.result.field
    c.count_field-field.result.value (c.count_field-field.ensures (omega (arith, c.if-field-eq0.false))) in
    omega (arith, next.small, few, c.loop-c-test.true)

pub loop-c-preserved : goal.loop-c-preserved
loop-c-preserved c =
    let row = cut c.args.rows.now (λ i. (c.type_inv.rows i).fits) (get_or c.args.offsets.now c.loop-r.r 0) (get_or c.args.offsets.now (c.loop-r.r + 1) 0) in
    let few = c.requires.limited.few in
    let inv = c.loop-c.invariant in
    let h = c.loop-c-test.true in
    elim c.if-plain_there.branch [
      | then-plain_there w ↦
          let there = c.plain_there.ensures w.if-plain_there.true in
          moved w.plain-is w.good-is w.more-is w.at-is
          (past_plain c.well_formed.0 few inv h row _ (inv.ready c.loop-c.c h there.0) there.1 there.2)
      | else-plain_there+then-whole_there w ↦
          let there = w.whole_there.ensures w.if-whole_there.true in
          moved w.plain-is w.good-is w.more-is w.at-is
          (past_slot c.well_formed.0 few inv h row _ (c.plain_lengths-lengths.ensures c.loop-c.c h there.0) there.1
          (λ e. let both = and_true _ _ e in (both.0, w.slot_there-good.ensures both.1)))
      | else-plain_there+else-whole_there+else-field-eq0 w ↦
          moved w.plain-is w.good-is w.more-is w.at-is
          (past_counted c.well_formed.0 few inv h row _ _ (w.count_field-field.ensures (omega (arith, w.if-field-eq0.false))))
    ]

pub loop-r-preserved : goal.loop-r-preserved
loop-r-preserved c =
    let few = c.requires.limited.few in
    let inv = c.loop-c.invariant in
    let w = whole (inv.says c.if-not-good.false) (omega (arith, in_use c.args.schema c.well_formed.0 few, c.loop-c-test.false)) c.if-at-row.false in
    let row : InRow (cols_of c.args.schema) (row_bytes c.args.rows.now c.args.offsets.now) c.args.n c.loop-r.bytes c.loop-r.r
    (take (get_or c.args.offsets.now (c.loop-r.r + 1) 0 - get_or c.args.offsets.now c.loop-r.r 0) (drop (get_or c.args.offsets.now c.loop-r.r 0) c.args.rows.now))
    = record { most = c.requires.n_le_max_rows; inside = c.loop-r-test.true; head = c.loop-r.invariant.0; is = rw add-one } in
    (passed row (c.loop-r.bytes + c.loop-c.more) (w.passes c.loop-r.r) (omega (arith, w.adds)) (omega (arith, inv.small, inv.inside, few)), inv.ready)
