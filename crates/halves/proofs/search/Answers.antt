use Prim.Native.Nat.{◌+◌, ◌-◌, ◌/◌}
use native.Mathlib.Omega.{arith}
use Rattle.format.specs.Entries.{row_bytes}
use Rattle.laws.proofs.Cuts.{cuts_lie}
use Rattle.halves.proofs.Narrowing.{begin, end, lower_half, upper_half}
use Rattle.halves.proofs.search.Goals as goal

pub loop-low-init : goal.loop-low-init
loop-low-init g c = (omega arith, omega arith, λ test says rises. begin test _ _)

pub row_at-requires : goal.row_at-requires
row_at-requires g c = cuts_lie c.requires.sorted.cuts _ (omega arith)

-- ---- the row between passes
pub loop-low-preserved-then-passes : goal.loop-low-preserved-then-passes
loop-low-preserved-then-passes g c =
    let a = c.args in
    let s = c.loop-low.invariant in
    let middle = c.loop-low.low + (c.loop-low.high - c.loop-low.low) / 2 in (
      omega arith,
      omega arith,
      λ test says rises.
          lower_half test a.n (row_bytes a.rows.now a.offsets.now) (s.2 test says rises) s.1 rises 0 c.requires.sorted.rises middle (omega arith)
          c.passes.result (says (row_bytes a.rows.now a.offsets.now middle) c.passes.result
          (record { shown = c.row_at.result; shows = c.row_at.ensures; says = record { met = c.passes.ensures } })) c.if-passes.true,
    )

-- ---- it fails
pub loop-low-preserved : goal.loop-low-preserved
loop-low-preserved g c =
    let a = c.args in
    let s = c.loop-low.invariant in
    let middle = c.loop-low.low + (c.loop-low.high - c.loop-low.low) / 2 in (
      omega arith,
      omega arith,
      λ test says rises.
          upper_half test a.n (row_bytes a.rows.now a.offsets.now) (s.2 test says rises) s.1 rises 0 c.requires.sorted.rises middle (omega arith)
          c.passes.result (says (row_bytes a.rows.now a.offsets.now middle) c.passes.result
          (record { shown = c.row_at.result; shows = c.row_at.ensures; says = record { met = c.passes.ensures } })) c.if-passes.false,
    )

pub returns : goal.returns
returns g c = λ test says rises.
    let a = c.args in
    let s = c.loop-low.invariant in
    end test a.n (row_bytes a.rows.now a.offsets.now) (s.2 test says rises) s.1 s.0 c.loop-low-test.false
