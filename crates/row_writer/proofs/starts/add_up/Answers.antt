-- `row_writer::starts::add_up` meets its contract: the start of the next row is not after the end of the last. Assumes nothing.
use Prim.Native.Nat.{ℕ, ◌+◌, ◌<◌, ◌^◌}
use mathlib.Core.Path.{◌≡◌}
use mathlib.Core.List.{List}
use native.Mathlib.Omega.{arith}
use lib.ListN.{get_or}
use Rattle.row_writer.specs.Starts.{CursorsAt, so_far, start_of}
use Rattle.row_writer.proofs.Summing.{cursors_more, cursors_still, sum_next, sum_within}
use Rattle.row_writer.proofs.starts.add_up.Goals as goal

module _ (fixed : ℕ) (xs : List ℕ) {r at : ℕ} {now : List ℕ} (e : at ≡ start_of fixed xs r) (t : CursorsAt (start_of fixed xs) r xs now) where
  next : at + (fixed + get_or now (r + 1) 0) ≡ start_of fixed xs (r + 1)
  next = omega (arith, cursors_still t, sum_next (so_far fixed xs) r)

  fits : (n : ℕ) → r < n → start_of fixed xs n < 2 ^ 64 → at + (fixed + get_or now (r + 1) 0) < 2 ^ 64
  fits n l h = omega (arith, next, sum_within (so_far fixed xs) (r + 1) n (omega arith))

pub overflow_add-at : goal.overflow_add-at
overflow_add-at c =
    let A = c.args in
    let i = c.loop-r.invariant in
    omega (arith, fits A.fixed A.offsets.now i.0 i.1 A.n c.loop-r-test.true c.requires.n_bound)

pub overflow_add-at-in-loop-r : goal.overflow_add-at-in-loop-r
overflow_add-at-in-loop-r c =
    let A = c.args in
    let i = c.loop-r.invariant in
    omega (arith, fits A.fixed A.offsets.now i.0 i.1 A.n c.loop-r-test.true c.requires.n_bound)

pub loop-r-preserved : goal.loop-r-preserved
loop-r-preserved c =
    let i = c.loop-r.invariant in
    (next c.args.fixed c.args.offsets.now i.0 i.1, cursors_more i.1 _ (omega (arith, i.1.stays.same)) i.0)
