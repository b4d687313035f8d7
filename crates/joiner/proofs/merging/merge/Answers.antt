use mathlib.Core.Path.{refl}
use native.Mathlib.Omega.{arith}
use Rattle.format.specs.Entries.{row_bytes, cut_rows}
use Rattle.joiner.proofs.Sorting.{pass_up}
use Rattle.joiner.proofs.Turns.{merge_begin, merge_end, merge_second, merge_first}
use Rattle.joiner.proofs.merging.merge.Goals as goal
use Rattle.joiner.proofs.merging.merge.Goals.{then-second_next, else-second_next}

pub loop-place-init : goal.loop-place-init
loop-place-init c =
    let a = c.args in
    record {
      counts = refl;
      merges = merge_begin a.n (row_bytes a.rows.now a.offsets.now) a.m (row_bytes a.others.now a.ends.now) _
          (pass_up 0 0 (cut_rows a.n a.rows.now a.offsets.now) c.requires.first.rises)
          (pass_up 1 1 (cut_rows a.m a.others.now a.ends.now) c.requires.second.rises);
    }

pub second_next-requires : goal.second_next-requires
second_next-requires c = record { cuts = c.requires.first.cuts; cuts_2 = c.requires.second.cuts }

-- row j of pass 1 is taken, or row i of pass 0
pub loop-place-preserved : goal.loop-place-preserved
loop-place-preserved c =
    let t = c.loop-place.invariant in
    elim c.if-second_next.branch [
      | then-second_next w ↦
          record {
            counts = omega (arith, t.counts, w.i-is, w.j-is);
            merges = rw (w.order-is, w.i-is, w.j-is, t.counts) (merge_second _ _ _ _ _ t.merges (omega arith) _ c.second_next.ensures w.if-second_next.true _ refl);
          }
      | else-second_next w ↦
          record {
            counts = omega (arith, t.counts, w.i-is, w.j-is);
            merges = rw (w.order-is, w.i-is, w.j-is, t.counts) (merge_first _ _ _ _ _ t.merges (omega arith) _ c.second_next.ensures w.if-second_next.false _ refl);
          }
    ]

pub shape_of-order : goal.shape_of-order
shape_of-order c = c.loop-place.invariant.merges.wrote.same

pub returns : goal.returns
returns c =
    merge_end _ _ _ _ _ c.loop-place.invariant.merges c.requires.room (omega arith)
