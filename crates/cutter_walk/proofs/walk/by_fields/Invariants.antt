-- `cutter_walk::walk::by_fields` meets its contract: a field more in each turn. Assumes nothing.
use Prim.Native.Nat.{◌-◌}
use Rattle.cutter_walk.proofs.Fields.{InFields, field_at}
use Rattle.cutter_walk.proofs.walk.by_fields.Given as goal

abbrev pub invariant-loop-i : goal.invariant-loop-i
invariant-loop-i l =
    let p = l.fn.place in
    InFields l.fn.schema (field_at p.rows p.bytes p.row p.column) l.piece l.from l.found l.initial.ends l.end l.rows l.bytes l.row l.c l.n l.i l.ends

abbrev pub decreases-loop-i : goal.decreases-loop-i
decreases-loop-i l = l.end - l.i
