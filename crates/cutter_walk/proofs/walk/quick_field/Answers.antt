-- `cutter_walk::walk::quick_field` meets its contract. Assumes nothing.
use mathlib.Core.Path.{sym}
use native.Mathlib.Omega.{arith}
use Rattle.cutter_walk.proofs.walk.quick_field.Goals as goal

pub overflow_sub-result : goal.overflow_sub-result
overflow_sub-result c = omega (arith, (c.plain_there.ensures c.if-plain_there.true).0)

pub returns-then-plain_there : goal.returns-then-plain_there
returns-then-plain_there c =
    let t = c.plain_there.ensures c.if-plain_there.true in
    sym ((c.requires t.0).reads c.args.rest.now (omega (arith, t.1)) t.2)
