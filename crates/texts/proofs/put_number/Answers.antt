-- `texts::put_number` meets its contract: the fewest digits that hold the number, and the byte. Assumes nothing.
use Prim.Native.Nat.{◌+◌, ◌≤◌}
use mathlib.Core.Path.{◌∙◌}
use native.Mathlib.Omega.{arith}
use lib.ListN.{length}
use Rattle.texts.proofs.Written.{wrote_as, wrote_byte, wrote_long}
use Rattle.texts.proofs.Decimal.{decimal_digits, few_digits}
use Rattle.texts.proofs.put_number.Goals as goal

pub put_bytes-end-requires : goal.put_bytes-end-requires
put_bytes-end-requires c = omega (arith, (let the_few : c.decimal-k.result ≤ 20 = few_digits _ c.args.n (omega arith) c.decimal-k.ensures.len in the_few), c.requires, c.decimal-k.ensures.in_bounds.1)

pub bounds-out-end : goal.bounds-out-end
bounds-out-end c = omega (arith, (let the_room : c.put_bytes-end.result + 1 ≤ length c.args.out.now = omega (arith, c.put_bytes-end.ensures.place, (let the_few : c.decimal-k.result ≤ 20 = few_digits _ c.args.n (omega arith) c.decimal-k.ensures.len in the_few), c.requires, c.decimal-k.ensures.in_bounds.1) in the_room), wrote_long c.put_bytes-end.ensures)

pub overflow_add-result : goal.overflow_add-result
overflow_add-result c = omega (arith, (let the_room : c.put_bytes-end.result + 1 ≤ length c.args.out.now = omega (arith, c.put_bytes-end.ensures.place, (let the_few : c.decimal-k.result ≤ 20 = few_digits _ c.args.n (omega arith) c.decimal-k.ensures.len in the_few), c.requires, c.decimal-k.ensures.in_bounds.1) in the_room), c.well_formed)

pub returns : goal.returns
returns c =
    wrote_byte _ _ (wrote_as c.put_bytes-end.ensures (c.decimal-k.ensures.digits ∙ decimal_digits 20 _ _ ((let the_few : c.decimal-k.result ≤ 20 = few_digits _ c.args.n (omega arith) c.decimal-k.ensures.len in the_few)) c.decimal-k.ensures.len))
