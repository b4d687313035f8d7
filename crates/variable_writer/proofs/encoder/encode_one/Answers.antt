-- `variable_writer::encoder::encode_one` meets its contract: the lead byte, and after it the blocks. Assumes nothing.
use Prim.Native.Nat.{◌<◌}
use native.Mathlib.Omega.{arith}
use lib.ListN.{length, drop, length-drop}
use Rattle.variable_writer.proofs.Whole.{lead_room, one_empty, data_room, one_data}
use Rattle.variable_writer.proofs.encoder.encode_one.Goals as goal

pub put_byte-requires : goal.put_byte-requires
put_byte-requires c =
    (let the_lead : c.args.at < length c.args.out.now = let A = c.args in
    lead_room (drop A.from A.val.now) A.out.now A.at A.options.descending c.requires.val_in_bounds in the_lead)

pub returns-then-from-val : goal.returns-then-from-val
returns-then-from-val c =
    let A = c.args in
    one_empty (drop A.from A.val.now) A.out.now A.at A.options.descending c.requires.val_in_bounds _
    (omega (arith, c.if-from-val.true, length-drop A.from A.val.now)) c.put_byte.ensures

pub put_byte-requires-2 : goal.put_byte-requires-2
put_byte-requires-2 c =
    (let the_lead : c.args.at < length c.args.out.now = let A = c.args in
    lead_room (drop A.from A.val.now) A.out.now A.at A.options.descending c.requires.val_in_bounds in the_lead)

pub encode_data-requires : goal.encode_data-requires
encode_data-requires c =
    let A = c.args in
    let some = (let the_some_data : 0 < length (drop c.args.from c.args.val.now) = let A = c.args in
    omega (arith, c.if-from-val.false, c.requires.from_in_bounds, length-drop A.from A.val.now) in the_some_data) in
    record { in_bounds = c.requires.in_bounds; from_in_bounds = omega (arith, some, length-drop A.from A.val.now); val_in_bounds = data_room (drop A.from A.val.now) A.out.now A.at A.options.descending c.requires.val_in_bounds some _ c.put_byte-2.ensures }

pub returns : goal.returns
returns c =
    let A = c.args in
    one_data (drop A.from A.val.now) A.out.now A.at A.options.descending c.requires.val_in_bounds ((let the_some_data : 0 < length (drop c.args.from c.args.val.now) = let A = c.args in
    omega (arith, c.if-from-val.false, c.requires.from_in_bounds, length-drop A.from A.val.now) in the_some_data)) _
    c.put_byte-2.ensures _ _ c.encode_data.ensures
