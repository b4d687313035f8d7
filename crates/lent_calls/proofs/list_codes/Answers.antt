-- `lent_calls::list_codes` meets its contract: list and 29 as `column_room` ensures them, and the codes of the columns. Assumes nothing.
use Rattle.std.proofs.lemmas.Result.{err_from_is_err_and}
use Rattle.lent_calls.proofs.ListRead.{no_codes, codes_written, roomy}
use Rattle.lent_calls.proofs.list_codes.Goals as goal

pub returns-in_err-schema : goal.returns-in_err-schema
returns-in_err-schema c =
    let p = err_from_is_err_and c.from_residual.result c.from_residual.ensures.1 in
    rw (p.1, p.2) (no_codes _ _ _ (c.column_room.ensures _ c.read_list.ensures) _ c.in_err-schema.was)

-- ---- nothing is at fault
pub put_codes-requires : goal.put_codes-requires
put_codes-requires c =
    let there = roomy c.args.list.now c.args.codes.now _ (c.column_room.ensures _ c.read_list.ensures) _ c.in_ok-schema.was in
    record { count_le_max_columns = there.0; count_in_bounds = there.1 }

pub returns : goal.returns
returns c = codes_written _ _ _ (c.column_room.ensures _ c.read_list.ensures) _ c.in_ok-schema.was _ c.put_codes.ensures
