-- `list_filler::read_list` meets its contract: list and 29 as `column_room` ensures them, and the columns in front. Assumes nothing.
use Rattle.std.proofs.Common.{sym, ap, ◌∙◌, List, ◌++◌}
use lib.ListN.{drop}
use lib.Seq.{length-take-le}
use Rattle.std.proofs.lemmas.Result.{err_from_is_err_and}
use Rattle.format.specs.declared.Column.{Column}
use Rattle.list_filler.proofs.Fills.{none_filled, room, few, there, all_filled}
use Rattle.list_filler.proofs.read_list.Goals as goal

pub returns-in_err-schema : goal.returns-in_err-schema
returns-in_err-schema c =
    let p = err_from_is_err_and c.from_residual.result c.from_residual.ensures.1 in
    rw (p.1, p.2) (none_filled _ _ _ (c.column_room.ensures _ c.read_list.ensures) _ c.in_err-schema.was)

-- ---- nothing is at fault
pub slice_bounds-copy_from_slice-end : goal.slice_bounds-copy_from_slice-end
slice_bounds-copy_from_slice-end c = room _ _ _ (c.column_room.ensures _ c.read_list.ensures) _ c.in_ok-schema.was

pub slice_bounds-copy_from_slice-end-2 : goal.slice_bounds-copy_from_slice-end-2
slice_bounds-copy_from_slice-end-2 c =
    sym (length-take-le _ _ (room _ _ _ (c.column_room.ensures _ c.read_list.ensures) _ c.in_ok-schema.was))

pub shared_ref_as_front-copy_from_slice : goal.shared_ref_as_front-copy_from_slice
shared_ref_as_front-copy_from_slice c = few _ _ _ (c.column_room.ensures _ c.read_list.ensures) _ c.in_ok-schema.was

pub copy_from_slice-requires : goal.copy_from_slice-requires
copy_from_slice-requires c =
    length-take-le _ _ (room _ _ _ (c.column_room.ensures _ c.read_list.ensures) _ c.in_ok-schema.was)
    ∙ sym (there _ c.args.columns.now _ (c.column_room.ensures _ c.read_list.ensures) _ c.in_ok-schema.was)

pub returns : goal.returns
returns c =
    all_filled _ _ _ (c.column_room.ensures _ c.read_list.ensures) _ c.in_ok-schema.was _
    (ap (λ (front : List Column). front ++ drop c.in_ok-schema.schema.count c.args.columns.now) c.copy_from_slice.ensures.after)
