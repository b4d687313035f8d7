-- `value_order::bytes::order_variable` meets its contract: each value lies between two ends that do not fall, within the bytes that the last
-- end says. Assumes nothing.
use Rattle.sheet_slots.proofs.Values.{between}
use Rattle.number_order.proofs.Spelled.{ordered_as}
use Rattle.value_order.proofs.bytes.order_variable.Goals as goal

pub slice_bounds-compare-end : goal.slice_bounds-compare-end
slice_bounds-compare-end c =
    (between _ _ _ _ _ c.requires.ended c.requires.n_le_max_rows.1 c.end_at.ensures.0 c.end_at-2.ensures.0).stops

pub slice_bounds-compare-end-2 : goal.slice_bounds-compare-end-2
slice_bounds-compare-end-2 c =
    (between _ _ _ _ _ c.requires.ended_2 c.requires.m_le_max_rows.1 c.end_at-3.ensures.0 c.end_at-4.ensures.0).stops

pub returns : goal.returns
returns c =
    ordered_as (record { says = c.compare.ensures })
    (between _ _ _ _ _ c.requires.ended c.requires.n_le_max_rows.1 c.end_at.ensures.0 c.end_at-2.ensures.0).value
    (between _ _ _ _ _ c.requires.ended_2 c.requires.m_le_max_rows.1 c.end_at-3.ensures.0 c.end_at-4.ensures.0).value
