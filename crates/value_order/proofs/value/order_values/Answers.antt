-- `value_order::value::order_values` meets its contract: each call is the definition's case for the kinds that are left to it. Assumes
-- nothing.
use Rattle.basics.proofs.Sorts.{wide_arm}
use Rattle.sheet_slots.proofs.Values.{variable_asked, wide_asked}
use Rattle.value_order.proofs.value.order_values.Goals as goal

pub order_variable-requires-clause-ended : goal.order_variable-requires-clause-ended
order_variable-requires-clause-ended c =
    let A = c.args in
    variable_asked A.n A.i A.a.now c.requires.n_le_max_rows.1 c.requires.passes c.in-Variable.is

pub order_variable-requires-clause-ended_2 : goal.order_variable-requires-clause-ended_2
order_variable-requires-clause-ended_2 c =
    let A = c.args in
    variable_asked A.m A.j A.b.now c.requires.m_le_max_rows.1 c.requires.passes_2 c.in-Variable.is

pub order_wide-requires : goal.order_wide-requires
order_wide-requires c =
    let A = c.args in
    let w = wide_arm A.column.kind c.in_default-kind.not-Bool c.in_default.not-Variable in
    record {
      wide_kind = w;
      kind_in_bounds =
          (wide_asked A.n A.i A.a.now c.requires.n_le_max_rows.1 c.requires.passes w, wide_asked A.m A.j A.b.now c.requires.m_le_max_rows.1 c.requires.passes_2 w);
    }
