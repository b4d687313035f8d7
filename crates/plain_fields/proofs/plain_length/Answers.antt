-- `plain_fields::plain_length` meets its contract: 0 says nothing, and the last arm takes the kinds of one width.
-- Assumes nothing.
use Rattle.basics.proofs.Sorts.{wide_arm}
use Rattle.plain_fields.proofs.Arms.{plain_field}
use Rattle.plain_fields.proofs.plain_length.Goals as goal

pub returns-in_default : goal.returns-in_default
returns-in_default c some =
    let A = c.args in
    let arm = wide_arm A.column.kind c.in_default.not-Bool c.in_default.not-Variable in
    plain_field A.column.kind A.column.options arm c.if-options.false c.width.result c.width.ensures
