-- `checks::column_room` meets its contract: the list as it was read, then the room. Assumes nothing.
use Rattle.std.proofs.lemmas.Result.{err_from_is_err_and}
use Rattle.checks.proofs.Begun.{bad_spelled, short_columns, enough_columns}
use Rattle.checks.proofs.column_room.Goals as goal

pub returns-in_err-read : goal.returns-in_err-read
returns-in_err-read c =
    let p = err_from_is_err_and c.from_residual.result c.from_residual.ensures.1 in
    λ list l.
    rw (p.1, p.2) (bad_spelled list _ _ l _ c.in_err-read.was)

pub returns-then-room-read : goal.returns-then-room-read
returns-then-room-read c = λ list l. short_columns list _ _ l _ c.in_ok-read.was c.if-room-read.true

pub returns : goal.returns
returns c = λ list l. enough_columns list _ _ l _ c.in_ok-read.was c.if-room-read.false
