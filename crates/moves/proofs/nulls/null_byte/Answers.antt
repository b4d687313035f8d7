-- `moves::nulls::null_byte` meets its contract. Assumes nothing.
use borrow.Author.Tests.{eq-eqb, ne_eqb}
use Rattle.moves.proofs.Arms.{null_on, null_last}
use Rattle.moves.proofs.nulls.null_byte.Goals as goal

pub returns-then-seen-width : goal.returns-then-seen-width
returns-then-seen-width c =
    let a = c.args in
    null_on a.width a.seen a.known a.at a.byte _ c.first_bad-first.ensures c.if-seen-width.true

pub returns-then-first-eq0 : goal.returns-then-first-eq0
returns-then-first-eq0 c =
    let a = c.args in
    null_last a.width a.seen a.known a.at a.byte _ _ c.first_bad-first.ensures c.if-seen-width.false (rw (eq-eqb _ _ c.if-first-eq0.true))

pub returns : goal.returns
returns c =
    let a = c.args in
    null_last a.width a.seen a.known a.at a.byte _ _ c.first_bad-first.ensures c.if-seen-width.false (rw (ne_eqb _ _ c.if-first-eq0.false))
