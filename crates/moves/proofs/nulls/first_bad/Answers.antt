-- `moves::nulls::first_bad` meets its contract. Assumes nothing.
use borrow.Author.Tests.{eq-eqb, ne_eqb}
use Rattle.moves.proofs.nulls.first_bad.Goals as goal

pub returns-then-known-ne0 : goal.returns-then-known-ne0
returns-then-known-ne0 c = rw (ne_eqb _ _ c.if-known-ne0.true)

pub returns-then-byte-eq0 : goal.returns-then-byte-eq0
returns-then-byte-eq0 c = rw (eq-eqb _ _ c.if-known-ne0.false, eq-eqb _ _ c.if-byte-eq0.true)

pub returns : goal.returns
returns c = rw (eq-eqb _ _ c.if-known-ne0.false, ne_eqb _ _ c.if-byte-eq0.false)
