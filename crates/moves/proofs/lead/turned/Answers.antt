-- `moves::lead::turned` meets its contract. Assumes nothing.

use Rattle.moves.proofs.lead.turned.Goals as goal

pub returns-then-options : goal.returns-then-options
returns-then-options c = rw c.if-options.true

pub returns : goal.returns
returns c = rw c.if-options.false
