-- `plain_fields::plain_lengths` meets its contract. The invariant: the lengths of the columns passed are stored.
-- Assumes nothing.
use lib.ListN.{length}
use Rattle.plain_fields.proofs.Stored.{Stored}
use Rattle.plain_fields.proofs.plain_lengths.Given as goal

abbrev pub invariant-loop-c : goal.invariant-loop-c
invariant-loop-c l = Stored l.column-items l.lengths (length l.column-items) l.c
