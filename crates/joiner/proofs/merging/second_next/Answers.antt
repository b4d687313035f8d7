-- `joiner::merging::second_next` meets its contract: its tests are the definition's. Assumes nothing.
use borrow.Author.Tests.{le-leb, lt-leb}
use Rattle.laws.proofs.Cuts.{cuts_lie}
use Rattle.joiner.proofs.merging.second_next.Goals as goal

pub returns-then-m-j : goal.returns-then-m-j
returns-then-m-j c = rw (le-leb _ _ c.if-m-j.true)

pub returns-then-n-i : goal.returns-then-n-i
returns-then-n-i c = rw (lt-leb _ _ c.if-m-j.false, le-leb _ _ c.if-n-i.true)

pub row_below-requires : goal.row_below-requires
row_below-requires c = record { lies = cuts_lie c.requires.cuts_2 _ c.if-m-j.false; lies_2 = cuts_lie c.requires.cuts _ c.if-n-i.false }

pub returns : goal.returns
returns c =
    rw (lt-leb _ _ c.if-m-j.false, lt-leb _ _ c.if-n-i.false) c.row_below.ensures
