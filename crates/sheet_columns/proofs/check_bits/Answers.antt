-- `sheet_columns::check_bits` meets its contract: each return is the definition's case for the tests that led there.
-- Assumes nothing.
use borrow.Author.Tests.{lt-ltb, le-ltb}
use mathlib.Core.Path.{sym, ◌∙◌}
use Rattle.sheet_columns.proofs.check_bits.Goals as goal

pub returns-then-part-packed : goal.returns-then-part-packed
returns-then-part-packed c = simp (lt-ltb _ _ (rw c.packed.ensures.0 at c.if-part-packed.true))

pub returns-then-spare : goal.returns-then-spare
returns-then-spare c =
    simp (
      le-ltb _ _ (rw c.packed.ensures.0 at c.if-part-packed.false),
      sym c.spare.ensures ∙ c.if-spare.true,
    )

pub returns : goal.returns
returns c =
    simp (
      le-ltb _ _ (rw c.packed.ensures.0 at c.if-part-packed.false),
      sym c.spare.ensures ∙ c.if-spare.false,
    )
