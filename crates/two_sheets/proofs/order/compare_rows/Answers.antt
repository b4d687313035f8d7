-- `two_sheets::order::compare_rows` meets its contract: each row lies between its offsets. Assumes nothing.
use borrow.Author.Rules.{sfits_of}
use mathlib.Core.Path.{◌∙◌}
use native.Mathlib.Numerals.{add-one}
use mir.Syntax.{w32}
use mir.Facts.{to_z-of_z}
use Rattle.two_sheets.proofs.order.compare_rows.Goals as goal

pub returns : goal.returns
returns c =
    to_z-of_z {w = w32} (sfits_of c.compare.type_inv) ∙ (rw (add-one c.args.r, add-one c.args.q) at c.compare.ensures.answers)
