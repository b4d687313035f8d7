-- `sheet_text::print_sheet` meets its contract: the line of encode's refusal, or the rows that its offsets cut. Assumes nothing.
use mathlib.Core.Path.{ap}
use native.Mathlib.Omega.{arith}
use lib.ListN.{length}
use Rattle.texts.proofs.Written.{wrote_as}
use Rattle.format.specs.Described.{spelled}
use Rattle.sheet_text.proofs.SheetLines.{sheet_short, refused_text, rows_cuts, rows_text}
use Rattle.sheet_text.proofs.print_sheet.Goals as goal

pub returns-in-Err : goal.returns-in-Err
returns-in-Err c =
    let e = c.encode-answer in
    wrote_as c.put_refused.ensures
    (refused_text _ _ _ _ _ _ e.ensures _ c.in-Err.is)

pub put_rows-requires : goal.put_rows-requires
put_rows-requires c =
    let e = c.encode-answer in
    let text = rows_text _ _ _ _ _ _ e.ensures _ _ c.in_default.is in
    record { cuts = rows_cuts _ _ _ _ _ _ e.ensures _ _ c.in_default.is; offsets_in_bounds = omega (arith, ap length text, sheet_short (spelled c.args.list.now) c.args.n c.args.sheet.now, c.requires) }

pub returns : goal.returns
returns c =
    let e = c.encode-answer in
    wrote_as c.put_rows.ensures
    (rows_text _ _ _ _ _ _ e.ensures _ _ c.in_default.is)
