-- `printer::print_input` meets its contract: 25 where the input is too long or its header cut, at whichever part, and else the text of
-- the sheet. Assumes nothing.
use native.Mathlib.Omega.{arith}
use Rattle.texts.proofs.Written.{wrote_as}
use Rattle.printer.proofs.Output.{long_output, length_output, list_output, sheet_output}
use Rattle.printer.proofs.print_input.Goals as goal

-- over 32,768 bytes
pub returns-then-input-gt-INPUT_ROOM : goal.returns-then-input-gt-INPUT_ROOM
returns-then-input-gt-INPUT_ROOM c =
    wrote_as c.put_refused.ensures (long_output c.args.input.now c.if-input-gt-INPUT_ROOM.true)

pub returns-then-input-lt2 : goal.returns-then-input-lt2
returns-then-input-lt2 c =
    wrote_as c.put_refused-then-input-lt2.ensures (length_output _ c.if-input-gt-INPUT_ROOM.false (omega arith))

pub returns-then-input-sheet_start : goal.returns-then-input-sheet_start
returns-then-input-sheet_start c =
    wrote_as c.put_refused-then-input-sheet_start.ensures (list_output _ c.if-input-gt-INPUT_ROOM.false (omega arith) _ c.low.ensures (omega arith))

pub returns : goal.returns
returns c =
    wrote_as c.print_sheet.ensures
    (sheet_output _ c.if-input-gt-INPUT_ROOM.false (omega arith) _ c.low.ensures (omega arith) _ c.low-n.ensures)
