-- `station_c::station_compare_sheets` meets its contract. Assumes nothing.
use native.Mathlib.Omega.{arith}
use Rattle.lent_calls.proofs.Comparing.{sheets_short, sheets_long}
use Rattle.station_c.proofs.station_compare_sheets.Goals as goal

pub returns-then-answer-lt-ANSWER_BYTES : goal.returns-then-answer-lt-ANSWER_BYTES
returns-then-answer-lt-ANSWER_BYTES c =
    let A = c.args in
    sheets_short A.answer.now (omega arith) _ A.n0 A.sheet0.now A.row0 A.n1 A.sheet1.now A.row1

pub put_answer-requires : goal.put_answer-requires
put_answer-requires c = c.if-answer-lt-ANSWER_BYTES.false

pub returns : goal.returns
returns c =
    sheets_long _ _ c.compare_sheets_listed.result c.if-answer-lt-ANSWER_BYTES.false c.put_answer.ensures _ _ _ _ _ _ _
    (c.compare_sheets_listed.ensures _ c.read_list.ensures)
