-- `value_moves::plain_byte` meets its contract. Assumes nothing.
use Rattle.value_moves.proofs.Arms.{any_on, any_whole}
use Rattle.value_moves.proofs.plain_byte.Goals as goal

pub returns-then-seen-width : goal.returns-then-seen-width
returns-then-seen-width c = λ k spelt a. let A = c.args in any_on k A.width A.options A.seen spelt A.at A.byte a c.if-seen-width.true

pub returns : goal.returns
returns c = λ k spelt a. let A = c.args in any_whole k A.width A.options A.seen spelt A.at A.byte a c.if-seen-width.false
