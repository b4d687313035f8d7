-- `fixed_decoder::slots::slot` meets its contract: the words of the field, or those of 0. Assumes nothing.
use mathlib.Core.Path.{refl}
use Rattle.fixed_decoder.proofs.Storing.{slot_whole, word_left, took_word, took_interval}
use Rattle.fixed_decoder.proofs.slots.slot.Goals as goal

pub returns-then-width-eq16 : goal.returns-then-width-eq16
returns-then-width-eq16 c =
    let A = c.args in
    took_interval A.coding A.width A.options A.row.now c.requires.good _ refl
    A.out.now _ A.at c.if-width-eq16.true c.put_interval.ensures

pub put_word-requires-clause-width_in_bounds : goal.put_word-requires-clause-width_in_bounds
put_word-requires-clause-width_in_bounds c =
    slot_whole c.args.coding c.args.width c.args.options c.args.row.now c.requires.good c.requires.worded

pub returns : goal.returns
returns c =
    let A = c.args in
    took_word A.coding A.width A.options A.row.now c.requires.good _ refl
    A.out.now _ A.at (word_left A.width c.requires.worded c.if-width-eq16.false) c.put_word.ensures
