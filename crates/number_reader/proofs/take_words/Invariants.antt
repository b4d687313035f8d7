-- `number_reader::take_words` meets its contract: each turn writes a word, and the top one is written last. Assumes nothing.
use Rattle.number_reader.proofs.Words.{Left}
use Rattle.number_reader.proofs.take_words.Given as goal

abbrev pub invariant-loop-left : goal.invariant-loop-left
invariant-loop-left l = Left l.descending l.row l.from l.words l.initial.out l.at l.out l.left l.place
