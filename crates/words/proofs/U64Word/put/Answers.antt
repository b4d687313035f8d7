-- `words::Word::put` of a u64 meets its contract: its bytes are written over those that stood there. Assumes nothing.
use mathlib.Core.Path.{◌∙◌}
use Rattle.words.proofs.Words.{written}
use Rattle.words.proofs.U64Word.put.Goals as goal

pub returns : goal.returns
returns c = written 8 c.args.at c.args.self c.args.out.now (c.copy_from_slice.ensures.after ∙ c.to_le_bytes.ensures) c.requires
