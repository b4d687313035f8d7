-- `flag_packer::pack_true` meets its contract: what the test tells is the bool of each slot. Assumes nothing.
use borrow.Author.Rules.{rules}
use Rattle.flag_packer.specs.Flags.{true_at}
use Rattle.flag_packer.proofs.pack_true.Goals as goal

pub pack-requires-clause-may_ask : goal.pack-requires-clause-may_ask
pack-requires-clause-may_ask c = λ r l. search (c.requires.readable r l, c.requires.boolean)

pub returns : goal.returns
returns c = c.pack.ensures (true_at c.args.column c.args.rows.now) (λ r l on e. search rules)
