-- `flag_packer::pack_valid` meets its contract: what the test tells is the validity of each slot. Assumes nothing.
use borrow.Author.Rules.{rules}
use Rattle.flag_packer.specs.Flags.{valid_at}
use Rattle.flag_packer.proofs.pack_valid.Goals as goal

pub pack-requires-clause-may_ask : goal.pack-requires-clause-may_ask
pack-requires-clause-may_ask c = λ r l. search (c.requires.readable r l)

pub returns : goal.returns
returns c = c.pack.ensures (valid_at c.args.column c.args.rows.now) (λ r l on e. search rules)
