-- `byte_order::word` meets its contract: the bytes of what was read, turned round. Assumes nothing.
use mathlib.Core.Path.{ap, ◌∙◌}
use mathlib.Core.List.{reverse}
use Rattle.number.proofs.Words.{read_back}
use Rattle.byte_order.proofs.word.Goals as goal

pub returns : goal.returns
returns c =
    c.encode.ensures
    ∙ ap reverse
    (read_back 8 c.args.s.now c.args.at c.low.result (λ i. (c.type_inv.s i).fits) c.requires c.low.ensures)
