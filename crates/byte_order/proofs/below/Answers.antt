-- `byte_order::below` meets its contract: `Less` is the answer where a is below b, and nowhere else. Assumes nothing.
use mathlib.Core.Path.{ap, ◌∙◌}
use Rattle.std.specs.Ordering.{is_lt}
use Rattle.format.specs.Order.{cmp}
use Rattle.byte_order.proofs.Answered.{less}
use Rattle.byte_order.proofs.below.Goals as goal

pub returns : goal.returns
returns c =
    let args = c.args in
    c.is_lt.ensures ∙ ap is_lt c.compare.ensures ∙ less (cmp args.a.now args.b.now)
