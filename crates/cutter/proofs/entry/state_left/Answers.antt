-- `cutter::entry::state_left` meets its contract. Assumes nothing.
use mathlib.Core.Path.{ap, sym, ◌∙◌}
use Rattle.cutter.specs.Calls.{leaves}
use Rattle.cutter.proofs.entry.state_left.Goals as goal

pub returns-in-Moved : goal.returns-in-Moved
returns-in-Moved c =
    c.state_at.ensures ∙ ap (leaves c.args.state) (sym c.in-Moved.is)

pub returns-in-Stopped : goal.returns-in-Stopped
returns-in-Stopped c =
    c.refused.ensures ∙ ap (leaves c.args.state) (sym c.in-Stopped.is)
