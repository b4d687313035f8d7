-- `cutter::entry::finish` meets its contract. Assumes nothing.
use mathlib.Core.Path.{sym, ◌∙◌}
use Rattle.std.proofs.lemmas.Result.{err_from_is_err_and}
use Rattle.cutter.proofs.Entering.{finish_broken, finish_stands, finish_within, finish_done}
use Rattle.cutter.proofs.entry.finish.Goals as goal

pub returns-then-not-keeps : goal.returns-then-not-keeps
returns-then-not-keeps c =
    finish_broken c.args.state (sym c.keeps.ensures ∙ c.if-not-keeps.true)

pub returns-in_err-state : goal.returns-in_err-state
returns-in_err-state c =
    let p = err_from_is_err_and c.from_residual.result c.from_residual.ensures.1 in
    rw (p.1, p.2) (finish_stands c.args.state (sym c.keeps.ensures ∙ c.if-not-keeps.false) _ c.in_err-state.was)

pub returns-then-row-gt0 : goal.returns-then-row-gt0
returns-then-row-gt0 c =
    finish_within c.args.state (sym c.keeps.ensures ∙ c.if-not-keeps.false) c.in_ok-state.was c.if-row-gt0.true

pub returns : goal.returns
returns c =
    finish_done c.args.state (sym c.keeps.ensures ∙ c.if-not-keeps.false) c.in_ok-state.was c.if-row-gt0.false
