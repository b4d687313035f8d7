-- `moves::lead::lead` meets its contract: by the shape of the kind. Assumes nothing.
use mathlib.Core.Path.{ap, sym, ◌∙◌}
use Rattle.format.specs.declared.Kind.{Kind}
use Rattle.format.specs.Kinds.{shape}
use Rattle.format.specs.Cutter.{lead_move}
use Rattle.moves.proofs.Arms.{fixed_lead_lem}
use Rattle.moves.proofs.lead.lead.Goals as goal

pub returns-in-Variable : goal.returns-in-Variable
returns-in-Variable c =
    let a = c.args in
    c.lead_variable.ensures ∙ ap (λ (k : Kind). lead_move (shape k) a.options a.at a.byte) (sym c.in-Variable.is)

pub returns-in_default : goal.returns-in_default
returns-in_default c =
    let a = c.args in
    c.lead_fixed.ensures ∙ fixed_lead_lem a.kind _ a.options a.at a.byte c.in_default.not-Variable c.width.ensures
