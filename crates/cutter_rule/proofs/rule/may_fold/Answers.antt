-- `cutter_rule::rule::may_fold` meets its contract. Assumes nothing.
use mathlib.Core.Path.{◌≡◌, ap, sym}
use Rattle.format.specs.declared.Kind.{Kind}
use Rattle.format.specs.Kinds.{shape}
use Rattle.format.specs.CutterRule.{may_fold}
use Rattle.cutter_rule.proofs.Rules.{plain_fold}
use Rattle.cutter_rule.proofs.rule.may_fold.Goals as goal

-- the matched case j of a kind
told : {k j : Kind} → k ≡ j → may_fold (shape j) ≡ may_fold (shape k)
told e = sym (ap (λ (x : Kind). may_fold (shape x)) e)

pub returns-in-F16 : goal.returns-in-F16
returns-in-F16 c = told c.in-F16.is

pub returns-in-F32 : goal.returns-in-F32
returns-in-F32 c = told c.in-F32.is

pub returns-in-F64 : goal.returns-in-F64
returns-in-F64 c = told c.in-F64.is

pub returns-in-Bool : goal.returns-in-Bool
returns-in-Bool c = told c.in-Bool.is

pub returns-in-Variable : goal.returns-in-Variable
returns-in-Variable c = told c.in-Variable.is

pub returns-in_default : goal.returns-in_default
returns-in_default c =
    let d = c.in_default in
    plain_fold c.args.kind (record { no_bool = d.not-Bool; no_half = d.not-F16; no_single = d.not-F32; no_double = d.not-F64; no_variable = d.not-Variable })
