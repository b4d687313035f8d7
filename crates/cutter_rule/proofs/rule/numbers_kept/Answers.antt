-- `cutter_rule::rule::numbers_kept` meets its contract. Assumes nothing.
use mathlib.Core.Path.{sym, ◌∙◌}
use native.Mathlib.Omega.{arith}
use Rattle.format.specs.Numbers.{four}
use Rattle.cutter_rule.proofs.Rules.{list_number, total_other, total_number, fault_none, fault_far, fault_number}
use Rattle.cutter_rule.proofs.rule.numbers_kept.Goals as goal

pub returns-then-within : goal.returns-then-within
returns-then-within c =
    let a = c.args in
    list_number (four a.number a.second a.third a.fourth) (sym c.within.ensures ∙ c.if-within.true)

pub returns-then-second : goal.returns-then-second
returns-then-second c =
    let a = c.args in
    total_other (four a.number a.second a.third a.fourth) (sym c.within.ensures ∙ c.if-within.false) c.if-number-eq12.true c.if-second.true

pub returns-then-number-eq12 : goal.returns-then-number-eq12
returns-then-number-eq12 c =
    let a = c.args in
    total_number (four a.number a.second a.third a.fourth) (sym c.within.ensures ∙ c.if-within.false) c.if-number-eq12.true c.if-second.false

pub returns-then-not-fault_kept : goal.returns-then-not-fault_kept
returns-then-not-fault_kept c =
    let a = c.args in
    fault_none (four a.number a.second a.third a.fourth) (sym c.within.ensures ∙ c.if-within.false) c.if-number-eq12.false
    (sym c.fault_kept.ensures ∙ c.if-not-fault_kept.true)

pub returns-then-second-ge-MAX_TOTAL : goal.returns-then-second-ge-MAX_TOTAL
returns-then-second-ge-MAX_TOTAL c =
    let a = c.args in
    fault_far (four a.number a.second a.third a.fourth) (sym c.within.ensures ∙ c.if-within.false) c.if-number-eq12.false
    (sym c.fault_kept.ensures ∙ c.if-not-fault_kept.false) (omega arith)

pub returns-then-second-fourth : goal.returns-then-second-fourth
returns-then-second-fourth c =
    let a = c.args in
    fault_far (four a.number a.second a.third a.fourth) (sym c.within.ensures ∙ c.if-within.false) c.if-number-eq12.false
    (sym c.fault_kept.ensures ∙ c.if-not-fault_kept.false) (omega arith)

pub returns : goal.returns
returns c =
    let a = c.args in
    fault_number (four a.number a.second a.third a.fourth) (sym c.within.ensures ∙ c.if-within.false) c.if-number-eq12.false
    (sym c.fault_kept.ensures ∙ c.if-not-fault_kept.false) (omega arith)
