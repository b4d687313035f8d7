use mathlib.Core.Path.{◌≡◌}
use Rattle.std.specs.declared.result.Result.TheVariants.{Ok}
use Rattle.format.specs.Entries.{fall_fault}
use Rattle.offsets.proofs.Falls.{begins, falls, rises, risen, few, late, fell, past, heavy, sound}
use Rattle.offsets.proofs.check_offsets.Goals.{After-loop-i}
use Rattle.offsets.proofs.check_offsets.Goals as goal

pub returns-then-offsets-n : goal.returns-then-offsets-n
returns-then-offsets-n c =
    let A = c.args in
    few A.n A.rows.now A.offsets.now c.if-offsets-n.true

pub returns-then-offsets-ne0 : goal.returns-then-offsets-ne0
returns-then-offsets-ne0 c =
    let A = c.args in
    late A.n A.rows.now A.offsets.now c.if-offsets-n.false c.if-offsets-ne0.true

pub loop-i-init : goal.loop-i-init
loop-i-init c = begins _ _

pub returns-then-offsets-i : goal.returns-then-offsets-i
returns-then-offsets-i c =
    let A = c.args in
    fell A.n A.rows.now A.offsets.now c.if-offsets-n.false c.if-offsets-ne0.false _
    (falls A.n A.offsets.now _ c.loop-i.invariant c.loop-i-test.true c.if-offsets-i.true)

pub loop-i-preserved : goal.loop-i-preserved
loop-i-preserved c =
    let A = c.args in
    rises A.n A.offsets.now _ c.loop-i.invariant c.loop-i-test.true c.if-offsets-i.false

rose : (c : After-loop-i) → fall_fault c.args.offsets.now 0 c.args.n ≡ Ok tt
rose c = risen c.args.n c.args.offsets.now _ c.loop-i.invariant c.loop-i-test.false

pub returns-then-rows-last : goal.returns-then-rows-last
returns-then-rows-last c =
    let A = c.args in
    past A.n A.rows.now A.offsets.now c.if-offsets-n.false c.if-offsets-ne0.false (rose (goal.at.returns-then-rows-last c).After-loop-i) c.if-rows-last.true

pub returns-then-last-gt-MAX_TOTAL : goal.returns-then-last-gt-MAX_TOTAL
returns-then-last-gt-MAX_TOTAL c =
    let A = c.args in
    heavy A.n A.rows.now A.offsets.now c.if-offsets-n.false c.if-offsets-ne0.false (rose (goal.at.returns-then-last-gt-MAX_TOTAL c).After-loop-i) c.if-rows-last.false c.if-last-gt-MAX_TOTAL.true

pub returns : goal.returns
returns c =
    let A = c.args in
    sound A.n A.rows.now A.offsets.now c.if-offsets-n.false c.if-offsets-ne0.false (rose (goal.at.returns c).After-loop-i) c.if-rows-last.false c.if-last-gt-MAX_TOTAL.false
