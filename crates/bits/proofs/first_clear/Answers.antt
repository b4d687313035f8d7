use mathlib.Core.Path.{◌≡◌, sym, ◌∙◌}
use native.Mathlib.Omega.{arith}
use Rattle.bits.proofs.Clear.{clear_on, set_one, clear_here, clear_end}
use Rattle.bits.proofs.first_clear.Goals as goal

pub returns-then-not-bit : goal.returns-then-not-bit
returns-then-not-bit c =
    let A = c.args in
    let clear = sym c.bit.ensures ∙ c.if-not-bit.true in
    clear_here A.s.now A.n c.loop-row.row (omega arith) clear ∙ c.loop-row.invariant

pub loop-row-preserved : goal.loop-row-preserved
loop-row-preserved c =
    let A = c.args in
    let row = c.loop-row.row in
    let set = set_one A.s.now row (sym c.bit.ensures ∙ c.if-not-bit.false) in
    clear_on A.s.now A.n row 1 (omega arith) set c.loop-row.invariant

pub returns : goal.returns
returns c =
    let A = c.args in
    let e : A.n ≡ c.loop-row.row = omega arith in
    e ∙ clear_end A.s.now A.n c.loop-row.row (omega arith) ∙ c.loop-row.invariant
