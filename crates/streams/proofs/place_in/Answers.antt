-- `streams::place_in` meets its contract. Assumes nothing.
use mathlib.Core.Path.{sym, ap}
use mathlib.Core.Bool.{Bool, cond}
use native.Mathlib.Omega.{arith}
use borrow.Author.Tests.{lt-ltb, le-ltb}
use Rattle.streams.proofs.place_in.Goals as goal

pub returns-then-at-size : goal.returns-then-at-size
returns-then-at-size c =
    let a = c.args in
    (sym (ap (λ (t : Bool). cond t a.at a.size) (lt-ltb a.at a.size c.if-at-size.true)), omega (arith, c.if-at-size.true))

pub returns : goal.returns
returns c =
    let a = c.args in
    (sym (ap (λ (t : Bool). cond t a.at a.size) (le-ltb a.at a.size c.if-at-size.false)), omega arith)
