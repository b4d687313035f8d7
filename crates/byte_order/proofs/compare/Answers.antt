use Prim.Native.Nat.{ℕ, ◌-◌, ◌+◌, ◌≤◌}
use mathlib.Core.Path.{◌≡◌, ◌∙◌}
use native.Mathlib.Omega.{arith}
use Rattle.byte_order.proofs.Alike.{Alike, Decides, alike_none, alike_ends, alike_whole, words_decide}
use Rattle.byte_order.proofs.compare.Goals.{After-word-y-2, else-loop-i-test, then-loop-i-test+else-x-y+else-last-i-gt8}
use Rattle.byte_order.proofs.compare.Goals as goal

pub loop-i-init : goal.loop-i-init
loop-i-init c = alike_none _ _

pub returns-then-x-y : goal.returns-then-x-y
returns-then-x-y c =
    (words_decide c.loop-i.invariant c.loop-i.i (omega arith) (omega arith) c.word-x.type_inv c.word-y.type_inv
    c.word-x.ensures c.word-y.ensures).differs c.if-x-y.true _ c.cmp.ensures

pub loop-i-preserved : goal.loop-i-preserved
loop-i-preserved c =
    (words_decide c.loop-i.invariant c.loop-i.i (omega arith) (omega arith) c.word-x.type_inv c.word-y.type_inv
    c.word-x.ensures c.word-y.ensures).next c.if-x-y.false

-- ---- the last word
-- the words of the turns reach it, also where the last turn leaves the loop
reached : (c : After-word-y-2) → (i : ℕ) × ((c.min-k.result - 8 ≤ i) × Alike c.args.a.now c.args.b.now i)
reached c =
    elim c.loop-i-test.branch [
      | else-loop-i-test w ↦ (c.loop-i.i, (w.loop-i-test.false, c.loop-i.invariant))
      | then-loop-i-test+else-x-y+else-last-i-gt8 w ↦ (
        c.loop-i.i + 8,
        (
          omega (arith, w.loop-i-test.true),
          (words_decide c.loop-i.invariant c.loop-i.i (omega arith) (omega (arith, w.loop-i-test.true)) w.word-x.type_inv
              w.word-y.type_inv w.word-x.ensures w.word-y.ensures).next w.if-x-y.false,
        ),
      )
    ]

last_decides : (c : After-word-y-2) → Decides c.args.a.now c.args.b.now (c.min-k.result - 8) 8 c.word-x-2.result c.word-y-2.result
last_decides c =
    let r = reached c in
    words_decide {i = r.0} r.1.1 (c.min-k.result - 8) r.1.0 (omega arith) c.word-x-2.type_inv c.word-y-2.type_inv
    c.word-x-2.ensures c.word-y-2.ensures

pub returns-then-x-y-2 : goal.returns-then-x-y-2
returns-then-x-y-2 c =
    (last_decides (goal.at.returns-then-x-y-2 c).After-word-y-2).differs c.if-x-y-2.true _ c.cmp-then-x-y-2.ensures

tied : (c : After-word-y-2) → c.word-x-2.result ≡ c.word-y-2.result → Alike c.args.a.now c.args.b.now (c.min-k.result - 8 + 8)
tied c e = (last_decides c).next e

-- and there the lengths decide
pub returns-then-n-m : goal.returns-then-n-m
returns-then-n-m c =
    c.cmp-then-n-m.ensures ∙ alike_ends (tied (goal.at.returns-then-n-m c).After-word-y-2 c.if-x-y-2.false) (omega arith)

pub returns : goal.returns
returns c = alike_whole (tied (goal.at.returns c).After-word-y-2 c.if-x-y-2.false) (omega arith) c.if-n-m.false
