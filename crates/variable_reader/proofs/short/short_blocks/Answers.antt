use Prim.Native.Nat.{ℕ, ◌+◌, ◌*◌, ◌<◌}
use mathlib.Core.Path.{◌≡◌, sym, ap, subst, ◌∙◌}
use mathlib.Core.Bool.{Bool, cond}
use native.Mathlib.Omega.{arith}
use borrow.Author.Tests.{lt-ltb}
use Rattle.format.specs.Field.{block_size}
use Rattle.variable_reader.specs.Counted.{Told}
use Rattle.variable_reader.proofs.Counting.{Counting, counting_last, counting_next}
use Rattle.variable_reader.proofs.short.short_blocks.Goals as goal

-- each of the first four blocks is short
small : (k : ℕ) → k < 4 → 8 ≡ block_size k
small k h = sym (ap (λ (b : Bool). cond b 8 32) (lt-ltb k 4 h))

pub returns-then-end : goal.returns-then-end
returns-then-end c some =
    let counts = counting_last c.loop-k.invariant 8 (small _ c.loop-k-test.true) _ (omega arith)
    (c.from.ensures ∙ c.byte_at-end.ensures) _ c.last_block.ensures in
    subst (Told c.lengths.result.field c.lengths.result.value) counts (c.lengths.ensures some)

pub loop-k-preserved : goal.loop-k-preserved
loop-k-preserved c =
    let A = c.args in
    let k = c.loop-k.k in
    let next = counting_next c.loop-k.invariant 8 (small k c.loop-k-test.true) _ (omega arith) c.byte_at-end.ensures c.if-end.false
    (omega arith) in
    subst (λ (at : ℕ). Counting A.descending A.row.now at (k + 1) ((k + 1) * 8)) (omega arith)
    (subst (Counting A.descending A.row.now (1 + k * 9 + (8 + 1)) (k + 1)) (omega arith) next)
