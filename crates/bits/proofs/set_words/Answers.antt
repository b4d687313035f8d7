use Prim.Native.Nat.{◌+◌, ◌-◌, ◌*◌, ◌/◌}
use mathlib.Core.Path.{◌≡◌, ap}
use native.Mathlib.Omega.{arith}
use Rattle.format.specs.Sheet.{first_clear}
use Rattle.basics.proofs.Bytes.{bytes_of}
use Rattle.bits.proofs.Clear.{clear_on, word_set}
use Rattle.bits.proofs.set_words.Goals as goal

pub loop-k-init : goal.loop-k-init
loop-k-init c =
    let A = c.args in
    let all : A.n - 0 ≡ A.n = omega arith in
    ap (first_clear A.s.now 0) all

pub returns-then-low : goal.returns-then-low
returns-then-low c = record { upper_bound = omega arith; result_value = c.loop-k.invariant }

pub loop-k-preserved : goal.loop-k-preserved
loop-k-preserved c =
    let A = c.args in
    let k = c.loop-k.k in
    let next : 64 * k + 64 ≡ 64 * (k + 1) = omega arith in
    let ones = word_set A.s.now k (bytes_of A.s.now (λ i. (c.type_inv.s i).fits)) (omega arith)
    (omega (arith, c.low.ensures, c.if-low.false)) in
    rw (← next) (clear_on A.s.now A.n (64 * k) 64 (omega arith) ones c.loop-k.invariant)

pub returns : goal.returns
returns c =
    let e : c.loop-k.k ≡ c.args.n / 64 = omega arith in
    record { upper_bound = omega arith; result_value = rw e at c.loop-k.invariant }
