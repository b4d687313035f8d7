-- `block_moves::end_byte` meets its contract: each answer by the tests before it. Assumes nothing.
use Prim.Native.Nat.{ℕ, ◌/◌, ◌^◌}
use mathlib.Core.Path.{ap, sym, ◌∙◌}
use native.Mathlib.Omega.{arith}
use Rattle.format.specs.Cutter.{lowest}
use Rattle.cutter_laws.proofs.RuleMoves.{size_most}
use Rattle.block_moves.proofs.Marks.{block_numbers, end_long, end_more, end_none, end_past, end_padded, end_over, end_whole}
use Rattle.block_moves.proofs.end_byte.Goals as goal

pub returns-then-bytes_before-size-gt-MAX_SLOT : goal.returns-then-bytes_before-size-gt-MAX_SLOT
returns-then-bytes_before-size-gt-MAX_SLOT c =
    let a = c.args in
    end_long a.k a.marks a.at a.end c.if-end-eq-BLOCK_CONTINUATION.true (omega arith)

pub overflow_add-result : goal.overflow_add-result
overflow_add-result c = omega (arith, block_numbers c.args.k c.requires.k_bound)

pub returns-then-end-eq-BLOCK_CONTINUATION : goal.returns-then-end-eq-BLOCK_CONTINUATION
returns-then-end-eq-BLOCK_CONTINUATION c =
    let a = c.args in
    end_more a.k a.marks a.at a.end c.if-end-eq-BLOCK_CONTINUATION.true (omega arith)

pub returns-then-used-lt1 : goal.returns-then-used-lt1
returns-then-used-lt1 c =
    let a = c.args in
    end_none a.k a.marks a.at a.end c.if-end-eq-BLOCK_CONTINUATION.false (omega arith)

pub returns-then-size-used : goal.returns-then-size-used
returns-then-size-used c =
    let a = c.args in
    end_past a.k a.marks a.at a.end c.if-end-eq-BLOCK_CONTINUATION.false (omega arith) (omega arith)

pub overflow_shr-padding : goal.overflow_shr-padding
overflow_shr-padding c = omega (arith, size_most c.args.k)

pub returns-then-padding-ne0 : goal.returns-then-padding-ne0
returns-then-padding-ne0 c =
    let a = c.args in
    let shift = ap (λ (n : ℕ). a.marks / 2 ^ n) c.from-used.ensures in
    end_padded a.k a.marks a.at a.end c.if-end-eq-BLOCK_CONTINUATION.false (omega arith) (omega arith) (λ z. c.if-padding-ne0.true (shift ∙ z)) _
    (omega (arith, c.lowest.ensures.0 ∙ ap (lowest 32) shift))

pub returns-then-bytes_before-used-gt-MAX_SLOT : goal.returns-then-bytes_before-used-gt-MAX_SLOT
returns-then-bytes_before-used-gt-MAX_SLOT c =
    let a = c.args in
    let shift = ap (λ (n : ℕ). a.marks / 2 ^ n) c.from-used.ensures in
    end_over a.k a.marks a.at a.end c.if-end-eq-BLOCK_CONTINUATION.false (omega arith) (omega arith) (sym shift ∙ c.if-padding-ne0.false) (omega arith)

pub returns : goal.returns
returns c =
    let a = c.args in
    let shift = ap (λ (n : ℕ). a.marks / 2 ^ n) c.from-used.ensures in
    end_whole a.k a.marks a.at a.end c.if-end-eq-BLOCK_CONTINUATION.false (omega arith) (omega arith) (sym shift ∙ c.if-padding-ne0.false) (omega arith)
