-- `number_order::order_words` meets its contract: the top word decides unless it ties, and so each word below it. Assumes nothing.
use Prim.Native.Nat.{ℕ, ◌+◌, ◌-◌, ◌*◌}
use mathlib.Core.Path.{◌≡◌, refl, ap, sym, ◌∙◌}
use native.Mathlib.Omega.{arith}
use Rattle.number_order.proofs.Found.{found_none, found_last}
use Rattle.number_order.proofs.WordSteps.{signed_top, unsigned_top, words_order, words_more}
use Rattle.number_order.proofs.order_words.Goals as goal

pub loop-left-init : goal.loop-left-init
loop-left-init c =
    let A = c.args in
    let n : ℕ = A.words - 1 in
    let whole = words_order signed_top A.a.now (A.p * 8) A.b.now (A.q * 8) A.words in
    words_more signed_top A.a.now (A.p * 8) A.b.now (A.q * 8) A.words n ((A.p + n) * 8) ((A.q + n) * 8) (omega arith) c.requires.words_in_bounds.0
    c.requires.words_in_bounds.1 (omega arith) (omega arith) whole (found_none whole) refl c.order_number-found.ensures

pub loop-left-preserved : goal.loop-left-preserved
loop-left-preserved c =
    let A = c.args in
    let m : ℕ = c.loop-left.left in
    let n : ℕ = m - 1 in
    words_more unsigned_top A.a.now (A.p * 8) A.b.now (A.q * 8) m n ((A.p + n) * 8) ((A.q + n) * 8) (omega arith)
    (omega arith) (omega arith) (omega arith) (omega arith) _ c.loop-left.invariant (sym c.is_ne.ensures ∙ c.if-is_ne.false)
    c.order_number-found-in-loop-left.ensures

pub returns : goal.returns
returns c =
    let A = c.args in
    let none_left : c.loop-left.left ≡ 0 = omega arith in
    record { says = found_last _ _ c.loop-left.invariant (ap (words_order unsigned_top A.a.now (A.p * 8) A.b.now (A.q * 8)) none_left) }
