-- `number_order::order_words` meets its contract: the top word decides unless it ties, and so each word below it. Assumes nothing.
use Prim.Native.Nat.{◌*◌}
use Rattle.number_order.proofs.Found.{Found}
use Rattle.number_order.proofs.WordSteps.{signed_top, unsigned_top, words_order}
use Rattle.number_order.proofs.order_words.Given as goal

abbrev pub invariant-loop-left : goal.invariant-loop-left
invariant-loop-left l =
    Found (words_order signed_top l.a (l.p * 8) l.b (l.q * 8) l.words) (words_order unsigned_top l.a (l.p * 8) l.b (l.q * 8) l.left) l.found
