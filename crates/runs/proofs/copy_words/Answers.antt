use mathlib.Core.Path.{refl}
use native.Mathlib.Omega.{arith}
use borrow.Author.Rules.{rules}
use Rattle.runs.proofs.Copying.{copy_start, copy_word, copy_end}
use Rattle.runs.proofs.copy_words.Goals as goal

pub loop-i-init : goal.loop-i-init
loop-i-init c = (copy_start _ _ _, refl)

pub put-requires : goal.put-requires
put-requires c = omega (arith, c.loop-i.invariant.0.wrote.same, c.requires)

pub loop-i-preserved : goal.loop-i-preserved
loop-i-preserved c = (
  rw c.put.ensures
      (copy_word c.loop-i.invariant.0 8 c.low-word.result c.directed.result (omega (arith, c.requires.words))
      (λ i. (c.shared_slice_known-1.given i).fits) c.low-word.ensures c.directed.ensures),
  omega arith,
)

pub shape_of-out : goal.shape_of-out
shape_of-out c = c.loop-i.invariant.0.wrote.same

pub returns : goal.returns
returns c = copy_end c.loop-i.invariant.0 (omega arith) c.requires.room
