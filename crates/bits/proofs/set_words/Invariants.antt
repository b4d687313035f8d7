-- `bits::set_words` meets its contract. The invariant: the first clear row is the same from word k on. Assumes
-- nothing.
use Prim.Native.Nat.{◌-◌, ◌*◌}
use mathlib.Core.Path.{◌≡◌}
use Rattle.format.specs.Sheet.{first_clear}
use Rattle.bits.proofs.set_words.Given as goal

abbrev pub invariant-loop-k : goal.invariant-loop-k
invariant-loop-k l = first_clear l.s (64 * l.k) (l.n - 64 * l.k) ≡ first_clear l.s 0 l.n
