-- `bits::put_bit` meets its contract: the bit goes in above the bits that are there, where an or adds. Assumes nothing.
use Prim.Native.Nat.{ℕ, ◌+◌, ◌*◌, ◌%◌, ◌^◌, ◌<◌}
use mathlib.Core.Path.{◌≡◌, ap, ◌∙◌}
use mathlib.Core.Bool.{Bool, true, false, cond}
use native.Mathlib.Omega.{arith}
use lib.Bits.{bit_or, or_shifted_r}
use lib.Pow.{shl_exact}
use mir.Val.{bool_byte}
use Rattle.bits.proofs.put_bit.Goals as goal

-- the digit x, 0 or 1, above k digits
or_above : (x b k : ℕ) → x < 2 → k < 8 → b < 2 ^ k → bit_or b (x * 2 ^ k % 2 ^ 8) ≡ x * 2 ^ k + b
or_above x b k d h l = ap (bit_or b) (shl_exact {a = x} 1 k 8 d (omega arith)) ∙ or_shifted_r x k b l

put : (on : Bool) (b k : ℕ) → k < 8 → b < 2 ^ k → bit_or b (bool_byte on * 2 ^ k % 2 ^ 8) ≡ b + cond on (2 ^ k) 0
put true b k h l = or_above 1 b k (omega arith) h l ∙ omega arith
put false b k h l = or_above 0 b k (omega arith) h l ∙ omega arith

pub returns : goal.returns
returns c = put c.args.on c.args.b c.args.k c.requires.k_bound c.requires.b_bound
