-- `lent_bytes::used_offsets` meets its contract: none of too many rows, all there are, or n + 1. Assumes nothing.
use mathlib.Core.Path.{refl}
use native.Mathlib.Omega.{arith}
use Rattle.lent_bytes.proofs.used_offsets.Goals as goal

pub returns-then-n-gt-MAX_ROWS : goal.returns-then-n-gt-MAX_ROWS
returns-then-n-gt-MAX_ROWS c = record { there = omega arith; few = omega arith; most = omega arith; enough = λ h l. absurd (omega arith) }

pub returns-then-room-n : goal.returns-then-room-n
returns-then-room-n c = record { there = omega arith; few = omega arith; most = omega arith; enough = λ h l. refl }

pub returns : goal.returns
returns c = record { there = omega arith; few = omega arith; most = omega arith; enough = λ h l. absurd (omega arith) }
