-- `lent_bytes::used_entries` meets its contract: none of too many rows, all there are, or one a row. Assumes nothing.
use mathlib.Core.Path.{refl}
use native.Mathlib.Omega.{arith}
use Rattle.lent_bytes.proofs.entries.used_entries.Goals as goal

pub returns-then-n0-gt-MAX_ROWS : goal.returns-then-n0-gt-MAX_ROWS
returns-then-n0-gt-MAX_ROWS c = record { there = omega arith; few = omega arith; most = omega arith; enough = λ f g l. absurd (omega arith) }

pub returns-then-n1-gt-MAX_ROWS : goal.returns-then-n1-gt-MAX_ROWS
returns-then-n1-gt-MAX_ROWS c = record { there = omega arith; few = omega arith; most = omega arith; enough = λ f g l. absurd (omega arith) }

pub returns-then-room-count : goal.returns-then-room-count
returns-then-room-count c = record { there = omega arith; few = omega arith; most = omega arith; enough = λ f g l. refl }

pub returns : goal.returns
returns c = record { there = omega arith; few = omega arith; most = omega arith; enough = λ f g l. absurd (omega arith) }
