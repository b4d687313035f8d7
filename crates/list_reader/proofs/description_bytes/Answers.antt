-- `list_reader::description_bytes` meets its contract: kind 15 takes four bytes, any other two. Assumes nothing.
use native.Mathlib.Omega.{arith}
use mathlib.Core.Path.{sym}
use Rattle.laws.proofs.Columns.{bytes_wide, bytes_plain}
use Rattle.list_reader.proofs.description_bytes.Goals as goal

pub returns-then-b-eq15 : goal.returns-then-b-eq15
returns-then-b-eq15 c = record { value = sym (bytes_wide _ c.if-b-eq15.true); lower_bound = omega arith }

pub returns : goal.returns
returns c = record { value = sym (bytes_plain _ c.if-b-eq15.false); lower_bound = omega arith }
