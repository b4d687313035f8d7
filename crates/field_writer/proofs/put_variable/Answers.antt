-- `field_writer::put_variable` meets its contract: the value lies between two ends that do not fall, within the bytes
-- that the last end says. Assumes nothing.
use Prim.Native.Nat.{ℕ, ◌+◌, ◌*◌, ◌≤◌, ◌<◌}
use mathlib.Core.Path.{◌≡◌, sym, ◌∙◌}
use mathlib.Core.List.{List}
use native.Mathlib.Omega.{arith}
use lib.ListN.{length, drop, take}
use lib.Seq.{length-take-le}
use Rattle.format.specs.Sheet.{ended, end, value_at}
use Rattle.format.specs.Passed.{Ended}
use Rattle.number.proofs.Tops.{drop_take}
use Rattle.sheet_slots.proofs.Values.{Between, between}
use Rattle.field_writer.proofs.put_variable.Goals as goal

-- what is lent of the values s, up to the second of the ends a and b of row r
module _ {n : ℕ} {s : List ℕ} {r a b : ℕ} (g : Ended n s) (l : r < n) (p : a ≡ end s r) (q : b ≡ end s (r + 1)) where
  found : Between n s r a b
  found = between n s r a b g l p q

  -- is as long as said
  long : length (take (4 * (n + 1) + b) s) ≡ 4 * (n + 1) + b
  long = length-take-le _ _ found.stops

  -- has the first
  starts : 4 * (n + 1) + a ≤ length (take (4 * (n + 1) + b) s)
  starts = omega (arith, long, found.starts)

  -- and from there on is the value
  lent : drop (4 * (n + 1) + a) (take (4 * (n + 1) + b) s) ≡ value_at ended n s r
  lent = drop_take _ _ _ found.starts ∙ found.value

pub slice_bounds-encode_one-end : goal.slice_bounds-encode_one-end
slice_bounds-encode_one-end c = sym (long c.requires.ended c.requires.n_le_max_rows.1 c.end_at.ensures.0 c.end_at-2.ensures.0)

pub encode_one-requires-clause-from_in_bounds : goal.encode_one-requires-clause-from_in_bounds
encode_one-requires-clause-from_in_bounds c = starts c.requires.ended c.requires.n_le_max_rows.1 c.end_at.ensures.0 c.end_at-2.ensures.0

pub encode_one-requires-clause-val_in_bounds : goal.encode_one-requires-clause-val_in_bounds
encode_one-requires-clause-val_in_bounds c =
    rw (lent c.requires.ended c.requires.n_le_max_rows.1 c.end_at.ensures.0 c.end_at-2.ensures.0) c.requires.r_in_bounds

pub returns : goal.returns
returns c = rw (← (lent c.requires.ended c.requires.n_le_max_rows.1 c.end_at.ensures.0 c.end_at-2.ensures.0)) c.encode_one.ensures
