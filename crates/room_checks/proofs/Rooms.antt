-- 13 and 14, case by case, and the room where both pass. Assumes nothing.
use Prim.Native.Nat.{ℕ, suc, ◌+◌, ◌<◌, ◌≤◌}
use mathlib.Core.Path.{◌≡◌, sym, ◌∙◌}
use native.Mathlib.Numerals.{add-one}
use native.Mathlib.Omega.{arith}
use borrow.Author.Tests.{lt-ltb, le-ltb}
use Rattle.format.specs.declared.Refusal.TheVariants.{RowRoom, OffsetRoom}
use Rattle.format.specs.Check.{Check, both}
use Rattle.std.specs.declared.result.Result.TheVariants.{Ok, Err}
use Rattle.format.specs.Entries.{total_fault}
use Rattle.basics.proofs.Checks.{enough, both_pass}
use Rattle.room_checks.specs.Room.{room_fault}

module _ (total room n ends : ℕ) where
  pub small_rows : room < total → Err (RowRoom total) ≡ room_fault total room n ends
  small_rows h = rw (lt-ltb room total h)

  pub few_offsets : total ≤ room → ends < n + 1 → Err (OffsetRoom (n + 1)) ≡ room_fault total room n ends
  few_offsets r h = rw (le-ltb room total r, add-one n, lt-ltb ends (suc n) (omega arith))

  pub enough_room : total ≤ room → n + 1 ≤ ends → Ok tt ≡ room_fault total room n ends
  enough_room r h = rw (le-ltb room total r, le-ltb ends (suc n) (omega arith))

  -- where 12, 13 and 14 pass there is room
  pub has_room : (fault : Check) → fault ≡ both (total_fault total) (room_fault total room n ends) → fault ≡ Ok tt → (total ≤ room) × (n < ends)
  has_room fault f e =
      let r = enough room total (RowRoom total) _ (both_pass (total_fault total) _ (sym f ∙ e)).1 in
      (r.0, (enough ends (suc n) (OffsetRoom (suc n)) (Ok tt) r.1).0)
