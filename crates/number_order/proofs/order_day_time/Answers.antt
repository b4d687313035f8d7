-- `number_order::order_day_time` meets its contract: the days decide, unless they tie. Assumes nothing.
use Prim.Native.Nat.{ℕ, ◌+◌, ◌*◌, ◌≤◌, Ordering}
use mathlib.Core.Path.{◌≡◌, ap, sym, ◌∙◌}
use mathlib.Core.List.{List, [], ◌∷◌}
use native.Mathlib.Omega.{arith}
use lib.ListN.{length, take, drop}
use Rattle.std.proofs.Common.{rules}
use Rattle.format.specs.Key.{parts_key}
use Rattle.format.specs.Order.{then, cmp}
use Rattle.byte_order.specs.Answers.{ordering}
use Rattle.byte_order.proofs.Answered.{followed}
use Rattle.number_order.proofs.Intervals.{part_order, next_part, last_part}
use Rattle.number_order.proofs.order_day_time.Goals as goal

module _ (a b : List ℕ) (i j : ℕ) where
  abbrev days : Ordering
  days = part_order a b 4 (i * 2 * 4) (j * 2 * 4)

  abbrev milliseconds : Ordering
  milliseconds = part_order a b 4 ((i * 2 + 1) * 4) ((j * 2 + 1) * 4)

  parts : i * 8 + 8 ≤ length a → j * 8 + 8 ≤ length b
      → cmp (parts_key (4 ∷ 4 ∷ []) (take 8 (drop (i * 8) a))) (parts_key (4 ∷ 4 ∷ []) (take 8 (drop (j * 8) b))) ≡ then days milliseconds
  parts ia jb =
      next_part a b 8 (i * 8) (j * 8) ia jb 0 4 (4 ∷ []) (i * 2 * 4) (j * 2 * 4) (omega arith) (omega arith) (omega arith)
      ∙ ap (then days)
      (last_part a b 8 (i * 8) (j * 8) ia jb 4 4 ((i * 2 + 1) * 4) ((j * 2 + 1) * 4) (omega arith) (omega arith) (omega arith))

pub returns : goal.returns
returns c =
    let A = c.args in
    let d = days A.a.now A.b.now A.i A.j in
    let m = milliseconds A.a.now A.b.now A.i A.j in
    let both : c.then_with.result ≡ ordering (then d m) = followed d m c.order_number.ensures.says (λ h. search rules) c.then_with.ensures in
    record { says = both ∙ ap ordering (sym (parts A.a.now A.b.now A.i A.j c.requires.0 c.requires.1)) }
