-- `number_order::order_month_day_nano` meets its contract: each part decides, unless it ties. Assumes nothing.
use Prim.Native.Nat.{ℕ, ◌+◌, ◌*◌, ◌≤◌, Ordering}
use mathlib.Core.Path.{◌≡◌, ap, sym, ◌∙◌}
use mathlib.Core.List.{List, [], ◌∷◌}
use native.Mathlib.Omega.{arith}
use lib.ListN.{length, take, drop}
use Rattle.std.proofs.Common.{rules}
use Rattle.format.specs.Key.{parts_key}
use Rattle.format.specs.Order.{then, cmp}
use Rattle.byte_order.specs.Answers.{ordering}
use Rattle.byte_order.proofs.Alike.{then_grouped}
use Rattle.byte_order.proofs.Answered.{followed}
use Rattle.number_order.proofs.Intervals.{part_order, next_part, last_part}
use Rattle.number_order.proofs.order_month_day_nano.Goals as goal

module _ (a b : List ℕ) (i j : ℕ) where
  abbrev months : Ordering
  months = part_order a b 4 (i * 4 * 4) (j * 4 * 4)

  abbrev days : Ordering
  days = part_order a b 4 ((i * 4 + 1) * 4) ((j * 4 + 1) * 4)

  abbrev nanoseconds : Ordering
  nanoseconds = part_order a b 8 ((i * 2 + 1) * 8) ((j * 2 + 1) * 8)

  parts : i * 16 + 16 ≤ length a → j * 16 + 16 ≤ length b
      → cmp (parts_key (4 ∷ 4 ∷ 8 ∷ []) (take 16 (drop (i * 16) a))) (parts_key (4 ∷ 4 ∷ 8 ∷ []) (take 16 (drop (j * 16) b)))
      ≡ then (then months days) nanoseconds
  parts ia jb =
      next_part a b 16 (i * 16) (j * 16) ia jb 0 4 (4 ∷ 8 ∷ []) (i * 4 * 4) (j * 4 * 4) (omega arith) (omega arith) (omega arith)
      ∙ ap (then months)
      (next_part a b 16 (i * 16) (j * 16) ia jb 4 4 (8 ∷ []) ((i * 4 + 1) * 4) ((j * 4 + 1) * 4) (omega arith) (omega arith) (omega arith)
      ∙ ap (then days)
      (last_part a b 16 (i * 16) (j * 16) ia jb 8 8 ((i * 2 + 1) * 8) ((j * 2 + 1) * 8) (omega arith) (omega arith) (omega arith)))
      ∙ then_grouped months days nanoseconds

pub returns : goal.returns
returns c =
    let A = c.args in
    let m = months A.a.now A.b.now A.i A.j in
    let d = days A.a.now A.b.now A.i A.j in
    let n = nanoseconds A.a.now A.b.now A.i A.j in
    let first : c.then_with.result ≡ ordering (then m d) = followed m d c.order_number.ensures.says (λ h. search rules) c.then_with.ensures in
    let all : c.then_with-2.result ≡ ordering (then (then m d) n) = followed (then m d) n first (λ h. search rules) c.then_with-2.ensures in
    record { says = all ∙ ap ordering (sym (parts A.a.now A.b.now A.i A.j c.requires.0 c.requires.1)) }
