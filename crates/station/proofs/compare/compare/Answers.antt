-- `station::compare::compare` meets its contract: the number of the order. Assumes nothing.
use Prim.Native.Nat.Ordering.{eq}
use Prim.Native.Nat.Ordering.{gt}
use Prim.Native.Nat.Ordering.{lt}
use Prim.Native.Nat.{Ordering as Order}
use mathlib.Core.Path.{◌≡◌, refl, ap, ◌∙◌}
use lib.IntN.{pos, negsuc}
use borrow.Author.Rules.{sfits_of}
use mir.Syntax.{w32}
use mir.Facts.{to_z-of_z}
use Rattle.std.specs.declared.cmp.Ordering.{Ordering}
use Rattle.std.specs.Ordering.{match_ordering}
use Rattle.format.specs.Order.{cmp}
use Rattle.format.specs.Entries.{sign, compare_answer}
use Rattle.byte_order.specs.Answers.{ordering}
use Rattle.station.proofs.compare.compare.Goals as goal

signed : (o : Order) → match_ordering (ordering o) (negsuc 0) (pos 0) (pos 1) ≡ sign o
signed lt = refl
signed eq = refl
signed gt = refl

pub returns : goal.returns
unfolding compare_answer
returns c =
    record {
      answers =
          to_z-of_z {w = w32} (sfits_of c.sign.type_inv) ∙ c.sign.ensures
          ∙ ap (λ (o : Ordering). match_ordering o (negsuc 0) (pos 0) (pos 1)) c.compare.ensures ∙ signed (cmp c.args.a.now c.args.b.now);
    }
