-- What is promised of two slots that have values, by their keys. Assumes nothing.
use Prim.Native.Nat.{ℕ, Ordering}
use mathlib.Core.Path.{◌≡◌, refl, ap, sym, ◌∙◌}
use mathlib.Core.Bool.{Bool as Truth, true, false, cond}
use mathlib.Core.Option.{some}
use mathlib.Core.List.{List}
use Rattle.std.specs.declared.cmp.Ordering.{Ordering as Answer}
use Rattle.std.specs.Ordering.{ordering_reverse}
use Rattle.format.specs.declared.SortOptions.{SortOptions}
use Rattle.format.specs.Limits.{max_slot}
use Rattle.format.specs.Kinds.{Shape, fixed, variable, Slot}
use Rattle.format.specs.Fold.{folded_slot, folded_value}
use Rattle.format.specs.Fits.{Fits}
use Rattle.format.specs.Order.{swap, cmp}
use Rattle.format.specs.Value.{slot_order}
use Rattle.basics.proofs.Sorts.{ShapeSigns}
use Rattle.laws.proofs.Folding.{folded_bytes, folded_length}
use Rattle.byte_order.specs.Answers.{ordering}
use Rattle.byte_order.proofs.Answered.{reversed}
use Rattle.number_order.specs.Orders.{value_key, Ordered}
use Rattle.number_order.proofs.KeyOrder.{key_order}

-- the order of two slots as encode takes them
abbrev pub folded_order : Shape → SortOptions → Slot → Slot → Ordering
folded_order sh o x y = slot_order sh o (folded_slot sh o x) (folded_slot sh o y)

-- two values as they stand in the sheets compare by their keys
keyed_order : (sh : Shape) (o : SortOptions) (x y : List ℕ) → ShapeSigns sh → Fits max_slot sh false x → Fits max_slot sh false y
    → let found = cmp (value_key sh o.fold x) (value_key sh o.fold y) in folded_order sh o (some x) (some y) ≡ cond o.descending (swap found) found
keyed_order (fixed k) o x y so fx fy =
    ap (λ (z : Ordering). cond o.descending (swap z) z)
    (sym (key_order k so (folded_value k o.fold x) (folded_value k o.fold y) (folded_bytes k o.fold x fx.0) (folded_bytes k o.fold y fy.0)
    (folded_length k o.fold x fx.1) (folded_length k o.fold y fy.1)))
keyed_order variable o x y so fx fy = refl

module _ (sh : Shape) (o : SortOptions) (x y : List ℕ) (so : ShapeSigns sh) (fx : Fits max_slot sh false x) (fy : Fits max_slot sh false y) {r : Answer}
    (h : Ordered (value_key sh o.fold x) (value_key sh o.fold y) r) where
  -- as the options say
  told : (d : Truth) → o.descending ≡ d
      → ordering (folded_order sh o (some x) (some y)) ≡ ordering (cond d (swap (cmp (value_key sh o.fold x) (value_key sh o.fold y))) (cmp (value_key sh o.fold x) (value_key sh o.fold y)))
  told d e =
      ap ordering (keyed_order sh o x y so fx fy)
      ∙ ap (λ (z : Truth). ordering (cond z (swap (cmp (value_key sh o.fold x) (value_key sh o.fold y))) (cmp (value_key sh o.fold x) (value_key sh o.fold y)))) e

  pub values_rise : o.descending ≡ false → r ≡ ordering (folded_order sh o (some x) (some y))
  values_rise e = h.says ∙ sym (told false e)

  pub values_fall : o.descending ≡ true → ordering_reverse r ≡ ordering (folded_order sh o (some x) (some y))
  values_fall e = ap ordering_reverse h.says ∙ reversed (cmp (value_key sh o.fold x) (value_key sh o.fold y)) ∙ sym (told true e)
