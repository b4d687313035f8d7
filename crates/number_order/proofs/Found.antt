-- What is found so far of an order that is decided part by part: its answer, and what is left to break a tie. Assumes nothing.
use Prim.Native.Nat.Ordering.{eq}
use Prim.Native.Nat.{Ordering as Order}
use mathlib.Core.Path.{◌≡◌, refl, sym, ap, ◌∙◌}
use mathlib.Core.Bool.{true, false}
use Rattle.std.specs.declared.cmp.Ordering.{Ordering}
use Rattle.std.specs.declared.cmp.Ordering.TheVariants.{Less, Equal, Greater}
use Rattle.std.specs.Ordering.{is_ne, ordering_then}
use Rattle.format.specs.Order.{then}
use Rattle.byte_order.specs.Answers.{ordering}
use Rattle.byte_order.proofs.Answered.{chained, decided, tied}

-- r is the answer of the parts before, and `rest` the order of those after
pub record Found (whole rest : Order) (r : Ordering) : Type 0 where
  pub says : ordering whole ≡ ordering_then r (ordering rest)

no_more : (r : Ordering) → ordering_then r Equal ≡ r
no_more Less = refl
no_more Equal = refl
no_more Greater = refl

-- nothing yet
pub found_none : (whole : Order) → Found whole whole Equal
found_none whole = record { says = refl }

module _ (whole rest : Order) {r : Ordering} (f : Found whole rest r) where
  -- it ties, and the next part has the answer q
  pub found_more : (o p : Order) {q : Ordering} → is_ne r ≡ false → rest ≡ then o p → q ≡ ordering o → Found whole p q
  found_more o p t e h = record {
    says =
        f.says ∙ ap (λ (z : Ordering). ordering_then z (ordering rest)) (tied r t) ∙ ap ordering e ∙ chained o p
        ∙ ap (λ (z : Ordering). ordering_then z (ordering p)) (sym h);
  }

  -- it does not tie
  pub found_differs : is_ne r ≡ true → r ≡ ordering whole
  found_differs ne = sym (f.says ∙ decided r (ordering rest) ne)

  -- so that what is left does not count
  pub found_closed : is_ne r ≡ true → (p : Order) → Found whole p r
  found_closed ne p = record { says = f.says ∙ decided r (ordering rest) ne ∙ sym (decided r (ordering p) ne) }

  -- no part is left
  pub found_last : rest ≡ eq → r ≡ ordering whole
  found_last e = sym (f.says ∙ ap (λ (o : Order). ordering_then r (ordering o)) e ∙ no_more r)
