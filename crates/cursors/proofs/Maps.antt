-- A function at every element: at an index, and functions that agree. Assumes nothing.
use Prim.Native.Nat.{ℕ, zero, suc, ◌<◌}
use mathlib.Core.Path.{◌≡◌, refl, sym, ap, ap₂, ◌∙◌}
use mathlib.Core.List.{List, [], ◌∷◌, map}
use native.Mathlib.Omega.{arith}
use lib.ListN.{length, get_or, length-map, get_or-map}
use Rattle.format.specs.Lists.{each}
use Rattle.basics.proofs.Lists.{each_is}

module _ {A B : Type 0} (f : A → B) where
  -- at an index there is, whatever stands for one there is not
  pub at_map : (xs : List A) (i : ℕ) (d : A) (e : B) → i < length xs → get_or (map f xs) i e ≡ f (get_or xs i d)
  at_map [] i d e h = absurd (omega arith)
  at_map (x ∷ xs) zero d e h = refl
  at_map (x ∷ xs) (suc i) d e h = at_map xs i d e (omega arith)

  -- two functions that agree at every element
  pub map_same : (g : A → B) (d : A) (xs : List A) → ((i : ℕ) → i < length xs → f (get_or xs i d) ≡ g (get_or xs i d)) → map f xs ≡ map g xs
  map_same g d [] h = refl
  map_same g d (x ∷ xs) h = ap₂ {C = List B} (λ a l. a ∷ l) (h 0 (omega arith)) (map_same g d xs (λ i l. h (suc i) (omega arith)))

-- element by element, in two steps
pub each_map : {A B C : Type 0} (g : B → C) (h : A → B) (d : A) (xs : List A) → each 0 (length xs) (λ i. g (h (get_or xs i d))) ≡ map g (map h xs)
each_map {A} {B} {C} g h d xs =
    each_is (map g (map h xs)) (g (h d)) (length xs) (λ i. g (h (get_or xs i d))) (length-map (map h xs) g ∙ length-map xs h)
    (λ i l. sym (get_or-map g (map h xs) i (h d) ∙ ap g (get_or-map h xs i d)))
