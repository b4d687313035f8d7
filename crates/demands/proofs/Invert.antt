-- Inverted bytes stand in the reverse order. Assumes nothing.
use Prim.Native.Nat.{ℕ, ◌-◌, ◌<◌, compare, Ordering}
use mathlib.Core.Path.{◌≡◌, refl, ap, ap₂, sym, ◌∙◌}
use mathlib.Core.Bool.{Bool, true, false, cond}
use mathlib.Core.List.{List, [], ◌∷◌}
use native.Mathlib.Omega.{arith}
use lib.ListN.{length}
use Rattle.format.specs.Field.{directed}
use Rattle.format.specs.Key.{invert, inverted}
use Rattle.format.specs.Lists.{Bytes}
use Rattle.format.specs.Order.{cmp, swap, then}
use Rattle.basics.proofs.Compare.{Tri, below, same, above, tri, compare_of}
use Rattle.demands.proofs.Sep.{sep, Ranks, ranks_even, ranks_cmp}
use Rattle.demands.proofs.Orders.{swap_then, swap_eq}

turned : (x y : ℕ) (o : Ordering) → x < 256 → y < 256 → Tri x y o → Tri (255 - x) (255 - y) (swap o)
turned x y o hx hy (below h) = above (omega arith)
turned x y o hx hy (same h) = same (ap invert h)
turned x y o hx hy (above h) = below (omega arith)

compare_invert : (x y : ℕ) → x < 256 → y < 256 → compare (255 - x) (255 - y) ≡ swap (compare x y)
compare_invert x y hx hy = compare_of (255 - x) (255 - y) (swap (compare x y)) (turned x y (compare x y) hx hy (tri x y))

sep_invert : (f g : List ℕ) → Bytes f → Bytes g → sep (inverted f) (inverted g) ≡ swap (sep f g)
sep_invert [] g bf bg = refl
sep_invert (x ∷ xs) [] bf bg = refl
sep_invert (x ∷ xs) (y ∷ ys) bf bg =
    ap₂ then (compare_invert x y bf.0 bg.0) (sep_invert xs ys bf.1 bg.1) ∙ sym (swap_then (compare x y) (sep xs ys))

-- for strings of which neither begins the other
ranks_invert : {o : Ordering} {f g : List ℕ} → Bytes f → Bytes g → Ranks o f g → Ranks (swap o) (inverted f) (inverted g)
ranks_invert {o} {f} {g} bf bg k = record {
  first = sep_invert f g bf bg ∙ ap swap k.first;
  alike = λ e. ap inverted (k.alike (swap_eq o e));
}

-- for strings of one length
pub cmp_invert : (f g : List ℕ) → Bytes f → Bytes g → length f ≡ length g → cmp (inverted f) (inverted g) ≡ swap (cmp f g)
cmp_invert f g bf bg e = ranks_cmp (ranks_invert bf bg (ranks_even f g e))

-- descending turns the order round
pub ranks_directed : (d : Bool) {o : Ordering} {f g : List ℕ} → Bytes f → Bytes g → Ranks o f g → Ranks (cond d (swap o) o) (directed d f) (directed d g)
ranks_directed true bf bg k = ranks_invert bf bg k
ranks_directed false bf bg k = k
