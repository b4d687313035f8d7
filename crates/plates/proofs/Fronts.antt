-- A row cut to the length of another: where it ends, and what is cut out. Assumes nothing.
use Prim.Native.Nat.{ℕ, suc, ◌+◌, ◌-◌, ◌≤◌}
use mathlib.Core.Path.{◌≡◌, refl, ap, sym, subst, ◌∙◌}
use mathlib.Core.Bool.{Bool, true, false, cond}
use mathlib.Core.List.{List}
use native.Mathlib.Nat.{le_trans}
use native.Mathlib.Omega.{arith}
use native.Mathlib.Numerals.{add-one}
use lib.Dec.{ltb}
use lib.ListN.{length, get_or, take, drop, length-take, length-drop}
use lib.Seq.{take-take, take_all, length-take-le}
use borrow.Author.Tests.{ltb-true, ltb-false}
use Rattle.format.specs.Entries.{row_bytes}
use Rattle.format.specs.Passed.{Lies}
use Rattle.plates.specs.Prefix.{front_end}

-- it ends between where it begins and where it would end
front_lies : (from to size : ℕ) → from ≤ to → (from ≤ front_end from to size) × (front_end from to size ≤ to)
front_lies from to size h = go (ltb size (to - from)) refl
  where
    go : (t : Bool) → ltb size (to - from) ≡ t → (from ≤ cond t (from + size) to) × (cond t (from + size) to ≤ to)
    go true e = (omega arith, omega (arith, ltb-true size (to - from) e))
    go false e = (h, omega arith)

-- so many bytes of it, or all
front_cut : (from to size : ℕ) (l : List ℕ) → take (front_end from to size - from) l ≡ take size (take (to - from) l)
front_cut from to size l = go (ltb size (to - from)) refl
  where
    go : (t : Bool) → ltb size (to - from) ≡ t → take (cond t (from + size) to - from) l ≡ take size (take (to - from) l)
    go true e =
        ap (λ (n : ℕ). take n l) (let q : from + size - from ≡ size = omega arith in q)
        ∙ sym (take-take size (to - from) l (omega (arith, ltb-true size (to - from) e)))
    go false e = sym (take_all size (take (to - from) l) (omega (arith, ltb-false size (to - from) e, length-take (to - from) l)))

-- the offsets of a row that lies between them
lies_at : (bytes offsets : List ℕ) (r : ℕ) → Lies bytes offsets r
    → (get_or offsets r 0 ≤ get_or offsets (suc r) 0) × (get_or offsets (suc r) 0 ≤ length bytes)
lies_at bytes offsets r l = (rw (add-one r) at l.rises, rw (add-one r) at l.inside)

-- its length
lies_long : (bytes offsets : List ℕ) (r : ℕ) → Lies bytes offsets r → length (row_bytes bytes offsets r) ≡ get_or offsets (suc r) 0 - get_or offsets r 0
lies_long bytes offsets r l =
    length-take-le (get_or offsets (suc r) 0 - get_or offsets r 0) (drop (get_or offsets r 0) bytes)
    (omega (arith, (lies_at bytes offsets r l).0, (lies_at bytes offsets r l).1, length-drop (get_or offsets r 0) bytes))

-- row r of some rows, cut to the length of row q of others, ends at e
pub record Front (rows offsets : List ℕ) (r : ℕ) (keys ends : List ℕ) (q e : ℕ) : Type 0 where
  pub after : get_or offsets r 0 ≤ e
  pub inside : e ≤ length rows
  pub cut : take (e - get_or offsets r 0) (drop (get_or offsets r 0) rows) ≡ take (length (row_bytes keys ends q)) (row_bytes rows offsets r)

pub front_is : (rows offsets : List ℕ) (r : ℕ) (keys ends : List ℕ) (q e : ℕ) → Lies rows offsets r → Lies keys ends q
    → e ≡ front_end (get_or offsets r 0) (get_or offsets (suc r) 0) (get_or ends (suc q) 0 - get_or ends q 0) → Front rows offsets r keys ends q e
front_is rows offsets r keys ends q e l m h =
    let p = front_lies (get_or offsets r 0) (get_or offsets (suc r) 0) (get_or ends (suc q) 0 - get_or ends q 0) (lies_at rows offsets r l).0 in
    record {
      after = subst (λ (i : ℕ). get_or offsets r 0 ≤ i) (sym h) p.0;
      inside = subst (λ (i : ℕ). i ≤ length rows) (sym h) (le_trans p.1 (lies_at rows offsets r l).1);
      cut = ap (λ (i : ℕ). take (i - get_or offsets r 0) (drop (get_or offsets r 0) rows)) h
          ∙ front_cut (get_or offsets r 0) (get_or offsets (suc r) 0) (get_or ends (suc q) 0 - get_or ends q 0) (drop (get_or offsets r 0) rows)
          ∙ ap (λ (n : ℕ). take n (row_bytes rows offsets r)) (sym (lies_long keys ends q m));
    }
