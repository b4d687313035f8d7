-- A fixed field, byte by byte, is read as the field reader reads it. Assumes nothing.
use Prim.Native.Nat.{ℕ, zero, suc, ◌+◌, ◌-◌, ◌*◌, ◌<◌, ◌≤◌}
use mathlib.Core.Path.{◌≡◌, refl, ap, ap₂, sym, subst, ◌∙◌}
use mathlib.Core.Bool.{Bool, true, false, cond, ◌&&◌, true≢false}
use mathlib.Core.Option.{none, some}
use mathlib.Core.List.{List, [], ◌∷◌, ◌++◌, reverse, reverse-append, reverse-reverse, append_assoc}
use native.Mathlib.Omega.{arith}
use lib.Dec.{ltb, eqb}
use lib.ListN.{length, take, drop, length-append, length-reverse, take-append-drop}
use borrow.Author.Tests.{lt-ltb, le-ltb, ltb-true, ltb-false, eqb-true, eqb-false, ne_eqb}
use Rattle.format.specs.declared.SortOptions.{SortOptions}
use Rattle.format.specs.declared.RowFault.TheVariants.{Cut, Lead, NullRest, BoolByte, Unfolded}
use Rattle.format.specs.declared.Spot.{Spot}
use Rattle.format.specs.declared.Spot.TheVariants.{Start, Nulls, Value}
use Rattle.format.specs.Lists.{Bytes, low, low_bytes}
use Rattle.format.specs.Kinds.{Fixed, bool, plain, number, integer, float, parts, fixed, Slot, width}
use Rattle.format.specs.Key.{unkey, allowed}
use Rattle.format.specs.Fold.{folds, is_folded}
use Rattle.format.specs.Field.{directed}
use Rattle.format.specs.Read.{Parsed, got, fault, all_zero, from_bad, null_lead, read_null, read_key, read_bytes, read_fixed}
use Rattle.format.specs.Cutter.{on, whole, bad, turn, first_bad, spelt_with, last_move}
use Rattle.basics.proofs.Bytes.{bytes_append, bytes_reverse}
use Rattle.basics.proofs.LowBytes.{low_bytes_low}
use Rattle.laws.proofs.Directed.{directed_none, directed_cons}
use Rattle.cutter_laws.proofs.RuleMoves.{turned}
use Rattle.cutter_laws.proofs.Walk.{Walk, ended, walk_then, walk, Alike}

-- two parts of a list are all of it
parts_length : (m : ℕ) (s : List ℕ) → length (take m s) + length (drop m s) ≡ length s
parts_length m s = sym (length-append (take m s) (drop m s)) ∙ ap length (take-append-drop m s)

-- ---- after a null byte

-- zeros up to the end of the field, or a bad byte with so many left
abbrev zeros : Bool → List ℕ → ℕ → Parsed Slot
zeros t rest l = cond t (got none rest) (fault NullRest l)

-- what is left of a null's rest: m bytes more, after bytes whose first bad one is at place `known` (0: none)
abbrev null_from : ℕ → ℕ → ℕ → List ℕ → Parsed Slot
null_from end m known s =
    cond (ltb (length s) m) (fault Cut 0)
    (cond (eqb known 0) (zeros (all_zero (take m s)) (drop m s) (from_bad (take m s) + length (drop m s))) (fault NullRest (end - known)))

-- a byte more
null_next : (end m known at b : ℕ) (s : List ℕ) → 0 < at → known < at → end ≡ at + suc (length s)
    → null_from end (suc m) (first_bad known at b) s ≡ null_from end (suc (suc m)) known (b ∷ s)
null_next end m known at b s pos k e = go (ltb (length s) (suc m)) refl
  where
    rest : (u v : Bool) → eqb known 0 ≡ u
        → cond (eqb (cond u (cond v 0 at) known) 0)
        (zeros (all_zero (take (suc m) s)) (drop (suc m) s) (from_bad (take (suc m) s) + length (drop (suc m) s)))
        (fault NullRest (end - cond u (cond v 0 at) known))
        ≡ cond u
        (zeros (v && all_zero (take (suc m) s)) (drop (suc m) s)
        (cond v (from_bad (take (suc m) s)) (suc (length (take (suc m) s))) + length (drop (suc m) s)))
        (fault NullRest (end - known))
    rest true true q = refl
    rest true false q = rw (ne_eqb at 0 (omega arith)) (ap (fault NullRest) (omega (arith, parts_length (suc m) s)))
    rest false v q = rw q

    go : (t : Bool) → ltb (length s) (suc m) ≡ t → null_from end (suc m) (first_bad known at b) s ≡ null_from end (suc (suc m)) known (b ∷ s)
    go true q = rw (q, lt-ltb (suc (length s)) (suc (suc m)) (omega (arith, ltb-true (length s) (suc m) q)))
    go false q =
        rw (q, le-ltb (suc (length s)) (suc (suc m)) (omega (arith, ltb-false (length s) (suc m) q)))
        (rest (eqb known 0) (eqb b 0) refl)

module _ (k : Fixed) (o : SortOptions) (end : ℕ) where
  null_walk : (m seen known at : ℕ) (s : List ℕ) → seen + suc m ≡ width k → known < at → end ≡ at + length s
      → Alike end (walk (fixed k) o (Nulls seen known) at s) (null_from end (suc m) known s)
  null_walk m seen known at [] w l e = rw (lt-ltb 0 (suc m) (omega arith)) (refl, refl)
  null_walk zero seen known at (b ∷ s) w l e =
      rw (le-ltb (suc seen) (width k) (omega arith), le-ltb (suc (length s)) 1 (omega arith)) (go (eqb known 0) (eqb b 0) refl)
    where
      go : (u v : Bool) → eqb known 0 ≡ u
          → Alike end
          (walk_then (cond (eqb (cond u (cond v 0 at) known) 0) whole (bad NullRest (cond u (cond v 0 at) known))) s
          (λ next. walk (fixed k) o next (suc at) s))
          (cond u (zeros (v && true) s (cond v 0 1 + length s)) (fault NullRest (end - known)))
      go true true q = refl
      go true false q = rw (ne_eqb at 0 (omega arith)) (refl, omega arith, refl)
      go false v q = rw q (refl, omega arith, refl)
  null_walk (suc m) seen known at (b ∷ s) w l e =
      rw (lt-ltb (suc seen) (width k) (omega arith))
      (subst (Alike end (walk (fixed k) o (Nulls (suc seen) (first_bad known at b)) (suc at) s)) (null_next end m known at b s (omega arith) l e)
      (null_walk m (suc seen) (first_bad known at b) (suc at) s (omega arith) (first (eqb known 0) (eqb b 0)) (omega arith)))
    where
      first : (u v : Bool) → cond u (cond v 0 at) known < suc at
      first true true = omega arith
      first true false = omega arith
      first false v = omega arith

-- ---- after 01

-- after value bytes p, inverted back, m more
abbrev value_from : Fixed → SortOptions → ℕ → List ℕ → List ℕ → Parsed Slot
value_from k o m p s =
    cond (ltb (length s) m) (fault Cut 0) (read_key k o.fold (p ++ directed o.descending (take m s)) (drop m s))

-- what they spell, where the column folds them
abbrev spelling : Fixed → Bool → List ℕ → ℕ
spelling k fold p = cond (folds k fold) (low (reverse p)) 0

spelt_next : (k : Fixed) (o : SortOptions) (p : List ℕ) (b : ℕ) → spelt_with k o (spelling k o.fold p) b ≡ spelling k o.fold (p ++ turn o b ∷ [])
spelt_next k o p b = go (folds k o.fold)
  where
    go : (t : Bool) → cond t (256 * cond t (low (reverse p)) 0 + turn o b) 0 ≡ cond t (low (reverse (p ++ turn o b ∷ []))) 0
    go true = rw (reverse-append p (turn o b ∷ [])) (omega arith)
    go false = refl

-- a bool has one byte, and other kinds take any
allowed_last : (k : Fixed) (p : List ℕ) (x : ℕ) → length p + 1 ≡ width k → allowed k (p ++ x ∷ []) ≡ allowed k (x ∷ [])
allowed_last bool [] x e = refl
allowed_last bool (y ∷ p) x e = absurd (omega arith)
allowed_last (plain n) p x e = refl
allowed_last (number n) p x e = refl
allowed_last (integer n) p x e = refl
allowed_last (float n) p x e = refl
allowed_last (parts ns) p x e = refl

lone : (k : Fixed) (x : ℕ) → allowed k (x ∷ []) ≡ false → width k ≡ 1
lone bool x e = refl
lone (plain n) x e = absurd (true≢false e)
lone (number n) x e = absurd (true≢false e)
lone (integer n) x e = absurd (true≢false e)
lone (float n) x e = absurd (true≢false e)
lone (parts ns) x e = absurd (true≢false e)

-- the number that they spell has their bytes
folded_last : (k : Fixed) (fold : Bool) (f : List ℕ) → Bytes f → length f ≡ width k
    → is_folded k fold (unkey k (reverse (low_bytes (width k) (spelling k fold f)))) ≡ is_folded k fold (unkey k f)
folded_last k fold f bs e = go (folds k fold) refl
  where
    back : reverse (low_bytes (width k) (low (reverse f))) ≡ f
    back =
        ap (λ (n : ℕ). reverse (low_bytes n (low (reverse f)))) (sym (length-reverse f ∙ e))
        ∙ ap reverse (low_bytes_low (reverse f) (bytes_reverse f bs))
        ∙ reverse-reverse f

    go : (t : Bool) → folds k fold ≡ t → is_folded k fold (unkey k (reverse (low_bytes (width k) (spelling k fold f)))) ≡ is_folded k fold (unkey k f)
    go true q = rw q (rw back)
    go false q = rw q

-- a byte more
value_next : (k : Fixed) (o : SortOptions) (m : ℕ) (p : List ℕ) (b : ℕ) (s : List ℕ) → value_from k o m (p ++ turn o b ∷ []) s ≡ value_from k o (suc m) p (b ∷ s)
value_next k o m p b s =
    ap₂ (λ (t : Bool) (f : List ℕ). cond t (fault Cut 0) (read_key k o.fold f (drop m s))) (shorter (ltb (length s) m) refl)
    (append_assoc p (turn o b ∷ []) (directed o.descending (take m s)) ∙ ap (λ (f : List ℕ). p ++ f) (sym (directed_cons o.descending b (take m s))))
  where
    shorter : (t : Bool) → ltb (length s) m ≡ t → ltb (length s) m ≡ ltb (suc (length s)) (suc m)
    shorter true q = q ∙ sym (lt-ltb (suc (length s)) (suc m) (omega (arith, ltb-true (length s) m q)))
    shorter false q = q ∙ sym (le-ltb (suc (length s)) (suc m) (omega (arith, ltb-false (length s) m q)))

module _ (k : Fixed) (o : SortOptions) (end : ℕ) where
  -- the last value byte
  value_last : (p : List ℕ) (at b : ℕ) (s : List ℕ) (next : Spot → Walk) → length p + 1 ≡ width k → Bytes p → turn o b < 256 → length p ≤ at
      → end ≡ at + suc (length s)
      → Alike end (walk_then (last_move k o (length p) (spelling k o.fold (p ++ turn o b ∷ [])) at b) s next) (read_key k o.fold (p ++ turn o b ∷ []) s)
  value_last p at b s next w bp bb l e = go (allowed k (x ∷ [])) (is_folded k o.fold (unkey k f)) refl refl
    where
      x : ℕ
      x = turn o b

      f : List ℕ
      f = p ++ x ∷ []

      long : length f ≡ length p + 1
      long = length-append p (x ∷ [])

      go : (a c : Bool) → allowed k (x ∷ []) ≡ a → is_folded k o.fold (unkey k f) ≡ c
          → Alike end (walk_then (last_move k o (length p) (spelling k o.fold f) at b) s next) (read_key k o.fold f s)
      go a c q r =
          rw (allowed_last k p x w, folded_last k o.fold f (bytes_append p (x ∷ []) bp (bb, tt)) (long ∙ w), q, r) (last a c q)
        where
          last : (a c : Bool) → allowed k (x ∷ []) ≡ a
              → Alike {A = Slot} end (walk_then (cond a (cond c whole (bad Unfolded (at - length p))) (bad BoolByte at)) s next)
              (cond a (cond c (got (some (unkey k f)) s) (fault Unfolded (length f + length s))) (fault BoolByte (length f + length s)))
          last true true q = refl
          last true false q = (refl, omega (arith, long), refl)
          last false c q = (refl, omega (arith, long, lone k x q), refl)

  value_walk : (m at : ℕ) (p s : List ℕ) → length p + suc m ≡ width k → Bytes p → Bytes s → length p ≤ at → end ≡ at + length s
      → Alike end (walk (fixed k) o (Value (length p) (spelling k o.fold p)) at s) (value_from k o (suc m) p s)
  value_walk m at p [] w bp bs l e = rw (lt-ltb 0 (suc m) (omega arith)) (refl, refl)
  value_walk zero at p (b ∷ s) w bp bs l e =
      rw (le-ltb (suc (length p)) (width k) (omega arith), le-ltb (suc (length s)) 1 (omega arith))
      (rw (directed_cons o.descending b [], directed_none o.descending, spelt_next k o p b)
      (value_last p at b s (λ next. walk (fixed k) o next (suc at) s) w bp (turned o b bs.0) l e))
  value_walk (suc m) at p (b ∷ s) w bp bs l e =
      rw (lt-ltb (suc (length p)) (width k) (omega arith))
      (subst (λ (spot : Spot). Alike end (walk (fixed k) o spot (suc at) s) (value_from k o (suc (suc m)) p (b ∷ s)))
      (ap₂ Value (long ∙ omega arith) (sym (spelt_next k o p b)))
      (subst (Alike end (walk (fixed k) o (Value (length f) (spelling k o.fold f)) (suc at) s)) (value_next k o (suc m) p b s)
      (value_walk m (suc at) f s (omega (arith, long)) (bytes_append p (turn o b ∷ []) bp (turned o b bs.0, tt)) bs.1 (omega (arith, long))
      (omega arith))))
    where
      f : List ℕ
      f = p ++ turn o b ∷ []

      long : length f ≡ length p + 1
      long = length-append p (turn o b ∷ [])

-- ---- a field

-- no value bytes
empty_key : (k : Fixed) (fold : Bool) (s : List ℕ) → width k ≡ 0 → read_key k fold [] s ≡ got (some (unkey k [])) s
empty_key bool fold s e = absurd (omega arith)
empty_key (plain n) fold s e = refl
empty_key (number n) fold s e = refl
empty_key (integer n) fold s e = refl
empty_key (float zero) true s e = refl
empty_key (float zero) false s e = refl
empty_key (float (suc n)) fold s e = absurd (omega arith)
empty_key (parts ns) fold s e = refl

-- the value bytes, where there are w
abbrev bytes_in : Fixed → SortOptions → List ℕ → ℕ → Parsed Slot
bytes_in k o s w = cond (ltb (length s) w) (fault Cut 0) (read_key k o.fold (directed o.descending (take w s)) (drop w s))

empty_bytes : (k : Fixed) (o : SortOptions) (s : List ℕ) → width k ≡ 0 → read_bytes k o s ≡ got (some (unkey k [])) s
empty_bytes k o s e =
    ap (bytes_in k o s) e
    ∙ ap₂ (λ (t : Bool) (f : List ℕ). cond t (fault Cut 0) (read_key k o.fold f s)) (le-ltb (length s) 0 (omega arith)) (directed_none o.descending)
    ∙ empty_key k o.fold s e

pub fixed_walk : (k : Fixed) (o : SortOptions) (at : ℕ) (xs : List ℕ) → Bytes xs → Alike (at + length xs) (walk (fixed k) o Start at xs) (read_fixed k o xs)
fixed_walk k o at [] bs = (refl, refl)
fixed_walk k o at (b ∷ s) bs = go (null_lead o b) (eqb b 1) (eqb (width k) 0) refl
  where
    end : ℕ
    end = at + suc (length s)

    next : Spot → Walk
    next spot = walk (fixed k) o spot (suc at) s

    -- how many value bytes come after the first
    more : eqb (width k) 0 ≡ false → suc (width k - 1) ≡ width k
    more q = above (width k) (eqb-false (width k) 0 q)
      where
        above : (n : ℕ) → (n ≡ 0 → ⊥) → suc (n - 1) ≡ n
        above zero h = absurd (h refl)
        above (suc n) h = omega arith

    go : (n v z : Bool) → eqb (width k) 0 ≡ z
        → Alike end
        (walk_then (cond n (cond z whole (on (Nulls 0 0))) (cond v (cond z whole (on (Value 0 0))) (bad Lead at))) s next)
        (cond n (read_null (width k) s) (cond v (read_bytes k o s) (fault Lead (suc (length s)))))
    go true v true q = rw (eqb-true (width k) 0 q, le-ltb (length s) 0 (omega arith)) refl
    go true v false q =
        subst (λ (w : ℕ). Alike end (next (Nulls 0 0)) (read_null w s)) (more q)
        (null_walk k o end (width k - 1) 0 0 (suc at) s (omega (arith, more q)) (omega arith) (omega arith))
    go false true true q = subst (Alike end (ended s)) (sym (empty_bytes k o s (eqb-true (width k) 0 q))) refl
    go false true false q =
        subst (λ (spot : Spot). Alike end (next spot) (read_bytes k o s)) (ap (Value 0) (unspelt (folds k o.fold)))
        (subst (λ (w : ℕ). Alike end (next (Value 0 (spelling k o.fold []))) (bytes_in k o s w)) (more q)
        (value_walk k o end (width k - 1) (suc at) [] s (omega (arith, more q)) tt bs.1 (omega arith) (omega arith)))
      where
        unspelt : (t : Bool) → cond {A = ℕ} t 0 0 ≡ 0
        unspelt true = refl
        unspelt false = refl
    go false false z q = (refl, omega arith, refl)
