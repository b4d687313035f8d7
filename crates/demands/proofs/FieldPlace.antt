-- The place of a fault in a field: the length of what stands from the field on, less the bytes left from the bad byte on, is the place
-- of the byte that the fault names. Assumes nothing.
use Prim.Native.Nat.{ℕ, zero, suc, ◌+◌, ◌-◌, ◌<◌, ◌≤◌}
use mathlib.Core.Path.{◌≡◌, refl, ap, sym, ◌∙◌, subst}
use mathlib.Core.Bool.{Bool, true, false, cond, ◌&&◌, ◌||◌, true≢false}
use mathlib.Core.List.{List, [], ◌∷◌}
use native.Mathlib.Omega.{arith}
use lib.Dec.{ltb, leb, eqb}
use lib.ListN.{length, take, drop, get_or, length-drop, length-take}
use lib.Seq.{drop-drop, get_or-drop, get_or-take, length-take-le}
use borrow.Author.Count.{below_more}
use borrow.Author.Tests.{ltb-true, ltb-false, leb-false, eqb-true, eqb-false}
use Rattle.format.specs.declared.RowFault.{RowFault}
use Rattle.format.specs.declared.RowFault.TheVariants.{NullRest, BoolByte, EndByte, Padding, TooLong}
use Rattle.format.specs.declared.SortOptions.{SortOptions}
use Rattle.format.specs.Limits.{max_slot}
use Rattle.format.specs.Kinds.{Fixed, bool, plain, number, integer, float, parts, Shape, fixed, variable, Slot, width}
use Rattle.format.specs.Key.{allowed, inverted, unkey}
use Rattle.format.specs.Fold.{is_folded}
use Rattle.format.specs.Field.{block_size, directed}
use Rattle.format.specs.Read.{Parsed, got, fault, after, all_zero, from_bad, null_lead, read_block, read_blocks, read_bytes, read_field, read_fixed, read_key, read_null, read_value, read_variable, value_slot}
use Rattle.laws.proofs.Directed.{length_directed}
use Rattle.demands.specs.Place.{BadEnd, FieldBad, FirstBad, FixedBad, Reached, VariableBad, block_place, data_before, data_in, end_place}

-- ---- both ways of a test, each knowing how it went
by_test : {A : Type 0} (P : A → Type 0) (b : Bool) (x y : A) → (b ≡ true → P x) → (b ≡ false → P y) → P (cond b x y)
by_test P true x y h k = h refl
by_test P false x y h k = k refl

neither : (a b : Bool) → (a || b) ≡ false → (a ≡ false) × (b ≡ false)
neither true b h = absurd (true≢false h)
neither false b h = (refl, h)

-- ---- bytes that are not all zero

-- the first of them that is not is where m are left
record Left (u : List ℕ) (m : ℕ) : Type 0 where
  some : 0 < m
  few : m ≤ length u
  bad : get_or u (length u - m) 0 ≡ 0 → ⊥
  zeros : (i : ℕ) → i < length u - m → get_or u i 0 ≡ 0

left_from : (u : List ℕ) → all_zero u ≡ false → Left u (from_bad u)
left_from [] h = absurd (true≢false h)
left_from (x ∷ u) h = go (eqb x 0) refl h (left_from u)
  where
    go : (b : Bool) → eqb x 0 ≡ b → (b && all_zero u) ≡ false → (all_zero u ≡ false → Left u (from_bad u)) → Left (x ∷ u) (cond b (from_bad u) (suc (length u)))
    go true e h ih =
        let t = ih h in
        let next : suc (length u) - from_bad u ≡ suc (length u - from_bad u) = omega (arith, t.few) in
        record {
          some = t.some;
          few = omega (arith, t.few);
          bad = subst (λ (i : ℕ). get_or (x ∷ u) i 0 ≡ 0 → ⊥) (sym next) t.bad;
          zeros = earlier t;
        }
      where
        earlier : Left u (from_bad u) → (i : ℕ) → i < suc (length u) - from_bad u → get_or (x ∷ u) i 0 ≡ 0
        earlier t zero l = eqb-true x 0 e
        earlier t (suc i) l = t.zeros i (omega (arith, t.few))
    go false e h ih =
        let none : suc (length u) - suc (length u) ≡ 0 = omega arith in
        record {
          some = omega arith;
          few = omega arith;
          bad = subst (λ (i : ℕ). get_or (x ∷ u) i 0 ≡ 0 → ⊥) (sym none) (eqb-false x 0 e);
          zeros = λ i l. absurd (omega arith);
        }

-- in s, where they stand from a on
first_bad : (s u : List ℕ) (a : ℕ) → ((i : ℕ) → i < length u → get_or u i 0 ≡ get_or s (a + i) 0) → a + length u ≤ length s → all_zero u ≡ false
    → FirstBad s a (a + length u) (a + length u - from_bad u)
first_bad s u a is there h =
    let t = left_from u h in
    let at : a + (length u - from_bad u) ≡ a + length u - from_bad u = omega (arith, t.few) in
    record {
      there = there;
      from = omega (arith, t.few);
      before = omega (arith, t.some);
      bad = λ e. t.bad (is (length u - from_bad u) (omega (arith, t.some, t.few)) ∙ ap (λ (i : ℕ). get_or s i 0) at ∙ e);
      first = λ i l m.
          let j : a + (i - a) ≡ i = omega arith in
          let few : i - a < length u - from_bad u = omega (arith, t.few) in
          ap (λ (i : ℕ). get_or s i 0) (sym j) ∙ sym (is (i - a) (omega arith)) ∙ t.zeros (i - a) few;
    }

-- ---- fixed kinds
abbrev FixedRight : Fixed → SortOptions → List ℕ → Parsed Slot → Type 0
FixedRight k o s (got v r) = Unit {0}
FixedRight k o s (fault f l) = FixedBad k o f s (length s - l)

right_null : (k : Fixed) (o : SortOptions) (b : ℕ) (s : List ℕ) → FixedRight k o (b ∷ s) (read_null (width k) s)
right_null k o b s =
    by_test (FixedRight k o (b ∷ s)) (ltb (length s) (width k)) _ _ (λ q. omega arith) (λ q.
    by_test (FixedRight k o (b ∷ s)) (all_zero (take (width k) s)) _ _ (λ z. tt) (bad (ltb-false (length s) (width k) q)))
  where
    bad : width k ≤ length s → all_zero (take (width k) s) ≡ false
        → FixedRight k o (b ∷ s) (fault NullRest (from_bad (take (width k) s) + length (drop (width k) s)))
    bad l z =
        let u : List ℕ = take (width k) s in
        let m : length u ≡ width k = length-take-le (width k) s l in
        let is : (i : ℕ) → i < length u → get_or u i 0 ≡ get_or (b ∷ s) (1 + i) 0
        = λ i h. get_or-take (width k) s i 0 (omega arith) ∙ get_or-drop 1 (b ∷ s) i 0 in
        let t = first_bad (b ∷ s) u 1 is (omega arith) z in
        subst (λ (p : ℕ). FirstBad (b ∷ s) 1 (1 + width k) p) (omega (arith, length-drop (width k) s, (left_from u z).few))
        (subst (λ (n : ℕ). FirstBad (b ∷ s) 1 (1 + n) (1 + length u - from_bad u)) m t)

-- only a bool is not allowed every byte
right_key : (k : Fixed) (o : SortOptions) (b : ℕ) (s : List ℕ) → width k ≤ length s → allowed k (directed o.descending (take (width k) s)) ≡ false
    → FixedRight k o (b ∷ s) (fault BoolByte (length (directed o.descending (take (width k) s)) + length (drop (width k) s)))
right_key (plain n) o b s l h = absurd (true≢false h)
right_key (number n) o b s l h = absurd (true≢false h)
right_key (integer n) o b s l h = absurd (true≢false h)
right_key (float n) o b s l h = absurd (true≢false h)
right_key (parts ns) o b s l h = absurd (true≢false h)
right_key bool o b [] l h = absurd (omega arith)
right_key bool o b (x ∷ s) l h = go o.descending h
  where
    go : (d : Bool) → allowed bool (directed d (x ∷ [])) ≡ false
        → (bool ≡ bool) × (suc (suc (length s)) - (length (directed d (x ∷ [])) + length s) ≡ 1) × (1 < suc (suc (length s)))
        × (1 < get_or (directed d (b ∷ x ∷ s)) 1 0)
    go true h = (refl, omega arith, omega arith, ltb-false (255 - x) 2 h)
    go false h = (refl, omega arith, omega arith, ltb-false x 2 h)

right_bytes : (k : Fixed) (o : SortOptions) (b : ℕ) (s : List ℕ) → FixedRight k o (b ∷ s) (read_bytes k o s)
right_bytes k o b s =
    by_test (FixedRight k o (b ∷ s)) (ltb (length s) (width k)) _ _ (λ q. omega arith) (λ q.
    let long = ltb-false (length s) (width k) q in
    by_test (FixedRight k o (b ∷ s)) (allowed k f) _ _
    (λ h. by_test (FixedRight k o (b ∷ s)) (is_folded k o.fold (unkey k f)) _ _ (λ g. tt) (λ g. (first long, omega arith, g)))
    (right_key k o b s long))
  where
    f : List ℕ
    f = directed o.descending (take (width k) s)

    -- the value bytes stand after the lead
    first : width k ≤ length s → suc (length s) - (length (directed o.descending (take (width k) s)) + length (drop (width k) s)) ≡ 1
    first l =
        omega (
          arith,
          length_directed o.descending (take (width k) s),
          length-take-le (width k) s l,
          length-drop (width k) s,
        )

right_fixed : (k : Fixed) (o : SortOptions) (s : List ℕ) → FixedRight k o s (read_fixed k o s)
right_fixed k o [] = refl
right_fixed k o (b ∷ s) =
    by_test (FixedRight k o (b ∷ s)) (null_lead o b) _ _ (λ q. right_null k o b s) (λ q.
    by_test (FixedRight k o (b ∷ s)) (eqb b 1) _ _ (λ h. right_bytes k o b s) (λ h.
    (omega arith, omega arith, q, eqb-false b 1 h)))

-- ---- variable bytes
abbrev VariableRight : {A : Type 0} → ℕ → List ℕ → Parsed A → Type 0
VariableRight limit s (got v r) = Unit {0}
VariableRight limit s (fault f l) = VariableBad limit f s (length s - l)

right_after : (limit : ℕ) (s d : List ℕ) (p : Parsed (List ℕ)) → VariableRight limit s p → VariableRight limit s (after d p)
right_after limit s d (got v r) h = h
right_after limit s d (fault f l) h = h

-- block k of s, which is there
module _ (limit : ℕ) (s : List ℕ) (k : ℕ) (r : Reached s k) where
  abbrev size : ℕ
  size = block_size k

  abbrev part : List ℕ
  part = take size (drop (block_place k) s)

  abbrev rest : List ℕ
  rest = drop (suc size) (drop (block_place k) s)

  abbrev end : ℕ
  end = get_or (drop (block_place k) s) size 0

  end_is : end ≡ get_or s (end_place k) 0
  end_is = get_or-drop (block_place k) s size 0

  -- its end byte is where so many bytes are left
  end_at : length s - suc (length rest) ≡ end_place k
  end_at = omega (arith, r.whole, length-drop (suc size) (drop (block_place k) s), length-drop (block_place k) s)

  end_here : get_or s (length s - suc (length rest)) 0 ≡ end
  end_here = ap (λ (i : ℕ). get_or s i 0) end_at ∙ sym end_is

  right_long : (n : ℕ) → data_in size end ≡ n → limit < data_before k + n → VariableRight {A = List ℕ} limit s (fault TooLong (suc (length rest)))
  right_long n e h =
      (k, r, end_at, subst (λ (m : ℕ). limit < data_before k + m) (sym e ∙ ap (data_in size) (sym end_here)) h)

  right_end : (eqb end 255 ≡ false) → (ltb end 1 || ltb size end) ≡ true → VariableRight {A = List ℕ} limit s (fault EndByte (suc (length rest)))
  right_end e h = (k, r, end_at, subst (BadEnd size) (sym end_here) (eqb-false end 255 e, λ l m. outside (ltb end 1) refl h l m))
    where
      outside : (b : Bool) → ltb end 1 ≡ b → (b || ltb size end) ≡ true → 1 ≤ end → end ≤ size → ⊥
      outside true q h l m = omega (arith, ltb-true end 1 q)
      outside false q h l m = omega (arith, ltb-true size end h)

  right_padding : end ≤ size → all_zero (drop end part) ≡ false
      → VariableRight {A = List ℕ} limit s (fault Padding (from_bad (drop end part) + suc (length rest)))
  right_padding l z =
      let u : List ℕ = drop end part in
      let long : length part ≡ size = length-take-le size (drop (block_place k) s) (omega (arith, r.whole, length-drop (block_place k) s)) in
      let many : length u ≡ size - end = length-drop end part ∙ ap (λ (n : ℕ). n - end) long in
      let is : (i : ℕ) → i < length u → get_or u i 0 ≡ get_or s (block_place k + end + i) 0
      = λ i h.
      get_or-drop end part i 0 ∙ get_or-take size (drop (block_place k) s) (end + i) 0 (omega arith) ∙ get_or-drop (block_place k) s (end + i) 0
      ∙ ap (λ (j : ℕ). get_or s j 0) (let e : block_place k + (end + i) ≡ block_place k + end + i = omega arith in e) in
      let t = first_bad s u (block_place k + end) is (omega (arith, r.whole)) z in
      let to : block_place k + end + length u ≡ end_place k = omega arith in
      let at : end_place k - from_bad u ≡ length s - (from_bad u + suc (length rest)) = omega (arith, end_at, (left_from u z).few, r.whole) in (
        k,
        r,
        subst (λ (e : ℕ). FirstBad s (block_place k + e) (end_place k) (length s - (from_bad u + suc (length rest)))) end_is
            (subst (FirstBad s (block_place k + end) (end_place k)) at
            (subst (λ (b : ℕ). FirstBad s (block_place k + end) b (b - from_bad u)) to t)),
      )

  right_block : (more : Parsed (List ℕ)) → (end ≡ 255 → VariableRight limit s more)
      → VariableRight limit s (read_block size limit (data_before k) part end rest more)
  right_block more h =
      by_test (VariableRight limit s) (eqb end 255) _ _
      (λ e.
      by_test (VariableRight limit s) (ltb limit (data_before k + size)) _ _
      (λ q. right_long size (ap (λ (b : Bool). cond b size end) e) (ltb-true limit (data_before k + size) q))
      (λ q. right_after limit s part more (h (eqb-true end 255 e))))
      (λ e.
      by_test (VariableRight limit s) (ltb end 1 || ltb size end) _ _ (right_end e) (λ q.
      by_test (VariableRight limit s) (all_zero (drop end part)) _ _
      (λ z.
      by_test (VariableRight limit s) (ltb limit (data_before k + end)) _ _
      (λ w. right_long end (ap (λ (b : Bool). cond b size end) e) (ltb-true limit (data_before k + end) w)) (λ w. tt))
      (right_padding (ltb-false size end (neither (ltb end 1) (ltb size end) q).1))))

-- from block k on, where each block before it says that more follow
right_blocks : (limit : ℕ) (s : List ℕ) (n k : ℕ) → ((i : ℕ) → i < k → get_or s (end_place i) 0 ≡ 255)
    → VariableRight limit s (read_blocks block_size limit n k (data_before k) (drop (block_place k) s))
right_blocks limit s zero k more = omega arith
right_blocks limit s (suc n) k more =
    by_test (VariableRight limit s) (leb (length (drop (block_place k) s)) (block_size k)) _ _ (λ q. omega arith) (λ q.
    let r : Reached s k
    = record {
      whole = omega (arith, leb-false (length (drop (block_place k) s)) (block_size k) q, length-drop (block_place k) s);
      more = more;
    } in
    right_block limit s k r (read_blocks block_size limit n (suc k) (data_before (suc k)) (drop (suc (block_size k)) (drop (block_place k) s))) (λ e.
    let next = below_more (λ i. get_or s (end_place i) 0 ≡ 255) k more (sym (end_is limit s k r) ∙ e) in
    subst (λ (t : List ℕ). VariableRight limit s (read_blocks block_size limit n (suc k) (data_before (suc k)) t))
    (sym (drop-drop (suc (block_size k)) (block_place k) s)) (right_blocks limit s n (suc k) (λ i l. next i (omega arith)))))

right_value : (limit : ℕ) (s : List ℕ) → VariableRight limit s (read_value limit s)
right_value limit [] = refl
right_value limit (b ∷ s) =
    by_test (VariableRight limit (b ∷ s)) (eqb b 1) _ _ (λ q. tt) (λ q.
    by_test (VariableRight limit (b ∷ s)) (eqb b 2) _ _ (λ h. right_blocks limit (b ∷ s) (length s) 0 (λ i l. absurd (omega arith))) (λ h.
    (omega arith, omega arith, eqb-false b 1 q, eqb-false b 2 h)))

-- ---- one column
abbrev Right : Shape → SortOptions → List ℕ → Parsed Slot → Type 0
Right sh o s (got v r) = Unit {0}
Right sh o s (fault f l) = FieldBad sh o f s (length s - l)

right_field : (sh : Shape) (o : SortOptions) (s : List ℕ) → Right sh o s (read_field sh o s)
right_field (fixed k) o s = go (read_fixed k o s) (right_fixed k o s)
  where
    go : (p : Parsed Slot) → FixedRight k o s p → Right (fixed k) o s p
    go (got v r) h = tt
    go (fault f l) h = h
right_field variable o [] = none o.descending
  where
    none : (d : Bool) → 0 ≡ length (directed d [])
    none true = refl
    none false = refl
right_field variable o (b ∷ s) =
    by_test (Right variable o (b ∷ s)) (null_lead o b) _ _ (λ q. tt) (λ q. go (read_value max_slot t) (right_value max_slot t))
  where
    t : List ℕ
    t = directed o.descending (b ∷ s)

    go : (p : Parsed (List ℕ)) → VariableRight max_slot t p → Right variable o (b ∷ s) (value_slot o.descending p)
    go (got v r) h = tt
    go (fault f l) h = subst (λ (n : ℕ). VariableBad max_slot f t (n - l)) (length_directed o.descending (b ∷ s)) h

pub field_place : (sh : Shape) (o : SortOptions) (s : List ℕ) (f : RowFault) (l : ℕ) → read_field sh o s ≡ fault f l → FieldBad sh o f s (length s - l)
field_place sh o s f l e = subst (Right sh o s) e (right_field sh o s)
