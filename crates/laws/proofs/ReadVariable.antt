-- Variable bytes, for every limit on a value: a field is read back as its slot, and only the field of such a slot is read.
use Prim.Native.Nat.{ℕ, suc, ◌<◌, ◌≤◌}
use mathlib.Core.Path.{◌≡◌, refl, ap, ap₂, sym, ◌∙◌, subst}
use mathlib.Core.Logic.{◌⊎◌, inl, inr}
use mathlib.Core.Bool.{Bool, true, false, cond}
use mathlib.Core.Option.{none, some}
use mathlib.Core.List.{List, [], ◌∷◌, ◌++◌}
use native.Mathlib.Omega.{arith}
use lib.Dec.{eqb}
use lib.ListN.{length, length-append}
use borrow.Author.Tests.{lt-ltb, le-ltb, eqb-true}
use Rattle.format.specs.Field.{block_size, directed, variable_bytes, variable_field}
use Rattle.format.specs.Fits.{SlotFits}
use Rattle.format.specs.Kinds.{variable, Slot}
use Rattle.format.specs.Lists.{Bytes}
use Rattle.format.specs.Read.{Parsed, got, fault, null_lead, read_blocks, read_value, read_variable, value_slot}
use Rattle.format.specs.declared.RowFault.TheVariants.{Lead}
use Rattle.format.specs.declared.SortOptions.{SortOptions}
use Rattle.basics.proofs.Compare.{choose}
use Rattle.laws.proofs.Directed.{bytes_directed, directed_append, directed_back, directed_twice}
use Rattle.laws.proofs.Fields.{bytes_value, bytes_variable, Led, led_variable, not_null, null_led, led_null}
use Rattle.laws.proofs.Parsed.{fault_got, yes_got}
use Rattle.laws.proofs.ReadBlocks.{stream_read, read_stream, Spelled}
use Rattle.laws.proofs.Stream.{stream, variable_stream, block_size_room, block_size_small}

-- the blocks hold the data
length_stream : (size : ℕ → ℕ) (x : List ℕ) (k u : ℕ) → length x ≤ length (stream size k u x)
length_stream size [] k u = omega arith
length_stream size (x ∷ xs) k u = go (choose u (size k)) (length_stream size xs)
  where
    go : (u < size k) ⊎ (size k ≤ u) → ((k u : ℕ) → length xs ≤ length (stream size k u xs)) → suc (length xs) ≤ length (stream size k u (x ∷ xs))
    go (inl h) ih = rw (lt-ltb u (size k) h) (omega (arith, ih k (suc u)))
    go (inr h) ih = rw (le-ltb u (size k) h) (omega (arith, ih (suc k) 1))

module _ (limit : ℕ) where
  -- ---- a value

  -- a value is read back, and what follows it is left
  value_read : (x t : List ℕ) → length x ≤ limit → read_value limit (variable_bytes x ++ t) ≡ got x t
  value_read [] t h = refl
  value_read (x ∷ xs) t h =
      ap (λ (z : List ℕ). read_value limit (z ++ t)) (variable_stream x xs)
      ∙ stream_read block_size block_size_room block_size_small limit (length (s ++ t)) (x ∷ xs) t 0 0 (omega arith)
      (omega (arith, length-append s t, length_stream block_size (x ∷ xs) 0 0)) (omega arith)
    where
      s : List ℕ
      s = stream block_size 0 0 (x ∷ xs)

  -- the blocks after 02 are those of a nonempty value
  nonempty : (s v r : List ℕ) → Spelled block_size block_size_room limit 0 0 s v r → 2 ∷ s ≡ variable_bytes v ++ r
  nonempty s [] r p = absurd (omega (arith, p.some_data))
  nonempty s (x ∷ xs) r p = ap (λ (z : List ℕ). 2 ∷ z) p.bytes ∙ ap (λ (z : List ℕ). z ++ r) (sym (variable_stream x xs))

  -- only the bytes of a value within the limit are read
  read_value_lem : (s v r : List ℕ) → read_value limit s ≡ got v r → (s ≡ variable_bytes v ++ r) × (length v ≤ limit)
  read_value_lem [] v r h = absurd (fault_got h)
  read_value_lem (b ∷ s) v r h = go (eqb b 1) refl h
    where
      Goal : List ℕ → Type 0
      Goal v = (b ∷ s ≡ variable_bytes v ++ r) × (length v ≤ limit)

      go : (c : Bool) → eqb b 1 ≡ c
          → cond c (got [] s) (cond (eqb b 2) (read_blocks block_size limit (length s) 0 0 s) (fault Lead (suc (length s)))) ≡ got v r → Goal v
      go true q h =
          let e : [] ≡ v = cc in
          let i : s ≡ r = cc in
          subst Goal e (ap₂ {C = List ℕ} (λ a z. a ∷ z) (eqb-true b 1 q) i, omega arith)
      go false q h =
          let t : (eqb b 2 ≡ true) × (read_blocks block_size limit (length s) 0 0 s ≡ got v r) = yes_got (eqb b 2) _ _ h in
          let p : Spelled block_size block_size_room limit 0 0 s v r = read_stream block_size block_size_room limit (length s) 0 0 s v r t.1 in
          (ap (λ (z : ℕ). z ∷ s) (eqb-true b 2 t.0) ∙ nonempty s v r p, omega (arith, p.within))

  -- ---- a field

  -- a field that does not begin as a null is read as a value
  past_null : (o : SortOptions) (b : ℕ) (s : List ℕ) → 0 < b → b < 255
      → read_variable limit o (b ∷ s) ≡ value_slot o.descending (read_value limit (directed o.descending (b ∷ s)))
  past_null o b s h l = rw (not_null o b h l)

  -- the field of a slot is read back, and what follows it is left
  pub variable_read : (o : SortOptions) (s : Slot) (t : List ℕ) → SlotFits limit variable o s → Bytes t
      → read_variable limit o (variable_field o s ++ t) ≡ got s t
  variable_read o none t h bt = rw (null_led o h)
  variable_read o (some x) t h bt =
      ap (λ (z : List ℕ). read_variable limit o (z ++ t)) l.splits
      ∙ past_null o l.lead (l.rest ++ t) l.above l.below
      ∙ ap (λ (z : List ℕ). value_slot d (read_value limit (directed d (z ++ t)))) (sym l.splits)
      ∙ ap (λ (z : List ℕ). value_slot d (read_value limit z)) (directed_back d (variable_bytes x) t (bytes_variable x h.0))
      ∙ ap (value_slot d) (value_read x (directed d t) h.1)
      ∙ ap (got (some x)) (directed_twice d t bt)
    where
      d : Bool
      d = o.descending

      l : Led (directed d (variable_bytes x))
      l = led_variable d x

  -- a value that was read, and what is left of the bytes turned back
  slot_got : (d : Bool) (m : Parsed (List ℕ)) (s : Slot) (r : List ℕ) → value_slot d m ≡ got s r
      → (v : List ℕ) × (r' : List ℕ) × (m ≡ got v r') × (some v ≡ s) × (directed d r' ≡ r)
  slot_got d (got v r') s r e = (v, r', refl, cc, cc)
  slot_got d (fault f l) s r e = absurd (fault_got e)

  -- only the field of a slot within the limit is read
  pub read_variable_lem : (o : SortOptions) (f : List ℕ) (s : Slot) (r : List ℕ) → Bytes f → read_variable limit o f ≡ got s r
      → (f ≡ variable_field o s ++ r) × SlotFits limit variable o s
  read_variable_lem o [] s r bf h = absurd (fault_got h)
  read_variable_lem o (b ∷ f) s r bf h = go (null_lead o b) refl h
    where
      d : Bool
      d = o.descending

      m : Parsed (List ℕ)
      m = read_value limit (directed d (b ∷ f))

      Goal : Slot → Type 0
      Goal s = (b ∷ f ≡ variable_field o s ++ r) × SlotFits limit variable o s

      go : (c : Bool) → null_lead o b ≡ c → cond c (got none f) (value_slot d m) ≡ got s r → Goal s
      go true q h =
          let e : none ≡ s = cc in
          let i : f ≡ r = cc in
          let n = led_null o b q in
          subst Goal e (ap₂ {C = List ℕ} (λ a z. a ∷ z) n.1 i, n.0)
      go false q h =
          let k : (v : List ℕ) × (r' : List ℕ) × (m ≡ got v r') × (some v ≡ s) × (directed d r' ≡ r) = slot_got d m s r h in
          let e : (directed d (b ∷ f) ≡ variable_bytes k.0 ++ k.1) × (length k.0 ≤ limit) = read_value_lem (directed d (b ∷ f)) k.0 k.1 k.2 in
          subst Goal k.3 (
            sym (directed_twice d (b ∷ f) bf)
                ∙ ap (directed d) e.0
                ∙ directed_append d (variable_bytes k.0) k.1
                ∙ ap (λ (z : List ℕ). directed d (variable_bytes k.0) ++ z) k.4,
            (bytes_value k.0 k.1 (subst Bytes e.0 (bytes_directed d (b ∷ f) bf)), e.1),
          )
