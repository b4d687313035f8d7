-- What the readers share: what a row's field is, by its lead byte and its length. Assumes nothing.
use Prim.Native.Nat.{ℕ, ◌+◌, ◌-◌, ◌<◌, ◌≤◌}
use mathlib.Core.Path.{◌≡◌, refl, sym, ap, ap₂, ◌∙◌}
use mathlib.Core.Bool.{true, false}
use mathlib.Core.List.{List, [], ◌∷◌}
use native.Mathlib.Omega.{arith}
use lib.Dec.{ltb}
use lib.ListN.{length, get_or, take, drop, length-drop}
use lib.Seq.{length-take-le, get_or-take, get_or-drop}
use borrow.Author.Tests.{lt-ltb, le-ltb, eq-eqb, ne_eqb}
use Rattle.format.specs.declared.SortOptions.{SortOptions}
use Rattle.format.specs.declared.RowFault.TheVariants.{Cut, Lead, NullRest}
use Rattle.format.specs.Kinds.{Fixed, bool, plain, number, integer, float, parts, width}
use Rattle.format.specs.Key.{allowed}
use Rattle.format.specs.Fold.{folds}
use Rattle.format.specs.Field.{directed}
use Rattle.format.specs.Read.{fault, field_read, null_lead, read_bytes, read_fixed, read_key, read_null, FieldAnswer, found_null, found_value, found_fault}
use Rattle.laws.proofs.Directed.{length_directed}
use Rattle.laws.proofs.Unkey.{length_unkey}
use Rattle.basics.specs.Wide.{WideShape}
use Rattle.fixed_reader.proofs.Scan.{Clean, clean_bad, clean_end, clean_more}

-- ---- after the null byte

module _ (row : List ℕ) (w : ℕ) (some_lead : 0 < length row) where
  abbrev rest : List ℕ
  rest = take w (drop 1 row)

  room : length (drop 1 row) ≡ length row - 1
  room = length-drop 1 row

  module _ (fits : w ≤ length row - 1) where
    long : length rest ≡ w
    long = length-take-le w (drop 1 row) (omega (arith, room))

    whole : ltb (length (drop 1 row)) w ≡ false
    whole = le-ltb (length (drop 1 row)) w (omega (arith, room))

    at : (i : ℕ) → i < w → get_or rest i 0 ≡ get_or row (1 + i) 0
    at i h = get_or-take w (drop 1 row) i 0 h ∙ get_or-drop 1 row i 0

    pub null_more : (i : ℕ) → Clean rest i → i < w → get_or row (1 + i) 0 ≡ 0 → Clean rest (i + 1)
    null_more i k h z = clean_more rest i k (omega (arith, long)) (at i h ∙ z)

    pub null_bad : (i : ℕ) → Clean rest i → i < w → (get_or row (1 + i) 0 ≡ 0 → ⊥)
        → found_fault NullRest (length row - 1 - i) ≡ field_read row (read_null w (drop 1 row))
    null_bad i k h z =
        let b = clean_bad rest i k (omega (arith, long)) (λ e. z (sym (at i h) ∙ e)) in
        rw (whole, b.0) (ap (found_fault NullRest) (omega (arith, b.1, long, room, length-drop w (drop 1 row))))

    pub null_end : (i : ℕ) → Clean rest i → w ≤ i → found_null (1 + w) ≡ field_read row (read_null w (drop 1 row))
    null_end i k h = rw (whole, clean_end rest i k (omega (arith, long))) (ap found_null (omega (arith, room, length-drop w (drop 1 row))))

-- ---- by the lead byte

module _ (k : Fixed) (o : SortOptions) where
  pub lead_null : (s : List ℕ) → 0 < length s → null_lead o (get_or s 0 0) ≡ true → read_fixed k o s ≡ read_null (width k) (drop 1 s)
  lead_null [] h e = absurd (omega arith)
  lead_null (b ∷ s) h e = rw e

  pub lead_bad : (s : List ℕ) → 0 < length s → null_lead o (get_or s 0 0) ≡ false → (get_or s 0 0 ≡ 1 → ⊥) → read_fixed k o s ≡ fault Lead (length s)
  lead_bad [] h n e = absurd (omega arith)
  lead_bad (b ∷ s) h n e = rw (n, ne_eqb b 1 e)

  pub lead_value : (s : List ℕ) → 0 < length s → null_lead o (get_or s 0 0) ≡ false → get_or s 0 0 ≡ 1
      → read_fixed k o s ≡ read_bytes k o (drop 1 s)
  lead_value [] h n e = absurd (omega arith)
  lead_value (b ∷ s) h n e = rw (n, eq-eqb b 1 e)

-- ---- after 01

pub bytes_cut : (k : Fixed) (o : SortOptions) (s : List ℕ) → length s < width k → read_bytes k o s ≡ fault Cut 0
bytes_cut k o s h = rw (lt-ltb (length s) (width k) h)

pub bytes_whole : (k : Fixed) (o : SortOptions) (s : List ℕ) → width k ≤ length s
    → read_bytes k o s ≡ read_key k o.fold (directed o.descending (take (width k) s)) (drop (width k) s)
bytes_whole k o s h = rw (le-ltb (length s) (width k) h)

-- all value bytes are allowed but a bool's
pub wide_allowed : (k : Fixed) (f : List ℕ) → (k ≡ bool → ⊥) → allowed k f ≡ true
wide_allowed bool f n = absurd (n refl)
wide_allowed (plain n) f h = refl
wide_allowed (number n) f h = refl
wide_allowed (integer n) f h = refl
wide_allowed (float n) f h = refl
wide_allowed (parts ns) f h = refl

-- ---- a field that is not a bool's nor of a folding float, as `read` answers it

module _ (row : List ℕ) (w : ℕ) (o : SortOptions) (k : Fixed) (f : WideShape w k) (free : folds k o.fold ≡ false) where
  abbrev answer : FieldAnswer
  answer = field_read row (read_fixed k o row)

  pub read_null_lem : 0 < length row → null_lead o (get_or row 0 0) ≡ true → field_read row (read_null w (drop 1 row)) ≡ answer
  read_null_lem h e = rw (lead_null k o row h e, f.bytes)

  module _ (h : 0 < length row) (n : null_lead o (get_or row 0 0) ≡ false) (e : get_or row 0 0 ≡ 1) where
    module _ (l : w ≤ length row - 1) where
      enough : width k ≤ length (drop 1 row)
      enough = omega (arith, length-drop 1 row, f.bytes)

      abbrev value : List ℕ
      value = directed o.descending (take (width k) (drop 1 row))

      value_long : length value ≡ width k
      value_long = length_directed o.descending (take (width k) (drop 1 row)) ∙ length-take-le (width k) (drop 1 row) enough

      pub read_whole : found_value (1 + w) w ≡ answer
      read_whole =
          rw (lead_value k o row h n e, bytes_whole k o (drop 1 row) enough, wide_allowed k value f.other, free)
          (ap₂ found_value (omega (arith, f.bytes, length-drop 1 row, length-drop (width k) (drop 1 row)))
          (omega (arith, f.bytes, length_unkey k value value_long)))
