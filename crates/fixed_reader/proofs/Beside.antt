-- A field of a kind whose value bytes are not all allowed, bool or a folding float, beside one of plain bytes: the same but for the value
-- bytes. Assumes nothing.
use Prim.Native.Nat.{ℕ, suc, ◌+◌, ◌-◌, ◌<◌, ◌≤◌}
use mathlib.Core.Path.{◌≡◌, refl, sym, ap, ◌∙◌}
use mathlib.Core.Bool.{Bool, true, false, false≢true, cond}
use mathlib.Core.Option.{none, some}
use mathlib.Core.List.{List, [], ◌∷◌}
use native.Mathlib.Omega.{arith}
use lib.Dec.{ltb, eqb}
use lib.ListN.{length, get_or, take, drop, length-drop}
use lib.Seq.{length-take-le}
use borrow.Author.Tests.{lt-ltb, le-ltb, ltb-true, ltb-false, eqb-true, eqb-false}
use Rattle.std.specs.declared.option.Option.{Option}
use Rattle.std.specs.declared.option.Option.TheVariants.{Some, None}
use Rattle.std.specs.declared.result.Result.TheVariants.{Ok, Err}
use Rattle.format.specs.declared.SortOptions.{SortOptions}
use Rattle.format.specs.declared.RowFault.TheVariants.{BoolByte, Cut, Lead, NullRest, Unfolded}
use Rattle.format.specs.Kinds.{Fixed, Slot, bool, plain, width}
use Rattle.format.specs.Key.{allowed, unkey}
use Rattle.format.specs.Fold.{is_folded}
use Rattle.format.specs.Cleared.{valid}
use Rattle.format.specs.Field.{directed}
use Rattle.format.specs.Read.{Parsed, got, fault, all_zero, from_bad, field_read, null_lead, read_bytes, read_fixed, read_key, read_null, slot_read, FieldAnswer, found_value, found_fault}
use Rattle.basics.specs.Wide.{WideShape}
use Rattle.laws.proofs.Directed.{turn, length_directed}
use Rattle.laws.proofs.Unkey.{length_unkey}
use Rattle.runs.proofs.Direction.{directed_one}
use Rattle.fixed_reader.proofs.Reading.{lead_null, lead_bad, lead_value, bytes_cut, bytes_whole}
use Rattle.fixed_reader.proofs.Standing.{one_byte}

-- plain bytes are no bool
pub plain_shape : (w : ℕ) → WideShape w (plain w)
plain_shape w = record { bytes = refl; other = λ e. let z : ◌≡◌ {A = ℕ} 0 1 = cc in omega arith }

-- whether an answer has a value
abbrev pub is_value : Option ℕ → Bool
is_value None = false
is_value (Some n) = true

abbrev pub has_value : FieldAnswer → Bool
has_value (Ok read) = is_value read.value
has_value (Err found) = false

pub no_value : (v : Option ℕ) → ((n : ℕ) → v ≡ Some n → ⊥) → is_value v ≡ false
no_value None h = refl
no_value (Some n) h = absurd (h n refl)

value_is : (s : List ℕ) (p : Parsed Slot) → has_value (field_read s p) ≡ valid (slot_read p)
value_is s (got none r) = refl
value_is s (got (some v) r) = refl
value_is s (fault f l) = refl

null_none : (w : ℕ) (s : List ℕ) → valid (slot_read (read_null w s)) ≡ false
null_none w s = go (ltb (length s) w) (all_zero (take w s))
  where
    go : (t u : Bool) → valid (slot_read (cond t (fault Cut 0) (cond u (got none (drop w s)) (fault NullRest (from_bad (take w s) + length (drop w s)))))) ≡ false
    go true u = refl
    go false true = refl
    go false false = refl

module _ (k : Fixed) (o : SortOptions) where
  -- plain bytes, as many
  abbrev bare : Fixed
  bare = plain (width k)

  data Beside (s : List ℕ) : Type 0 where
    alike : (p : Parsed Slot) → valid (slot_read p) ≡ false → read_fixed bare o s ≡ p → read_fixed k o s ≡ p → Beside s
    valued : 1 + width k ≤ length s → read_fixed bare o s ≡ read_bytes bare o (drop 1 s) → read_fixed k o s ≡ read_bytes k o (drop 1 s) → Beside s

  beside : (s : List ℕ) → Beside s
  beside [] = alike (fault Cut 0) refl refl refl
  beside (b ∷ s) = by_null (null_lead o b) refl
    where
      by_length : (t : Bool) → ltb (length s) (width k) ≡ t → null_lead o b ≡ false → b ≡ 1 → Beside (b ∷ s)
      by_length true l n e =
          let h = ltb-true (length s) (width k) l in
          alike (fault Cut 0) refl (lead_value bare o (b ∷ s) (omega arith) n e ∙ bytes_cut bare o s h)
          (lead_value k o (b ∷ s) (omega arith) n e ∙ bytes_cut k o s h)
      by_length false l n e =
          let h = ltb-false (length s) (width k) l in
          valued (omega arith) (lead_value bare o (b ∷ s) (omega arith) n e) (lead_value k o (b ∷ s) (omega arith) n e)

      by_one : (t : Bool) → eqb b 1 ≡ t → null_lead o b ≡ false → Beside (b ∷ s)
      by_one true q n = by_length (ltb (length s) (width k)) refl n (eqb-true b 1 q)
      by_one false q n =
          let e = eqb-false b 1 q in
          alike (fault Lead (suc (length s))) refl (lead_bad bare o (b ∷ s) (omega arith) n e) (lead_bad k o (b ∷ s) (omega arith) n e)

      by_null : (t : Bool) → null_lead o b ≡ t → Beside (b ∷ s)
      by_null true q = alike (read_null (width k) s) (null_none (width k) s) (lead_null bare o (b ∷ s) (omega arith) q) (lead_null k o (b ∷ s) (omega arith) q)
      by_null false q = by_one (eqb b 1) refl q

  -- ---- r is the answer for plain bytes

  module _ (s : List ℕ) (r : FieldAnswer) (a : r ≡ field_read s (read_fixed bare o s)) where
    abbrev rest : List ℕ
    rest = drop (width k) (drop 1 s)

    -- the value bytes, inverted back
    abbrev keyed : List ℕ
    keyed = directed o.descending (take (width k) (drop 1 s))

    -- one without a value is that for the kind
    pub none_alike : has_value r ≡ false → r ≡ field_read s (read_fixed k o s)
    none_alike n = go (beside s)
      where
        go : Beside s → r ≡ field_read s (read_fixed k o s)
        go (alike p v e f) = a ∙ ap (field_read s) (e ∙ sym f)
        go (valued h e f) =
            let whole = bytes_whole bare o (drop 1 s) (omega (arith, length-drop 1 s)) in
            absurd (false≢true (sym n ∙ ap has_value (a ∙ ap (field_read s) (e ∙ whole))))

    -- with one
    module _ (v : has_value r ≡ true) where
      abbrev Told : Type 0
      Told =
          (1 + width k ≤ length s) × (read_fixed bare o s ≡ read_bytes bare o (drop 1 s)) × (read_fixed k o s ≡ read_bytes k o (drop 1 s))

      told : Told
      told = go (beside s)
        where
          go : Beside s → Told
          go (alike p q e f) =
              absurd (false≢true (sym q ∙ sym (value_is s p) ∙ sym (ap has_value (a ∙ ap (field_read s) e)) ∙ v))
          go (valued h e f) = (h, e, f)

      pub value_whole : 1 + width k ≤ length s
      value_whole = told.0

      whole : width k ≤ length (drop 1 s)
      whole = omega (arith, length-drop 1 s, told.0)

      long : length keyed ≡ width k
      long = length_directed o.descending (take (width k) (drop 1 s)) ∙ length-take-le (width k) (drop 1 s) whole

      left : length keyed + length rest ≡ length s - 1
      left = omega (arith, long, told.0, length-drop 1 s, length-drop (width k) (drop 1 s))

      as_kind : read_fixed k o s ≡ read_key k o.fold keyed rest
      as_kind = told.2 ∙ bytes_whole k o (drop 1 s) whole

      as_bare : read_fixed bare o s ≡ got (some keyed) rest
      as_bare = told.1 ∙ bytes_whole bare o (drop 1 s) whole

      -- value bytes that no value has
      pub value_bad : allowed k keyed ≡ false → found_fault BoolByte (length s - 1) ≡ field_read s (read_fixed k o s)
      value_bad e = rw (as_kind, e) (ap (found_fault BoolByte) (sym left))

      module _ (e : allowed k keyed ≡ true) where
        -- those of a float that is not folded
        pub value_unfolded : is_folded k o.fold (unkey k keyed) ≡ false → found_fault Unfolded (length s - 1) ≡ field_read s (read_fixed k o s)
        value_unfolded f = rw (as_kind, e, f) (ap (found_fault Unfolded) (sym left))

        -- and all others
        pub value_good : is_folded k o.fold (unkey k keyed) ≡ true → r ≡ field_read s (read_fixed k o s)
        value_good f = a ∙ ap (field_read s) as_bare ∙ rw (as_kind, e, f) (ap (found_value (length s - length rest)) (long ∙ sym (length_unkey k keyed long)))

-- ---- a bool, whose value byte is y, inverted back

module _ (o : SortOptions) (s : List ℕ) (r : FieldAnswer) (a : r ≡ field_read s (read_fixed (plain 1) o s)) (v : has_value r ≡ true)
    (y : ℕ) (q : y ≡ turn o.descending (get_or s 1 0)) where
  byte_is : allowed bool (directed o.descending (take 1 (drop 1 s))) ≡ ltb y 2
  byte_is =
      ap (allowed bool)
      (ap (directed o.descending) (one_byte s (value_whole bool o s r a v)) ∙ directed_one o.descending (get_or s 1 0)
      ∙ ap (λ (b : ℕ). b ∷ []) (sym q))

  pub bool_bad : 1 < y → found_fault BoolByte (length s - 1) ≡ field_read s (read_fixed bool o s)
  bool_bad h = value_bad bool o s r a v (byte_is ∙ le-ltb y 2 h)

  pub bool_good : y ≤ 1 → r ≡ field_read s (read_fixed bool o s)
  bool_good h = value_good bool o s r a v (byte_is ∙ lt-ltb y 2 (omega arith)) refl
