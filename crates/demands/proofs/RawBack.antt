-- A sheet that passes is the sheet of its raw columns, and they fit: its bytes are those of its validity, its ends, its values and what
-- is before its first ends, and no others. Assumes nothing.
use Prim.Native.Nat.{ℕ, zero, suc, ◌+◌, ◌-◌, ◌*◌, ◌/◌, ◌%◌, ◌^◌, ◌<◌, ◌≤◌}
use mathlib.Core.Path.{◌≡◌, refl, ap, ap₂, sym, subst, ◌∙◌}
use mathlib.Core.Bool.{Bool, false, cond}
use mathlib.Core.Logic.{◌⊎◌, inl, inr}
use mathlib.Core.List.{List, [], ◌∷◌, ◌++◌, map}
use native.Mathlib.Nat.{mod-lt, zero-add}
use native.Mathlib.Omega.{arith}
use lib.Dec.{eqb, lit<}
use lib.ListN.{length, get_or, take, drop, length-append, length-take, length-drop, take-append-drop, get_or-eq_default}
use lib.Pow.{shr-shr}
use lib.Seq.{length-take-le, take-add, take_all, drop-drop, ext_get_or}
use Rattle.std.specs.declared.result.Result.TheVariants.{Ok}
use Rattle.format.specs.declared.Column.{Column}
use Rattle.format.specs.Limits.{max_slot}
use Rattle.format.specs.Lists.{Bytes, each, ends_from, joined, low, low_bytes}
use Rattle.format.specs.Kinds.{Shape, Slot, column_shape}
use Rattle.format.specs.Fold.{folded_slot}
use Rattle.format.specs.Sheet.{Layout, bits, ended, wide, layout, packed, bit, any_bit, spare_set, bits_fault, end, variable_fault, values_fault, values_bytes, value_at, column_fault, column_bytes, sheet_fault_from, sheet_fault}
use Rattle.format.specs.Fits.{Fits, AllSlots}
use Rattle.format.specs.Cleared.{pack}
use Rattle.format.specs.Entries.{row_bytes, cut_rows}
use Rattle.format.specs.Passed.{Ended}
use Rattle.bits.proofs.Bits.{length_pack, bit_pack, bit_take}
use Rattle.bits.proofs.Flags.{flag_eq}
use Rattle.bits.proofs.Nulls.{bits_passed}
use Rattle.basics.proofs.Bytes.{bytes_take, bytes_drop}
use Rattle.basics.proofs.LowBytes.{low_bytes_low, low_small}
use Rattle.basics.proofs.Sorts.{foldable}
use Rattle.basics.proofs.Checks.{enough, both_pass}
use Rattle.basics.proofs.Compare.{choose}
use Rattle.basics.proofs.Lists.{each_at, each_same, length_each, map_each}
use Rattle.laws.proofs.Parsed.{or_false}
use Rattle.laws.proofs.Sheets.{last_end, variable_passed, column_passed, value_fits, column_fits}
use Rattle.demands.specs.Raw.{Raw, slot_of, standing, raw_column, raw_sheet, AllRaw, EndFits, ColumnFits, RawFits, before_first, raw_at, column_of, raw_columns}
use Rattle.demands.proofs.CutRows.{joined_from, ends_from_lem}
use Rattle.demands.proofs.OutBytes.{bytes_pack}

-- ---- packed bits: bytes with the same bits are the same

-- a digit by its flag
digit : (x : ℕ) → x < 2 → cond (eqb x 1) 1 0 ≡ x
digit zero h = refl
digit (suc zero) h = refl
digit (suc (suc x)) h = absurd (omega arith)

same_digit : (x y : ℕ) → eqb (x % 2) 1 ≡ eqb (y % 2) 1 → x % 2 ≡ y % 2
same_digit x y e = sym (digit (x % 2) (mod-lt x (lit< tt))) ∙ ap (λ (b : Bool). cond b 1 0) e ∙ digit (y % 2) (mod-lt y (lit< tt))

-- numbers of m bits
same_number : (m x y : ℕ) → x < 2 ^ m → y < 2 ^ m → ((k : ℕ) → k < m → eqb (x / 2 ^ k % 2) 1 ≡ eqb (y / 2 ^ k % 2) 1) → x ≡ y
same_number zero x y hx hy h = omega arith
same_number (suc m) x y hx hy h =
    let low : x % 2 ≡ y % 2 = same_digit x y (rw (whole x, whole y) at (h 0 (omega arith))) in
    let rest : x / 2 ≡ y / 2 = same_number m (x / 2) (y / 2) (omega arith) (omega arith) (λ k l. rw (further x k, further y k) (h (suc k) (omega arith))) in
    omega arith
  where
    whole : (z : ℕ) → z / 2 ^ 0 ≡ z
    whole z = omega arith

    further : (z k : ℕ) → z / 2 / 2 ^ k ≡ z / 2 ^ suc k
    further z k = shr-shr z 1 k ∙ ap (λ (j : ℕ). z / 2 ^ j) (omega arith)

byte_at : (bs : List ℕ) → Bytes bs → (i : ℕ) → get_or bs i 0 < 256
byte_at [] b i = omega arith
byte_at (x ∷ bs) b zero = b.0
byte_at (x ∷ bs) b (suc i) = byte_at bs b.1 i

same_bits : (m : ℕ) (a b : List ℕ) → length a ≡ m → length b ≡ m → Bytes a → Bytes b → ((i : ℕ) → i < 8 * m → bit a i ≡ bit b i) → a ≡ b
same_bits m a b la lb ha hb h = ext_get_or 0 a b (la ∙ sym lb) (λ j l.
    same_number 8 (get_or a j 0) (get_or b j 0) (byte_at a ha j) (byte_at b hb j) (λ k small.
    let byte : (8 * j + k) / 8 ≡ j = omega arith in
    let place : (8 * j + k) % 8 ≡ k = omega arith in
    rw (byte, place) at (h (8 * j + k) (omega arith))))

-- no one of the bits is set
all_clear : (bs : List ℕ) (i k : ℕ) → any_bit bs i k ≡ false → (j : ℕ) → i ≤ j → j < i + k → bit bs j ≡ false
all_clear bs i zero e j a b = absurd (omega arith)
all_clear bs i (suc k) e j a b =
    let p = or_false (bit bs i) (any_bit bs (suc i) k) e in
    go p.0 (all_clear bs (suc i) k p.1 j) (choose i j)
  where
    go : bit bs i ≡ false → (suc i ≤ j → j < suc i + k → bit bs j ≡ false) → (i < j) ⊎ (j ≤ i) → bit bs j ≡ false
    go now later (inl l) = later l (omega arith)
    go now later (inr l) = ap (bit bs) (let z : j ≡ i = omega arith in z) ∙ now

-- packed bits that pass are those of their rows
flags_back : (n c : ℕ) (s : List ℕ) → Bytes s → bits_fault n c s ≡ Ok tt → pack (packed n) (each 0 n (bit s)) ≡ take (packed n) s
flags_back n c s b e =
    same_bits (packed n) (pack (packed n) flags) v (length_pack (packed n) flags) long (bytes_pack (packed n) flags) (bytes_take (packed n) s b)
    (λ i l. bit_pack (packed n) flags i l ∙ at i l (choose i n) ∙ sym (bit_take (packed n) s i l))
  where
    passed : (packed n ≤ length s) × (spare_set (take (packed n) s) n ≡ false)
    passed = bits_passed n c s e

    v : List ℕ
    v = take (packed n) s

    flags : List Bool
    flags = each 0 n (bit s)

    long : length v ≡ packed n
    long = length-take-le (packed n) s passed.0

    at : (i : ℕ) → i < 8 * packed n → (i < n) ⊎ (n ≤ i) → get_or flags i false ≡ bit s i
    at i l (inl m) = each_at n (bit s) false i m
    at i l (inr m) =
        get_or-eq_default flags false (omega (arith, length_each 0 n (bit s)))
        ∙ sym (sym (bit_take (packed n) s i l) ∙ all_clear v n (8 * length v - n) passed.1 i m (omega (arith, long)))

-- ---- values of w bytes: joined they are the bytes
parts_from : (w i k : ℕ) (s : List ℕ) → joined (each i k (λ j. take w (drop (j * w) s))) ≡ take (k * w) (drop (i * w) s)
parts_from w i zero s = ap (λ (m : ℕ). take m (drop (i * w) s)) (let z : 0 ≡ zero * w = omega arith in z)
parts_from w i (suc k) s =
    let next : i * w + w ≡ suc i * w = omega arith in
    let more : w + k * w ≡ suc k * w = omega arith in
    ap (λ (z : List ℕ). take w (drop (i * w) s) ++ z)
    (parts_from w (suc i) k s ∙ ap (take (k * w)) (ap (λ (m : ℕ). drop m s) (sym next) ∙ sym (drop-drop w (i * w) s)))
    ∙ sym (take-add w (k * w) (drop (i * w) s))
    ∙ ap (λ (m : ℕ). take m (drop (i * w) s)) more

parts_back : (w n : ℕ) (s : List ℕ) → joined (each 0 n (λ j. take w (drop (j * w) s))) ≡ take (n * w) s
parts_back w n s = parts_from w 0 n s ∙ ap (λ (m : ℕ). take (n * w) (drop m s)) (let z : 0 * w ≡ 0 = omega arith in z)

-- ---- variable bytes

module _ (n c : ℕ) (s : List ℕ) (b : Bytes s) (e : variable_fault n c s ≡ Ok tt) where
  abbrev between : List ℕ
  between = drop (4 * suc n) s

  abbrev ends : List ℕ
  ends = each 0 (suc n) (end s)

  abbrev values : List (List ℕ)
  values = each 0 n (value_at ended n s)

  abbrev before : List ℕ
  before = before_first ended n s

  good : Ended n s
  good = variable_passed n c s e

  end_at : (i : ℕ) → i ≤ n → get_or ends i 0 ≡ end s i
  end_at i l = each_at (suc n) (end s) 0 i (omega arith)

  cut_is : cut_rows n between ends ≡ values
  cut_is = each_same 0 n (row_bytes between ends) (value_at ended n s) (λ i x y.
      ap₂ {C = List ℕ} (λ (u v : ℕ). take (u - v) (drop v between)) (end_at (suc i) (omega arith)) (end_at i (omega arith)))

  there : suc n ≤ length ends
  there = omega (arith, length_each 0 (suc n) (end s))

  rising : (j : ℕ) → j < n → get_or ends j 0 ≤ get_or ends (suc j) 0
  rising j l = omega (arith, end_at j (omega arith), end_at (suc j) l, (good.step j l).rises)

  inside : get_or ends n 0 ≤ length between
  inside = omega (arith, end_at n (omega arith), good.room, length-drop (4 * suc n) s)

  -- no end is before the first
  least : end s 0 ≤ end s n
  least = last_end n s good n 0 (zero-add n)

  data_back : joined values ≡ take (end s n - end s 0) (drop (end s 0) between)
  data_back =
      ap joined (sym cut_is)
      ∙ joined_from n between ends there rising inside 0 n (zero-add n)
      ∙ ap₂ {C = List ℕ} (λ (u v : ℕ). take (u - v) (drop v between)) (end_at n (omega arith)) (end_at 0 (omega arith))

  past_back : before ++ joined values ≡ take (end s n) between
  past_back =
      let all : end s 0 + (end s n - end s 0) ≡ end s n = omega (arith, least) in
      ap (λ (z : List ℕ). before ++ z) data_back
      ∙ sym (take-add (end s 0) (end s n - end s 0) between)
      ∙ ap (λ (m : ℕ). take m between) all

  before_long : length before ≡ end s 0
  before_long = length-take-le (end s 0) between (omega (arith, least, good.room, length-drop (4 * suc n) s))

  four : (i : ℕ) → i < suc n → length (take 4 (drop (i * 4) s)) ≡ 4
  four i l = length-take-le 4 (drop (i * 4) s) (omega (arith, length-drop (i * 4) s, good.room))

  four_back : (i : ℕ) → i < suc n → low_bytes 4 (end s i) ≡ take 4 (drop (i * 4) s)
  four_back i l =
      let p : 4 * i ≡ i * 4 = omega arith in
      let x : List ℕ = take 4 (drop (i * 4) s) in
      ap (λ (j : ℕ). low_bytes 4 (low (take 4 (drop j s)))) p
      ∙ ap (λ (k : ℕ). low_bytes k (low x)) (sym (four i l))
      ∙ low_bytes_low x (bytes_take 4 (drop (i * 4) s) (bytes_drop (i * 4) s b))

  -- the last end is one of four bytes, and so is what the column holds
  past_small : length before + length (joined values) < 256 ^ 4
  past_small =
      let p : 4 * n ≡ n * 4 = omega arith in
      let x : List ℕ = take 4 (drop (n * 4) s) in
      let small : low x < 256 ^ 4 = rw (four n (omega arith)) at (low_small x (bytes_take 4 (drop (n * 4) s) (bytes_drop (n * 4) s b))) in
      let is : end s n ≡ low x = ap (λ (j : ℕ). low (take 4 (drop j s))) p in
      let all = ap length past_back in
      omega (arith, small, is, all, length-append before (joined values), length-take (end s n) between)

  ends_back : joined (map (low_bytes 4) (ends_from (length before) values)) ≡ take (4 * suc n) s
  ends_back =
      let p : suc n * 4 ≡ 4 * suc n = omega arith in
      ap₂ {C = List ℕ} (λ (k : ℕ) (z : List (List ℕ)). joined (map (low_bytes 4) (ends_from k z))) (before_long ∙ sym (end_at 0 (omega arith))) (sym cut_is)
      ∙ ap (λ (z : List ℕ). joined (map (low_bytes 4) z))
      (ends_from_lem n between ends there rising inside 0 n (zero-add n)
      ∙ take_all (suc n) ends (omega (arith, length_each 0 (suc n) (end s))))
      ∙ ap joined (map_each (low_bytes 4) 0 (suc n) (end s) ∙ each_same 0 (suc n) _ _ (λ i x y. four_back i (omega arith)))
      ∙ parts_back 4 (suc n) s
      ∙ ap (λ (m : ℕ). take m s) p

  ended_back : standing ended n before values ≡ take (values_bytes ended n s) s
  ended_back = ap₂ (λ (x y : List ℕ). x ++ y) ends_back past_back ∙ sym (take-add (4 * suc n) (end s n) s)

-- ---- a column
values_back : (ly : Layout) (n c : ℕ) (s : List ℕ) → Bytes s → values_fault ly n c s ≡ Ok tt
    → standing ly n (before_first ly n s) (each 0 n (value_at ly n s)) ≡ take (values_bytes ly n s) s
values_back bits n c s b e =
    ap (pack (packed n))
    (map_each (λ (x : List ℕ). eqb (get_or x 0 0) 1) 0 n (value_at bits n s) ∙ each_same 0 n _ _ (λ i x y. flag_eq (bit s i)))
    ∙ flags_back n c s b e
values_back (wide w) n c s b e = parts_back w n s
values_back ended n c s b e = ended_back n c s b e

column_back : (q : Bool) (ly : Layout) (n c : ℕ) (s : List ℕ) → Bytes s → column_fault q ly n c s ≡ Ok tt
    → raw_column ly n (column_of ly n s) ≡ take (column_bytes ly n s) s
column_back q ly n c s b e =
    let p = column_passed q ly n c s e in
    let rest : List ℕ = drop (packed n) s in
    ap₂ (λ (x y : List ℕ). x ++ y)
    (ap (pack (packed n)) (map_each (λ (r : Raw). r.valid) 0 n (raw_at ly n s)) ∙ flags_back n c s b p.0)
    (ap (standing ly n (before_first ly n rest)) (map_each (λ (r : Raw). r.bytes) 0 n (raw_at ly n s))
    ∙ values_back ly n c rest (bytes_drop (packed n) s b) p.1)
    ∙ sym (take-add (packed n) (values_bytes ly n rest) s)

raws_fit : (sh : Shape) (i k : ℕ) (f : ℕ → Raw) → ((j : ℕ) → i ≤ j → j < i + k → Fits max_slot sh false (f j).bytes) → AllRaw sh (each i k f)
raws_fit sh i zero f h = tt
raws_fit sh i (suc k) f h = (h i (omega arith) (omega arith), raws_fit sh (suc i) k f (λ j a b. h j (omega arith) (omega arith)))

before_bytes : (ly : Layout) (n : ℕ) (s : List ℕ) → Bytes s → Bytes (before_first ly n s)
before_bytes bits n s b = tt
before_bytes (wide w) n s b = tt
before_bytes ended n s b = bytes_take (end s 0) (drop (4 * suc n) s) (bytes_drop (4 * suc n) s b)

end_fits : (ly : Layout) (n c : ℕ) (s : List ℕ) → Bytes s → values_fault ly n c s ≡ Ok tt → EndFits ly (before_first ly n s) (each 0 n (value_at ly n s))
end_fits bits n c s b e = tt
end_fits (wide w) n c s b e = tt
end_fits ended n c s b e = past_small n c s b e

-- ---- the sheet
back_from : (n c at : ℕ) (cols : List Column) (s : List ℕ) → Bytes s → sheet_fault_from n c at cols s ≡ Ok tt
    → (raw_sheet n cols (raw_columns n cols s) ≡ s) × RawFits n cols (raw_columns n cols s)
back_from n c at [] s b e = (empty s (enough 0 (length s) _ _ e).0, tt)
  where
    empty : (s : List ℕ) → length s ≤ 0 → [] ≡ s
    empty [] l = refl
    empty (x ∷ s) l = absurd (omega arith)
back_from n c at (col ∷ cols) s b e =
    let k : ℕ = column_bytes (layout col) n s in
    let p = both_pass (column_fault col.options.required (layout col) n c s) _ e in
    let rest = back_from n (suc c) (at + k) cols (drop k s) (bytes_drop k s b) p.1 in (
      ap₂ (λ (x y : List ℕ). x ++ y) (column_back col.options.required (layout col) n c s b p.0) rest.0 ∙ take-append-drop k s,
      (whole p.0, rest.1),
    )
  where
    v : List ℕ
    v = drop (packed n) s

    whole : column_fault col.options.required (layout col) n c s ≡ Ok tt → ColumnFits n col (column_of (layout col) n s)
    whole q =
        let passed = (column_passed col.options.required (layout col) n c s q).1 in
        let vb = bytes_drop (packed n) s b in
        record {
          many = length_each 0 n (raw_at (layout col) n s);
          all = raws_fit (column_shape col) 0 n (raw_at (layout col) n s) (λ j x y. value_fits (column_shape col) n c v vb passed j (omega arith));
          fit = subst (λ (ss : List Slot). AllSlots (column_shape col) col.options (map (folded_slot (column_shape col) col.options) ss))
              (sym (map_each slot_of 0 n (raw_at (layout col) n s))) (column_fits (column_shape col) col.options n c s (foldable col.kind) b q);
          below = before_bytes (layout col) n v vb;
          end_fits = subst (EndFits (layout col) (before_first (layout col) n v)) (sym (map_each (λ (r : Raw). r.bytes) 0 n (raw_at (layout col) n s)))
              (end_fits (layout col) n c v vb passed);
        }

-- a sheet that passes is that of its raw columns
pub sheet_raw : (n : ℕ) (cols : List Column) (s : List ℕ) → Bytes s → sheet_fault n cols s ≡ Ok tt
    → (raw_sheet n cols (raw_columns n cols s) ≡ s) × RawFits n cols (raw_columns n cols s)
unfolding sheet_fault
sheet_raw n cols s b e = back_from n 0 0 cols s b e
