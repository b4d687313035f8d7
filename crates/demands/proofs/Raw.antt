-- The sheet of raw columns within the limits passes and has the slots that encode takes of them, whatever its null slots hold and whatever is
-- before its first ends. Assumes nothing.
use Prim.Native.Nat.{ℕ, zero, suc, ◌+◌, ◌-◌, ◌*◌, ◌^◌, ◌<◌, ◌≤◌}
use mathlib.Core.Path.{◌≡◌, refl, ap, ap₂, sym, ◌∙◌}
use mathlib.Core.Bool.{Bool, false, true, true≢false}
use mathlib.Core.List.{List, [], ◌∷◌, ◌++◌, map, append_assoc}
use native.Mathlib.Nat.{zero-add}
use native.Mathlib.Omega.{arith}
use lib.Dec.{eqb, ltb→lt}
use lib.ListN.{length, get_or, take, drop, length-append, length-map, get_or-map}
use lib.Seq.{drop_at}
use Rattle.std.specs.declared.result.Result.TheVariants.{Ok}
use Rattle.format.specs.declared.SortOptions.{SortOptions}
use Rattle.format.specs.declared.Column.{Column}
use Rattle.format.specs.Limits.{max_slot}
use Rattle.format.specs.Lists.{ends_from, joined, low, low_bytes}
use Rattle.format.specs.Kinds.{Fixed, bool, plain, number, integer, float, parts, Shape, fixed, variable, Slot, width, column_shape}
use Rattle.format.specs.Fold.{folded_slot}
use Rattle.format.specs.Fits.{Fits, SlotFits, AllSlots}
use Rattle.format.specs.Sheet.{Layout, bits, ended, wide, layout_for, layout, packed, end, ends_fault, values_fault, values_bytes, bool_byte}
use Rattle.format.specs.Sheet.{value_at, slot_if, column_fault, column_bytes, slot_at, column_slots, sheet_fault_from, sheet_fault, sheet_slots, bits_fault, required_fault, first_clear}
use Rattle.format.specs.Passed.{Step}
use Rattle.format.specs.Cleared.{pack}
use Rattle.bits.proofs.Bits.{length_pack, bit_before, bits_pass}
use Rattle.bits.proofs.Clear.{Set, clear_none}
use Rattle.basics.proofs.Lists.{Every, every_at, each_is, length_joined, long_at, end_at, length_ends, end_next, end_last, end_most, cut_at}
use Rattle.basics.proofs.LowBytes.{low_low_bytes}
use Rattle.basics.proofs.Checks.{pass_enough, pass_both}
use Rattle.laws.proofs.Room.{all_four}
use Rattle.demands.specs.Raw.{Raw, RawColumn, slot_of, taken_from, standing, raw_column, raw_sheet, AllRaw, EndFits, ColumnFits, RawFits}

-- ---- the values of a column

-- the bytes of its raw slots fit
pub raw_fits : (sh : Shape) (rs : List Raw) → AllRaw sh rs → Every (Fits max_slot sh false) (map (λ r. r.bytes) rs)
raw_fits sh [] h = tt
raw_fits sh (r ∷ rs) h = (h.0, raw_fits sh rs h.1)

-- values before t: nothing is refused, they take their bytes, and each is read back
record Reads (ly : Layout) (n c : ℕ) (a : List ℕ) (xs : List (List ℕ)) (t : List ℕ) : Type 0 where
  pub passes : values_fault ly n c (standing ly n a xs ++ t) ≡ Ok tt
  pub bytes : values_bytes ly n (standing ly n a xs ++ t) ≡ length (standing ly n a xs)
  pub back : (i : ℕ) → i < n → value_at ly n (standing ly n a xs ++ t) i ≡ get_or xs i []

-- a bool
abbrev is_set : List ℕ → Bool
is_set x = eqb (get_or x 0 0) 1

bool_back : (x : List ℕ) → Fits max_slot (fixed bool) false x → bool_byte (is_set x) ≡ x
bool_back [] h = absurd h.2
bool_back (b ∷ x) h = go b x (ltb→lt b 2 h.2) h.1
  where
    go : (b : ℕ) (x : List ℕ) → b < 2 → length (b ∷ x) ≡ 1 → bool_byte (eqb b 1) ≡ b ∷ x
    go zero [] l e = refl
    go (suc zero) [] l e = refl
    go (suc (suc b)) [] l e = absurd (omega arith)
    go b (y ∷ x) l e = absurd (omega arith)

bools_read : (n c : ℕ) (a : List ℕ) (xs : List (List ℕ)) (t : List ℕ) → length xs ≡ n → Every (Fits max_slot (fixed bool) false) xs → Reads bits n c a xs t
bools_read n c a xs t e h = record {
  passes = bits_pass n c (map is_set xs) t (length-map xs is_set ∙ e);
  bytes = sym (length_pack (packed n) (map is_set xs));
  back = λ i l.
      ap bool_byte (bit_before (packed n) (map is_set xs) t i (omega arith) ∙ get_or-map is_set xs i [])
      ∙ bool_back (get_or xs i []) (every_at (Fits max_slot (fixed bool) false) xs [] i h (omega arith));
}

-- values of w bytes
all_long : (k : Fixed) (xs : List (List ℕ)) → Every (Fits max_slot (fixed k) false) xs → Every (λ x. length x ≡ width k) xs
all_long k [] h = tt
all_long k (x ∷ xs) h = (h.0.1, all_long k xs h.1)

wide_read : (k : Fixed) (n c : ℕ) (a : List ℕ) (xs : List (List ℕ)) (t : List ℕ) → length xs ≡ n → Every (Fits max_slot (fixed k) false) xs
    → Reads (wide (width k)) n c a xs t
wide_read k n c a xs t e h =
    let len : length (joined xs) ≡ n * width k = length_joined (width k) xs (all_long k xs h) ∙ ap (λ (m : ℕ). m * width k) e in
    record {
      passes = pass_enough (length (joined xs ++ t)) (n * width k) _ _ (omega (arith, length-append (joined xs) t)) refl;
      bytes = sym len;
      back = λ i l. long_at (width k) xs t i [] (all_long k xs h) (omega arith);
    }

-- variable bytes: what n slots within the limit come to
pub data_short : (xs : List (List ℕ)) → Every (Fits max_slot variable false) xs → length (joined xs) ≤ length xs * max_slot
data_short [] h = omega arith
data_short (x ∷ xs) h = omega (arith, length-append x (joined xs), data_short xs h.1, h.0.1)

ends_pass : (c : ℕ) (s : List ℕ) (i k : ℕ) → ((j : ℕ) → i ≤ j → j < i + k → Step s j) → ends_fault c s i k ≡ Ok tt
ends_pass c s i zero h = refl
ends_pass c s i (suc k) h =
    let now = h i (omega arith) (omega arith) in
    pass_enough (end s (suc i)) (end s i) _ _ now.rises
    (pass_enough max_slot (end s (suc i) - end s i) _ _ now.short (ends_pass c s (suc i) k (λ j l m. h j (omega arith) (omega arith))))

module _ (n c : ℕ) (a : List ℕ) (xs : List (List ℕ)) (t : List ℕ) (many : length xs ≡ n) (fits : length a + length (joined xs) < 256 ^ 4)
    (h : Every (Fits max_slot variable false) xs) where
  abbrev from : ℕ
  from = length a

  abbrev ends : List (List ℕ)
  ends = map (low_bytes 4) (ends_from from xs)

  abbrev past : List ℕ
  past = a ++ joined xs

  abbrev s : List ℕ
  s = joined ends ++ past ++ t

  count : length ends ≡ suc n
  count = length-map (ends_from from xs) (low_bytes 4) ∙ length_ends from xs ∙ ap suc many

  front : length (joined ends) ≡ 4 * suc n
  front = length_joined 4 ends (all_four (ends_from from xs)) ∙ omega (arith, count)

  end_is : (i : ℕ) → i ≤ n → end s i ≡ end_at from xs i
  end_is i l =
      let p : 4 * i ≡ i * 4 = omega arith in
      let m : end_at from xs i < 256 ^ 4 = omega (arith, end_most from xs i (omega (arith, many)), fits) in
      ap₂ {C = ℕ} (λ (j : ℕ) (z : List ℕ). low (take 4 (drop j z))) p (append_assoc (joined ends) past t)
      ∙ ap low (long_at 4 ends (past ++ t) i (low_bytes 4 0) (all_four (ends_from from xs)) (omega (arith, count))
      ∙ get_or-map (low_bytes 4) (ends_from from xs) i 0)
      ∙ low_low_bytes 4 (end_at from xs i) m

  step_is : (i : ℕ) → i < n → Step s i
  step_is i l =
      let short = (every_at (Fits max_slot variable false) xs [] i h (omega arith)).1 in
      let d = end_next from xs i (omega arith) in
      let a = end_is i (omega arith) in
      let b = end_is (suc i) l in
      record { rises = omega arith; short = omega arith }

  after : drop (4 * suc n) s ≡ past ++ t
  after = ap (drop (4 * suc n)) (append_assoc (joined ends) past t) ∙ drop_at (joined ends) (past ++ t) (4 * suc n) front

  last : end s n ≡ length past
  last = end_is n (omega arith) ∙ ap (end_at from xs) (sym many) ∙ end_last from xs ∙ sym (length-append a (joined xs))

  total : length s ≡ 4 * suc n + length past + length t
  total = omega (arith, length-append (joined ends ++ past) t, length-append (joined ends) past, front)

  -- what is before the first end is cut off as one more value in front would be
  cut_past : (i : ℕ) → i < n → take (end_at from xs (suc i) - end_at from xs i) (drop (end_at from xs i) (past ++ t)) ≡ get_or xs i []
  cut_past i l =
      ap (λ (k : ℕ). take (end_at k xs (suc i) - end_at k xs i) (drop (end_at k xs i) (past ++ t))) (sym (zero-add from))
      ∙ cut_at (a ∷ xs) t (suc i) (omega arith)

  ended_read : Reads ended n c a xs t
  ended_read = record {
    passes =
        pass_enough (length s) (4 * suc n) _ _ (omega (arith, total))
        (pass_both (ends_fault c s 0 n) _ (ends_pass c s 0 n (λ j a b. step_is j (omega arith)))
        (pass_enough (length s) (4 * suc n + end s n) _ _ (omega (arith, total, last)) refl));
    bytes = omega (arith, last, front, length-append (joined ends) past);
    back = λ i l.
        ap (λ (z : List ℕ). take (end s (suc i) - end s i) (drop (end s i) z)) after
        ∙ ap₂ {C = List ℕ} (λ (a b : ℕ). take (a - b) (drop b (past ++ t))) (end_is (suc i) l) (end_is i (omega arith))
        ∙ cut_past i l;
  }

values_read : (sh : Shape) (n c : ℕ) (a : List ℕ) (xs : List (List ℕ)) (t : List ℕ) → length xs ≡ n → Every (Fits max_slot sh false) xs
    → EndFits (layout_for sh) a xs → Reads (layout_for sh) n c a xs t
values_read (fixed bool) n c a xs t e h fits = bools_read n c a xs t e h
values_read (fixed (plain w)) n c a xs t e h fits = wide_read (plain w) n c a xs t e h
values_read (fixed (number w)) n c a xs t e h fits = wide_read (number w) n c a xs t e h
values_read (fixed (integer w)) n c a xs t e h fits = wide_read (integer w) n c a xs t e h
values_read (fixed (float w)) n c a xs t e h fits = wide_read (float w) n c a xs t e h
values_read (fixed (parts ws)) n c a xs t e h fits = wide_read (parts ws) n c a xs t e h
values_read variable n c a xs t e h fits = ended_read n c a xs t e fits h

-- ---- the validity of a required column: every slot that fits is valid
valid_asked : (sh : Shape) (o : SortOptions) (b : Bool) (v : List ℕ) → SlotFits max_slot sh o (folded_slot sh o (slot_if b v)) → o.required ≡ true → b ≡ true
valid_asked sh o true v h q = refl
valid_asked sh o false v h q = absurd (true≢false (sym q ∙ h))

all_valid : (sh : Shape) (o : SortOptions) (rs : List Raw) → AllSlots sh o (map (folded_slot sh o) (map slot_of rs)) → o.required ≡ true
    → (i : ℕ) → i < length rs → get_or (map (λ r. r.valid) rs) i false ≡ true
all_valid sh o [] h q i l = absurd (omega arith)
all_valid sh o (r ∷ rs) h q zero l = valid_asked sh o r.valid r.bytes h.0 q
all_valid sh o (r ∷ rs) h q (suc i) l = all_valid sh o rs h.1 q i (omega arith)

-- and so it is not refused
none_missing : (q : Bool) (n c : ℕ) (s : List ℕ) → (q ≡ true → Set s 0 n) → required_fault q n c s ≡ Ok tt
none_missing true n c s h = pass_enough (first_clear s 0 n) n _ _ (omega (arith, clear_none s n (h refl))) refl
none_missing false n c s h = refl

-- ---- a column
module _ (col : Column) (n c : ℕ) (raw : RawColumn) (t : List ℕ) (h : ColumnFits n col raw) where
  abbrev rs : List Raw
  rs = raw.slots

  e : length raw.slots ≡ n
  e = h.many

  abbrev ly : Layout
  ly = layout col

  abbrev flags : List Bool
  flags = map (λ r. r.valid) rs

  abbrev xs : List (List ℕ)
  xs = map (λ r. r.bytes) rs

  r : Reads (layout col) n c raw.before (map (λ r. r.bytes) raw.slots) t
  r = values_read (column_shape col) n c raw.before xs t (length-map rs _ ∙ e) (raw_fits (column_shape col) rs h.all) h.end_fits

  abbrev p : List ℕ
  p = pack (packed n) flags

  abbrev q : List ℕ
  q = standing ly n raw.before xs ++ t

  split : raw_column ly n raw ++ t ≡ p ++ q
  split = append_assoc p (standing ly n raw.before xs) t

  rest : drop (packed n) (p ++ q) ≡ q
  rest = drop_at p q (packed n) (length_pack (packed n) flags)

  column_bytes_lem : column_bytes ly n (raw_column ly n raw ++ t) ≡ length (raw_column ly n raw)
  column_bytes_lem = rw split (rw rest (omega (arith, r.bytes, length-append p (standing ly n raw.before xs), length_pack (packed n) flags)))

  abbrev required : Bool
  required = col.options.required

  all_set : col.options.required ≡ true → Set (p ++ q) 0 n
  all_set asked i l m = bit_before (packed n) flags q i (omega arith) ∙ all_valid (column_shape col) col.options rs h.fit asked i (omega (arith, e))

  column_passes : column_fault col.options.required ly n c (raw_column ly n raw ++ t) ≡ Ok tt
  column_passes =
      rw split
      (pass_both (bits_fault n c (p ++ q)) _ (bits_pass n c flags q (length-map rs _ ∙ e))
      (pass_both (required_fault required n c (p ++ q)) _ (none_missing required n c (p ++ q) all_set) (rw rest r.passes)))

  -- past the column
  column_past : drop (column_bytes ly n (raw_column ly n raw ++ t)) (raw_column ly n raw ++ t) ≡ t
  column_past = drop_at (raw_column ly n raw) t (column_bytes ly n (raw_column ly n raw ++ t)) (sym column_bytes_lem)

  slot_is : (i : ℕ) → i < n → slot_at ly n (p ++ q) i ≡ get_or (map slot_of rs) i (slot_if false [])
  slot_is i l =
      let none : Raw = record { valid = false; bytes = [] } in
      ap₂ (λ (b : Bool) (z : List ℕ). slot_if b (value_at ly n z i))
      (bit_before (packed n) flags q i (omega arith) ∙ get_or-map (λ (r : Raw). r.valid) rs i none) rest
      ∙ ap (slot_if (get_or rs i none).valid) (r.back i l ∙ get_or-map (λ (r : Raw). r.bytes) rs i none)
      ∙ sym (get_or-map slot_of rs i none)

  column_slots_lem : column_slots ly n (raw_column ly n raw ++ t) ≡ map slot_of rs
  column_slots_lem = rw split (each_is (map slot_of rs) (slot_if false []) n (slot_at ly n (p ++ q)) (length-map rs slot_of ∙ e) slot_is)

-- ---- the sheet
passes_from : (n c at : ℕ) (cols : List Column) (cs : List RawColumn) → RawFits n cols cs → sheet_fault_from n c at cols (raw_sheet n cols cs) ≡ Ok tt
passes_from n c at [] [] h = refl
passes_from n c at [] (x ∷ cs) h = absurd h
passes_from n c at (col ∷ cols) [] h = absurd h
passes_from n c at (col ∷ cols) (x ∷ cs) h =
    let t : List ℕ = raw_sheet n cols cs in
    let k : ℕ = column_bytes (layout col) n (raw_column (layout col) n x ++ t) in
    pass_both (column_fault col.options.required (layout col) n c (raw_column (layout col) n x ++ t)) _ (column_passes col n c x t h.0)
    (ap (sheet_fault_from n (suc c) (at + k) cols) (column_past col n c x t h.0) ∙ passes_from n (suc c) (at + k) cols cs h.1)

pub raw_passes : (n : ℕ) (cols : List Column) (cs : List RawColumn) → RawFits n cols cs → sheet_fault n cols (raw_sheet n cols cs) ≡ Ok tt
unfolding sheet_fault
raw_passes n cols cs h = passes_from n 0 0 cols cs h

pub raw_slots : (n : ℕ) (cols : List Column) (cs : List RawColumn) → RawFits n cols cs → sheet_slots n cols (raw_sheet n cols cs) ≡ taken_from cols cs
raw_slots n [] [] h = refl
raw_slots n [] (x ∷ cs) h = absurd h
raw_slots n (col ∷ cols) [] h = absurd h
raw_slots n (col ∷ cols) (x ∷ cs) h =
    let t : List ℕ = raw_sheet n cols cs in
    ap₂ {C = List (List Slot)} (λ x y. x ∷ y) (ap (map (folded_slot (column_shape col) col.options)) (column_slots_lem col n 0 x t h.0))
    (ap (sheet_slots n cols) (column_past col n 0 x t h.0) ∙ raw_slots n cols cs h.1)
