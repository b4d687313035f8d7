-- What is written of a row cutter's state is read back: numbers of eight bytes, columns of four, and a refusal of four numbers. Assumes
-- nothing.
use Prim.Native.Nat.{ℕ, suc, ◌+◌, ◌*◌, ◌/◌, ◌^◌, ◌<◌}
use mathlib.Core.Path.{◌≡◌, refl, ap, ap₂, sym, ◌∙◌}
use mathlib.Core.Bool.{Bool, true, false, cond, ◌&&◌, ◌||◌, false≢true}
use mathlib.Core.List.{List, [], ◌∷◌, ◌++◌, map, append-nil}
use native.Mathlib.Nat.{mul_comm, add-zero, mul-div_cancel_left}
use native.Mathlib.Omega.{arith}
use lib.Dec.{ltb, leb, eqb, lit<}
use lib.ListN.{length, get_or, take, drop, length-map, get_or-map}
use lib.Seq.{get_or-drop, get_or-take}
use borrow.Author.Tests.{ltb-true, leb-true, eqb-true}
use Rattle.format.specs.declared.Column.{Column}
use Rattle.format.specs.declared.RowFault.TheVariants.{Cut, Lead, NullRest, BoolByte, EndByte, Padding, Extra, TooLong, Unfolded}
use Rattle.format.specs.declared.Refusal.{Refusal}
use Rattle.format.specs.declared.Refusal.TheVariants.{ListCut, UnknownKind, OptionBits, Width, ManyColumns, ManyRows, ColumnCut, SpareBit, Ends, LongSlot, BytesAfter, ManyBytes, RowRoom, OffsetRoom, Offsets, Row, SheetRoom, Input, OutOfOrder, Missing, ColumnRoom, KeyColumns, SheetRow, BrokenState}
use Rattle.format.specs.Check.{Check}
use Rattle.std.specs.declared.result.Result.TheVariants.{Err}
use Rattle.format.specs.declared.Returned.{Returned}
use Rattle.format.specs.Limits.{max_columns, max_total}
use Rattle.format.specs.Lists.{each, low, low_bytes}
use Rattle.format.specs.Kinds.{value_bytes}
use Rattle.format.specs.Described.{kind_number, options_number, held_width, code, codes, code_at, column_of}
use Rattle.format.specs.Schemas.{no_column}
use Rattle.format.specs.Numbers.{refusal_numbers}
use Rattle.format.specs.Lent.{eights, eight_bytes}
use Rattle.format.specs.CutterRule.{numbers_kept}
use Rattle.format.specs.CutterBytes.{check_numbers, check_of}
use Rattle.laws.proofs.Described.{column_again}
use Rattle.basics.proofs.LowBytes.{length_low_bytes, low_low_bytes}
use Rattle.basics.proofs.Lists.{Every, every_at, each_is, length_joined, long_at}
use Rattle.lent_bytes.proofs.NumberBytes.{length_eights}
use Rattle.cutter_laws.proofs.RuleMoves.{and_true}

-- ---- numbers of eight bytes

-- numbers that eight bytes hold
abbrev pub Small : List ℕ → Type 0
Small ns = Every (λ n. n < 256 ^ 8) ns

-- all parts are of one length
all_long : {A : Type 0} (f : A → List ℕ) (w : ℕ) → ((x : A) → length (f x) ≡ w) → (xs : List A) → Every (λ y. length y ≡ w) (map f xs)
all_long f w h [] = tt
all_long f w h (x ∷ xs) = (h x, all_long f w h xs)

pub eights_back : (ns : List ℕ) → Small ns → eights (eight_bytes ns) ≡ ns
eights_back ns h =
    ap (λ (k : ℕ). each 0 k (λ i. low (take 8 (drop (8 * i) (eight_bytes ns)))))
    (ap (λ (k : ℕ). k / 8) (length_eights ns) ∙ mul-div_cancel_left (length ns) (lit< tt))
    ∙ each_is ns 0 (length ns) (λ i. low (take 8 (drop (8 * i) (eight_bytes ns)))) refl one
  where
    one : (i : ℕ) → i < length ns → low (take 8 (drop (8 * i) (eight_bytes ns))) ≡ get_or ns i 0
    one i l =
        ap₂ (λ (k : ℕ) (z : List ℕ). low (take 8 (drop k z))) (mul_comm 8 i) (sym (append-nil (eight_bytes ns)))
        ∙ ap low
        (long_at 8 (map (low_bytes 8) ns) [] i (low_bytes 8 0) (all_long (low_bytes 8) 8 (length_low_bytes 8) ns) (omega (arith, length-map ns (low_bytes 8)))
        ∙ get_or-map (low_bytes 8) ns i 0)
        ∙ low_low_bytes 8 (get_or ns i 0) (every_at (λ n. n < 256 ^ 8) ns 0 i h l)

-- ---- columns of four bytes

pub length_codes : (cols : List Column) → length (codes cols) ≡ 4 * length cols
length_codes cols =
    length_joined 4 (map code cols) (all_long code 4 (λ col. refl) cols) ∙ ap (λ (n : ℕ). n * 4) (length-map cols code) ∙ mul_comm (length cols) 4

-- a width that is not over two bytes is held in them
held_small : (col : Column) → value_bytes col.kind < 65536 → held_width col.kind < 256 ^ 2
held_small col l = go (eqb (kind_number col.kind) 15)
  where
    go : (t : Bool) → cond t (value_bytes col.kind) 0 < 65536
    go true = l
    go false = omega arith

-- no width of these is
abbrev pub TwoBytes : List Column → Type 0
TwoBytes cols = Every (λ (col : Column). value_bytes col.kind < 65536) cols

-- the column of its four bytes
column_back : (col : Column) → value_bytes col.kind < 65536 → column_of (code_at (code col) 0) ≡ col
column_back col l =
    ap (λ (w : ℕ). column_of (record { kind = kind_number col.kind; options = options_number col.options; width = w }))
    (two ∙ low_low_bytes 2 (held_width col.kind) (held_small col l))
    ∙ column_again col
  where
    two : get_or (code col) 2 0 + 256 * get_or (code col) 3 0 ≡ low (low_bytes 2 (held_width col.kind))
    two = omega arith

module _ (cols : List Column) (t : List ℕ) where
  -- byte j of column i
  byte_at : (i j : ℕ) → i < length cols → j < 4 → get_or (codes cols ++ t) (4 * i + j) 0 ≡ get_or (code (get_or cols i no_column)) j 0
  byte_at i j l m =
      sym (get_or-drop (4 * i) (codes cols ++ t) j 0)
      ∙ sym (get_or-take 4 (drop (4 * i) (codes cols ++ t)) j 0 m)
      ∙ ap (λ (k : ℕ). get_or (take 4 (drop k (codes cols ++ t))) j 0) (mul_comm 4 i)
      ∙ ap (λ (z : List ℕ). get_or z j 0)
      (long_at 4 (map code cols) t i (code no_column) (all_long code 4 (λ col. refl) cols) (omega (arith, length-map cols code))
      ∙ get_or-map code cols i no_column)

  code_at_lem : (i : ℕ) → i < length cols → code_at (codes cols ++ t) i ≡ code_at (code (get_or cols i no_column)) 0
  code_at_lem i l =
      ap₂ (λ (k o : ℕ). record { kind = k; options = o; width = get_or s (4 * i + 2) 0 + 256 * get_or s (4 * i + 3) 0 })
      (ap (λ (k : ℕ). get_or s k 0) (sym (add-zero (4 * i))) ∙ byte_at i 0 l (omega arith)) (byte_at i 1 l (omega arith))
      ∙ ap₂ (λ (a b : ℕ). record { kind = get_or c 0 0; options = get_or c 1 0; width = a + 256 * b }) (byte_at i 2 l (omega arith)) (byte_at i 3 l (omega arith))
    where
      s : List ℕ
      s = codes cols ++ t

      c : List ℕ
      c = code (get_or cols i no_column)

  pub columns_back : TwoBytes cols → each 0 (length cols) (λ i. column_of (code_at (codes cols ++ t) i)) ≡ cols
  columns_back h =
      each_is cols no_column (length cols) (λ i. column_of (code_at (codes cols ++ t) i)) refl
      (λ i l. ap column_of (code_at_lem i l) ∙ column_back (get_or cols i no_column) (every_at (λ (c : Column). value_bytes c.kind < 65536) cols no_column i h l))

-- ---- the refusal that stands, by its four numbers

abbrev pub number_list : Returned → List ℕ
number_list a = a.0 ∷ a.1 ∷ a.2 ∷ a.3 ∷ []

-- it is read back, and eight bytes hold each number
pub record Written (c : Check) : Type 0 where
  pub back : check_of (check_numbers c).0 (check_numbers c).1 (check_numbers c).2 (check_numbers c).3 ≡ c
  pub small : Small (number_list (check_numbers c))

no_other : (b : Bool) → (b || false) ≡ true → b ≡ true
no_other true h = refl
no_other false h = h

-- the four numbers of a list fault, of 12 and of a row fault are small
list_small : (n place : ℕ) → n < 256 → (leb place (4 * max_columns) || false || false) ≡ true → Small (n ∷ place ∷ 0 ∷ 0 ∷ [])
list_small n place l h =
    let p = leb-true place (4 * max_columns) (no_other (leb place (4 * max_columns)) (no_other (leb place (4 * max_columns) || false) h)) in
    (omega arith, (omega arith, (omega arith, (omega arith, tt))))

many_small : (total rows : ℕ) → (eqb total (suc max_total) && leb rows max_total || false) ≡ true → Small (12 ∷ total ∷ rows ∷ 0 ∷ [])
many_small total rows h =
    let p = and_true (no_other (eqb total (suc max_total) && leb rows max_total) h) in
    let t = eqb-true total (suc max_total) p.0 in
    let r = leb-true rows max_total p.1 in
    (omega arith, (omega arith, (omega arith, (omega arith, tt))))

row_small : (n r c place : ℕ) → n < 256 → (ltb (r + place) max_total && ltb c max_columns) ≡ true → Small (n ∷ r ∷ c ∷ place ∷ [])
row_small n r c place l h =
    let p = and_true h in
    let a = ltb-true (r + place) max_total p.0 in
    let b = ltb-true c max_columns p.1 in
    (omega arith, (omega arith, (omega arith, (omega arith, tt))))

pub refusal_written : (r : Refusal) → numbers_kept (refusal_numbers r) ≡ true → Written (Err r)
refusal_written (ListCut p) h = record { back = refl; small = list_small 1 p (omega arith) h }
refusal_written (UnknownKind p) h = record { back = refl; small = list_small 2 p (omega arith) h }
refusal_written (OptionBits p) h = record { back = refl; small = list_small 3 p (omega arith) h }
refusal_written (Width p) h = record { back = refl; small = list_small 4 p (omega arith) h }
refusal_written (ManyColumns p) h = record { back = refl; small = list_small 5 p (omega arith) h }
refusal_written (ManyRows n) h = absurd (false≢true h)
refusal_written (ColumnCut c) h = absurd (false≢true h)
refusal_written (SpareBit c) h = absurd (false≢true h)
refusal_written (Ends c r) h = absurd (false≢true h)
refusal_written (LongSlot c r) h = absurd (false≢true h)
refusal_written (BytesAfter p) h = absurd (false≢true h)
refusal_written (ManyBytes total rows) h = record { back = refl; small = many_small total rows h }
refusal_written (RowRoom total) h = absurd (false≢true h)
refusal_written (OffsetRoom count) h = absurd (false≢true h)
refusal_written (Offsets i) h = absurd (false≢true h)
refusal_written (Row Cut r c p) h = absurd (false≢true h)
refusal_written (Row Lead r c p) h = record { back = refl; small = row_small 17 r c p (omega arith) h }
refusal_written (Row NullRest r c p) h = record { back = refl; small = row_small 18 r c p (omega arith) h }
refusal_written (Row BoolByte r c p) h = record { back = refl; small = row_small 19 r c p (omega arith) h }
refusal_written (Row EndByte r c p) h = record { back = refl; small = row_small 20 r c p (omega arith) h }
refusal_written (Row Padding r c p) h = record { back = refl; small = row_small 21 r c p (omega arith) h }
refusal_written (Row Extra r c p) h = absurd (false≢true h)
refusal_written (Row TooLong r c p) h = record { back = refl; small = row_small 23 r c p (omega arith) h }
refusal_written (Row Unfolded r c p) h = record { back = refl; small = row_small 28 r c p (omega arith) h }
refusal_written (SheetRoom bytes) h = absurd (false≢true h)
refusal_written Input h = absurd (false≢true h)
refusal_written (OutOfOrder p r) h = absurd (false≢true h)
refusal_written (Missing c r) h = absurd (false≢true h)
refusal_written (ColumnRoom count) h = absurd (false≢true h)
refusal_written (KeyColumns k) h = absurd (false≢true h)
refusal_written (SheetRow sheet r) h = absurd (false≢true h)
refusal_written BrokenState h = absurd (false≢true h)
