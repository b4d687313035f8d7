-- Which checks refuse a row by its content, and that they name the first row that no values within the limits have. Assumes nothing.
use Prim.Native.Nat.{ℕ, zero, suc, ◌+◌, ◌-◌, ◌<◌}
use mathlib.Core.Path.{◌≡◌, refl, ap, sym, ◌∙◌}
use mathlib.Core.Bool.{Bool, true, false, cond, not, ◌||◌, true≢false}
use mathlib.Core.List.{List, [], ◌∷◌, map}
use native.Mathlib.Omega.{arith}
use native.Mathlib.Nat.{add-zero}
use lib.Dec.{ltb, eqb}
use lib.ListN.{length, get_or}
use Rattle.format.specs.declared.Column.{Column}
use Rattle.format.specs.declared.RowFault.{RowFault}
use Rattle.format.specs.declared.RowFault.TheVariants.{Cut, Lead, NullRest, BoolByte, EndByte, Padding, Extra, TooLong, Unfolded}
use Rattle.format.specs.Check.{Check, both, fail_if}
use Rattle.std.specs.declared.result.Result.TheVariants.{Ok, Err}
use Rattle.format.specs.declared.Refusal.{Refusal}
use Rattle.format.specs.declared.Refusal.TheVariants.{Row}
use Rattle.format.specs.Limits.{max_columns, max_rows, max_total}
use Rattle.format.specs.Lists.{Bytes}
use Rattle.format.specs.Kinds.{last_kind, Slot, column_shape}
use Rattle.format.specs.Columns.{most_options, most_width, numbers_fault, description_bytes, description_fault, width_at, list_fault_from, spelled_fault}
use Rattle.format.specs.Described.{Description, held, descriptions_in, held_fault, descriptions_fault_from, descriptions_fault, ColumnList, spelled, described, coded, list_fault}
use Rattle.format.specs.Fits.{RowFits, HasValues}
use Rattle.format.specs.Row.{row}
use Rattle.format.specs.Read.{Parsed, got, fault, read_field, field_check, row_fault, row_slots, rows_fault}
use Rattle.format.specs.Entries.{row_count_fault, offset_room_fault, fall_fault, offsets_fault}
use Rattle.format.specs.Numbers.{by_content}
use Rattle.basics.proofs.Lists.{Every}
use Rattle.basics.proofs.Checks.{refuse_pass, pass_both}
use Rattle.laws.proofs.ReadRow.{passed_row}
use Rattle.demands.proofs.OneRow.{row_passes, refused_none}

-- ---- refusals by content: 16 to 23, and 28

-- the faults of a row are
pub row_content : (f : RowFault) (r c place : ℕ) → by_content (Row f r c place) ≡ true
row_content Cut r c place = refl
row_content Lead r c place = refl
row_content NullRest r c place = refl
row_content BoolByte r c place = refl
row_content EndByte r c place = refl
row_content Padding r c place = refl
row_content Extra r c place = refl
row_content TooLong r c place = refl
row_content Unfolded r c place = refl

-- a check that refuses nothing by content
abbrev pub Outer : Check → Type 0
Outer (Ok tt) = Unit {0}
Outer (Err x) = by_content x ≡ false

pub outer_if : (b : Bool) (x : Refusal) (next : Check) → by_content x ≡ false → Outer next → Outer (fail_if b x next)
outer_if true x next h k = h
outer_if false x next h k = k

outer_both : (c d : Check) → Outer c → Outer d → Outer (both c d)
outer_both (Ok tt) d h k = k
outer_both (Err x) d h k = h

outer_cond : (b : Bool) (c d : Check) → Outer c → Outer d → Outer (cond b c d)
outer_cond true c d h k = h
outer_cond false c d h k = k

outer_numbers : (place b : ℕ) (cut : Bool) (o w : ℕ) → Outer (numbers_fault place b cut o w)
outer_numbers place b cut o w =
    outer_if (ltb b 1 || ltb last_kind b) _ _ refl
    (outer_if cut _ _ refl
    (outer_if (ltb (most_options b) o) _ _ refl
    (outer_if (ltb (most_width b) w) _ _ refl tt)))

outer_description : (s : List ℕ) (at : ℕ) → Outer (description_fault s at)
outer_description s at =
    outer_numbers at (get_or s at 0) (ltb (length s - at) (description_bytes (get_or s at 0))) (get_or s (at + 1) 0) (width_at s at)

outer_list_from : (room : ℕ) (s : List ℕ) (at : ℕ) → Outer (list_fault_from room s at)
outer_list_from zero s at = outer_if (ltb at (length s)) _ _ refl tt
outer_list_from (suc room) s at =
    outer_cond (ltb at (length s)) _ _
    (outer_both (description_fault s at) _ (outer_description s at) (outer_list_from room s (at + description_bytes (get_or s at 0)))) tt

outer_spelled : (s : List ℕ) → Outer (spelled_fault s)
unfolding spelled_fault
outer_spelled s = outer_if (eqb (length s) 0) _ _ refl (outer_list_from max_columns s 0)

outer_descriptions_from : (room i : ℕ) (ds : List Description) → Outer (descriptions_fault_from room i ds)
outer_descriptions_from room i [] = tt
outer_descriptions_from zero i (d ∷ ds) = refl
outer_descriptions_from (suc room) i (d ∷ ds) =
    outer_both (held_fault i d) _ (outer_numbers i d.kind false d.options d.width) (outer_descriptions_from room (suc i) ds)

outer_descriptions : (ds : List Description) → Outer (descriptions_fault ds)
unfolding descriptions_fault
outer_descriptions ds = outer_if (eqb (length ds) 0) _ _ refl (outer_descriptions_from max_columns 0 ds)

pub outer_list : (list : ColumnList) → Outer (list_fault list)
outer_list (spelled s) = outer_spelled s
outer_list (described cols) = outer_descriptions (map held cols)
outer_list (coded s) = outer_descriptions (descriptions_in s)

pub outer_count : (n : ℕ) → Outer (row_count_fault n)
outer_count n = outer_if (ltb max_rows n) _ _ refl tt

outer_fall : (offsets : List ℕ) (i k : ℕ) → Outer (fall_fault offsets i k)
outer_fall offsets i zero = tt
outer_fall offsets i (suc k) = outer_if (ltb (get_or offsets (suc i) 0) (get_or offsets i 0)) _ _ refl (outer_fall offsets (suc i) k)

pub outer_offsets : (n : ℕ) (bytes offsets : List ℕ) → Outer (offsets_fault n bytes offsets)
outer_offsets n bytes offsets =
    outer_both (offset_room_fault n (length offsets)) _ (outer_if (ltb (length offsets) (suc n)) _ _ refl tt)
    (outer_if (not (eqb (get_or offsets 0 0) 0)) _ _ refl
    (outer_both (fall_fault offsets 0 n) _ (outer_fall offsets 0 n)
    (outer_if (ltb (length bytes) (get_or offsets n 0)) _ _ refl (outer_if (ltb max_total (get_or offsets n 0)) _ _ refl tt))))

-- it is no refusal by content
pub outer_no : (c : Check) {x : Refusal} → Outer c → by_content x ≡ true → c ≡ Err x → ⊥
outer_no (Ok tt) h t e = refuse_pass (sym e)
outer_no (Err y) {x} h t e = let w : y ≡ x = cc in true≢false (sym t ∙ ap by_content (sym w) ∙ h)

-- what refuses by content after such a check was refused by what comes after it
pub past_outer : (c d : Check) {x : Refusal} → Outer c → by_content x ≡ true → both c d ≡ Err x → d ≡ Err x
past_outer (Ok tt) d h t e = e
past_outer (Err y) d h t e = absurd (outer_no (Err y) h t e)

-- ---- rows

-- a fault in row r is refused as one
named : (r n c : ℕ) (cols : List Column) (s : List ℕ) (x : Refusal) → row_fault r n c cols s ≡ Err x
    → (f : RowFault) × (d place : ℕ) × (x ≡ Row f r d place)
named r n c [] [] x e = absurd (refuse_pass (sym e))
named r n c [] (b ∷ s) x e = (Extra, c, n - suc (length s), sym (refused e))
  where
    refused : {y z : Refusal} → ◌≡◌ {A = Check} (Err y) (Err z) → y ≡ z
    refused h = cc
named r n c (col ∷ cols) s x e = go (read_field (column_shape col) col.options s) e (named r n (suc c) cols)
  where
    go : (p : Parsed Slot) → field_check r n c p (row_fault r n (suc c) cols) ≡ Err x
        → ((t : List ℕ) (y : Refusal) → row_fault r n (suc c) cols t ≡ Err y → (f : RowFault) × (d place : ℕ) × (y ≡ Row f r d place))
        → (f : RowFault) × (d place : ℕ) × (x ≡ Row f r d place)
    go (got v rest) h ih = ih rest x h
    go (fault f l) h ih = (f, c, n - l, cc)

values_pass : (r n : ℕ) (cols : List Column) (f : List ℕ) → HasValues cols f → row_fault r n 0 cols f ≡ Ok tt
values_pass r n cols f h = ap (row_fault r n 0 cols) (sym h.spell) ∙ row_passes r n 0 cols h.values h.fit

-- rows refused from row k on: row k + j of them is the first that no values have
pub record First (cols : List Column) (bs : List (List ℕ)) (k : ℕ) (x : Refusal) : Type 0 where
  pub j : ℕ
  pub here : j < length bs
  pub fault : RowFault
  pub column : ℕ
  pub place : ℕ
  pub names : x ≡ Row fault (k + j) column place
  pub refused : row_fault (k + j) (length (get_or bs j [])) 0 cols (get_or bs j []) ≡ Err x
  pub none : HasValues cols (get_or bs j []) → ⊥
  pub before : (i : ℕ) → i < j → Bytes (get_or bs i []) → HasValues cols (get_or bs i [])

pub rows_refused : (cols : List Column) (bs : List (List ℕ)) (k : ℕ) (x : Refusal) → rows_fault k cols bs ≡ Err x → First cols bs k x
rows_refused cols [] k x e = absurd (refuse_pass (sym e))
rows_refused cols (b ∷ bs) k x e = go (row_fault k (length b) 0 cols b) refl e (rows_refused cols bs (suc k) x)
  where
    go : (c : Check) → row_fault k (length b) 0 cols b ≡ c → both c (rows_fault (suc k) cols bs) ≡ Err x
        → (rows_fault (suc k) cols bs ≡ Err x → First cols bs (suc k) x) → First cols (b ∷ bs) k x
    go (Ok tt) q h ih =
        let t = ih h in
        record {
          j = suc t.j;
          here = omega (arith, t.here);
          fault = t.fault;
          column = t.column;
          place = t.place;
          names = t.names ∙ ap (λ (r : ℕ). Row t.fault r t.column t.place) (omega arith);
          refused = rw (let r : k + suc t.j ≡ suc k + t.j = omega arith in r) t.refused;
          none = t.none;
          before = earlier t q;
        }
      where
        earlier : (t : First cols bs (suc k) x) → row_fault k (length b) 0 cols b ≡ Ok tt → (i : ℕ) → i < suc t.j → Bytes (get_or (b ∷ bs) i [])
            → HasValues cols (get_or (b ∷ bs) i [])
        earlier t q zero l y = let p = passed_row k (length b) 0 cols b y q in record { values = row_slots cols b; fit = p.1; spell = p.0 }
        earlier t q (suc i) l y = t.before i (omega arith) y
    go (Err y) q h ih =
        let n = named k (length b) 0 cols b x (q ∙ h) in
        record {
          j = 0;
          here = omega arith;
          fault = n.0;
          column = n.1;
          place = n.2;
          names = n.3 ∙ ap (λ (r : ℕ). Row n.0 r n.1 n.2) (sym (add-zero k));
          refused = rw (add-zero k) (q ∙ h);
          none = λ v. refused_none k (length b) 0 cols b y q v.values v.fit v.spell;
          before = λ i l. absurd (omega arith);
        }

-- rows that all have values pass
pub rows_valued : (cols : List Column) (bs : List (List ℕ)) (k : ℕ) → ((i : ℕ) → i < length bs → HasValues cols (get_or bs i [])) → rows_fault k cols bs ≡ Ok tt
rows_valued cols [] k h = refl
rows_valued cols (b ∷ bs) k h =
    pass_both (row_fault k (length b) 0 cols b) _ (values_pass k (length b) cols b (h 0 (omega arith)))
    (rows_valued cols bs (suc k) (λ i l. h (suc i) (omega arith)))

-- a row among rows that are those of the slots read from them, which fit
pub row_valued : (cols : List Column) (bs : List (List ℕ)) → map (row cols) (map (row_slots cols) bs) ≡ bs → Every (RowFits cols) (map (row_slots cols) bs)
    → (i : ℕ) → i < length bs → RowFits cols (row_slots cols (get_or bs i [])) × (row cols (row_slots cols (get_or bs i [])) ≡ get_or bs i [])
row_valued cols [] e h i l = absurd (omega arith)
row_valued cols (b ∷ bs) e h zero l = (h.0, ap (λ (z : List (List ℕ)). get_or z 0 []) e)
row_valued cols (b ∷ bs) e h (suc i) l = row_valued cols bs (ap tail e) h.1 i (omega arith)
  where
    tail : List (List ℕ) → List (List ℕ)
    tail [] = []
    tail (x ∷ xs) = xs
