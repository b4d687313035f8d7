-- The place that a refusal by content names: decode answers the byte of the row that is bad, and 16 the row's length. Assumes nothing.
use Prim.Native.Nat.{ℕ, zero, suc, ◌+◌, ◌-◌, ◌<◌, ◌≤◌}
use mathlib.Core.Path.{◌≡◌, refl, ap, sym, ◌∙◌, subst}
use mathlib.Core.Bool.{Bool, true, false, true≢false}
use mathlib.Core.List.{List, [], ◌∷◌, ◌++◌, append_assoc}
use native.Mathlib.Omega.{arith}
use lib.ListN.{length, take, drop, get_or, length-append}
use Rattle.std.specs.declared.result.Result.TheVariants.{Err}
use Rattle.format.specs.declared.Column.{Column}
use Rattle.format.specs.declared.Refusal.{Refusal}
use Rattle.format.specs.declared.Refusal.TheVariants.{Row}
use Rattle.format.specs.declared.RowFault.{RowFault}
use Rattle.format.specs.Check.{Check}
use Rattle.format.specs.declared.RowFault.TheVariants.{Cut, Lead, NullRest, BoolByte, EndByte, Padding, Extra, TooLong, Unfolded}
use Rattle.format.specs.declared.SortOptions.{SortOptions}
use Rattle.format.specs.Kinds.{Fixed, bool, plain, number, integer, float, parts, Shape, fixed, variable, Slot, width, column_shape}
use Rattle.format.specs.Lists.{Bytes}
use Rattle.format.specs.Described.{ColumnList, columns}
use Rattle.format.specs.Field.{directed, field}
use Rattle.format.specs.Fold.{is_folded}
use Rattle.format.specs.Key.{unkey}
use Rattle.format.specs.Fits.{SlotFits}
use Rattle.format.specs.Limits.{max_slot}
use Rattle.format.specs.Row.{row}
use Rattle.format.specs.Numbers.{fault_number}
use Rattle.format.specs.Read.{Parsed, got, fault, field_check, read_field, row_fault}
use Rattle.format.specs.Entries.{cut_rows, decode_answer, row_bytes}
use Rattle.basics.proofs.Bytes.{bytes_right}
use Rattle.basics.proofs.Checks.{refuse_pass}
use Rattle.basics.proofs.Lists.{every_at, length_each}
use Rattle.laws.proofs.Cuts.{cut_bytes}
use Rattle.laws.proofs.Directed.{length_directed}
use Rattle.laws.proofs.FaultPlace.{fault_inside}
use Rattle.laws.proofs.ReadField.{read_field_lem}
use Rattle.demands.specs.Place.{Bad, BadAt, FieldBad}
use Rattle.demands.proofs.Demand2.{by_rows, cut}
use Rattle.demands.proofs.Exact.{row_content, rows_refused}
use Rattle.demands.proofs.FieldPlace.{field_place}

-- ---- one row, of which s is left from column c on, of n bytes: what it is refused for
record Placed (r n c : ℕ) (cols : List Column) (s : List ℕ) (x : Refusal) : Type 0 where
  kind : RowFault
  column : ℕ
  later : ℕ
  counts : column ≡ c + later
  place : ℕ
  here : ℕ
  starts : place + length s ≡ n + here
  names : x ≡ Row kind r column place
  at : BadAt cols s kind later here

same_refusal : {x y : Refusal} → ◌≡◌ {A = Check} (Err x) (Err y) → y ≡ x
same_refusal e = cc

-- past a field
bad_past : (col : Column) (cols : List Column) (x : Slot) (s g : List ℕ) (f : RowFault) (c here : ℕ)
    → (s ≡ field (column_shape col) col.options x ++ g) × SlotFits max_slot (column_shape col) col.options x → BadAt cols g f c here
    → BadAt (col ∷ cols) s f (suc c) (length (field (column_shape col) col.options x) + here)
bad_past col cols x s g f c here e t = record {
  values = x ∷ t.values;
  fit = (e.1, t.fit);
  rest = t.rest;
  spell = append_assoc head (row (take c cols) t.values) t.rest ∙ ap (λ (z : List ℕ). head ++ z) t.spell ∙ sym e.0;
  p = t.p;
  counts = omega (arith, t.counts, length-append head (row (take c cols) t.values));
  bad = t.bad;
}
  where
    head : List ℕ
    head = field (column_shape col) col.options x

placed : (r n c : ℕ) (cols : List Column) (s : List ℕ) (x : Refusal) → Bytes s → length s ≤ n → row_fault r n c cols s ≡ Err x → Placed r n c cols s x
placed r n c [] [] x b l e = absurd (refuse_pass (sym e))
placed r n c [] (y ∷ s) x b l e = record {
  kind = Extra;
  column = c;
  later = 0;
  counts = omega arith;
  place = n - suc (length s);
  here = 0;
  starts = omega arith;
  names = same_refusal e;
  at = record { values = []; fit = tt; rest = y ∷ s; spell = refl; p = 0; counts = refl; bad = (refl, refl, omega arith) };
}
placed r n c (col ∷ cols) s x b l e = go (read_field (column_shape col) col.options s) refl e (placed r n (suc c) cols)
  where
    go : (p : Parsed Slot) → read_field (column_shape col) col.options s ≡ p → field_check r n c p (row_fault r n (suc c) cols) ≡ Err x
        → ((g : List ℕ) (y : Refusal) → Bytes g → length g ≤ n → row_fault r n (suc c) cols g ≡ Err y → Placed r n (suc c) cols g y)
        → Placed r n c (col ∷ cols) s x
    go (got v g) q e ih =
        let head : List ℕ = field (column_shape col) col.options v in
        let k = read_field_lem (column_shape col) col.options s v g b q in
        let long : length s ≡ length head + length g = ap length k.0 ∙ length-append head g in
        let t = ih g x (bytes_right head g (subst Bytes k.0 b)) (omega arith) e in
        record {
          kind = t.kind;
          column = t.column;
          later = suc t.later;
          counts = omega (arith, t.counts);
          place = t.place;
          here = length head + t.here;
          starts = omega (arith, t.starts);
          names = t.names;
          at = bad_past col cols v s g t.kind t.later t.here k t.at;
        }
    go (fault f m) q e ih =
        let inside = fault_inside (column_shape col) col.options s f m q in
        record {
          kind = f;
          column = c;
          later = 0;
          counts = omega arith;
          place = n - m;
          here = length s - m;
          starts = omega arith;
          names = same_refusal e;
          at = record {
            values = [];
            fit = tt;
            rest = s;
            spell = refl;
            p = length s - m;
            counts = omega arith;
            bad = field_place (column_shape col) col.options s f m q;
          };
        }

-- a whole row: its refusal names the bad byte
pub row_place : (r : ℕ) (cols : List Column) (s : List ℕ) (f : RowFault) (k c place : ℕ) → Bytes s
    → row_fault r (length s) 0 cols s ≡ Err (Row f k c place) → BadAt cols s f c place
row_place r cols s f k c place b e =
    let t = placed r (length s) 0 cols s (Row f k c place) b (omega arith) e in
    let w = same t.names in
    let column : t.later ≡ c = omega (arith, t.counts, w.1) in
    let here : t.here ≡ place = omega (arith, t.starts, w.2) in
    subst (λ (g : RowFault). BadAt cols s g c place) w.0
    (subst (λ (d : ℕ). BadAt cols s t.kind d place) column
    (subst (BadAt cols s t.kind t.later) here t.at))
  where
    same : {g : RowFault} {j d p : ℕ} → Row f k c place ≡ Row g j d p → (g ≡ f) × (d ≡ c) × (p ≡ place)
    same {g} {j} {d} {p} h = (cc, cc, cc)

-- ---- the place is the row's length for 16, and else that of a byte of the row

length_rest : {cols : List Column} {s : List ℕ} {f : RowFault} {c place : ℕ} (t : BadAt cols s f c place) → place + length t.rest ≡ length s + t.p
length_rest {cols} {c = c} t = omega (arith, t.counts, ap length (sym t.spell) ∙ length-append (row (take c cols) t.values) t.rest)

field_cut : (sh : Shape) (o : SortOptions) (s : List ℕ) (p : ℕ) → FieldBad sh o Cut s p → p ≡ length s
field_cut (fixed k) o s p h = h
field_cut variable o s p h = h ∙ length_directed o.descending s

pub cut_place : (cols : List Column) (s : List ℕ) (c place : ℕ) → BadAt cols s Cut c place → place ≡ length s
cut_place cols s c place t = omega (arith, length_rest t, go (drop c cols) t.bad)
  where
    go : (rest : List Column) → Bad rest Cut t.rest t.p → t.p ≡ length t.rest
    go [] h = absurd (omega (arith, ap fault_number h.0))
    go (col ∷ rest) h = field_cut (column_shape col) col.options t.rest t.p h

-- a value of no bytes is folded
some_width : (k : Fixed) (o : SortOptions) (s : List ℕ) → is_folded k o.fold (unkey k (directed o.descending (take (width k) s))) ≡ false → 0 < width k
some_width bool o s h = omega arith
some_width (plain n) o s h = absurd (true≢false h)
some_width (number n) o s h = absurd (true≢false h)
some_width (integer n) o s h = absurd (true≢false h)
some_width (parts ns) o s h = absurd (true≢false h)
some_width (float (suc n)) o s h = omega arith
some_width (float zero) o s h = absurd (true≢false (sym (none o.fold o.descending) ∙ h))
  where
    none : (fold d : Bool) → is_folded (float 0) fold (unkey (float 0) (directed d [])) ≡ true
    none true true = refl
    none true false = refl
    none false true = refl
    none false false = refl

field_byte : (sh : Shape) (o : SortOptions) (f : RowFault) (s : List ℕ) (p : ℕ) → (f ≡ Cut → ⊥) → FieldBad sh o f s p → p < length s
field_byte sh o Cut s p other h = absurd (other refl)
field_byte (fixed k) o Lead s p other h = omega (arith, h.0, h.1)
field_byte (fixed k) o NullRest s p other h = omega (arith, h.before, h.there)
field_byte (fixed k) o BoolByte s p other h = omega (arith, h.1, h.2)
field_byte (fixed k) o EndByte s p other h = absurd h
field_byte (fixed k) o Padding s p other h = absurd h
field_byte (fixed k) o Extra s p other h = absurd h
field_byte (fixed k) o TooLong s p other h = absurd h
field_byte (fixed k) o Unfolded s p other h = omega (arith, h.0, h.1, some_width k o (drop 1 s) h.2)
field_byte variable o Lead s p other h = omega (arith, h.0, h.1, length_directed o.descending s)
field_byte variable o NullRest s p other h = absurd h
field_byte variable o BoolByte s p other h = absurd h
field_byte variable o EndByte s p other h = omega (arith, h.1.whole, h.2, length_directed o.descending s)
field_byte variable o Padding s p other h = omega (arith, h.2.before, h.2.there, length_directed o.descending s)
field_byte variable o Extra s p other h = absurd h
field_byte variable o Unfolded s p other h = absurd h
field_byte variable o TooLong s p other h = omega (arith, h.1.whole, h.2, length_directed o.descending s)

pub byte_place : (cols : List Column) (s : List ℕ) (f : RowFault) (c place : ℕ) → (f ≡ Cut → ⊥) → BadAt cols s f c place → place < length s
byte_place cols s f c place other t = omega (arith, length_rest t, go (drop c cols) t.bad)
  where
    go : (rest : List Column) → Bad rest f t.rest t.p → t.p < length t.rest
    go [] h = omega (arith, h.1, h.2)
    go (col ∷ rest) h = field_byte (column_shape col) col.options f t.rest t.p other h

-- ---- decode
module _ (list : ColumnList) (n : ℕ) (bytes offsets : List ℕ) (room : ℕ) (b : Bytes bytes) (f : RowFault) (r c place : ℕ)
    (e : decode_answer list n bytes offsets room ≡ Err (Row f r c place)) where
  -- a refusal by content names the bad byte of its row
  pub decode_place : BadAt (columns list) (row_bytes bytes offsets r) f c place
  decode_place =
      let t = rows_refused (columns list) (cut_rows n bytes offsets) 0 (Row f r c place) (by_rows list n bytes offsets room (row_content f r c place) e) in
      let is : t.j ≡ r = same t.names in
      let l : r < n = omega (arith, t.here, length_each 0 n (row_bytes bytes offsets)) in
      let here : get_or (cut_rows n bytes offsets) t.j [] ≡ row_bytes bytes offsets r
      = ap (λ (i : ℕ). get_or (cut_rows n bytes offsets) i []) is ∙ cut list n bytes offsets room r l in
      subst (λ (s : List ℕ). BadAt (columns list) s f c place) here
      (row_place (0 + t.j) (columns list) (get_or (cut_rows n bytes offsets) t.j []) f r c place
      (every_at Bytes (cut_rows n bytes offsets) [] t.j (cut_bytes n bytes offsets b) t.here) t.refused)
    where
      same : {g : RowFault} {j d p : ℕ} → Row f r c place ≡ Row g (0 + j) d p → j ≡ r
      same {g} {j} {d} {p} h = let z : r ≡ 0 + j = cc in omega arith

  -- for 16 the row's length
  pub decode_place_cut : f ≡ Cut → place ≡ length (row_bytes bytes offsets r)
  decode_place_cut k =
      cut_place (columns list) (row_bytes bytes offsets r) c place
      (subst (λ (g : RowFault). BadAt (columns list) (row_bytes bytes offsets r) g c place) k decode_place)

  -- and else one of the row's bytes
  pub decode_place_byte : (f ≡ Cut → ⊥) → place < length (row_bytes bytes offsets r)
  decode_place_byte other = byte_place (columns list) (row_bytes bytes offsets r) f c place other decode_place
