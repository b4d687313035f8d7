-- A whole field of a piece, as the field reader answers it: what its bytes do, one by one. Assumes nothing.
use Prim.Native.Nat.{ℕ, ◌+◌, ◌-◌, ◌*◌, ◌/◌, ◌<◌, ◌≤◌}
use mathlib.Core.Path.{◌≡◌, refl, sym, ap, subst, ◌∙◌}
use mathlib.Core.Bool.{Bool, true, false, cond, true≢false}
use mathlib.Core.Logic.{inl, inr}
use mathlib.Core.Option.{none, some}
use mathlib.Core.List.{List}
use native.Mathlib.Omega.{arith}
use lib.Dec.{leb}
use lib.ListN.{length, get_or, take, drop, set, length-take, length-drop, length-append}
use lib.Seq.{take-take, take_at, length-take-le}
use borrow.Author.Tests.{lt-ltb, le-ltb}
use Rattle.format.specs.declared.Column.{Column}
use Rattle.format.specs.declared.Schema.{Schema}
use Rattle.format.specs.declared.RowFault.{RowFault}
use Rattle.format.specs.declared.RowFault.TheVariants.{Cut, Lead, NullRest, BoolByte, EndByte, Padding, Extra, TooLong, Unfolded}
use Rattle.format.specs.declared.FieldRead.{FieldRead}
use Rattle.format.specs.declared.FieldFault.{FieldFault}
use Rattle.format.specs.declared.Refusal.TheVariants.{Row}
use Rattle.format.specs.Check.{Check}
use Rattle.std.specs.declared.result.Result.TheVariants.{Ok, Err}
use Rattle.format.specs.declared.Spot.{Spot}
use Rattle.format.specs.declared.Spot.TheVariants.{Start}
use Rattle.format.specs.Limits.{max_columns, max_total}
use Rattle.format.specs.Lists.{Bytes}
use Rattle.format.specs.Field.{field, field_length}
use Rattle.format.specs.Kinds.{Shape, fixed, variable, Slot, column_shape}
use Rattle.format.specs.Schemas.{no_column, cols_of, Limited}
use Rattle.format.specs.Read.{Parsed, got, fault, read_field, FieldAnswer, field_read}
use Rattle.format.specs.CutterRule.{column_in, columns_kept, keeps}
use Rattle.format.specs.Cutter.{fed, new_end, ends_in, refused, field_ended}
use Rattle.basics.proofs.Bytes.{bytes_take, bytes_drop}
use Rattle.laws.proofs.FaultPlace.{fault_inside}
use Rattle.laws.proofs.Fields.{length_field}
use Rattle.laws.proofs.ReadField.{read_field_lem}
use Rattle.cutter_laws.proofs.RuleMoves.{and_true}
use Rattle.cutter_laws.proofs.RuleKept.{stands_of}
use Rattle.cutter_laws.proofs.FieldFed.{Ended as Whole, Broken, FieldFed, field_fed}
use Rattle.cutter_step.specs.declared.Place.{Place}
use Rattle.cutter_step.specs.declared.Stepped.TheVariants.{Stopped}
use Rattle.cutter_walk.specs.declared.Walked.{Walked}
use Rattle.cutter_step.specs.Places.{state_at, Standing, Advances, ended}
use Rattle.cutter_walk.specs.Walks.{is_cut, fault_shown, placed, Goes}
use Rattle.cutter_rule.proofs.Rules.{column_narrow}
use Rattle.cutter_step.proofs.Stepping.{field_ended_lem, field_end}
use Rattle.cutter_walk.proofs.Walking.{Turning, turn_begins, standing, turn_leaves, turn_goes, turn_ends, turn_stops}

-- every fault but 16
pub not_cut : (f : RowFault) → (f ≡ Cut → ⊥) → false ≡ is_cut f
not_cut Cut h = absurd (h refl)
not_cut Lead h = refl
not_cut NullRest h = refl
not_cut BoolByte h = refl
not_cut EndByte h = refl
not_cut Padding h = refl
not_cut Extra h = refl
not_cut TooLong h = refl
not_cut Unfolded h = refl

cut_fault : (f : RowFault) → f ≡ Cut → is_cut f ≡ true
cut_fault f e = ap is_cut e

-- a field that was read has some bytes
read_some : (col : Column) (s : List ℕ) (v : Slot) (r : List ℕ) → Bytes s → read_field (column_shape col) col.options s ≡ got v r → 1 ≤ length s - length r
read_some col s v r b h =
    let e = read_field_lem (column_shape col) col.options s v r b h in
    omega (arith, ap length e.0, length-append (field (column_shape col) col.options v) r, length_field (column_shape col) col.options v e.1, some_long (column_shape col) v)
  where
    some_long : (sh : Shape) (v : Slot) → 1 ≤ field_length sh v
    some_long (fixed k) v = omega arith
    some_long variable none = omega arith
    some_long variable (some v) = padded (leb (length v) 32)
      where
        padded : (b : Bool) → 1 ≤ cond b (1 + 9 * ((length v + 7) / 8)) (4 + 33 * ((length v + 31) / 32))
        padded true = omega arith
        padded false = omega arith

-- ---- a field that begins at byte i, of which the reader is given m bytes

module _ (column : Column) (count : ℕ) (p : Place) (piece : List ℕ) (i m : ℕ) where
  abbrev xs : List ℕ
  xs = take m (drop i piece)

  abbrev pub Read : FieldAnswer → Type 0
  Read a = a ≡ field_read xs (read_field (column_shape column) column.options xs)

  -- no bad byte stands outside what the reader was given
  abbrev Within : FieldAnswer → Type 0
  Within (Ok read) = Unit {0}
  Within (Err found) = found.1 ≤ length xs

  pub left_inside : (found : FieldFault) → Read (Err found) → found.1 ≤ length xs
  left_inside found e = subst Within (sym e) (go (read_field (column_shape column) column.options xs) refl)
    where
      go : (q : Parsed Slot) → read_field (column_shape column) column.options xs ≡ q → Within (field_read xs q)
      go (got none r) h = tt
      go (got (some v) r) h = tt
      go (fault f l) h = fault_inside (column_shape column) column.options xs f l h

  module _ (inside : i + m ≤ length piece) (bytes : Bytes piece) (room : p.bytes + m ≤ max_total) (starts : p.spot ≡ Start) where
    long : length xs ≡ m
    long = length-take-le m (drop i piece) (omega (arith, length-drop i piece))

    -- what is read in every state with such columns
    fed_in : (schema : Schema) → column_in (state_at schema p) ≡ column → FieldFed (state_at schema p) xs (read_field (column_shape column) column.options xs)
    fed_in schema e =
        subst (λ (col : Column). FieldFed (state_at schema p) xs (read_field (column_shape col) col.options xs)) e
        (field_fed (state_at schema p) xs (record { standing = refl; start = starts }) (bytes_take m (drop i piece) (bytes_drop i piece bytes)) (omega (arith, long)))

    -- it is whole
    module _ (v : Slot) (rest : List ℕ) (is : read_field (column_shape column) column.options xs ≡ got v rest) (len : ℕ) (n : length xs - length rest ≡ len) where
      whole_in : (schema : Schema) → column_in (state_at schema p) ≡ column → Whole (state_at schema p) xs rest
      whole_in schema e = subst (FieldFed (state_at schema p) xs) is (fed_in schema e)

      part_is : (schema : Schema) (e : column_in (state_at schema p) ≡ column) → (take len (drop i piece) ≡ (whole_in schema e).part) × (length (whole_in schema e).part ≡ len)
      part_is schema e =
          let w = whole_in schema e in
          let l : length w.part ≡ len = omega (arith, ap length w.splits, length-append w.part rest) in
          (sym (take-take len m (drop i piece) (omega (arith, long))) ∙ ap (take len) w.splits ∙ take_at w.part rest len l, l)

      got_advances : 1 ≤ len → Advances column count p piece i (record { turn = ended p count len; by = len })
      got_advances least = record {
        state = λ schema c e.
            let w = whole_in schema e in
            let s = part_is schema e in
            ap (fed (state_at schema p)) s.0 ∙ w.state ∙ ap (field_ended (state_at schema p)) s.1 ∙ field_ended_lem schema p count len c;
        ends = λ schema c e.
            let w = whole_in schema e in
            let s = part_is schema e in
            ap (ends_in (state_at schema p)) s.0 ∙ w.ends ∙ ap (λ (k : ℕ). new_end (state_at schema p) (field_ended (state_at schema p) k)) s.1
            ∙ ap (new_end (state_at schema p)) (field_ended_lem schema p count len c) ∙ field_end schema p count len;
        some = least;
        inside = omega (arith, long);
      }

    -- its length: some bytes, and no more than the reader was given
    abbrev Reads : FieldAnswer → Type 0
    Reads (Ok read) = (1 ≤ read.length) × (read.length ≤ length xs) × Advances column count p piece i (record { turn = ended p count read.length; by = read.length })
    Reads (Err found) = Unit {0}

    -- a null or a value
    pub field_advances : (read : FieldRead) → Read (Ok read) → (1 ≤ read.length) × (read.length ≤ length xs)
        × Advances column count p piece i (record { turn = ended p count read.length; by = read.length })
    field_advances read e = subst Reads (sym e) (go (read_field (column_shape column) column.options xs) refl)
      where
        read_whole : (v : Slot) (r : List ℕ) → read_field (column_shape column) column.options xs ≡ got v r
            → (1 ≤ length xs - length r) × (length xs - length r ≤ length xs)
            × Advances column count p piece i (record { turn = ended p count (length xs - length r); by = length xs - length r })
        read_whole v r h =
            let some = read_some column xs v r (bytes_take m (drop i piece) (bytes_drop i piece bytes)) h in
            (some, omega arith, got_advances v r h (length xs - length r) refl some)

        go : (q : Parsed Slot) → read_field (column_shape column) column.options xs ≡ q → Reads (field_read xs q)
        go (got none r) h = read_whole none r h
        go (got (some v) r) h = read_whole (some v) r h
        go (fault f k) h = tt

    -- a fault that shows
    pub fault_advances : (found : FieldFault) → Read (Err found) → is_cut found.0 ≡ false → 1 ≤ m
        → Advances column count p piece i (record { turn = Stopped (Row found.0 p.rows p.column (p.row + m - found.1)); by = m })
    fault_advances found e uncut least = go (read_field (column_shape column) column.options xs) refl e
      where
        go : (q : Parsed Slot) → read_field (column_shape column) column.options xs ≡ q → Err found ≡ field_read xs q
            → Advances column count p piece i (record { turn = Stopped (Row found.0 p.rows p.column (p.row + m - found.1)); by = m })
        go (got none r) h e = absurd (let z : ◌≡◌ {A = ℕ} 0 1 = cc in omega arith)
        go (got (some v) r) h e = absurd (let z : ◌≡◌ {A = ℕ} 0 1 = cc in omega arith)
        go (fault g k) h e = record {
          state = λ schema c u. let b = broken schema u in b.state ∙ same;
          ends = λ schema c u. (broken schema u).ends;
          some = least;
          inside = inside;
        }
          where
            found_is : found ≡ record { 0 = g; 1 = k }
            found_is = cc

            fault_is : found.0 ≡ g
            fault_is = ap (λ (f : FieldFault). f.0) found_is

            left_is : found.1 ≡ k
            left_is = ap (λ (f : FieldFault). f.1) found_is

            same : refused (Row g p.rows p.column (p.row + length xs - k)) ≡ refused (Row found.0 p.rows p.column (p.row + m - found.1))
            same = rw (fault_is, left_is, long)

            broken : (schema : Schema) → column_in (state_at schema p) ≡ column → Broken (state_at schema p) xs g k
            broken schema u = pick (subst (FieldFed (state_at schema p) xs) h (fed_in schema u))
              where
                pick : FieldFed (state_at schema p) xs (fault g k) → Broken (state_at schema p) xs g k
                pick (inl x) = absurd (true≢false (sym (cut_fault found.0 (fault_is ∙ x.0)) ∙ uncut))
                pick (inr x) = x

-- ---- the walk over fields

-- before a field's first byte
abbrev pub field_at : ℕ → ℕ → ℕ → ℕ → Place
field_at rows bytes row c = record { rows = rows; bytes = bytes; row = row; column = c; spot = Start }

pub place_starts : (p : Place) → p.spot ≡ Start → field_at p.rows p.bytes p.row p.column ≡ p
place_starts p e = ap (λ (s : Spot). record { rows = p.rows; bytes = p.bytes; row = p.row; column = p.column; spot = s }) (sym e)

-- up to byte i of those before `end`, which the stream may still hold
pub record InFields (schema : Schema) (at₀ : Place) (piece : List ℕ) (i₀ n₀ : ℕ) (ends₀ : List ℕ) (end rows bytes row c n i : ℕ) (ends : List ℕ) : Type 0 where
  pub turning : Turning schema at₀ piece i₀ n₀ ends₀ (field_at rows bytes row c) n i ends
  pub short : i ≤ end
  pub last : end ≤ length piece
  pub room : bytes + (end - i) ≤ max_total

module _ {schema : Schema} {at₀ : Place} {piece : List ℕ} {i₀ n₀ : ℕ} {ends₀ : List ℕ} {end rows bytes row c n i : ℕ} {ends : List ℕ}
    (w : InFields schema at₀ piece i₀ n₀ ends₀ end rows bytes row c n i ends) where
  abbrev here : Place
  here = field_at rows bytes row c

  abbrev column : Column
  column = get_or schema.columns c no_column

  pub fields_standing : Standing column schema.count here
  fields_standing = standing schema here w.turning.kept

  -- it may end here
  pub fields_leave : (r : Walked) → r ≡ placed (Ok tt) rows bytes row c n i → Goes schema at₀ piece i₀ n₀ ends₀ r ends
  fields_leave r e = turn_leaves w.turning r e

  inside : i + (end - i) ≤ length piece
  inside = omega (arith, w.last)

  -- a field
  module _ (all : Bytes piece) (read : FieldRead) (is : Read column schema.count here piece i (end - i) (Ok read)) where
    abbrev len : ℕ
    len = read.length

    advances : (1 ≤ len) × (len ≤ length (take (end - i) (drop i piece))) × Advances column schema.count here piece i (record { turn = ended here schema.count len; by = len })
    advances = field_advances column schema.count here piece i (end - i) inside all w.room refl read is

    pub fields_some : 1 ≤ len
    fields_some = advances.0

    -- it has no more bytes than the reader was given
    pub fields_inside : len ≤ end - i
    fields_inside = omega (arith, advances.1, length-take (end - i) (drop i piece))

    pub fields_go : c + 1 < schema.count → InFields schema at₀ piece i₀ n₀ ends₀ end rows (bytes + len) (row + len) (c + 1) n (i + len) ends
    fields_go l = record {
      turning = turn_goes w.turning all _ advances.2 (field_at rows (bytes + len) (row + len) (c + 1)) (rw (lt-ltb (c + 1) schema.count l)) refl refl refl;
      short = omega (arith, fields_inside, w.short);
      last = w.last;
      room = omega (arith, fields_inside, w.room);
    }

    pub fields_end : schema.count ≤ c + 1 → n < length ends
        → InFields schema at₀ piece i₀ n₀ ends₀ end (rows + 1) (bytes + len) 0 0 (n + 1) (i + len) (set ends n (bytes + len))
    fields_end l room = record {
      turning = turn_ends w.turning all _ advances.2 (field_at (rows + 1) (bytes + len) 0 0) room (rw (le-ltb (c + 1) schema.count l)) refl refl refl;
      short = omega (arith, fields_inside, w.short);
      last = w.last;
      room = omega (arith, fields_inside, w.room);
    }

  -- a fault, which shows or not
  module _ (all : Bytes piece) (more : i < end) (found : FieldFault) (is : Read column schema.count here piece i (end - i) (Err found)) where
    pub fields_left : found.1 ≤ end - i
    fields_left =
        omega (arith, left_inside column schema.count here piece i (end - i) found is, length-take (end - i) (drop i piece))

    pub fields_stop : (check : Check) (r : Walked) → check ≡ fault_shown found rows c (row + (end - i)) → r ≡ placed check rows bytes row c n i
        → Goes schema at₀ piece i₀ n₀ ends₀ r ends
    fields_stop check r e q = rw (q, e) (pick (is_cut found.0) refl)
      where
        pick : (t : Bool) → is_cut found.0 ≡ t
            → Goes schema at₀ piece i₀ n₀ ends₀ (placed (cond t (Ok tt) (Err (Row found.0 rows c (row + (end - i) - found.1)))) rows bytes row c n i) ends
        pick true u = turn_leaves w.turning _ refl
        pick false u =
            turn_stops w.turning all _ (fault_advances column schema.count here piece i (end - i) inside all w.room refl found is u (omega arith))
            (Row found.0 rows c (row + (end - i) - found.1)) i here refl

-- the columns of a state that keeps the rule
pub limited : (schema : Schema) (p : Place) → length schema.columns ≡ max_columns → keeps (state_at schema p) ≡ true → Limited schema
unfolding keeps
limited schema p held kept =
    let t = stands_of (state_at schema p) kept in
    let k : (leb schema.count max_columns ≡ true) × (columns_kept (cols_of schema) ≡ true) = and_true t.schema in
    record {
      few = t.count;
      narrow = λ c l.
          column_narrow (state_at schema (field_at 0 0 0 c)) t.count k.1 l (length-take-le schema.count schema.columns (omega (arith, held, t.count)));
    }

-- the walk begins
pub fields_begin : (schema : Schema) (p : Place) (piece : List ℕ) (i n : ℕ) (ends : List ℕ) (m : ℕ) → length schema.columns ≡ max_columns → keeps (state_at schema p) ≡ true
    → p.spot ≡ Start → n ≤ i → i ≤ length piece → m ≤ length piece - i → p.bytes + m ≤ max_total
    → InFields schema (field_at p.rows p.bytes p.row p.column) piece i n ends (i + m) p.rows p.bytes p.row p.column n i ends
fields_begin schema p piece i n ends m held kept e few within most room = record {
  turning = turn_begins schema (field_at p.rows p.bytes p.row p.column) piece i n ends held (subst (λ (q : Place). keeps (state_at schema q) ≡ true) (sym (place_starts p e)) kept) few within;
  short = omega arith;
  last = omega arith;
  room = omega arith;
}
