-- The walk over the columns of a row: what holds at its head, and what a turn gives. Assumes nothing.
use Prim.Native.Nat.{ℕ, zero, suc, ◌+◌, ◌-◌, ◌*◌, ◌<◌, ◌≤◌}
use mathlib.Core.Path.{◌≡◌, refl, ap, sym, subst, ◌∙◌}
use mathlib.Core.Bool.{Bool, true}
use mathlib.Core.Logic.{◌⊎◌, inl, inr, ⊎_elim}
use mathlib.Core.List.{List, [], ◌∷◌}
use native.Mathlib.Numerals.{add-one}
use native.Mathlib.Omega.{arith}
use lib.ListN.{length, get_or, set, take, drop, length-drop, drop_of_length-le}
use lib.Seq.{drop-drop, get_or-drop, take_all}
use Rattle.std.specs.declared.result.Result.TheVariants.{Ok}
use Rattle.format.specs.declared.Column.{Column}
use Rattle.format.specs.declared.Schema.{Schema}
use Rattle.format.specs.Kinds.{Slot, column_shape}
use Rattle.format.specs.Limits.{max_columns, max_slot}
use Rattle.format.specs.Lists.{Bytes}
use Rattle.format.specs.Read.{row_fault}
use Rattle.format.specs.Schemas.{cols_of, no_column}
use Rattle.format.specs.Sheet.{layout}
use Rattle.format.specs.Cleared.{added}
use Rattle.basics.proofs.Bytes.{bytes_drop}
use Rattle.laws.proofs.InUse.{Held, next_in_use}
use Rattle.plain_fields.specs.Plain.{Lengthy, Opens, Plain}
use Rattle.field_reader.specs.Counts.{Counts}
use Rattle.quick_rows.specs.Quick.{row_data}
use Rattle.quick_rows.proofs.Taken.{Took, past_fault, past_added, added_small, adds_took, plain_took}

-- what is left of the row has the row's fault, whichever row it is, and what is counted and what is left to count is the row's count
pub record Fields (cols : List Column) (row : List ℕ) (bytes₀ bytes at c : ℕ) : Type 0 where
  pub inside : c ≤ length cols
  pub within : at ≤ length row
  pub says : (r : ℕ) → row_fault r (length row) c (drop c cols) (drop at row) ≡ row_fault r (length row) 0 cols row
  pub adds : bytes + row_data (drop c cols) (drop at row) ≡ bytes₀ + row_data cols row
  pub small : bytes ≤ bytes₀ + max_slot * c

-- a slot was taken: the next turn stands in what it left
module _ {cols : List Column} {row : List ℕ} {bytes₀ bytes at c : ℕ} (t : Fields cols row bytes₀ bytes at c)
    {col : Column} (here : drop c cols ≡ col ∷ drop (suc c) cols) where
  abbrev rest : List Column
  rest = drop (suc c) cols

  abbrev s : List ℕ
  s = drop at row

  pub taken : (x : Slot) (len bytes' at' : ℕ) → Took col s x len → bytes' ≡ bytes + added (layout col) x → at' ≡ at + len
      → Fields cols row bytes₀ bytes' at' (c + 1)
  taken x len bytes' at' k p o =
      let e : drop len s ≡ drop at' row = drop-drop len at row ∙ ap (λ (i : ℕ). drop i row) (sym o) in
      record {
        inside = omega (arith, length-drop c cols, ap length here);
        within = omega (arith, k.inside, length-drop at row);
        says = λ r.
            rw (add-one, ← e)
            (sym (past_fault col s x len k rest r (length row) c) ∙ ap (λ (l : List Column). row_fault r (length row) c l s) (sym here) ∙ t.says r);
        adds = rw (add-one, ← e) (omega (arith, past_added col s x len k rest, ap (λ (l : List Column). row_data l s) here));
        small = omega (arith, added_small (column_shape col) col.options x k.fits);
      }

-- past the last column
module _ {cols : List Column} {row : List ℕ} {bytes₀ bytes at c : ℕ} (t : Fields cols row bytes₀ bytes at c) (h : length cols ≤ c) where
  none_left : drop c cols ≡ []
  none_left = drop_of_length-le cols {i = c} h

  pub last_fault : (r : ℕ) → row_fault r (length row) c [] (drop at row) ≡ row_fault r (length row) 0 cols row
  last_fault r = ap (λ (l : List Column). row_fault r (length row) c l (drop at row)) (sym none_left) ∙ t.says r

  -- no byte is left: the row is whole, and counted
  pub record Whole : Type 0 where
    pub passes : (r : ℕ) → row_fault r (length row) 0 cols row ≡ Ok tt
    pub adds : bytes ≡ bytes₀ + row_data cols row

  pub whole : length row ≤ at → Whole
  whole l = record {
    passes = λ r. sym (last_fault r) ∙ ap (row_fault r (length row) c []) (drop_of_length-le row {i = at} l);
    adds = omega (arith, ap (λ (l : List Column). row_data l (drop at row)) none_left);
  }

-- ---- the quick walk

-- lengths of plain fields, of the columns in use, or 0
abbrev pub Ready : List Column → ℕ → List ℕ → Type 0
Ready columns count lengths = (i : ℕ) → i < count → Lengthy (get_or columns i no_column) (get_or lengths i 0)

-- one that is set to 0 says nothing
set_none : (l : List ℕ) (c i : ℕ) → (get_or (set l c 0) i 0 ≡ 0) ⊎ (get_or (set l c 0) i 0 ≡ get_or l i 0)
set_none [] c i = inr refl
set_none (x ∷ l) zero zero = inl refl
set_none (x ∷ l) zero (suc i) = inr refl
set_none (x ∷ l) (suc c) zero = inr refl
set_none (x ∷ l) (suc c) (suc i) = set_none l c i

pub ready_none : (columns : List Column) (count : ℕ) (lengths : List ℕ) (c : ℕ) → Ready columns count lengths → Ready columns count (set lengths c 0)
ready_none columns count lengths c h i l =
    ⊎_elim
    (λ z. subst (Lengthy (get_or columns i no_column)) (sym z) (λ some. absurd (omega arith)))
    (λ e. subst (Lengthy (get_or columns i no_column)) (sym e) (h i l))
    (set_none lengths c i)

-- at its head: while the fields were good, as in any walk
pub record Walking (columns : List Column) (count : ℕ) (row plain : List ℕ) (good : Bool) (more at c : ℕ) : Type 0 where
  pub inside : c ≤ count
  pub within : at ≤ length row
  pub small : more ≤ max_slot * c
  pub ready : Ready columns count plain
  pub says : good ≡ true → Fields (take count columns) row 0 more at c

-- a field of so many bytes was passed: where all is good, it is a slot
pub walked : {columns : List Column} {count : ℕ} {row plain plain' : List ℕ} {good good' : Bool} {more more' at at' c : ℕ} {col : Column}
    → Walking columns count row plain good more at c → c < count → drop c (take count columns) ≡ col ∷ drop (suc c) (take count columns)
    → (len : ℕ) → at' ≡ at + len → len ≤ length row - at → more' ≤ more + max_slot → Ready columns count plain'
    → (good' ≡ true → (good ≡ true) × ((x : Slot) × Took col (drop at row) x len × (more' ≡ more + added (layout col) x)))
    → Walking columns count row plain' good' more' at' (c + 1)
walked w l here len o inside m ready slot = record {
  inside = omega arith;
  within = omega (arith, w.within);
  small = omega (arith, w.small);
  ready = ready;
  says = λ e. let s = slot e in taken (w.says s.0) here s.1.0 len _ _ s.1.1 s.1.2 o;
}

-- a turn, by what it passed: the field of the next column, in front of what is left of the row
module _ {schema : Schema} (held : Held schema) (few : schema.count ≤ max_columns) {row plain : List ℕ} {good : Bool} {more at c : ℕ}
    (inv : Walking schema.columns schema.count row plain good more at c) (h : c < schema.count) (bytes : Bytes row) where
  abbrev col : Column
  col = get_or schema.columns c no_column

  abbrev here : drop c (cols_of schema) ≡ col ∷ drop (suc c) (cols_of schema)
  here = next_in_use schema held few c h

  -- a plain field, which opens with 01
  pub past_plain : (len : ℕ) → Plain col len → len ≤ length row - at → get_or row at 0 ≡ 1
      → Walking schema.columns schema.count row plain good more (at + len) (c + 1)
  past_plain len p inside one =
      let first : get_or (drop at row) 0 0 ≡ 1 = get_or-drop at row 0 0 ∙ ap (λ (i : ℕ). get_or row i 0) (omega arith) ∙ one in
      let x = plain_took col (drop at row) len (bytes_drop at row bytes) p (omega (arith, inside, length-drop at row)) (inl first) in
      walked inv h here len refl inside (omega arith) inv.ready (λ e. (e, (x.0, x.1, omega (arith, p.adds x.0))))

  -- a plain field or a null, and no length is foretold any more
  pub past_slot : (len : ℕ) → Plain col len → len ≤ length row - at → {good' : Bool}
      → (good' ≡ true → (good ≡ true) × Opens col.options len (drop at row))
      → Walking schema.columns schema.count row (set plain c 0) good' more (at + len) (c + 1)
  past_slot len p inside both =
      walked inv h here len refl inside (omega arith) (ready_none schema.columns schema.count plain c inv.ready)
      (λ e.
      let g = both e in
      let x = plain_took col (drop at row) len (bytes_drop at row bytes) p (omega (arith, inside, length-drop at row)) g.1 in
      (g.0, (x.0, x.1, omega (arith, p.adds x.0))))

  -- a field that was counted
  pub past_counted : (len value : ℕ) → Counts col (take (length row - at) (drop at row)) len value
      → Walking schema.columns schema.count row plain good (more + value) (at + len) (c + 1)
  past_counted len value k =
      let all = take_all (length row - at) (drop at row) (omega (arith, length-drop at row)) in
      let x = adds_took col (drop at row) len value (bytes_drop at row bytes) (subst (λ (s : List ℕ). Counts col s len value) all k) in
      let small = added_small (column_shape col) col.options x.0 x.1.fits in
      walked inv h here len refl (omega (arith, x.1.inside, length-drop at row)) (omega (arith, small, x.2)) inv.ready
      (λ e. (e, (x.0, x.1, omega (arith, x.2))))
