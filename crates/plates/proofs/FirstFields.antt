-- The first k fields of a row of values: they are the row of the first k values under the first k columns, and such a row begins
-- only rows of those values. Assumes nothing.
use Prim.Native.Nat.{ℕ, zero, suc, ◌+◌, ◌-◌}
use mathlib.Core.Path.{◌≡◌, refl, ap, ap₂, sym, subst, ◌∙◌}
use mathlib.Core.Logic.{◌↔◌}
use mathlib.Core.List.{List, [], ◌∷◌, ◌++◌, append_assoc}
use native.Mathlib.Omega.{arith}
use lib.ListN.{length, take, drop, length-append}
use lib.Seq.{take_at}
use Rattle.format.specs.declared.Column.{Column}
use Rattle.format.specs.Field.{field}
use Rattle.format.specs.Fits.{RowFits}
use Rattle.format.specs.Kinds.{Slot, column_shape}
use Rattle.format.specs.Lists.{Bytes}
use Rattle.format.specs.Order.{Begins}
use Rattle.format.specs.Prefix.{after_fields, first_fields, values_length}
use Rattle.format.specs.Read.{Parsed, read_field, left_after}
use Rattle.format.specs.Row.{row}
use Rattle.basics.proofs.Bytes.{bytes_append, bytes_right}
use Rattle.laws.proofs.Fields.{length_field, bytes_row}
use Rattle.laws.proofs.ReadField.{field_read}
use Rattle.demands.proofs.OneRow.{row_injective}

-- ---- the first k columns, and the others

pub fits_first : (k : ℕ) (cols : List Column) (xs : List Slot) → RowFits cols xs → RowFits (take k cols) (take k xs)
fits_first zero cols xs h = tt
fits_first (suc k) [] [] h = tt
fits_first (suc k) [] (x ∷ xs) h = absurd h
fits_first (suc k) (col ∷ cols) [] h = absurd h
fits_first (suc k) (col ∷ cols) (x ∷ xs) h = (h.0, fits_first k cols xs h.1)

fits_others : (k : ℕ) (cols : List Column) (xs : List Slot) → RowFits cols xs → RowFits (drop k cols) (drop k xs)
fits_others zero cols xs h = h
fits_others (suc k) [] [] h = tt
fits_others (suc k) [] (x ∷ xs) h = absurd h
fits_others (suc k) (col ∷ cols) [] h = absurd h
fits_others (suc k) (col ∷ cols) (x ∷ xs) h = fits_others k cols xs h.1

-- a row is the row of its first k values, and then that of the others
pub row_parts : (k : ℕ) (cols : List Column) (xs : List Slot) → RowFits cols xs
    → row cols xs ≡ row (take k cols) (take k xs) ++ row (drop k cols) (drop k xs)
row_parts zero cols xs h = refl
row_parts (suc k) [] [] h = refl
row_parts (suc k) [] (x ∷ xs) h = absurd h
row_parts (suc k) (col ∷ cols) [] h = absurd h
row_parts (suc k) (col ∷ cols) (x ∷ xs) h =
    ap (λ (z : List ℕ). field (column_shape col) col.options x ++ z) (row_parts k cols xs h.1)
    ∙ sym (append_assoc (field (column_shape col) col.options x) (row (take k cols) (take k xs)) (row (drop k cols) (drop k xs)))

-- as long as the values say
pub length_first : (k : ℕ) (cols : List Column) (xs : List Slot) → RowFits cols xs → length (row (take k cols) (take k xs)) ≡ values_length k cols xs
length_first zero cols xs h = refl
length_first (suc k) [] [] h = refl
length_first (suc k) [] (x ∷ xs) h = absurd h
length_first (suc k) (col ∷ cols) [] h = absurd h
length_first (suc k) (col ∷ cols) (x ∷ xs) h =
    length-append (field (column_shape col) col.options x) (row (take k cols) (take k xs))
    ∙ ap₂ {C = ℕ} (λ a b. a + b) (length_field (column_shape col) col.options x h.0) (length_first k cols xs h.1)

-- ---- whatever bytes follow a row under the first k columns, its fields are read and these are left

after_row : (k : ℕ) (cols : List Column) (xs : List Slot) (t : List ℕ) → RowFits (take k cols) xs → Bytes t
    → after_fields k cols (row (take k cols) xs ++ t) ≡ t
after_row zero cols xs t h b = refl
after_row (suc k) [] xs t h b = refl
after_row (suc k) (col ∷ cols) [] t h b = absurd h
after_row (suc k) (col ∷ cols) (x ∷ xs) t h b =
    let rest : List ℕ = row (take k cols) xs in
    ap (λ (s : List ℕ). after_fields k cols (left_after (read_field (column_shape col) col.options s)))
    (append_assoc (field (column_shape col) col.options x) rest t)
    ∙ ap (λ (p : Parsed Slot). after_fields k cols (left_after p))
    (field_read (column_shape col) col.options x (rest ++ t) h.0 (bytes_append rest t (bytes_row (take k cols) xs h.1) b))
    ∙ after_row k cols xs t h.1 b

pub first_row : (k : ℕ) (cols : List Column) (xs : List Slot) (t : List ℕ) → RowFits (take k cols) xs → Bytes t
    → first_fields k cols (row (take k cols) xs ++ t) ≡ row (take k cols) xs
first_row k cols xs t h b =
    let f : List ℕ = row (take k cols) xs in
    take_at f t (length (f ++ t) - length (after_fields k cols (f ++ t))) (omega (arith, length-append f t, ap length (after_row k cols xs t h b)))

-- the first k fields are the row of the first k values under the first k columns
pub first_fields_lem : (k : ℕ) (cols : List Column) (xs : List Slot) → RowFits cols xs → first_fields k cols (row cols xs) ≡ row (take k cols) (take k xs)
first_fields_lem k cols xs h =
    ap (first_fields k cols) (row_parts k cols xs h)
    ∙ first_row k cols (take k xs) (row (drop k cols) (drop k xs)) (fits_first k cols xs h) (bytes_row (drop k cols) (drop k xs) (fits_others k cols xs h))

-- ---- a row under the first k columns, and a row under all
module _ (k : ℕ) (cols : List Column) (ys xs : List Slot) (hy : RowFits cols ys) (hx : RowFits (take k cols) xs) where
  -- it is the first k fields exactly where its values are the first k
  pub key_shared : take k ys ≡ xs ↔ first_fields k cols (row cols ys) ≡ row (take k cols) xs
  key_shared = (
    λ e. first_fields_lem k cols ys hy ∙ ap (row (take k cols)) e,
    λ e. row_injective (take k cols) (take k ys) xs (fits_first k cols ys hy) hx (sym (first_fields_lem k cols ys hy) ∙ e),
  )

  -- and begins the row exactly there
  pub key_begins : take k ys ≡ xs ↔ Begins (row (take k cols) xs) (row cols ys)
  key_begins = (
    λ e. (row (drop k cols) (drop k ys), ap (λ (zs : List Slot). row (take k cols) zs ++ row (drop k cols) (drop k ys)) (sym e) ∙ sym (row_parts k cols ys hy)),
    λ g.
        key_shared.1
        (ap (first_fields k cols) (sym g.1)
        ∙ first_row k cols xs g.0 hx (bytes_right (row (take k cols) xs) g.0 (subst Bytes (sym g.1) (bytes_row cols ys hy)))),
  )

-- ---- two rows agree on their first k values exactly when the bytes of their first k fields agree
pub fields_agree : (k : ℕ) (cols : List Column) (xs ys : List Slot) → RowFits cols xs → RowFits cols ys
    → take k xs ≡ take k ys ↔ first_fields k cols (row cols xs) ≡ first_fields k cols (row cols ys)
fields_agree k cols xs ys hx hy =
    let s = key_shared k cols xs (take k ys) hx (fits_first k cols ys hy) in
    let f = first_fields_lem k cols ys hy in
    (λ e. s.0 e ∙ sym f, λ e. s.1 (e ∙ f))
