-- The lines of a sheet that was encoded: its rows, or the refusal. And how long they are. Assumes nothing.
use Prim.Native.Nat.{ℕ, ◌≤◌}
use mathlib.Core.Path.{◌≡◌, refl, sym, ap, ap₂, ◌∙◌}
use mathlib.Core.List.{List, ◌++◌}
use native.Mathlib.Omega.{arith}
use lib.ListN.{length, drop, replicate, length-replicate}
use Rattle.format.specs.declared.Refusal.{Refusal}
use Rattle.format.specs.Check.{Check}
use Rattle.std.specs.declared.result.Result.TheVariants.{Ok, Err}
use Rattle.format.specs.Numbers.{Answer, refusal_numbers}
use Rattle.format.specs.Limits.{max_rows}
use Rattle.format.specs.Lists.{joined, ends_from}
use Rattle.format.specs.Described.{ColumnList, columns}
use Rattle.format.specs.Sheet.{sheet_slots}
use Rattle.format.specs.Entries.{answer, sheet_rows, sheet_total, measure_check, encode_check, encode_answer, cut_rows}
use Rattle.format.specs.Promises.{Encoded}
use Rattle.format.specs.Program.{row_room, offset_room, hex_lines, refused_line, lines}
use Rattle.format.specs.Passed.{Cuts}
use Rattle.basics.proofs.Checks.{enough, both_pass}
use Rattle.laws.proofs.Accept.{encoded, encode_done, encode_rows_lem, encode_offsets_lem}
use Rattle.laws.proofs.Cuts.{written_cuts, written_rows}
use Rattle.laws.proofs.Turned.{rows_many}
use Rattle.laws.proofs.Numbers.{numbers_injective}
use Rattle.texts.proofs.Rows.{length_lines}
use Rattle.texts.proofs.Refused.{refused_short}
use Rattle.sheet_text.specs.SheetText.{text_room, sheet_text}

-- one that passes has few rows, and few bytes in them
rows_few : (list : ColumnList) (n : ℕ) (sheet : List ℕ) (k m : ℕ) → encode_check list n sheet k m ≡ Ok tt
    → (n ≤ max_rows) × (sheet_total n (columns list) sheet ≤ k)
unfolding encode_check
rows_few list n sheet k m e = (
  (encoded list n sheet k m e).1.few,
  (enough k (sheet_total n (columns list) sheet) _ _ (both_pass (measure_check list n sheet) _ e).1).0,
)

pub sheet_short : (list : ColumnList) (n : ℕ) (sheet : List ℕ) → length (sheet_text list n sheet) ≤ text_room
sheet_short list n sheet = by_check (encode_check list n sheet row_room offset_room) refl
  where
    by_check : (k : Check) → encode_check list n sheet row_room offset_room ≡ k → length (lines k (sheet_rows n (columns list) sheet)) ≤ text_room
    by_check (Ok tt) e =
        let f = rows_few list n sheet row_room offset_room e in
        omega (arith, length_lines (sheet_rows n (columns list) sheet), rows_many n (columns list) (sheet_slots n (columns list) sheet), f.0, f.1)
    by_check (Err x) e = omega (arith, refused_short (refusal_numbers x))

lines_refused : (k : Check) (a b : ℕ) (rows : List (List ℕ)) (x : Refusal) → answer k a b ≡ Err x → lines k rows ≡ refused_line (refusal_numbers x)
lines_refused (Ok tt) a b rows x e = absurd (let z : ◌≡◌ {A = ℕ} 0 1 = cc in omega arith)
lines_refused (Err y) a b rows x e = ap (λ (z : Refusal). refused_line (refusal_numbers z)) {x = y} {y = x} (cc)

-- as encode answers it, and leaves the buffers that were zeros
abbrev rows : List ℕ
rows = replicate {A = ℕ} row_room 0

abbrev offsets : List ℕ
offsets = replicate {A = ℕ} offset_room 0

module _ (list : ColumnList) (n : ℕ) (sheet : List ℕ) (given : Answer) (rows' offsets' : List ℕ)
    (h : Encoded list n sheet rows offsets given rows' offsets') where
  rows_long : length rows ≡ row_room
  rows_long = length-replicate {A = ℕ} row_room 0

  offsets_long : length offsets ≡ offset_room
  offsets_long = length-replicate {A = ℕ} offset_room 0

  answers : given ≡ encode_answer list n sheet (length rows) (length offsets)
  answers = numbers_injective given _ h.answers

  told : given ≡ encode_answer list n sheet row_room offset_room
  told = answers ∙ ap₂ (encode_answer list n sheet) rows_long offsets_long

  pub refused_text : (x : Refusal) → given ≡ Err x → refused_line (refusal_numbers x) ≡ sheet_text list n sheet
  unfolding encode_answer
  refused_text x e = sym (lines_refused (encode_check list n sheet row_room offset_room) _ _ (sheet_rows n (columns list) sheet) x (sym told ∙ e))

  module _ (x y : ℕ) (e : given ≡ Ok (x, y)) where
    abbrev encodedRows : List (List ℕ)
    encodedRows = sheet_rows n (columns list) sheet

    passes : encode_check list n sheet (length rows) (length offsets) ≡ Ok tt
    passes = (encode_done list n sheet (length rows) (length offsets) x y (sym answers ∙ e)).0

    many : length encodedRows ≡ n
    many = rows_many n (columns list) (sheet_slots n (columns list) sheet)

    bytes : rows' ≡ joined encodedRows ++ drop (length (joined encodedRows)) rows
    bytes = h.row_bytes ∙ encode_rows_lem list n sheet rows offsets passes

    ends : offsets' ≡ ends_from 0 encodedRows ++ drop (length (ends_from 0 encodedRows)) offsets
    ends = h.row_ends ∙ encode_offsets_lem list n sheet rows offsets passes

    pub rows_cuts : Cuts n rows' offsets'
    rows_cuts = rw (bytes, ends) (written_cuts encodedRows _ _ n many (encoded list n sheet (length rows) (length offsets) passes).1.small)

    pub rows_text : hex_lines (cut_rows n rows' offsets') ≡ sheet_text list n sheet
    rows_text =
        ap hex_lines (ap₂ (cut_rows n) bytes ends ∙ written_rows encodedRows _ _ n many)
        ∙ ap (λ (k : Check). lines k encodedRows) (sym passes) ∙ ap₂ (λ (k m : ℕ). lines (encode_check list n sheet k m) encodedRows) rows_long offsets_long
