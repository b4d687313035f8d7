-- The loops of `check_fields`: what each way out of them gives. Assumes nothing.
use Prim.Native.Nat.{ℕ, suc, ◌+◌, ◌-◌, ◌<◌, ◌≤◌}
use mathlib.Core.Path.{◌≡◌, ap, ap₂, sym, ◌∙◌}
use mathlib.Core.List.{List, [], ◌∷◌}
use native.Mathlib.Omega.{arith}
use lib.ListN.{length, drop, length-drop}
use Rattle.format.specs.Check.{Check, both, verdict}
use Rattle.std.specs.declared.result.Result.TheVariants.{Ok, Err}
use Rattle.format.specs.declared.Column.{Column}
use Rattle.format.specs.declared.Refusal.{Refusal}
use Rattle.format.specs.declared.Refusal.TheVariants.{Row}
use Rattle.format.specs.declared.RowFault.{RowFault}
use Rattle.format.specs.declared.RowFault.TheVariants.{Extra}
use Rattle.format.specs.Kinds.{Slot, column_shape}
use Rattle.format.specs.Limits.{max_rows}
use Rattle.format.specs.Lists.{each}
use Rattle.format.specs.Read.{Parsed, fault, field_check, read_field, row_fault, rows_fault}
use Rattle.basics.proofs.Checks.{refuse_pass}
use Rattle.quick_rows.specs.Quick.{Rows, data_bytes}
use Rattle.quick_rows.proofs.Turns.{Fields, last_fault}
use Rattle.quick_rows.proofs.Passing.{InRow, first_left}
use Rattle.row_reader.specs.Walk.{Finds}

module _ {cols : List Column} {row : List ℕ} {bytes₀ bytes at c : ℕ} (t : Fields cols row bytes₀ bytes at c) (r : ℕ) where
  -- the field was refused: so is the row
  pub broken : {col : Column} → drop c cols ≡ col ∷ drop (suc c) cols → (f : RowFault) (l : ℕ)
      → read_field (column_shape col) col.options (drop at row) ≡ fault f l → row_fault r (length row) 0 cols row ≡ Err (Row f r c (length row - l))
  broken here f l e =
      sym (t.says r)
      ∙ ap (λ (l : List Column). row_fault r (length row) c l (drop at row)) here
      ∙ ap (λ (p : Parsed Slot). field_check r (length row) c p (row_fault r (length row) (suc c) (drop (suc c) cols))) e

  -- bytes after the last field
  pub longer : length cols ≤ c → at < length row → row_fault r (length row) 0 cols row ≡ Err (Row Extra r (length cols) at)
  longer h l = sym (last_fault t h r) ∙ go (drop at row) (length-drop at row)
    where
      go : (s : List ℕ) → length s ≡ length row - at → row_fault r (length row) c [] s ≡ Err (Row Extra r (length cols) at)
      go [] k = absurd (omega arith)
      go (b ∷ s) k = ap₂ {C = Check} (λ (c place : ℕ). Err (Row Extra r c place)) (omega (arith, t.inside)) (omega arith)

-- after the last row
pub ends : {cols : List Column} {f : ℕ → List ℕ} {n bytes r : ℕ} → Rows cols f n bytes r → n ≤ max_rows → n ≤ r
    → Finds cols (each 0 n f) (Ok bytes)
ends {cols} {f} {n} {bytes} {r} t most h =
    let z : t.left ≡ 0 = omega (arith, t.counts) in
    let none : each r t.left f ≡ [] = ap (λ (k : ℕ). each r k f) z in
    record {
      check = sym (ap (rows_fault r cols) none) ∙ t.says;
      adds = λ b e. let q : bytes ≡ b = cc in omega (arith, q, ap (data_bytes cols) none);
      small = λ b e. let q : bytes ≡ b = cc in omega (arith, q, t.counts, t.small);
    }

-- row r is refused, and so are the rows that are left
pub faulty : {cols : List Column} {f : ℕ → List ℕ} {n bytes₀ r : ℕ} {row : List ℕ} → InRow cols f n bytes₀ r row
    → {x : Refusal} → row_fault r (length row) 0 cols row ≡ Err x → Finds cols (each 0 n f) (Err x)
faulty {cols} {f} {n} {r = r} s {x} e =
    let k = first_left s (λ rows. rows_fault r cols rows ≡ rows_fault 0 cols (each 0 n f)) s.head.says in
    let refused : Err x ≡ rows_fault 0 cols (each 0 n f)
    = sym (ap (λ (y : Check). both y (rows_fault (suc r) cols (each (suc r) k.0 f))) e) ∙ k.2 in
    record { check = refused; adds = λ b p. absurd (refuse_pass (ap verdict p)); small = λ b p. absurd (refuse_pass (ap verdict p)) }
