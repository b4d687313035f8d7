-- The loop of `read_list`: what holds at its head, and what each way out of a turn gives. Assumes nothing.
use Prim.Native.Nat.{ℕ, zero, suc, ◌+◌, ◌-◌, ◌<◌, ◌≤◌}
use mathlib.Core.Path.{◌≡◌, refl, sym, ap, ◌∙◌}
use mathlib.Core.List.{List, [], ◌∷◌, ◌++◌, append-nil}
use native.Mathlib.Omega.{arith}
use lib.ListN.{length, get_or, set, replicate, length-append}
use lib.Seq.{set_at, append_snoc}
use borrow.Author.Tests.{ne_eqb, eq-eqb, lt-ltb, le-ltb}
use Rattle.format.specs.declared.Column.{Column}
use Rattle.format.specs.declared.Refusal.{Refusal}
use Rattle.format.specs.declared.Refusal.TheVariants.{ListCut, ManyColumns}
use Rattle.std.specs.declared.result.Result.TheVariants.{Ok, Err}
use Rattle.format.specs.Limits.{max_columns}
use Rattle.format.specs.Columns.{description_bytes, column_at, description_fault, list_fault_from, columns_from, spelled_fault, spelled_columns}
use Rattle.format.specs.Described.{spelled}
use Rattle.format.specs.Schemas.{no_column}
use Rattle.list_reader.specs.Listing.{ListedAs}
use Rattle.list_reader.proofs.Schemas.{refused, passed}

-- ---- one turn of the definitions

fault_end : (room : ℕ) (s : List ℕ) (at : ℕ) → length s ≤ at → list_fault_from room s at ≡ Ok tt
fault_end zero s at h = rw (le-ltb at (length s) h)
fault_end (suc room) s at h = rw (le-ltb at (length s) h)

fault_next : (room : ℕ) (s : List ℕ) (at : ℕ) → at < length s → description_fault s at ≡ Ok tt
    → list_fault_from (suc room) s at ≡ list_fault_from room s (at + description_bytes (get_or s at 0))
fault_next room s at h e = rw (lt-ltb at (length s) h, e)

fault_bad : (room : ℕ) (s : List ℕ) (at : ℕ) (r : Refusal) → at < length s → description_fault s at ≡ Err r → list_fault_from (suc room) s at ≡ Err r
fault_bad room s at r h e = rw (lt-ltb at (length s) h, e)

columns_end : (room : ℕ) (s : List ℕ) (at : ℕ) → length s ≤ at → columns_from room s at ≡ []
columns_end zero s at h = refl
columns_end (suc room) s at h = rw (le-ltb at (length s) h)

columns_next : (room : ℕ) (s : List ℕ) (at : ℕ) → at < length s
    → columns_from (suc room) s at ≡ column_at s at ∷ columns_from room s (at + description_bytes (get_or s at 0))
columns_next room s at h = rw (lt-ltb at (length s) h)

-- a list that is not empty
fault_all : (s : List ℕ) → 0 < length s → spelled_fault s ≡ list_fault_from max_columns s 0
unfolding spelled_fault
fault_all s h = rw (ne_eqb (length s) 0 (λ e. omega arith))

-- ---- at the head of a turn: so many columns read, and room for so many more
pub record Turn (s : List ℕ) (array : List Column) (count at : ℕ) : Type 0 where
  pub room : ℕ
  pub read : List Column
  pub counts : count + room ≡ max_columns
  pub long : length read ≡ count
  pub made : array ≡ read ++ replicate room no_column
  pub faults : list_fault_from room s at ≡ list_fault_from max_columns s 0
  pub says : read ++ columns_from room s at ≡ spelled_columns s

pub start : (s : List ℕ) (none : Column) → none ≡ no_column → Turn s (replicate max_columns none) 0 0
unfolding spelled_columns
start s none e = record { room = max_columns; read = []; counts = refl; long = refl; made = ap (replicate max_columns) e; faults = refl; says = refl }

-- ---- the ways on from the head of a turn
pub more : (s : List ℕ) (array : List Column) (count at : ℕ) (col : Column) (size : ℕ) → Turn s array count at → at < length s
    → (count ≡ max_columns → ⊥) → description_fault s at ≡ Ok tt → col ≡ column_at s at → size ≡ description_bytes (get_or s at 0)
    → Turn s (set array count col) (count + 1) (at + size)
more s array count at col size t h left e is wide = step t.room t.read t.counts t.long t.made t.faults t.says
  where
    step : (room : ℕ) (read : List Column) → count + room ≡ max_columns → length read ≡ count → array ≡ read ++ replicate room no_column
        → list_fault_from room s at ≡ list_fault_from max_columns s 0 → read ++ columns_from room s at ≡ spelled_columns s
        → Turn s (set array count col) (count + 1) (at + size)
    step zero read counts long made faults says = absurd (left (omega arith))
    step (suc room) read counts long made faults says =
        record {
          room = room;
          read = read ++ (col ∷ []);
          counts = omega arith;
          long = simp length-append (omega arith);
          made = ap (λ (l : List Column). set l count col) made
              ∙ set_at read no_column (replicate room no_column) col count long
              ∙ sym (append_snoc read col (replicate room no_column));
          faults = rw (wide, ← fault_next room s at h e) faults;
          says = append_snoc read col (columns_from room s (at + size))
              ∙ rw (wide, is, ← columns_next room s at h) says;
        }

pub empty : (s : List ℕ) → length s ≡ 0 → ListedAs (spelled s) (Err (ListCut 0))
unfolding spelled_fault
empty s e = refused (spelled s) (ListCut 0) (rw (eq-eqb (length s) 0 e))

module _ (s : List ℕ) (array : List Column) (count at : ℕ) (t : Turn s array count at) where
  pub full : at < length s → count ≡ max_columns → ListedAs (spelled s) (Err (ManyColumns at))
  full h e =
      let none : t.room ≡ 0 = omega (arith, t.counts) in
      refused (spelled s) (ManyColumns at) (fault_all s (omega arith) ∙ sym t.faults ∙ rw (none, lt-ltb at (length s) h))

  pub bad : (x : Refusal) → at < length s → (count ≡ max_columns → ⊥) → description_fault s at ≡ Err x → ListedAs (spelled s) (Err x)
  bad x h left e = refused (spelled s) x (fault_all s (omega arith) ∙ sym t.faults ∙ step t.room t.counts)
    where
      step : (room : ℕ) → count + room ≡ max_columns → list_fault_from room s at ≡ Err x
      step zero counts = absurd (left (omega arith))
      step (suc room) counts = fault_bad room s at x h e

  pub good : length s ≤ at → 0 < length s → ListedAs (spelled s) (Ok (record { columns = array; count = count }))
  good h some =
      let all : t.read ≡ spelled_columns s = sym (append-nil t.read) ∙ ap (λ (l : List Column). t.read ++ l) (sym (columns_end t.room s at h)) ∙ t.says in
      let left : max_columns - length t.read ≡ t.room = omega (arith, t.counts, t.long) in
      passed (spelled s) array count (fault_all s some ∙ sym t.faults ∙ fault_end t.room s at h) (t.made ∙ rw (← left, all)) (sym t.long ∙ ap length all)
