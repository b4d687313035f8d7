-- A description that has list bytes, spelled at a place of a list: the list has there its kind, options and width, and the fault that its
-- numbers have. Assumes nothing.
use Prim.Native.Nat.{ℕ, suc, ◌+◌, ◌-◌, ◌*◌, ◌<◌}
use mathlib.Core.Path.{◌≡◌, refl, ap, ap₂, sym, ◌∙◌}
use mathlib.Core.Bool.{Bool, true, false, cond}
use mathlib.Core.List.{List, [], ◌∷◌, ◌++◌}
use native.Mathlib.Omega.{arith}
use native.Mathlib.Nat.{add-zero}
use lib.Dec.{ltb, eqb}
use lib.ListN.{length, get_or, drop, length-append, length-drop}
use lib.Seq.{get_or-drop, drop-drop, drop_at}
use borrow.Author.Tests.{le-ltb}
use Rattle.format.specs.declared.Column.{Column}
use Rattle.format.specs.Lists.{Bytes, low_bytes}
use Rattle.format.specs.Columns.{kind_of, options_of, numbers_fault, description_bytes, width_at, column_at, description_fault}
use Rattle.format.specs.Described.{Description, column_of, held_fault}
use Rattle.basics.proofs.LowBytes.{low_low_bytes, bytes_low_bytes}
use Rattle.basics.proofs.Bytes.{bytes_append}
use Rattle.basics.proofs.Lists.{Every}
use Rattle.readings.specs.Readings.{Spellable, spell, spell_all}

-- as many bytes as its kind says
pub long : (d : Description) → description_bytes d.kind ≡ length (spell d)
long d = go (eqb d.kind 15)
  where
    go : (t : Bool) → cond {A = ℕ} t 4 2 ≡ suc (suc (length (cond t (low_bytes 2 d.width) [])))
    go true = refl
    go false = refl

module _ (s : List ℕ) (at : ℕ) (d : Description) (rest : List ℕ) (e : drop at s ≡ spell d ++ rest) (h : Spellable d) where
  byte_at : (j : ℕ) → get_or s (at + j) 0 ≡ get_or (spell d ++ rest) j 0
  byte_at j = sym (get_or-drop at s j 0) ∙ ap (λ (z : List ℕ). get_or z j 0) e

  pub kind_at : get_or s at 0 ≡ d.kind
  kind_at = ap (λ (j : ℕ). get_or s j 0) (sym (add-zero at)) ∙ byte_at 0

  options_at : get_or s (at + 1) 0 ≡ d.options
  options_at = byte_at 1

  width_at_lem : width_at s at ≡ d.width
  width_at_lem =
      ap (λ (k : ℕ). cond (eqb k 15) (get_or s (at + 2) 0 + 256 * get_or s (at + 3) 0) 0) kind_at
      ∙ ap₂ (λ (x y : ℕ). cond (eqb d.kind 15) (x + 256 * y) 0) (byte_at 2) (byte_at 3)
      ∙ go (eqb d.kind 15) refl
    where
      bytes : Bool → List ℕ
      bytes t = d.kind ∷ d.options ∷ cond t (low_bytes 2 d.width) [] ++ rest

      go : (t : Bool) → eqb d.kind 15 ≡ t → cond t (get_or (bytes t) 2 0 + 256 * get_or (bytes t) 3 0) 0 ≡ d.width
      go true q = omega (arith, low_low_bytes 2 d.width h.width)
      go false q = sym (h.none q)

  whole : ltb (length s - at) (description_bytes d.kind) ≡ false
  whole = le-ltb (length s - at) (description_bytes d.kind) (omega (arith, sym (length-drop at s) ∙ ap length e, length-append (spell d) rest, long d))

  -- its fault is that of its numbers
  pub fault_is : description_fault s at ≡ held_fault at d
  fault_is =
      ap₂ (λ (k x : ℕ). numbers_fault at k (ltb (length s - at) (description_bytes k)) x (width_at s at)) kind_at options_at
      ∙ ap (numbers_fault at d.kind (ltb (length s - at) (description_bytes d.kind)) d.options) width_at_lem
      ∙ ap (λ (t : Bool). numbers_fault at d.kind t d.options d.width) whole

  -- it is read as the column that its numbers say
  pub column_is : column_at s at ≡ column_of d
  column_is = ap₂ {C = Column} (λ k p. record { kind = k; options = p }) (ap₂ kind_of kind_at width_at_lem) (ap options_of options_at)

  -- and the next one follows it
  pub next_is : drop (at + description_bytes (get_or s at 0)) s ≡ rest
  next_is =
      ap (λ (k : ℕ). drop (at + description_bytes k) s) kind_at
      ∙ sym (drop-drop (description_bytes d.kind) at s)
      ∙ ap (drop (description_bytes d.kind)) e
      ∙ drop_at (spell d) rest (description_bytes d.kind) (sym (long d))

  pub begins : at < length s
  begins = omega (arith, sym (length-drop at s) ∙ ap length e)

-- they are bytes
pub bytes_spell : (ds : List Description) → Every Spellable ds → Bytes (spell_all ds)
bytes_spell [] h = tt
bytes_spell (d ∷ ds) h = bytes_append (spell d) (spell_all ds) (h.0.kind, (h.0.options, go (eqb d.kind 15))) (bytes_spell ds h.1)
  where
    go : (t : Bool) → Bytes (cond t (low_bytes 2 d.width) [])
    go true = bytes_low_bytes 2 d.width
    go false = tt
