-- Lent descriptions, in either form, are accepted exactly where some reading makes them. Assumes nothing.
use Prim.Native.Nat.{ℕ, zero, suc, ◌+◌, ◌-◌, ◌≤◌}
use mathlib.Core.Path.{◌≡◌, refl, ap, ap₂, sym, subst, ◌∙◌}
use mathlib.Core.List.{List, [], ◌∷◌, ◌++◌, map}
use mathlib.Core.Logic.{◌↔◌}
use native.Mathlib.Omega.{arith}
use lib.ListN.{length, get_or, drop, length-drop}
use borrow.Author.Tests.{le-ltb, lt-ltb}
use Rattle.format.specs.declared.Column.{Column}
use Rattle.std.specs.declared.result.Result.TheVariants.{Ok}
use Rattle.format.specs.Limits.{max_columns}
use Rattle.format.specs.Lists.{Bytes}
use Rattle.format.specs.Columns.{description_bytes, columns_from, spelled_fault, spelled_columns}
use Rattle.format.specs.Described.{Description, held, column_of, codes, descriptions_in, descriptions_fault, described, coded, list_fault}
use Rattle.basics.proofs.Lists.{Every}
use Rattle.laws.proofs.Described.{AllFine, all_fine, columns_again, descriptions_few}
use Rattle.readings.specs.Readings.{Spellable, spell_all, Reading, Made, MadeCodes}
use Rattle.readings.proofs.Back.{fine_spellable}
use Rattle.readings.proofs.Codes.{Narrowed, codes_in, coded_of}
use Rattle.readings.proofs.Spelled.{next_is, begins, column_is, bytes_spell}
use Rattle.readings.proofs.Refused.{faults, same_pass}
use Rattle.readings.proofs.Accepted.{read_accepted}

-- ---- descriptions that pass have list bytes, and these are a reading

all_spellable : (ds : List Description) → AllFine ds → Every Spellable ds
all_spellable [] h = tt
all_spellable (d ∷ ds) h = (fine_spellable d h.0, all_spellable ds h.1)

columns_from_lem : (room at : ℕ) (s : List ℕ) (ds : List Description) → Every Spellable ds → drop at s ≡ spell_all ds → length ds ≤ room
    → columns_from room s at ≡ map column_of ds
columns_from_lem zero at s [] h e l = refl
columns_from_lem zero at s (d ∷ ds) h e l = absurd (omega arith)
columns_from_lem (suc room) at s [] h e l = rw (le-ltb at (length s) (omega (arith, sym (length-drop at s) ∙ ap length e)))
columns_from_lem (suc room) at s (d ∷ ds) h e l =
    rw (lt-ltb at (length s) (begins s at d (spell_all ds) e h.0))
    (ap₂ {C = List Column} (λ x y. x ∷ y) (column_is s at d (spell_all ds) e h.0)
    (columns_from_lem room (at + description_bytes (get_or s at 0)) s ds h.1 (next_is s at d (spell_all ds) e h.0) (omega arith)))

read_back : (ds : List Description) → Every Spellable ds → length ds ≤ max_columns → spelled_columns (spell_all ds) ≡ map column_of ds
unfolding spelled_columns
read_back ds h l = columns_from_lem max_columns 0 (spell_all ds) ds h refl l

module _ (ds : List Description) (e : descriptions_fault ds ≡ Ok tt) where
  spellable : Every Spellable ds
  spellable = all_spellable ds (all_fine ds e)

  pub reading : Reading (spell_all ds)
  reading = record { bytes = bytes_spell ds spellable; passes = same_pass 0 0 ds (faults ds spellable) e }

  pub reads_back : spelled_columns (spell_all ds) ≡ map column_of ds
  reads_back = read_back ds spellable (descriptions_few ds e).1

-- ---- columns
pub described_made : (cols : List Column) → (list_fault (described cols) ≡ Ok tt) ↔ Made cols
described_made cols = (
  λ e. record {
    list = spell_all (map held cols);
    reading = reading (map held cols) e;
    is = sym (reads_back (map held cols) e ∙ columns_again cols);
  },
  λ m. subst (λ (c : List Column). list_fault (described c) ≡ Ok tt) (sym m.is) (read_accepted m.list m.reading.passes),
)

-- ---- coded descriptions

-- the widths of columns that pass are two bytes
two_bytes : (cols : List Column) → AllFine (map held cols) → Narrowed cols
two_bytes [] h = tt
two_bytes (col ∷ cols) h = ((fine_spellable (held col) h.0).width, two_bytes cols h.1)

pub read_narrowed : (s : List ℕ) → spelled_fault s ≡ Ok tt → Narrowed (spelled_columns s)
read_narrowed s e = two_bytes (spelled_columns s) (all_fine (map held (spelled_columns s)) (read_accepted s e))

pub coded_made : (c : List ℕ) → Bytes c → (list_fault (coded c) ≡ Ok tt) ↔ MadeCodes c
coded_made c b = (
  λ e.
      let ds : List Description = descriptions_in c in
      let k = coded_of c b (all_fine ds e) in
      record {
        list = spell_all ds;
        reading = reading ds e;
        tail = k.tail;
        short = k.short;
        is = k.is ∙ ap (λ (cols : List Column). codes cols ++ k.tail) (sym (reads_back ds e));
      },
  λ m.
      ap (λ (x : List ℕ). descriptions_fault (descriptions_in x)) m.is
      ∙ ap descriptions_fault (codes_in (spelled_columns m.list) m.tail (read_narrowed m.list m.reading.passes) m.short)
      ∙ read_accepted m.list m.reading.passes,
)
