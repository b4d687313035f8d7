-- A column list read once: which descriptions some reading makes, under which lists the entries answer and write the same, and which
-- descriptions have list bytes.
use Rattle.std.specs.Prelude.{ℕ, ◌<◌, ◌≡◌, false, cond, List, [], ◌∷◌, ◌++◌, map, eqb, length, take, Ok}
use Rattle.format.specs.declared.Column.{Column}
use Rattle.format.specs.Check.{Check}
use Rattle.format.specs.declared.Returned.{Returned}
use Rattle.format.specs.Lists.{Bytes, joined, low_bytes}
use Rattle.format.specs.Columns.{spelled_fault, spelled_columns}
use Rattle.format.specs.Described.{Description, codes, descriptions_fault, ColumnList}
use Rattle.format.specs.Numbers.{numbers_of}
use Rattle.format.specs.Entries.{answer, measure_answer, encode_answer, encode_rows, encode_offsets, decode_answer, decode_sheet}
use Rattle.format.specs.Lookup.{lookup_answer}
use Rattle.format.specs.Cutter.{start_answer, start_state}

-- ---- made by a reading

-- bytes that reading accepts
pub record Reading (list : List ℕ) : Type 0 where
  pub bytes : Bytes list
  pub passes : spelled_fault list ≡ Ok tt

-- columns that some reading fills in
pub record Made (cols : List Column) : Type 0 where
  pub list : List ℕ
  pub reading : Reading list
  pub is : cols ≡ spelled_columns list

-- coded descriptions that some reading fills in, and a tail that does not count
pub record MadeCodes (c : List ℕ) : Type 0 where
  pub list : List ℕ
  pub reading : Reading list
  pub tail : List ℕ
  pub short : length tail < 4
  pub is : c ≡ codes (spelled_columns list) ++ tail

-- ---- two lists under which every entry answers and writes the same
pub record BothWays (a b : ColumnList) : Type 0 where
  pub measures : (n : ℕ) (sheet : List ℕ) → measure_answer a n sheet ≡ measure_answer b n sheet
  pub encodes : (n : ℕ) (sheet : List ℕ) (row_room offset_room : ℕ) → encode_answer a n sheet row_room offset_room ≡ encode_answer b n sheet row_room offset_room
  pub row_bytes : (n : ℕ) (sheet rows : List ℕ) (offset_room : ℕ) → encode_rows a n sheet rows offset_room ≡ encode_rows b n sheet rows offset_room
  pub row_ends : (n : ℕ) (sheet : List ℕ) (row_room : ℕ) (offsets : List ℕ) → encode_offsets a n sheet row_room offsets ≡ encode_offsets b n sheet row_room offsets
  pub decodes : (n : ℕ) (rows offsets : List ℕ) (room : ℕ) → decode_answer a n rows offsets room ≡ decode_answer b n rows offsets room
  pub sheet_bytes : (n : ℕ) (rows offsets sheet : List ℕ) → decode_sheet a n rows offsets sheet ≡ decode_sheet b n rows offsets sheet
  pub looks_up : (k : ℕ) (key : List ℕ) (n : ℕ) (rows offsets : List ℕ) → lookup_answer a k key n rows offsets ≡ lookup_answer b k key n rows offsets
  pub starts : start_answer a ≡ start_answer b
  pub start_state : start_state a ≡ start_state b

-- ---- the list bytes of a description

-- kind and options, and for kind 15 also the width
abbrev pub spell : Description → List ℕ
spell d = d.kind ∷ d.options ∷ cond (eqb d.kind 15) (low_bytes 2 d.width) []

abbrev pub spell_all : List Description → List ℕ
spell_all ds = joined (map spell ds)

-- it has such bytes: kind and options are bytes, the width is two, and there is none outside kind 15
pub record Spellable (d : Description) : Type 0 where
  pub kind : d.kind < 256
  pub options : d.options < 256
  pub width : d.width < 65536
  pub none : eqb d.kind 15 ≡ false → d.width ≡ 0

-- the numbers that a check refuses with, and zeros if it passes
abbrev pub refused_with : Check → Returned
refused_with c = numbers_of (answer c 0 0)

-- descriptions are refused as their bytes are: by the same number, with the index of the description that stands at the place
pub record RefusedAlike (ds : List Description) : Type 0 where
  pub number : (refused_with (descriptions_fault ds)).0 ≡ (refused_with (spelled_fault (spell_all ds))).0
  pub place : (refused_with (spelled_fault (spell_all ds))).1 ≡ length (spell_all (take (refused_with (descriptions_fault ds)).1 ds))
