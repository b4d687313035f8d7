-- What each public entry promises of its answer r, by document 01's three numbers for it, and of every lent buffer at exit, for all
-- inputs. Equal numbers are equal answers: `numbers-injective` in crate laws.
use Rattle.std.specs.Prelude.{ℕ, ◌≡◌, List, ℤ, length}
use Rattle.format.specs.declared.Column.{Column}
use Rattle.format.specs.Numbers.{Answer, numbers_of}
use Rattle.format.specs.declared.Cutter.{Cutter}
use Rattle.format.specs.Described.{ColumnList}
use Rattle.format.specs.Entries.{check_list_answer, read_list_answer, read_list_columns, measure_answer, encode_answer, encode_rows, encode_offsets, decode_answer, decode_sheet, compare_answer}
use Rattle.format.specs.Join.{join_answer, join_list}
use Rattle.format.specs.Lookup.{lookup_answer}
use Rattle.format.specs.Lent.{lent_join, lent_join_list, lent_lookup, lent_compare_sheets, lent_compare_pairs, lent_compare_pairs_ranks}
use Rattle.format.specs.CompareSheets.{compare_sheets_answer, compare_pairs_answer, compare_pairs_ranks}
use Rattle.format.specs.Cutter.{start_answer, start_state, cut_answer, cut_state, cut_ends, finish_answer}
use Rattle.format.specs.CutterBytes.{lent_start, lent_start_state, lent_cut, lent_cut_state, lent_cut_ends, lent_finish}
use Rattle.format.specs.Lent.{lent_check_list, lent_read_list, lent_read_list_codes, lent_measure, lent_encode, lent_encode_rows, lent_encode_offsets, lent_decode, lent_decode_sheet}

-- check_list
pub record ListChecked (list : List ℕ) (r : Answer) : Type 0 where
  pub answers : numbers_of r ≡ numbers_of (check_list_answer list)

-- read_list: the lent descriptions at entry, and at exit
pub record ListRead (list : List ℕ) (lent : List Column) (r : Answer) (lent' : List Column) : Type 0 where
  pub answers : numbers_of r ≡ numbers_of (read_list_answer list (length lent))
  pub descriptions : lent' ≡ read_list_columns list lent

-- measure, under a list of any case
pub record Measured (list : ColumnList) (n : ℕ) (sheet : List ℕ) (r : Answer) : Type 0 where
  pub answers : numbers_of r ≡ numbers_of (measure_answer list n sheet)

-- encode likewise: the lent rows and offsets at entry, and at exit
pub record Encoded (list : ColumnList) (n : ℕ) (sheet rows offsets : List ℕ) (r : Answer) (rows' offsets' : List ℕ) : Type 0 where
  pub answers : numbers_of r ≡ numbers_of (encode_answer list n sheet (length rows) (length offsets))
  pub row_bytes : rows' ≡ encode_rows list n sheet rows (length offsets)
  pub row_ends : offsets' ≡ encode_offsets list n sheet (length rows) offsets

-- decode likewise: the lent sheet at entry, and at exit
pub record Decoded (list : ColumnList) (n : ℕ) (rows offsets sheet : List ℕ) (r : Answer) (sheet' : List ℕ) : Type 0 where
  pub answers : numbers_of r ≡ numbers_of (decode_answer list n rows offsets (length sheet))
  pub bytes : sheet' ≡ decode_sheet list n rows offsets sheet

-- join: the lent list at entry, and at exit
pub record Joined (n₀ : ℕ) (rows₀ offsets₀ : List ℕ) (n₁ : ℕ) (rows₁ offsets₁ list : List ℕ) (r : Answer) (list' : List ℕ) : Type 0 where
  pub answers : numbers_of r ≡ numbers_of (join_answer n₀ rows₀ offsets₀ n₁ rows₁ offsets₁ (length list))
  pub order : list' ≡ join_list n₀ rows₀ offsets₀ n₁ rows₁ offsets₁ list

-- look_up, under a list of any case
pub record LookedUp (list : ColumnList) (k : ℕ) (key : List ℕ) (n : ℕ) (rows offsets : List ℕ) (r : Answer) : Type 0 where
  pub answers : numbers_of r ≡ numbers_of (lookup_answer list k key n rows offsets)

-- cutter start: the state that is handed out
pub record Started (list : ColumnList) (r : Answer) (s : Cutter) : Type 0 where
  pub answers : numbers_of r ≡ numbers_of (start_answer list)
  pub state : s ≡ start_state list

-- cutter call: the state at entry and at exit, the lent list of ends at entry and at exit
pub record PieceCut (s : Cutter) (piece ends : List ℕ) (r : Answer) (s' : Cutter) (ends' : List ℕ) : Type 0 where
  pub answers : numbers_of r ≡ numbers_of (cut_answer s piece (length ends))
  pub state : s' ≡ cut_state s piece (length ends)
  pub row_ends : ends' ≡ cut_ends s piece ends

-- cutter finish
pub record Finished (s : Cutter) (r : Answer) : Type 0 where
  pub answers : numbers_of r ≡ numbers_of (finish_answer s)

-- compare
pub record Compared (a b : List ℕ) (r : ℤ) : Type 0 where
  pub answers : r ≡ compare_answer a b

-- compare_sheets, under a list of any case
pub record SheetsCompared (list : ColumnList) (n₀ : ℕ) (sheet₀ : List ℕ) (r₀ n₁ : ℕ) (sheet₁ : List ℕ) (r₁ : ℕ) (r : Answer) : Type 0 where
  pub answers : numbers_of r ≡ numbers_of (compare_sheets_answer list n₀ sheet₀ r₀ n₁ sheet₁ r₁)

-- compare_pairs likewise: the lent answers at entry, and at exit
pub record PairsCompared (list : ColumnList) (n₀ : ℕ) (sheet₀ : List ℕ) (n₁ : ℕ) (sheet₁ rows lent : List ℕ) (r : Answer) (lent' : List ℕ) : Type 0 where
  pub answers : numbers_of r ≡ numbers_of (compare_pairs_answer list n₀ sheet₀ n₁ sheet₁ rows (length lent))
  pub ranks : lent' ≡ compare_pairs_ranks list n₀ sheet₀ n₁ sheet₁ rows lent

-- ---- the C entries: each lent buffer at entry, and at exit; compare promises the same as above

-- station_check_list
pub record LentListChecked (list lent lent' : List ℕ) : Type 0 where
  pub answers : lent' ≡ lent_check_list list lent

-- station_read_list
pub record LentListRead (list descriptions lent descriptions' lent' : List ℕ) : Type 0 where
  pub answers : lent' ≡ lent_read_list list descriptions lent
  pub codes : descriptions' ≡ lent_read_list_codes list descriptions lent

-- station_measure under a list in bytes, station_measure_read under coded descriptions
pub record LentMeasured (list : ColumnList) (n : ℕ) (sheet lent lent' : List ℕ) : Type 0 where
  pub answers : lent' ≡ lent_measure list n sheet lent

-- station_encode and station_encode_read likewise
pub record LentEncoded (list : ColumnList) (n : ℕ) (sheet rows offsets lent rows' offsets' lent' : List ℕ) : Type 0 where
  pub answers : lent' ≡ lent_encode list n sheet (length rows) offsets lent
  pub row_bytes : rows' ≡ lent_encode_rows list n sheet rows offsets lent
  pub row_ends : offsets' ≡ lent_encode_offsets list n sheet (length rows) offsets lent

-- station_decode and station_decode_read likewise
pub record LentDecoded (list : ColumnList) (n : ℕ) (rows offsets sheet lent sheet' lent' : List ℕ) : Type 0 where
  pub answers : lent' ≡ lent_decode list n rows offsets (length sheet) lent
  pub bytes : sheet' ≡ lent_decode_sheet list n rows offsets sheet lent

-- station_join
pub record LentJoined (n₀ : ℕ) (rows₀ offsets₀ : List ℕ) (n₁ : ℕ) (rows₁ offsets₁ list lent list' lent' : List ℕ) : Type 0 where
  pub answers : lent' ≡ lent_join n₀ rows₀ offsets₀ n₁ rows₁ offsets₁ list lent
  pub order : list' ≡ lent_join_list n₀ rows₀ offsets₀ n₁ rows₁ offsets₁ list lent

-- station_look_up under a list in bytes, station_look_up_read under coded descriptions
pub record LentLookedUp (list : ColumnList) (k : ℕ) (key : List ℕ) (n : ℕ) (rows offsets lent lent' : List ℕ) : Type 0 where
  pub answers : lent' ≡ lent_lookup list k key n rows offsets lent

-- station_compare_sheets under a list in bytes, station_compare_sheets_read under coded descriptions
pub record LentSheetsCompared (list : ColumnList) (n₀ : ℕ) (sheet₀ : List ℕ) (r₀ n₁ : ℕ) (sheet₁ : List ℕ) (r₁ : ℕ) (lent lent' : List ℕ) : Type 0 where
  pub answers : lent' ≡ lent_compare_sheets list n₀ sheet₀ r₀ n₁ sheet₁ r₁ lent

-- station_compare_pairs and station_compare_pairs_read likewise
pub record LentPairsCompared (list : ColumnList) (n₀ : ℕ) (sheet₀ : List ℕ) (n₁ : ℕ) (sheet₁ pairs found lent found' lent' : List ℕ) : Type 0 where
  pub answers : lent' ≡ lent_compare_pairs list n₀ sheet₀ n₁ sheet₁ pairs (length found) lent
  pub ranks : found' ≡ lent_compare_pairs_ranks list n₀ sheet₀ n₁ sheet₁ pairs found lent

-- station_cutter_start
pub record LentStarted (list : ColumnList) (state lent state' lent' : List ℕ) : Type 0 where
  pub answers : lent' ≡ lent_start list state lent
  pub states : state' ≡ lent_start_state list state lent

-- station_cut
pub record LentPieceCut (state piece ends lent state' ends' lent' : List ℕ) : Type 0 where
  pub answers : lent' ≡ lent_cut state piece ends lent
  pub states : state' ≡ lent_cut_state state piece ends lent
  pub row_ends : ends' ≡ lent_cut_ends state piece ends lent

-- station_cutter_finish
pub record LentFinished (state lent lent' : List ℕ) : Type 0 where
  pub answers : lent' ≡ lent_finish state lent
