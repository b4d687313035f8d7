-- What the C entries make of the lent bytes, from what they are told of the answer and of the offsets used. Assumes nothing.
use Prim.Native.Nat.{ℕ, ◌/◌, ◌<◌, ◌≤◌}
use mathlib.Core.Path.{◌≡◌, ap, subst, ◌∙◌}
use mathlib.Core.List.{List}
use lib.ListN.{length}
use borrow.Author.Tests.{lt-ltb, le-ltb}
use Rattle.format.specs.Numbers.{Answer, numbers_of}
use Rattle.format.specs.declared.Returned.{Returned}
use Rattle.format.specs.Lists.{Bytes, over}
use Rattle.format.specs.Columns.{spelled_columns}
use Rattle.format.specs.Described.{ColumnList, codes}
use Rattle.format.specs.Entries.{written, read_list_check, read_list_answer}
use Rattle.format.specs.Entries.{check_list_answer, measure_answer, encode_answer, encode_rows, encode_offsets, decode_answer, decode_sheet}
use Rattle.format.specs.Lent.{eights, eight_bytes, number_bytes, answer_room, answer_bytes, unless_short, code_room, lent_read_list, lent_read_list_codes}
use Rattle.format.specs.Lent.{lent_check_list, lent_measure, lent_encode, lent_encode_rows, lent_encode_offsets, lent_decode, lent_decode_sheet}
use Rattle.format.specs.Promises.{ListChecked, Measured, Decoded, LentListChecked, LentListRead, LentMeasured, LentEncoded, LentDecoded}
use Rattle.lent_bytes.specs.Offsets.{first_eights, Used}
use Rattle.encoded_bytes.specs.Stored.{EncodedBytes}
use Rattle.lent_calls.specs.Stored.{ReadCodes}
use Rattle.lent_calls.proofs.Enough.{encode_answer_lem, encode_rows_lem, encode_ends, decode_answer_lem, decode_sheet_lem}

-- ---- an answer that cannot hold the four numbers
module _ (lent : List ℕ) (short : length lent < answer_room) where
  pub short_answer : (a : Answer) → lent ≡ answer_bytes a lent
  short_answer a = rw (lt-ltb (length lent) answer_room short)

  pub short_kept : (new old : List ℕ) → old ≡ unless_short lent new old
  short_kept new old = rw (lt-ltb (length lent) answer_room short)

  pub list_short : (list : List ℕ) → LentListChecked list lent lent
  unfolding lent_check_list
  list_short list = record { answers = short_answer (check_list_answer list) }

  pub read_short : (list codes : List ℕ) → LentListRead list codes lent codes lent
  unfolding lent_read_list lent_read_list_codes
  read_short list lentCodes = record {
    answers = short_answer (read_list_answer list (code_room lentCodes));
    codes = short_kept (written (read_list_check list (code_room lentCodes)) (codes (spelled_columns list)) lentCodes) lentCodes;
  }

  pub measure_short : (list : ColumnList) (n : ℕ) (sheet : List ℕ) → LentMeasured list n sheet lent lent
  unfolding lent_measure
  measure_short list n sheet = record { answers = short_answer (measure_answer list n sheet) }

  pub encode_short : (list : ColumnList) (n : ℕ) (sheet rows offsets : List ℕ) → LentEncoded list n sheet rows offsets lent rows offsets lent
  unfolding lent_encode lent_encode_rows lent_encode_offsets
  encode_short list n sheet rows offsets = record {
    answers = short_answer (encode_answer list n sheet (length rows) (length offsets / 8));
    row_bytes = short_kept (encode_rows list n sheet rows (length offsets / 8)) rows;
    row_ends = short_kept (over (eight_bytes (encode_offsets list n sheet (length rows) (eights offsets))) offsets) offsets;
  }

  pub decode_short : (list : ColumnList) (n : ℕ) (rows offsets sheet : List ℕ) → LentDecoded list n rows offsets sheet lent sheet lent
  unfolding lent_decode lent_decode_sheet
  decode_short list n rows offsets sheet = record {
    answers = short_answer (decode_answer list n rows (eights offsets) (length sheet));
    bytes = short_kept (decode_sheet list n rows (eights offsets) sheet) sheet;
  }

-- ---- one that can, and holds those of r
module _ (lent lent' : List ℕ) (r : Answer) (long : answer_room ≤ length lent) (put : lent' ≡ over (number_bytes (numbers_of r)) lent) where
  pub long_answer : (a : Answer) → numbers_of r ≡ numbers_of a → lent' ≡ answer_bytes a lent
  long_answer a e = rw (le-ltb (length lent) answer_room long) (put ∙ ap (λ (x : Returned). over (number_bytes x) lent) e)

  pub long_new : (new' new old : List ℕ) → new' ≡ new → new' ≡ unless_short lent new old
  long_new new' new old e = rw (le-ltb (length lent) answer_room long) e

  pub list_long : (list : List ℕ) → ListChecked list r → LentListChecked list lent lent'
  unfolding lent_check_list
  list_long list h = record { answers = long_answer (check_list_answer list) h.answers }

  pub read_long : (list codes codes' : List ℕ) → ReadCodes list codes r codes' → LentListRead list codes lent codes' lent'
  unfolding lent_read_list lent_read_list_codes
  read_long list lentCodes codes' h = record {
    answers = long_answer (read_list_answer list (code_room lentCodes)) h.answers;
    codes = long_new codes' _ lentCodes h.written_codes;
  }

  pub measure_long : (list : ColumnList) (n : ℕ) (sheet : List ℕ) → Measured list n sheet r → LentMeasured list n sheet lent lent'
  unfolding lent_measure
  measure_long list n sheet h = record { answers = long_answer (measure_answer list n sheet) h.answers }

  pub encode_long : (list : ColumnList) (n : ℕ) (sheet rows offsets : List ℕ) (k : ℕ) (rows' offsets' : List ℕ) → Bytes offsets
      → Used n (length offsets / 8) k → EncodedBytes list n sheet rows offsets k r rows' offsets'
      → LentEncoded list n sheet rows offsets lent rows' offsets' lent'
  unfolding lent_encode lent_encode_rows lent_encode_offsets
  encode_long list n sheet rows offsets k rows' offsets' b u h = record {
    answers =
        long_answer (encode_answer list n sheet (length rows) (length offsets / 8))
        (h.answers ∙ ap numbers_of (encode_answer_lem list n sheet (length offsets / 8) k u (length rows)));
    row_bytes = long_new rows' _ rows (h.row_bytes ∙ encode_rows_lem list n sheet (length offsets / 8) k u rows);
    row_ends = long_new offsets' _ offsets (h.row_ends ∙ encode_ends list n sheet (length rows) offsets k b u);
  }

  -- decode with the k offsets that were read
  pub decode_long : (list : ColumnList) (n : ℕ) (rows offsets sheet : List ℕ) (k : ℕ) (read sheet' : List ℕ) → Used n (length offsets / 8) k
      → read ≡ first_eights k offsets → Decoded list n rows read sheet r sheet' → LentDecoded list n rows offsets sheet lent sheet' lent'
  unfolding lent_decode lent_decode_sheet
  decode_long list n rows offsets sheet k read sheet' u e d =
      let h = subst (λ (os : List ℕ). Decoded list n rows os sheet r sheet') e d in
      record {
        answers =
            long_answer (decode_answer list n rows (eights offsets) (length sheet))
            (h.answers ∙ ap numbers_of (decode_answer_lem list n rows offsets k u (length sheet)));
        bytes = long_new sheet' _ sheet (h.bytes ∙ decode_sheet_lem list n rows offsets k u sheet);
      }
