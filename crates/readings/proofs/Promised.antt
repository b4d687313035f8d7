-- Under two lists that give the same both ways, what keeps a promise under one keeps it under the other, in Rattle and in C: so, each promise
-- having one answer, the calls answer the same and leave the same in every lent buffer. Assumes nothing.
use Prim.Native.Nat.{ℕ, ◌/◌}
use mathlib.Core.Path.{ap, ◌∙◌}
use mathlib.Core.List.{List}
use lib.ListN.{length}
use Rattle.format.specs.Numbers.{Answer, numbers_of}
use Rattle.format.specs.declared.Cutter.{Cutter}
use Rattle.format.specs.Described.{ColumnList}
use Rattle.format.specs.Lists.{over}
use Rattle.format.specs.Lent.{eights, eight_bytes, answer_bytes, unless_short, lent_measure, lent_encode, lent_encode_rows, lent_encode_offsets, lent_decode, lent_decode_sheet, lent_lookup}
use Rattle.format.specs.Promises.{Measured, Encoded, Decoded, LookedUp, Started, LentMeasured, LentEncoded, LentDecoded, LentLookedUp}
use Rattle.readings.specs.Readings.{BothWays}

module _ {a b : ColumnList} (w : BothWays a b) where
  pub measured_ways : {n : ℕ} {sheet : List ℕ} {r : Answer} → Measured a n sheet r → Measured b n sheet r
  measured_ways {n} {sheet} h = record { answers = h.answers ∙ ap numbers_of (w.measures n sheet) }

  pub encoded_ways : {n : ℕ} {sheet rows offsets : List ℕ} {r : Answer} {rows' offsets' : List ℕ} → Encoded a n sheet rows offsets r rows' offsets'
      → Encoded b n sheet rows offsets r rows' offsets'
  encoded_ways {n} {sheet} {rows} {offsets} h = record {
    answers = h.answers ∙ ap numbers_of (w.encodes n sheet (length rows) (length offsets));
    row_bytes = h.row_bytes ∙ w.row_bytes n sheet rows (length offsets);
    row_ends = h.row_ends ∙ w.row_ends n sheet (length rows) offsets;
  }

  pub decoded_ways : {n : ℕ} {rows offsets sheet : List ℕ} {r : Answer} {sheet' : List ℕ} → Decoded a n rows offsets sheet r sheet'
      → Decoded b n rows offsets sheet r sheet'
  decoded_ways {n} {rows} {offsets} {sheet} h = record {
    answers = h.answers ∙ ap numbers_of (w.decodes n rows offsets (length sheet));
    bytes = h.bytes ∙ w.sheet_bytes n rows offsets sheet;
  }

  pub looked_up_ways : {k : ℕ} {key : List ℕ} {n : ℕ} {rows offsets : List ℕ} {r : Answer} → LookedUp a k key n rows offsets r
      → LookedUp b k key n rows offsets r
  looked_up_ways {k} {key} {n} {rows} {offsets} h = record { answers = h.answers ∙ ap numbers_of (w.looks_up k key n rows offsets) }

  pub started_ways : {r : Answer} {s : Cutter} → Started a r s → Started b r s
  started_ways h = record { answers = h.answers ∙ ap numbers_of w.starts; state = h.state ∙ w.start_state }

  -- ---- the C entries
  pub lent_measured_ways : {n : ℕ} {sheet lent lent' : List ℕ} → LentMeasured a n sheet lent lent' → LentMeasured b n sheet lent lent'
  unfolding lent_measure
  lent_measured_ways {n} {sheet} {lent} h = record { answers = h.answers ∙ ap (λ (x : Answer). answer_bytes x lent) (w.measures n sheet) }

  pub lent_encoded_ways : {n : ℕ} {sheet rows offsets lent rows' offsets' lent' : List ℕ} → LentEncoded a n sheet rows offsets lent rows' offsets' lent'
      → LentEncoded b n sheet rows offsets lent rows' offsets' lent'
  unfolding lent_encode lent_encode_rows lent_encode_offsets
  lent_encoded_ways {n} {sheet} {rows} {offsets} {lent} h = record {
    answers = h.answers ∙ ap (λ (x : Answer). answer_bytes x lent) (w.encodes n sheet (length rows) (length offsets / 8));
    row_bytes = h.row_bytes ∙ ap (λ (x : List ℕ). unless_short lent x rows) (w.row_bytes n sheet rows (length offsets / 8));
    row_ends = h.row_ends ∙ ap (λ (x : List ℕ). unless_short lent (over (eight_bytes x) offsets) offsets) (w.row_ends n sheet (length rows) (eights offsets));
  }

  pub lent_decoded_ways : {n : ℕ} {rows offsets sheet lent sheet' lent' : List ℕ} → LentDecoded a n rows offsets sheet lent sheet' lent'
      → LentDecoded b n rows offsets sheet lent sheet' lent'
  unfolding lent_decode lent_decode_sheet
  lent_decoded_ways {n} {rows} {offsets} {sheet} {lent} h = record {
    answers = h.answers ∙ ap (λ (x : Answer). answer_bytes x lent) (w.decodes n rows (eights offsets) (length sheet));
    bytes = h.bytes ∙ ap (λ (x : List ℕ). unless_short lent x sheet) (w.sheet_bytes n rows (eights offsets) sheet);
  }

  pub lent_looked_up_ways : {k : ℕ} {key : List ℕ} {n : ℕ} {rows offsets lent lent' : List ℕ} → LentLookedUp a k key n rows offsets lent lent'
      → LentLookedUp b k key n rows offsets lent lent'
  unfolding lent_lookup
  lent_looked_up_ways {k} {key} {n} {rows} {offsets} {lent} h = record {
    answers = h.answers ∙ ap (λ (x : Answer). answer_bytes x lent) (w.looks_up k key n rows (eights offsets));
  }
