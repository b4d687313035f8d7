-- A list that was read once: under its descriptions, in either form, every entry answers and writes what it does under the bytes. Assumes
-- nothing.
use Prim.Native.Nat.{ℕ, ◌*◌, ◌<◌, ◌≤◌}
use mathlib.Core.Path.{◌≡◌, refl, ap, sym, subst, ◌∙◌}
use mathlib.Core.List.{List, [], ◌++◌, map, append-nil}
use lib.Dec.{lit<}
use lib.ListN.{length, take, drop}
use lib.Seq.{take_at}
use borrow.Author.Tests.{le-ltb}
use Rattle.format.specs.declared.Column.{Column}
use Rattle.format.specs.Numbers.{Answer}
use Rattle.std.specs.declared.result.Result.TheVariants.{Ok}
use Rattle.format.specs.Columns.{spelled_fault, spelled_columns}
use Rattle.format.specs.Described.{held, column_of, codes, descriptions_in, descriptions_fault, ColumnList, spelled, described, coded, list_fault, columns}
use Rattle.format.specs.Entries.{read_list_check, read_list_answer, read_list_columns, measure_check, encode_check, measure_answer, encode_answer, encode_rows, encode_offsets, decode_check, decode_answer, decode_sheet}
use Rattle.format.specs.Lookup.{lookup_check, lookup_answer}
use Rattle.format.specs.Cutter.{start_answer, start_state}
use Rattle.format.specs.Lent.{answer_room, code_room, lent_read_list_codes}
use Rattle.format.specs.Promises.{ListRead, LentListRead}
use Rattle.basics.proofs.Checks.{both_pass, answer_done}
use Rattle.laws.proofs.Numbers.{numbers_injective}
use Rattle.laws.proofs.Described.{columns_again}
use Rattle.readings.specs.Readings.{BothWays}
use Rattle.readings.proofs.Codes.{length_codes, codes_in}
use Rattle.readings.proofs.Accepted.{read_accepted}
use Rattle.readings.proofs.Made.{read_narrowed}

-- ---- lists with the same fault and the same columns
module _ (a b : ColumnList) (f : list_fault a ≡ list_fault b) (c : columns a ≡ columns b) where
  pub alike : BothWays a b
  unfolding measure_answer encode_answer encode_rows encode_offsets decode_answer decode_sheet lookup_answer start_answer start_state measure_check encode_check decode_check lookup_check
  alike = record {
    measures = λ n sheet. rw (f, c);
    encodes = λ n sheet row_room offset_room. rw (f, c);
    row_bytes = λ n sheet rows offset_room. rw (f, c);
    row_ends = λ n sheet row_room offsets. rw (f, c);
    decodes = λ n rows offsets room. rw (f, c);
    sheet_bytes = λ n rows offsets sheet. rw (f, c);
    looks_up = λ k key n rows offsets. rw (f, c);
    starts = rw (f, c);
    start_state = rw (f, c);
  }

-- ---- a list that is accepted: its columns, and their codes with a tail that does not count

pub columns_ways : (s : List ℕ) → spelled_fault s ≡ Ok tt → BothWays (spelled s) (described (spelled_columns s))
columns_ways s e = alike (spelled s) (described (spelled_columns s)) (e ∙ sym (read_accepted s e)) refl

pub codes_ways : (s t : List ℕ) → spelled_fault s ≡ Ok tt → length t < 4 → BothWays (spelled s) (coded (codes (spelled_columns s) ++ t))
codes_ways s t e l =
    let is : descriptions_in (codes (spelled_columns s) ++ t) ≡ map held (spelled_columns s) = codes_in (spelled_columns s) t (read_narrowed s e) l in
    alike (spelled s) (coded (codes (spelled_columns s) ++ t))
    (e ∙ sym (ap descriptions_fault is ∙ read_accepted s e))
    (sym (ap (map column_of) is ∙ columns_again (spelled_columns s)))

-- ---- what reading says where it fills in k descriptions
module _ (s : List ℕ) (room k z : ℕ) (done : read_list_answer s room ≡ Ok (k, z)) where
  read : (read_list_check s room ≡ Ok tt) × (length (spelled_columns s) ≡ k) × (0 ≡ z)
  unfolding read_list_answer
  read = answer_done (read_list_check s room) (length (spelled_columns s)) 0 k z done

  bytes_pass : spelled_fault s ≡ Ok tt
  unfolding read_list_check
  bytes_pass = (both_pass (spelled_fault s) _ read.0).0

-- read_list: the descriptions that it filled in, as many as it answered
module _ (s : List ℕ) (lent : List Column) (r : Answer) (lent' : List Column) (p : ListRead s lent r lent') (k z : ℕ) (e : r ≡ Ok (k, z)) where
  done : read_list_answer s (length lent) ≡ Ok (k, z)
  done = sym (numbers_injective r (read_list_answer s (length lent)) p.answers) ∙ e

  pub handed_on : take k lent' ≡ spelled_columns s
  unfolding read_list_columns
  handed_on =
      let q = read s (length lent) k z done in
      ap (take k) p.descriptions
      ∙ rw q.0 (take_at (spelled_columns s) (drop (length (spelled_columns s)) lent) k q.1)

  pub both_ways : BothWays (spelled s) (described (take k lent'))
  both_ways = subst (λ (cols : List Column). BothWays (spelled s) (described cols)) (sym handed_on) (columns_ways s (bytes_pass s (length lent) k z done))

-- station_read_list: the same in four bytes each, where there was room for the answer
module _ (s descriptions lent descriptions' lent' : List ℕ) (p : LentListRead s descriptions lent descriptions' lent') (k z : ℕ)
    (done : read_list_answer s (code_room descriptions) ≡ Ok (k, z)) (there : answer_room ≤ length lent) where
  pub codes_handed_on : take (4 * k) descriptions' ≡ codes (spelled_columns s)
  unfolding lent_read_list_codes
  codes_handed_on =
      let q = read s (code_room descriptions) k z done in
      let cs : List ℕ = codes (spelled_columns s) in
      ap (take (4 * k)) p.codes
      ∙ rw (le-ltb (length lent) answer_room there, q.0)
      (take_at cs (drop (length cs) descriptions) (4 * k) (length_codes (spelled_columns s) ∙ ap (λ (n : ℕ). 4 * n) q.1))

  pub both_ways_codes : BothWays (spelled s) (coded (take (4 * k) descriptions'))
  both_ways_codes =
      subst (λ (c : List ℕ). BothWays (spelled s) (coded c)) (append-nil (codes (spelled_columns s)) ∙ sym codes_handed_on)
      (codes_ways s [] (bytes_pass s (code_room descriptions) k z done) (lit< tt))
