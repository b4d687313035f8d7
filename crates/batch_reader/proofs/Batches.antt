-- What the check of a batch answers where the offsets are refused, and where the walk over the rows was taken. Assumes nothing.
use Prim.Native.Nat.{ℕ, ◌+◌}
use mathlib.Core.Path.{◌≡◌, ap, sym, ◌∙◌}
use mathlib.Core.List.{List, map}
use native.Mathlib.Omega.{arith}
use lib.ListN.{length, length-map}
use Rattle.format.specs.Check.{Check, both, verdict}
use Rattle.std.specs.declared.result.Result.TheVariants.{Ok, Err}
use Rattle.std.specs.declared.result.Result.{Result}
use Rattle.format.specs.declared.Column.{Column}
use Rattle.format.specs.declared.Refusal.{Refusal}
use Rattle.format.specs.Lists.{Bytes, sum}
use Rattle.format.specs.Read.{row_slots, rows_fault}
use Rattle.format.specs.Sheet.{layout}
use Rattle.format.specs.Entries.{cut_rows, offsets_fault, row_bytes}
use Rattle.format.specs.Cleared.{frame}
use Rattle.basics.proofs.Checks.{refuse_pass}
use Rattle.laws.proofs.Cuts.{cut_bytes}
use Rattle.basics.proofs.Lists.{length_each}
use Rattle.laws.proofs.Room.{cleared_length}
use Rattle.row_reader.specs.Walk.{Finds}
use Rattle.batch_reader.specs.Batch.{Checks}
use Rattle.laws.proofs.ReadRow.{rows_passed}

module _ (n : ℕ) (cols : List Column) (bytes offsets : List ℕ) where
  abbrev rows : List (List ℕ)
  rows = cut_rows n bytes offsets

  -- the offsets are refused
  pub refused : {x : Refusal} → offsets_fault n bytes offsets ≡ Err x → Checks n cols bytes offsets (Err x)
  refused e = record { check = sym (ap (λ (y : Check). both y (rows_fault 0 cols rows)) e); room = λ b p. absurd (refuse_pass (ap verdict p)) }

  -- the offsets pass, and the rows were walked over
  module _ (b : Bytes bytes) (e : offsets_fault n bytes offsets ≡ Ok tt) (w : Result ℕ Refusal) (f : Finds cols rows w) where
    check : verdict w ≡ both (offsets_fault n bytes offsets) (rows_fault 0 cols rows)
    check = f.check ∙ sym (ap (λ (y : Check). both y (rows_fault 0 cols rows)) e)

    -- the rows are refused
    pub bad_rows : {x : Refusal} → w ≡ Err x → Checks n cols bytes offsets (Err x)
    bad_rows p = record { check = sym (ap verdict p) ∙ check; room = λ b p. absurd (refuse_pass (ap verdict p)) }

    -- they are not
    pub walked : (added : ℕ) → w ≡ Ok added → (frames : ℕ) → frames ≡ sum (map (λ col. frame (layout col) n) cols)
        → Checks n cols bytes offsets (Ok (frames + added))
    walked added p frames h =
        let q : rows_fault 0 cols rows ≡ Ok tt = sym f.check ∙ ap verdict p in
        let count : length (map (row_slots cols) rows) ≡ n = length-map rows (row_slots cols) ∙ length_each 0 n (row_bytes bytes offsets) in
        let fit = (rows_passed 0 cols rows (cut_bytes n bytes offsets b) q).1 in
        record {
          check = sym (ap verdict p) ∙ check;
          room = λ r s.
              let same : frames + added ≡ r = cc in
              omega (arith, same, f.adds added p, cleared_length n cols (map (row_slots cols) rows) count fit);
        }
