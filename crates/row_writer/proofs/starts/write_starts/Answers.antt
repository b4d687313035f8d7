-- `row_writer::starts::write_starts` meets its contract: so many fields of each row are counted. Assumes nothing.
use Prim.Native.Nat.{ℕ, ◌<◌}
use mathlib.Core.Path.{◌≡◌}
use mathlib.Core.List.{List}
use native.Mathlib.Omega.{arith}
use lib.ListN.{length, get_or, drop}
use Rattle.basics.proofs.Bytes.{bytes_of}
use Rattle.laws.proofs.Parts.{part_rest}
use Rattle.sheet_reader.specs.declared.sheet.Facts.{Facts}
use Rattle.sheet_reader.specs.Sheets.{no_facts}
use Rattle.row_writer.specs.Rows.{AllStand, field_at}
use Rattle.row_writer.specs.Starts.{slot_length}
use Rattle.row_writer.proofs.Fields.{field_long}
use Rattle.row_writer.proofs.Summing.{lengths_fit, lengths_more, lengths_are, lengths_end}
use Rattle.row_writer.proofs.starts.write_starts.Goals as goal

-- the fields of column k are as long as the table says
long : (n : ℕ) (s : List ℕ) (facts : List Facts) (k : ℕ) → ((i : ℕ) → get_or s i 0 < 256) → AllStand n s facts → k < length facts
    → (r : ℕ) → r < n → length (field_at n s facts r k) ≡ slot_length (get_or facts k no_facts).column n (drop (get_or facts k no_facts).base s) r
long n s facts k known h m r l =
    let f = get_or facts k no_facts in
    field_long n k r f.base f.column s (h k m) (bytes_of s known) l

pub add_column-fixed-requires-clause-fits : goal.add_column-fixed-requires-clause-fits
add_column-fixed-requires-clause-fits c =
    let A = c.args in
    let s = A.sheet.now in
    let f = get_or A.facts.now c.loop-f.f-index no_facts in
    rw (part_rest s f.base)
    (lengths_fit c.loop-f.invariant f.column (drop f.base s)
    (long A.n s A.facts.now c.loop-f.f-index (λ i. (c.type_inv.sheet i).fits) c.requires.all_stand c.loop-f-test.true)
    (length A.facts.now) c.loop-f-test.true c.requires.total_bound)

pub loop-f-preserved : goal.loop-f-preserved
loop-f-preserved c =
    let A = c.args in
    let s = A.sheet.now in
    let f = get_or A.facts.now c.loop-f.f-index no_facts in
    lengths_more c.loop-f.invariant f.column (drop f.base s)
    (long A.n s A.facts.now c.loop-f.f-index (λ i. (c.type_inv.sheet i).fits) c.requires.all_stand c.loop-f-test.true)
    _ _ (rw (part_rest s f.base) at c.add_column-fixed.ensures)

pub add_up-requires-clause-n_bound : goal.add_up-requires-clause-n_bound
add_up-requires-clause-n_bound c =
    let i = c.loop-f.invariant in
    omega (arith, lengths_are i (length c.args.facts.now) (omega arith) c.args.n (omega arith), c.requires.total_bound)

pub returns : goal.returns
returns c =
    let i = c.loop-f.invariant in
    lengths_end i (length c.args.facts.now) (omega arith) c.clear.ensures.stays c.add_up.ensures
