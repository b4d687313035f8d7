-- The state that a C entry writes is read back by the next, as the state that the Rattle entry hands out. Assumes nothing.
use Prim.Native.Nat.{ℕ, ◌-◌, ◌/◌, ◌≤◌}
use mathlib.Core.Path.{◌≡◌, refl, ap, ◌∙◌}
use mathlib.Core.Bool.{Bool, true, false, cond, ◌&&◌}
use mathlib.Core.List.{List, []}
use native.Mathlib.Omega.{arith}
use lib.Dec.{leb}
use lib.ListN.{length, drop, take, get_or, length-append, length-replicate, replicate}
use borrow.Author.Tests.{le-ltb, leb-true}
use Rattle.format.specs.declared.Column.{Column}
use Rattle.format.specs.declared.Schema.{Schema}
use Rattle.format.specs.declared.Cutter.{Cutter}
use Rattle.format.specs.Limits.{max_columns}
use Rattle.format.specs.Lists.{Bytes, over}
use Rattle.format.specs.Schemas.{no_column}
use Rattle.format.specs.Described.{ColumnList, code_at, column_of}
use Rattle.format.specs.Lent.{eights, answer_room}
use Rattle.format.specs.CutterRule.{keeps}
use Rattle.format.specs.Cutter.{begun, start_state, cut_state}
use Rattle.format.specs.CutterBytes.{numbers_size, state_bytes, state_size, columns_of, state_of, same, lent_keeps, lent_state, lent_start_state, lent_cut_state}
use Rattle.basics.proofs.Lists.{length_each}
use Rattle.cutter_laws.specs.Calls.{Whole}
use Rattle.cutter_laws.proofs.RuleMoves.{and_true}
use Rattle.cutter_laws.proofs.StartKept.{start_keeps}
use Rattle.cutter_laws.proofs.StateBack.{state_back}
use Rattle.cutter_laws.proofs.Streams.{Listed, cut_listed, start_listed}
use Rattle.cutter_laws.proofs.Calls.{cut_keeps}

-- these bytes are those of state s
pub record Reads (bytes : List ℕ) (s : Cutter) : Type 0 where
  pub keeps_rule : lent_keeps bytes ≡ true
  pub state : lent_state bytes ≡ s

-- a state that keeps the rule, written in front of what was there
over_reads : (s : Cutter) (old : List ℕ) → Listed s → keeps s ≡ true → Reads (over (state_bytes s) old) s
over_reads s old c k =
    let h = state_back c.cols s (drop (length (state_bytes s)) old) c.few c.schema k in
    record { keeps_rule = h.0; state = h.1 }

-- after a start
pub lent_start_reads : (list : ColumnList) (state lent : List ℕ) → answer_room ≤ length lent → state_size ≤ length state
    → Reads (lent_start_state list state lent) (start_state list)
unfolding lent_start_state
lent_start_reads list state lent a b =
    rw (le-ltb (length lent) answer_room a, le-ltb (length state) state_size b) (over_reads (start_state list) state (start_listed list) (start_keeps list).1)

-- an array that is as a list has it is whole
pub whole : {s : Cutter} → Listed s → Whole s
whole c =
    ap (λ (x : Schema). length x.columns) c.schema
    ∙ length-append c.cols (replicate (max_columns - length c.cols) no_column)
    ∙ omega (arith, length-replicate {A = Column} (max_columns - length c.cols) no_column, c.few)

-- lent bytes are read as no more columns than there may be
pub read_listed : (state : List ℕ) → Listed (state_of (take state_size state))
unfolding state_of
read_listed state = record {
  cols = columns_of x count;
  few = omega (arith, length_each 0 (cond (leb count max_columns) count 0) (λ i. column_of (code_at (drop numbers_size x) i)), most (leb count max_columns) refl);
  schema = refl;
}
  where
    x : List ℕ
    x = take state_size state

    count : ℕ
    count = get_or (eights (take numbers_size x)) 12 0

    most : (t : Bool) → leb count max_columns ≡ t → cond t count 0 ≤ max_columns
    most true q = leb-true count max_columns q
    most false q = omega arith

-- ---- lent bytes that keep the rule

module _ (state : List ℕ) (h : lent_keeps state ≡ true) where
  abbrev read : Cutter
  read = state_of (take state_size state)

  lent_is : lent_state state ≡ read
  unfolding lent_state
  lent_is = ap (λ (t : Bool). cond t read (begun [])) h

  read_keeps : keeps read ≡ true
  unfolding lent_keeps
  read_keeps = (and_true {s = leb state_size (length state) && same (state_bytes read) (take state_size state)} {t = keeps read} h).1

-- after a call
pub lent_cut_reads : (state piece ends lent : List ℕ) → Bytes piece → answer_room ≤ length lent → lent_keeps state ≡ true
    → Reads (lent_cut_state state piece ends lent) (cut_state (lent_state state) piece (length ends / 8))
unfolding lent_cut_state
lent_cut_reads state piece ends lent bs a h =
    rw (le-ltb (length lent) answer_room a, h, lent_is state h)
    (over_reads (cut_state s piece room) state (cut_listed s piece room (read_listed state))
    (cut_keeps s piece room bs (whole (read_listed state), read_keeps state h)).1)
  where
    s : Cutter
    s = read state h

    room : ℕ
    room = length ends / 8
