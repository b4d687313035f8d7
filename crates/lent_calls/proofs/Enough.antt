-- The offsets that a call uses are enough: with those alone it answers and writes as with all of them. Assumes nothing.
use Prim.Native.Nat.{ℕ, zero, suc, ◌+◌, ◌/◌, ◌<◌, ◌≤◌}
use mathlib.Core.Path.{◌≡◌, refl, sym, ap, ◌∙◌}
use mathlib.Core.Logic.{⊎_elim, ◌⊎◌, inl, inr}
use mathlib.Core.Bool.{Bool, true, false}
use mathlib.Core.List.{List, []}
use native.Mathlib.Omega.{arith}
use lib.Dec.{ltb}
use lib.ListN.{length, get_or}
use borrow.Author.Tests.{ltb-true, ltb-false, lt-ltb, le-ltb}
use Rattle.format.specs.Check.{Check, both}
use Rattle.std.specs.declared.result.Result.TheVariants.{Ok, Err}
use Rattle.format.specs.declared.Refusal.{Refusal}
use Rattle.format.specs.declared.Refusal.TheVariants.{ManyRows}
use Rattle.format.specs.Limits.{max_rows}
use Rattle.format.specs.Lists.{Bytes, ends_from, over}
use Rattle.format.specs.Described.{ColumnList, list_fault, columns}
use Rattle.format.specs.Sheet.{sheet_slots}
use Rattle.format.specs.Entries.{answer, written, sheet_rows, sheet_total, measure_check, encode_check, encode_answer, encode_rows, encode_offsets}
use Rattle.format.specs.Entries.{fall_fault, offsets_fault, row_bytes, cut_rows, decode_check, decode_answer, decode_sheet}
use Rattle.format.specs.Lent.{eights, eight_bytes}
use Rattle.basics.proofs.Checks.{enough, both_pass}
use Rattle.basics.proofs.Lists.{each_same, each_at, length_each, length_ends}
use Rattle.laws.proofs.Turned.{rows_many}
use Rattle.lent_bytes.specs.Offsets.{eight_at, first_eights, Used}
use Rattle.lent_bytes.proofs.NumberBytes.{stored_back}

-- ---- over 4,096 rows are refused before the offsets are looked at: what comes after the refusal does not count
many_both : (x : Check) (r : Refusal) (y z : Check) → both (both x (Err r)) y ≡ both (both x (Err r)) z
many_both (Ok tt) r y z = refl
many_both (Err s) r y z = refl

many_answer : (x : Check) (r : Refusal) (a b c d : ℕ) → answer (both x (Err r)) a b ≡ answer (both x (Err r)) c d
many_answer (Ok tt) r a b c d = refl
many_answer (Err s) r a b c d = refl

many_written : (x : Check) (r : Refusal) (new new' old : List ℕ) → written (both x (Err r)) new old ≡ written (both x (Err r)) new' old
many_written (Ok tt) r new new' old = refl
many_written (Err s) r new new' old = refl

-- one or the other
pub le_or_lt : (a b : ℕ) → (a ≤ b) ⊎ (b < a)
le_or_lt a b = by_test (ltb b a) refl
  where
    by_test : (t : Bool) → ltb b a ≡ t → (a ≤ b) ⊎ (b < a)
    by_test true e = inr (ltb-true b a e)
    by_test false e = inl (ltb-false b a e)

-- k reach offset n just where all do
reach : (n room k : ℕ) → Used n room k → n ≤ max_rows → ltb k (suc n) ≡ ltb room (suc n)
reach n room k u h =
    ⊎_elim (λ l. ap (λ (m : ℕ). ltb m (suc n)) (u.enough h l))
    (λ l. le-ltb k (suc n) (omega arith) ∙ sym (le-ltb room (suc n) (omega (arith, u.there)))) (le_or_lt k n)

-- ---- encode
module _ (list : ColumnList) (n : ℕ) (sheet : List ℕ) (room k : ℕ) (u : Used n room k) where
  encode_check_lem : (row_room : ℕ) → encode_check list n sheet row_room k ≡ encode_check list n sheet row_room room
  unfolding encode_check measure_check
  encode_check_lem row_room =
      ⊎_elim (λ h. rw (reach n room k u h)) (λ h. rw (lt-ltb max_rows n h) (many_both (list_fault list) (ManyRows n) _ _)) (le_or_lt n max_rows)

  pub encode_answer_lem : (row_room : ℕ) → encode_answer list n sheet row_room k ≡ encode_answer list n sheet row_room room
  unfolding encode_answer
  encode_answer_lem row_room = rw (encode_check_lem row_room)

  pub encode_rows_lem : (rows : List ℕ) → encode_rows list n sheet rows k ≡ encode_rows list n sheet rows room
  unfolding encode_rows
  encode_rows_lem rows = rw (encode_check_lem (length rows))

-- an accepted batch has n + 1 ends, and room for them
ends_fit : (list : ColumnList) (n : ℕ) (sheet : List ℕ) (row_room k : ℕ) → encode_check list n sheet row_room k ≡ Ok tt
    → length (ends_from 0 (sheet_rows n (columns list) sheet)) ≤ k
unfolding encode_check
ends_fit list n sheet row_room k e =
    let p = both_pass (measure_check list n sheet) _ e in
    let q = enough row_room (sheet_total n (columns list) sheet) _ _ p.1 in
    let many = rows_many n (columns list) (sheet_slots n (columns list) sheet) in
    omega (arith, length_ends 0 (sheet_rows n (columns list) sheet), many, (enough k (suc n) _ _ q.1).0)

-- numbers in front of the lent bytes, as the entries' definitions have them: numbers in front of those that were there
pub front : (m : Check) (new bs : List ℕ) → Bytes bs → (m ≡ Ok tt → length new ≤ length bs / 8)
    → written m (eight_bytes new) bs ≡ over (eight_bytes (written m new (eights bs))) bs
front (Ok tt) new bs b l = sym (stored_back bs b new (length bs / 8) (l refl) (omega arith))
front (Err r) new bs b l = sym (stored_back bs b [] (length bs / 8) (omega arith) (omega arith))

pub encode_ends : (list : ColumnList) (n : ℕ) (sheet : List ℕ) (row_room : ℕ) (bs : List ℕ) (k : ℕ) → Bytes bs → Used n (length bs / 8) k
    → written (encode_check list n sheet row_room k) (eight_bytes (ends_from 0 (sheet_rows n (columns list) sheet))) bs
    ≡ over (eight_bytes (encode_offsets list n sheet row_room (eights bs))) bs
unfolding encode_offsets
encode_ends list n sheet row_room bs k b u =
    let ends = ends_from 0 (sheet_rows n (columns list) sheet) in
    rw (encode_check_lem list n sheet (length bs / 8) k u row_room, length_each 0 (length bs / 8) (eight_at bs))
    (front (encode_check list n sheet row_room (length bs / 8)) ends bs b (ends_fit list n sheet row_room (length bs / 8)))

-- ---- decode: offsets that agree up to index n
pub record Agree (n : ℕ) (os os' : List ℕ) : Type 0 where
  pub room : ltb (length os) (suc n) ≡ ltb (length os') (suc n)
  pub at : (i : ℕ) → i ≤ n → get_or os i 0 ≡ get_or os' i 0

pub agree : (bs : List ℕ) (n room k : ℕ) → Used n room k → n ≤ max_rows → Agree n (first_eights k bs) (first_eights room bs)
agree bs n room k u h = record {
  room =
      ap (λ (a : ℕ). ltb a (suc n)) (length_each 0 k (eight_at bs)) ∙ reach n room k u h
      ∙ ap (λ (a : ℕ). ltb a (suc n)) (sym (length_each 0 room (eight_at bs)));
  at = λ i l. ⊎_elim (λ p. ap (λ (m : ℕ). get_or (first_eights m bs) i 0) (u.enough h p))
      (λ p. each_at k (eight_at bs) 0 i (omega arith) ∙ sym (each_at room (eight_at bs) 0 i (omega (arith, u.there)))) (le_or_lt k n);
}

module _ (n : ℕ) (bytes os os' : List ℕ) (a : Agree n os os') where
  falls : (i j : ℕ) → i + j ≤ n → fall_fault os i j ≡ fall_fault os' i j
  falls i zero h = refl
  falls i (suc j) h = rw (a.at i (omega arith), a.at (suc i) (omega arith), falls (suc i) j (omega arith))

  pub offsets_fault_lem : offsets_fault n bytes os ≡ offsets_fault n bytes os'
  offsets_fault_lem = rw (a.room, a.at 0 (omega arith), falls 0 n (omega arith), a.at n (omega arith))

  pub cuts : cut_rows n bytes os ≡ cut_rows n bytes os'
  cuts = each_same 0 n (row_bytes bytes os) (row_bytes bytes os') (λ j p q. rw (a.at j (omega arith), a.at (suc j) (omega arith)))

module _ (list : ColumnList) (n : ℕ) (bytes bs : List ℕ) (k : ℕ) (u : Used n (length bs / 8) k) where
  abbrev few : List ℕ
  few = first_eights k bs

  abbrev all : List ℕ
  all = eights bs

  same : n ≤ max_rows → Agree n few all
  same h = agree bs n (length bs / 8) k u h

  decode_check_lem : (h : n ≤ max_rows) (room : ℕ) → decode_check list n bytes few room ≡ decode_check list n bytes all room
  unfolding decode_check
  decode_check_lem h room = rw (offsets_fault_lem n bytes few all (same h), cuts n bytes few all (same h))

  -- over 4,096 rows, whatever the offsets are
  many_check : max_rows < n → (os : List ℕ) (room : ℕ) → decode_check list n bytes os room ≡ both (list_fault list) (Err (ManyRows n))
  unfolding decode_check
  many_check h os room = rw (lt-ltb max_rows n h)

  pub decode_answer_lem : (room : ℕ) → decode_answer list n bytes few room ≡ decode_answer list n bytes all room
  unfolding decode_answer
  decode_answer_lem room =
      ⊎_elim (λ h. rw (decode_check_lem h room, cuts n bytes few all (same h)))
      (λ h. rw (many_check h few room, many_check h all room) (many_answer (list_fault list) (ManyRows n) _ _ _ _)) (le_or_lt n max_rows)

  pub decode_sheet_lem : (sheet : List ℕ) → decode_sheet list n bytes few sheet ≡ decode_sheet list n bytes all sheet
  unfolding decode_sheet
  decode_sheet_lem sheet =
      ⊎_elim (λ h. rw (decode_check_lem h (length sheet), cuts n bytes few all (same h)))
      (λ h. rw (many_check h few (length sheet), many_check h all (length sheet)) (many_written (list_fault list) (ManyRows n) _ _ sheet)) (le_or_lt n max_rows)
