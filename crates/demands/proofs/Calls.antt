-- What the functions of this crate answer, from what the entries ensure of the calls. Assumes nothing.
use Prim.Native.Nat.{ℕ, ◌<◌, ◌≤◌}
use mathlib.Core.Path.{◌≡◌, ap, ap₂, sym, ◌∙◌}
use mathlib.Core.Bool.{◌&&◌}
use mathlib.Core.List.{List, ◌++◌}
use native.Mathlib.Omega.{arith}
use lib.Dec.{ltb}
use lib.IntN.{ℤ}
use lib.ListN.{length, take, drop, length-append}
use lib.Seq.{take_at}
use borrow.Author.Tests.{lt-ltb, le-ltb}
use Rattle.format.specs.Numbers.{Answer, numbers_of}
use Rattle.std.specs.declared.result.Result.TheVariants.{Ok, Err}
use Rattle.std.specs.declared.option.Option.TheVariants.{None, Some}
use Rattle.format.specs.declared.Refusal.{Refusal}
use Rattle.format.specs.Check.{both}
use Rattle.format.specs.Lists.{Bytes}
use Rattle.format.specs.Described.{ColumnList, columns}
use Rattle.format.specs.Entries.{encode_check, encode_answer, encode_rows, encode_offsets, cut_rows, decoded_sheet, decode_check, decode_answer, decode_sheet, compare_answer}
use Rattle.format.specs.Promises.{Encoded, Decoded}
use Rattle.basics.proofs.Checks.{refuse_pass, answer_done}
use Rattle.laws.proofs.Accept.{decode_writes}
use Rattle.laws.proofs.Numbers.{numbers_injective}
use Rattle.demands.specs.RoundTrip.{CameBack, CameAgain}
use Rattle.demands.specs.Slices.{EncodedAlike}
use Rattle.demands.specs.Order.{Batch, batch, batch_fault, row_in, ordered, order_in, There, OrderedAs, Ordered}
use Rattle.demands.proofs.Demand2.{refused_back, encoded_back, refused_again, decoded_again}
use Rattle.demands.proofs.Demand3.{Written, written_order, written_begins, written_begun}
use Rattle.demands.proofs.Accept.{answer_refused}
use Rattle.demands.proofs.NullSlots.{sliced_alike}

-- ---- after a call of encode
module _ {list : ColumnList} {n : ℕ} {sheet rows offsets : List ℕ} {r : Answer} {rows' offsets' : List ℕ}
    (h : Encoded list n sheet rows offsets r rows' offsets') where
  encode_is : r ≡ encode_answer list n sheet (length rows) (length offsets)
  encode_is = numbers_injective r _ h.answers

  pub encode_refused : (x : Refusal) → r ≡ Err x → encode_check list n sheet (length rows) (length offsets) ≡ Err x
  unfolding encode_answer
  encode_refused x e = answer_refused (encode_check list n sheet (length rows) (length offsets)) _ _ (sym encode_is ∙ e)

  pub encode_passed : (a b : ℕ) → r ≡ Ok (a, b) → encode_check list n sheet (length rows) (length offsets) ≡ Ok tt
  unfolding encode_answer
  encode_passed a b e = (answer_done (encode_check list n sheet (length rows) (length offsets)) _ _ a b (sym encode_is ∙ e)).0

  -- then one of decode: the sheet came back
  pub back_refused : (back : List ℕ) (x : Refusal) → r ≡ Err x → CameBack list n sheet rows offsets back (Err x) back
  back_refused back x e = refused_back list n sheet rows offsets back x (encode_refused x e)

  pub back_done : (back : List ℕ) (a b : ℕ) → Bytes sheet → r ≡ Ok (a, b) → {q : Answer} {back' : List ℕ} → Decoded list n rows' offsets' back q back'
      → CameBack list n sheet rows offsets back q back'
  back_done back a b bytes e d =
      let t = encoded_back list n sheet rows offsets back bytes (encode_passed a b e) in
      record {
        answers = d.answers ∙ ap₂ (λ (x y : List ℕ). numbers_of (decode_answer list n x y (length back))) h.row_bytes h.row_ends ∙ t.answers;
        writes = d.bytes ∙ ap₂ (λ (x y : List ℕ). decode_sheet list n x y back) h.row_bytes h.row_ends ∙ t.writes;
        same_slots = t.same_slots;
      }

-- ---- two calls of encode, on sheets that differ only before a first end
pub both_alike : {list : ColumnList} {n : ℕ} {sheet rows offsets other others ends : List ℕ} {r q : Answer} {rows' offsets' others' ends' : List ℕ}
    → Bytes sheet → Encoded list n sheet rows offsets r rows' offsets' → Encoded list n other others ends q others' ends'
    → EncodedAlike list n sheet rows offsets other others ends (record { first = r; second = q }) rows' offsets' others' ends'
both_alike {list} {n} {sheet} {rows} {offsets} {other} {others} {ends} b f g e d same_rows same_ends =
    let alike = (sliced_alike list n sheet other rows offsets b e d).1 in
    record {
      answers =
          f.answers
          ∙ ap numbers_of alike.answers
          ∙ ap₂ (λ (x y : List ℕ). numbers_of (encode_answer list n other (length x) (length y))) same_rows same_ends
          ∙ sym g.answers;
      row_bytes =
          f.row_bytes ∙ alike.row_bytes ∙ ap₂ (λ (x y : List ℕ). encode_rows list n other x (length y)) same_rows same_ends ∙ sym g.row_bytes;
      row_ends =
          f.row_ends ∙ alike.row_ends ∙ ap₂ (λ (x y : List ℕ). encode_offsets list n other (length x) y) same_rows same_ends ∙ sym g.row_ends;
    }

-- ---- after a call of decode
module _ {list : ColumnList} {n : ℕ} {rows offsets sheet : List ℕ} {r : Answer} {sheet' : List ℕ} (h : Decoded list n rows offsets sheet r sheet') where
  abbrev out : List ℕ
  out = decoded_sheet n (columns list) (cut_rows n rows offsets)

  decode_is : r ≡ decode_answer list n rows offsets (length sheet)
  decode_is = numbers_injective r _ h.answers

  module _ (rows₂ offsets₂ : List ℕ) where
    pub again_refused : (x : Refusal) → r ≡ Err x → CameAgain list n rows offsets sheet rows₂ offsets₂ (Err x) rows₂ offsets₂
    unfolding decode_answer
    again_refused x e =
        refused_again list n rows offsets sheet rows₂ offsets₂ x (answer_refused (decode_check list n rows offsets (length sheet)) _ _ (sym decode_is ∙ e))

  module _ (a b : ℕ) (e : r ≡ Ok (a, b)) where
    passed : (decode_check list n rows offsets (length sheet) ≡ Ok tt) × (length out ≡ a)
    unfolding decode_answer
    passed = let p = answer_done (decode_check list n rows offsets (length sheet)) _ _ a b (sym decode_is ∙ e) in (p.0, p.1)

    written : sheet' ≡ out ++ drop (length out) sheet
    written = h.bytes ∙ decode_writes list n rows offsets sheet passed.0

    -- the sheet that was written is there, in front
    pub part_there : a ≤ length sheet'
    part_there = omega (arith, passed.1, ap length written, length-append out (drop (length out) sheet))

    part_is : take a sheet' ≡ out
    part_is = ap (take a) written ∙ take_at out (drop (length out) sheet) a passed.1

    -- then one of encode, on that part: the rows came again
    pub again_done : (rows₂ offsets₂ : List ℕ) → Bytes rows → {q : Answer} {rows₂' offsets₂' : List ℕ}
        → Encoded list n (take a sheet') rows₂ offsets₂ q rows₂' offsets₂'
        → CameAgain list n rows offsets sheet rows₂ offsets₂ q rows₂' offsets₂'
    again_done rows₂ offsets₂ bytes d =
        let t = decoded_again list n rows offsets sheet rows₂ offsets₂ bytes passed.0 in
        record {
          answers = d.answers ∙ ap (λ (s : List ℕ). numbers_of (encode_answer list n s (length rows₂) (length offsets₂))) part_is ∙ t.answers;
          row_bytes = d.row_bytes ∙ ap (λ (s : List ℕ). encode_rows list n s rows₂ (length offsets₂)) part_is ∙ t.row_bytes;
          row_ends = d.row_ends ∙ ap (λ (s : List ℕ). encode_offsets list n s (length rows₂) offsets₂) part_is ∙ t.row_ends;
        }

-- ---- after two calls of encode

-- a batch that was encoded
pub batch_written : {list : ColumnList} {n : ℕ} {sheet rows offsets : List ℕ} {r : Answer} {rows' offsets' : List ℕ}
    → Encoded list n sheet rows offsets r rows' offsets' → Bytes sheet → (a b : ℕ) → r ≡ Ok (a, b) → Written list (batch n sheet rows offsets rows' offsets')
batch_written h bytes a b e = record { bytes = bytes; passes = encode_passed h a b e; row_bytes = h.row_bytes; row_ends = h.row_ends }

module _ {list : ColumnList} {b d : Batch} (r q : ℕ) where
  -- where one of them is refused, or a row is not there, nothing is compared
  none : (x : Ordered) → x ≡ ordered (both (batch_fault list b) (batch_fault list d)) (ltb r b.n && ltb q d.n) (order_in list b d r q)
      → (There list b d r q → ⊥) → OrderedAs list b d r q x
  none x e never = record { answers = e; begins = λ t. absurd (never t); begun = λ t. absurd (never t) }

  refused : (x : Refusal) → both (batch_fault list b) (batch_fault list d) ≡ Err x → OrderedAs list b d r q (Err x)
  refused x e = none (Err x) (rw e) (λ t. refuse_pass (sym e ∙ t.passes))

  pub first_refused : (x : Refusal) → batch_fault list b ≡ Err x → OrderedAs list b d r q (Err x)
  first_refused x e = refused x (rw e)

  module _ (v : Written list b) where
    pub second_refused : (x : Refusal) → batch_fault list d ≡ Err x → OrderedAs list b d r q (Err x)
    second_refused x e = refused x (rw (v.passes, e))

    module _ (w : Written list d) where
      pub no_first : b.n ≤ r → OrderedAs list b d r q (Ok None)
      no_first l = none (Ok None) (rw (v.passes, w.passes, le-ltb r b.n l)) (λ t. omega (arith, t.row))

      pub no_second : r < b.n → d.n ≤ q → OrderedAs list b d r q (Ok None)
      no_second k l = none (Ok None) (rw (v.passes, w.passes, lt-ltb r b.n k, le-ltb q d.n l)) (λ t. omega (arith, t.other))

      pub rows_ordered : r < b.n → q < d.n → (x y : ℤ) → x ≡ y → y ≡ compare_answer (row_in b r) (row_in d q) → OrderedAs list b d r q (Ok (Some x))
      rows_ordered k l x y s e = record {
        answers = rw (v.passes, w.passes, lt-ltb r b.n k, lt-ltb q d.n l) (ap (λ o. Ok (Some o)) (s ∙ e ∙ written_order v w r q k l));
        begins = λ t. written_begins v w r q k l;
        begun = λ t. written_begun v w r q k l;
      }
