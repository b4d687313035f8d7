-- The count walk over the blocks of a field: what is counted from here on is what is counted from the start. Assumes nothing.
use Prim.Native.Nat.{ℕ, suc, ◌+◌, ◌-◌, ◌<◌, ◌≤◌}
use mathlib.Core.Path.{◌≡◌, refl, sym, ap, ◌∙◌}
use mathlib.Core.Bool.{Bool}
use mathlib.Core.List.{List}
use native.Mathlib.Omega.{arith}
use lib.ListN.{length, get_or, take, drop, length-append, length-drop}
use lib.Seq.{length-take-le}
use borrow.Author.Tests.{lt-ltb, le-ltb}
use Rattle.format.specs.declared.RowFault.TheVariants.{Cut, TooLong}
use Rattle.format.specs.Limits.{max_slot}
use Rattle.format.specs.Field.{directed, block_size}
use Rattle.format.specs.Read.{Parsed, got, fault, after, FieldAnswer, found_value, found_fault}
use Rattle.laws.proofs.Directed.{length_directed}
use Rattle.variable_reader.specs.Counted.{blocks_read, block_at, counted, LastCounted}
use Rattle.variable_reader.proofs.Reading.{Rest, rest_cut, rest_block}

-- at a place of the row, before block k, with c bytes of the value counted
pub record Counting (d : Bool) (row : List ℕ) (at k c : ℕ) : Type 0 where
  pub few : k < at
  pub inside : at ≤ length row
  pub within : c ≤ max_slot
  pub says : counted (length row) 0 (blocks_read d row) ≡ counted (length row) c (Rest (directed d row) at k c)

-- the data of one block are counted
counted_after : (n c m : ℕ) (p : List ℕ) (r : Parsed (List ℕ)) → length p ≡ m → counted n c (after p r) ≡ counted n (c + m) r
counted_after n c m p (got v r) h = ap (found_value (n - length r)) (omega (arith, length-append p v))
counted_after n c m p (fault f l) h = refl

module _ {d : Bool} {row : List ℕ} {at k c : ℕ} (q : Counting d row at k c) (size : ℕ) (is : size ≡ block_size k) where
  -- the row, inverted back, and what is read after the block
  abbrev t : List ℕ
  t = directed d row

  abbrev next : Parsed (List ℕ)
  next = Rest t (at + (size + 1)) (k + 1) (c + size)

  -- no whole block is there
  pub counting_cut : length row - at ≤ size → found_fault Cut 0 ≡ counted (length row) 0 (blocks_read d row)
  counting_cut h = sym (q.says ∙ ap (counted (length row) c) (rest_cut t at k c (omega (arith, length_directed d row))))

  module _ (end : ℕ) (inside : at + size < length row) (e : end ≡ get_or (directed d row) (at + size) 0) where
    -- one is
    here : Rest t at k c ≡ block_at t at size end c next
    here = rest_block t at k c size end q.few is (omega (arith, length_directed d row)) e

    -- a last block
    pub counting_last : (r : FieldAnswer) → LastCounted (directed d row) (length row) at size end c r → r ≡ counted (length row) 0 (blocks_read d row)
    counting_last r h = h next ∙ sym (q.says ∙ ap (counted (length row) c) here)

    -- a full one: too much, or on to the next
    pub counting_long : end ≡ 255 → max_slot < c + size → found_fault TooLong (length row - at - size) ≡ counted (length row) 0 (blocks_read d row)
    counting_long f l =
        ap (found_fault TooLong) (omega (arith, length_directed d row, length-drop (at + (size + 1)) t))
        ∙ sym (q.says ∙ ap (counted (length row) c) (here ∙ long))
      where
        long : block_at t at size end c next ≡ fault TooLong (suc (length (drop (at + (size + 1)) t)))
        long = rw f (rw (lt-ltb max_slot (c + size) l))

    pub counting_next : end ≡ 255 → c + size ≤ max_slot → Counting d row (at + (size + 1)) (k + 1) (c + size)
    counting_next f l = record {
      few = omega (arith, q.few);
      inside = omega arith;
      within = l;
      says =
          q.says ∙ ap (counted (length row) c) (here ∙ full) ∙ counted_after (length row) c size (take size (drop at t)) next whole;
    }
      where
        full : block_at t at size end c next ≡ after (take size (drop at t)) next
        full = rw f (rw (le-ltb max_slot (c + size) l))

        whole : length (take size (drop at t)) ≡ size
        whole = length-take-le size (drop at t) (omega (arith, length_directed d row, length-drop at t))
