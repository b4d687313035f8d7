-- The copying walk over the blocks of a field that is read without fault: what is left of the value, written from here, is
-- the whole value, written from the start. Assumes nothing.
use Prim.Native.Nat.{ℕ, ◌+◌, ◌-◌, ◌<◌, ◌≤◌}
use mathlib.Core.Path.{◌≡◌, refl, sym, ap, ◌∙◌}
use mathlib.Core.Logic.{◌⊎◌, inl, inr}
use mathlib.Core.Bool.{Bool, ◌||◌}
use mathlib.Core.List.{List, [], ◌++◌, append-nil}
use native.Mathlib.Omega.{arith}
use lib.Dec.{ltb}
use lib.ListN.{length, get_or, take, drop, length-drop}
use lib.Seq.{sets, length-take-le, take-take}
use borrow.Author.Tests.{ltb-false, ne_eqb}
use Rattle.format.specs.Limits.{max_slot}
use Rattle.format.specs.Field.{directed, block_size}
use Rattle.format.specs.Read.{Parsed, got, all_zero}
use Rattle.basics.proofs.Append.{Walk, walk_at, walk_piece, walk_room, walk_end}
use Rattle.basics.proofs.Compare.{choose}
use Rattle.laws.proofs.Directed.{length_directed, directed_take, directed_drop}
use Rattle.laws.proofs.Parsed.{fault_got, not_fault, yes_got, or_false}
use Rattle.laws.proofs.ReadBlocks.{after_got}
use Rattle.variable_reader.specs.Counted.{blocks_read, block_at, value_of, rest_of}
use Rattle.variable_reader.proofs.Reading.{Rest, rest_cut, rest_block}

-- at a place of the row, before block k, with c bytes of the value written
pub record Taking (d : Bool) (row out₀ : List ℕ) (at : ℕ) (out : List ℕ) (from k c : ℕ) : Type 0 where
  pub few : k < from
  pub rest : List ℕ
  pub read : Rest (directed d row) from k c ≡ got rest (rest_of (blocks_read d row))
  pub wrote : Walk (value_of (blocks_read d row)) rest out₀ at out (at + c)

module _ {d : Bool} {row out₀ : List ℕ} {at : ℕ} {out : List ℕ} {from k c : ℕ} (q : Taking d row out₀ at out from k c) (size : ℕ)
    (is : size ≡ block_size k) where
  -- the row, inverted back, and what is read after the block
  abbrev t : List ℕ
  t = directed d row

  abbrev next : Parsed (List ℕ)
  next = Rest t (from + (size + 1)) (k + 1) (c + size)

  -- the block is there
  pub taking_there : from + size < length row
  taking_there = go (choose (from + size) (length row))
    where
      go : (from + size < length row) ⊎ (length row ≤ from + size) → from + size < length row
      go (inl h) = h
      go (inr h) = absurd (fault_got (sym (rest_cut t from k c (omega (arith, length_directed d row))) ∙ q.read))

  -- its first n bytes, as they are copied
  long : (n : ℕ) → n ≤ size → length (directed d (take n (drop from row))) ≡ n
  long n h = length_directed d (take n (drop from row)) ∙ length-take-le n (drop from row) (omega (arith, length-drop from row, taking_there))

  turned : (n : ℕ) → directed d (take n (drop from row)) ≡ take n (drop from (directed d row))
  turned n = directed_take d n (drop from row) ∙ ap (take n) (directed_drop d from row)

  module _ (end : ℕ) (e : end ≡ get_or (directed d row) (from + size) 0) where
    -- what is read of it
    here : block_at t from size end c next ≡ got q.rest (rest_of (blocks_read d row))
    here = sym (rest_block t from k c size end q.few is (omega (arith, length_directed d row, taking_there)) e) ∙ q.read

    -- a full block: its data come before what is left after it
    module _ (f : end ≡ 255) where
      full : (w : List ℕ) × (next ≡ got w (rest_of (blocks_read d row))) × (q.rest ≡ take size (drop from t) ++ w)
      full =
          after_got (take size (drop from t)) next
          (not_fault (ltb max_slot (c + size)) _ _ (rw f at here)).1

      parted : q.rest ≡ directed d (take size (drop from row)) ++ full.0
      parted = full.2 ∙ ap (λ (z : List ℕ). z ++ full.0) (sym (turned size))

      -- there is room for them, and the walk goes on
      pub full_room : at + length (value_of (blocks_read d row)) ≤ length out₀ → at + c + size ≤ length out
      full_room fits = omega (arith, long size (omega arith), walk_room q.wrote (directed d (take size (drop from row))) full.0 parted fits)

      pub full_next : Taking d row out₀ at (sets out (at + c) (directed d (take size (drop from row)))) (from + (size + 1)) (k + 1) (c + size)
      full_next = record {
        few = omega (arith, q.few);
        rest = full.0;
        read = full.1;
        wrote =
            walk_at (at + (c + size))
            (walk_piece size (directed d (take size (drop from row))) full.0 q.wrote parted (long size (omega arith)))
            (omega arith);
      }

    -- the last block: its data are what is left of the value, and what follows it is left of the row
    module _ (n : end ≡ 255 → ⊥) where
      last : (end ≤ size) × (take end (take size (drop from t)) ≡ q.rest) × (drop (from + (size + 1)) t ≡ rest_of (blocks_read d row))
      last =
          let a = not_fault (ltb end 1 || ltb size end) _ _ (rw (ne_eqb end 255 n) at here) in
          let z = yes_got (all_zero (drop end (take size (drop from t)))) _ _ a.1 in
          let l = not_fault (ltb max_slot (c + end)) _ _ z.1 in
          (ltb-false size end (or_false (ltb end 1) (ltb size end) a.0).1, cc l.1, cc l.1)

      ended : q.rest ≡ directed d (take end (drop from row)) ++ []
      ended =
          sym last.1 ∙ take-take end size (drop from t) last.0 ∙ sym (turned end)
          ∙ sym (append-nil (directed d (take end (drop from row))))

      -- there is room for them, and the walk ends
      pub last_room : at + length (value_of (blocks_read d row)) ≤ length out₀ → (from + end ≤ length row) × (at + c + end ≤ length out)
      last_room fits = (
        omega (arith, last.0, taking_there),
        omega (arith, long end last.0, walk_room q.wrote (directed d (take end (drop from row))) [] ended fits),
      )

      pub last_field : from + size + 1 ≡ length row - length (rest_of (blocks_read d row))
      last_field = omega (arith, ap length last.2, length-drop (from + (size + 1)) t, length_directed d row, taking_there)

      pub last_value : (out' : List ℕ) → out' ≡ sets out (at + c) (directed d (take end (drop from row)))
          → (c + end ≡ length (value_of (blocks_read d row))) × (out' ≡ sets out₀ at (value_of (blocks_read d row)))
      last_value out' e =
          let w = walk_end (walk_piece end (directed d (take end (drop from row))) [] q.wrote ended (long end last.0)) refl in
          (omega (arith, w.0), e ∙ w.1)
