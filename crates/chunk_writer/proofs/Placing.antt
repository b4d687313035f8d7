-- Pieces written at cursors, one row after the other: what holds at the head of every such loop. Assumes nothing.
use Prim.Native.Nat.{ℕ, suc, ◌+◌, ◌-◌, ◌<◌, ◌≤◌}
use mathlib.Core.Path.{◌≡◌, sym, ap, ◌∙◌}
use mathlib.Core.List.{List}
use mathlib.Core.Logic.{◌⊎◌, inl, inr}
use native.Mathlib.Numerals.{add-one}
use native.Mathlib.Omega.{arith}
use lib.ListN.{length, get_or, set, length-set}
use lib.Seq.{sets, length-sets, get_or-set_same, get_or-set_other}
use Rattle.basics.specs.Wrote.{Wrote}
use Rattle.basics.proofs.Compare.{choose}
use Rattle.chunk_writer.specs.Cursors.{cursor, placed, Moved}

-- one piece more
pub placed_step : (place : ℕ → ℕ) (piece : ℕ → List ℕ) (i to : ℕ) (out : List ℕ) → i < to
    → placed place piece i (to - i) out ≡ placed place piece (i + 1) (to - (i + 1)) (sets out (place i) (piece i))
placed_step place piece i to out h =
    ap (λ (k : ℕ). placed place piece i k out) {x = to - i} {y = suc (to - suc i)} (omega arith) ∙ rw (add-one i)

-- the next one moves
module _ {piece : ℕ → List ℕ} {from r : ℕ} {xs now : List ℕ} (t : Moved piece from r xs now) (h : from ≤ r) where
  -- it is still where it was
  pub moved_still : cursor now r ≡ cursor xs r
  moved_still = t.after (suc r) (omega arith)

  module _ (v : ℕ) (room : suc r < length now) (e : v ≡ cursor now r + length (piece r)) where
    past_at : (j : ℕ) → from ≤ j → (j < r) ⊎ (r ≤ j) → j < r + 1 → cursor (set now (r + 1) v) j ≡ cursor xs j + length (piece j)
    past_at j a (inl l) b = get_or-set_other now (r + 1) (suc j) v 0 (λ q. absurd (omega (arith, q))) ∙ t.past j a l
    past_at j a (inr l) b =
        let q : r ≡ j = omega arith in
        rw (← q, add-one r) (get_or-set_same now (suc r) v 0 room ∙ e ∙ ap (λ (k : ℕ). k + length (piece r)) moved_still)

    pub moved_more : Moved piece from (r + 1) xs (set now (r + 1) v)
    moved_more = record {
      same = length-set now (r + 1) v ∙ t.same;
      past = λ j a b. past_at j a (choose j r) b;
      before = λ i b. get_or-set_other now (r + 1) i v 0 (λ q. absurd (omega (arith, q))) ∙ t.before i b;
      after = λ i b. get_or-set_other now (r + 1) i v 0 (λ q. absurd (omega (arith, q))) ∙ t.after i (omega arith);
    }

-- the rows before r are done
pub record Placing (piece : ℕ → List ℕ) (from to : ℕ) (rows₀ xs rows now : List ℕ) (r : ℕ) : Type 0 where
  pub low : from ≤ r
  pub high : r ≤ to
  pub same : length rows ≡ length rows₀
  pub says : placed (cursor xs) piece r (to - r) rows ≡ placed (cursor xs) piece from (to - from) rows₀
  pub moved : Moved piece from r xs now

module _ {piece : ℕ → List ℕ} {from to : ℕ} {rows₀ xs rows now : List ℕ} {r : ℕ} (t : Placing piece from to rows₀ xs rows now r) where
  -- it is written
  pub placing_more : r < to → to < length now → (rows' : List ℕ) (v : ℕ) → Wrote (piece r) (get_or now (r + 1) 0) rows rows' v
      → Placing piece from to rows₀ xs rows' (set now (r + 1) v) (r + 1)
  placing_more h room rows' v p =
      let w : Wrote (piece r) (cursor now r) rows rows' v = rw (add-one r) at p in
      record {
        low = omega (arith, t.low);
        high = omega arith;
        same = ap length w.bytes ∙ length-sets rows (cursor now r) (piece r) ∙ t.same;
        says =
            ap (placed (cursor xs) piece (r + 1) (to - (r + 1)))
            (w.bytes ∙ ap (λ (k : ℕ). sets rows k (piece r)) (moved_still t.moved t.low))
            ∙ sym (placed_step (cursor xs) piece r to rows h) ∙ t.says;
        moved = moved_more t.moved t.low v (omega arith) w.place;
      }
