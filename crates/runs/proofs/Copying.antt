-- Copying bytes, inverted under descending, in steps of any count. Assumes nothing.
use Prim.Native.Nat.{ℕ, ◌+◌, ◌-◌, ◌<◌, ◌≤◌}
use mathlib.Core.Path.{◌≡◌, refl, sym, ap, ap₂, ◌∙◌}
use mathlib.Core.Bool.{Bool}
use mathlib.Core.List.{List, [], ◌∷◌, ◌++◌, append-nil}
use native.Mathlib.Omega.{arith}
use lib.ListN.{length, get_or, set, take, drop, length-drop, drop_of_length-le, take-append-drop}
use lib.Seq.{sets, sets-eq, drop-cons, drop-drop, take-add, length-take-le}
use Rattle.format.specs.Field.{directed}
use Rattle.format.specs.Lists.{low, low_bytes}
use Rattle.basics.proofs.Append.{over_sets, sets_append, Walk, walk_start, walk_piece, walk_end}
use Rattle.laws.proofs.Directed.{length_directed, directed_none, directed_append, directed_take, directed_drop}
use Rattle.number.proofs.Words.{read_back}

-- what is written over the whole of a buffer
pub sets_whole : (xs out : List ℕ) → length out ≡ length xs → sets out 0 xs ≡ xs
sets_whole xs out e =
    sym (over_sets xs out (omega (arith, e)))
    ∙ ap (λ (z : List ℕ). xs ++ z) (drop_of_length-le out {i = length xs} (omega (arith, e))) ∙ append-nil xs

-- so many bytes, and the others
pub directed_cut : (d : Bool) (i : ℕ) (l : List ℕ) → directed d (take i l) ++ directed d (drop i l) ≡ directed d l
directed_cut d i l = sym (directed_append d (take i l) (drop i l)) ∙ ap (directed d) (take-append-drop i l)

-- so many bytes, then the others
cut : (l : List ℕ) (q m w : ℕ) (d : Bool) → w ≤ m
    → directed d (take m (drop q l)) ≡ directed d (take w (drop q l)) ++ directed d (take (m - w) (drop (q + w) l))
cut l q m w d h =
    ap (λ (k : ℕ). directed d (take k (drop q l))) {x = m} {y = w + (m - w)} (omega arith)
    ∙ ap (directed d) (take-add w (m - w) (drop q l))
    ∙ directed_append d (take w (drop q l)) (take (m - w) (drop w (drop q l)))
    ∙ ap (λ (z : List ℕ). directed d (take w (drop q l)) ++ directed d (take (m - w) z)) (drop-drop w q l)

-- two runs, one after the other
module _ (l : List ℕ) (q m w : ℕ) (d : Bool) (out₀ : List ℕ) (at : ℕ) (out last : List ℕ) (h : w ≤ m) (inside : q + m ≤ length l) where
  abbrev front : List ℕ
  front = directed d (take w (drop q l))

  abbrev back : List ℕ
  back = directed d (take (m - w) (drop (q + w) l))

  long : at + w ≡ at + length front
  long = omega (arith, length_directed d (take w (drop q l)), length-take-le w (drop q l) (omega (arith, length-drop q l)))

  pub copy_two : out ≡ sets out₀ at front → last ≡ sets out (at + w) back → last ≡ sets out₀ at (directed d (take m (drop q l)))
  copy_two e f =
      f ∙ ap₂ (λ (z : List ℕ) (k : ℕ). sets z k back) e long
      ∙ sym (ap (sets out₀ at) (cut l q m w d h) ∙ sets_append front back out₀ at)

-- i bytes are copied
pub record Copying (l : List ℕ) (d : Bool) (out₀ out : List ℕ) (i : ℕ) : Type 0 where
  pub few : i ≤ length l
  pub wrote : Walk (directed d l) (directed d (drop i l)) out₀ 0 out i

pub copy_start : (l : List ℕ) (d : Bool) (out : List ℕ) → Copying l d out out 0
copy_start l d out = record { few = omega arith; wrote = walk_start (directed d l) out 0 }

module _ {l : List ℕ} {d : Bool} {out₀ out : List ℕ} {i : ℕ} (t : Copying l d out₀ out i) where
  -- what is left begins with the next w bytes
  step : (w : ℕ) → directed d (drop i l) ≡ directed d (take w (drop i l)) ++ directed d (drop (i + w) l)
  step w =
      sym (directed_cut d w (drop i l))
      ∙ ap (λ (z : List ℕ). directed d (take w (drop i l)) ++ directed d z) (drop-drop w i l)

  -- a piece of w bytes more
  copy_piece : (w : ℕ) (piece : List ℕ) → i + w ≤ length l → piece ≡ directed d (take w (drop i l)) → Copying l d out₀ (sets out i piece) (i + w)
  copy_piece w piece h e = record {
    few = h;
    wrote =
        walk_piece w piece (directed d (drop (i + w) l)) t.wrote (step w ∙ ap (λ (z : List ℕ). z ++ directed d (drop (i + w) l)) (sym e))
        (ap length e ∙ length_directed d (take w (drop i l)) ∙ length-take-le w (drop i l) (omega (arith, length-drop i l)));
  }

  -- a word, read, turned and stored
  pub copy_word : (w x y : ℕ) → i + w ≤ length l → ((j : ℕ) → get_or l j 0 < 256) → x ≡ low (take w (drop i l))
      → low_bytes w y ≡ directed d (low_bytes w x) → Copying l d out₀ (sets out i (low_bytes w y)) (i + w)
  copy_word w x y h b e f = copy_piece w (low_bytes w y) h (f ∙ ap (directed d) (read_back w l i x b h e))

  -- a byte
  pub copy_byte : (y : ℕ) → i < length l → y ≡ get_or (directed d l) i 0 → Copying l d out₀ (set out i y) (i + 1)
  copy_byte y h e =
      copy_piece 1 (y ∷ []) (omega arith)
      (ap (λ (k : ℕ). k ∷ []) e
      ∙ sym (ap (take 1) (drop-cons (directed d l) i 0 (omega (arith, length_directed d l))))
      ∙ ap (take 1) (sym (directed_drop d i l)) ∙ sym (directed_take d 1 (drop i l)))

  -- all are
  pub copy_end : length l ≤ i → length out₀ ≡ length l → out ≡ directed d l
  copy_end h room =
      (walk_end t.wrote (ap (directed d) (drop_of_length-le l {i = i} h) ∙ directed_none d)).1
      ∙ sets_whole (directed d l) out₀ (room ∙ sym (length_directed d l))
