-- Writing a block word by word, and a run of blocks. Assumes nothing.
use Prim.Native.Nat.{ℕ, suc, ◌+◌, ◌-◌, ◌<◌, ◌≤◌}
use mathlib.Core.Path.{◌≡◌, refl, sym, ap, ap₂, ◌∙◌, subst}
use mathlib.Core.Bool.{Bool}
use mathlib.Core.List.{List, [], ◌∷◌, ◌++◌, append-nil, append_assoc}
use native.Mathlib.Nat.{zero-add, sub-zero, sub-eq-zero_of_le}
use native.Mathlib.Numerals.{add-one}
use native.Mathlib.Omega.{arith}
use lib.ListN.{length, take, drop, replicate, length-append, length-drop}
use lib.Seq.{sets, length-take-le, drop-drop}
use Rattle.format.specs.Field.{block, block_size, directed}
use Rattle.format.specs.Lists.{Bytes, low, low_bytes}
use Rattle.basics.specs.Wrote.{Wrote}
use Rattle.basics.proofs.Append.{sets_append, Walk, walk_start, walk_at, walk_piece, walk_room}
use Rattle.basics.proofs.Bytes.{bytes_drop}
use Rattle.laws.proofs.Directed.{length_directed, directed_append}
use Rattle.laws.proofs.Stream.{stream, stream_last, stream_more}
use Rattle.basics.proofs.LowBytes.{length_low_bytes}
use Rattle.runs.proofs.Written.{walk_last, walk_wrote}
use Rattle.variable_writer.specs.Even.{even_blocks}
use Rattle.variable_writer.proofs.Padded.{padded, length_padded, padded_step, block_padded, word_padded}
use Rattle.variable_writer.proofs.Even.{agree, later}

-- one run of bytes after another
sets_directed : (d : Bool) (f g l : List ℕ) (i : ℕ) → sets l i (directed d (f ++ g)) ≡ sets (sets l i (directed d f)) (i + length f) (directed d g)
sets_directed d f g l i =
    ap (sets l i) (directed_append d f g)
    ∙ sets_append (directed d f) (directed d g) l i
    ∙ ap (λ (n : ℕ). sets (sets l i (directed d f)) (i + n) (directed d g)) (length_directed d f)

-- as long as its size, and the end byte
length_block : (size : ℕ) (x : List ℕ) (end : ℕ) → length x ≤ size → length (block size x end) ≡ size + 1
length_block size x end h =
    ap length (block_padded size x end h) ∙ length-append (padded size x) (end ∷ []) ∙ omega (arith, length_padded size x)

-- ---- one block

-- its bytes from place i on
abbrev pub left : List ℕ → ℕ → ℕ → Bool → ℕ → List ℕ
left x size end d i = directed d (padded (size - i) (drop i x) ++ (end ∷ []))

-- begin with a word: data, or zeros past their end
module _ (x : List ℕ) (size end : ℕ) (d : Bool) (i w word y : ℕ) (h : i + w ≤ size) (b : Bytes x) (e : word ≡ low (take w (drop i x)))
    (f : low_bytes w y ≡ directed d (low_bytes w word)) where
  is : low_bytes w y ≡ directed d (padded w (drop i x))
  is = f ∙ ap (directed d) (ap (low_bytes w) e ∙ word_padded w (drop i x) (bytes_drop i x b))

  left_word : left x size end d i ≡ low_bytes w y ++ left x size end d (i + w)
  left_word =
      ap (λ (z : List ℕ). directed d (z ++ (end ∷ []))) (padded_step size i w x h)
      ∙ ap (directed d) (append_assoc (padded w (drop i x)) (padded (size - (i + w)) (drop (i + w) x)) (end ∷ []))
      ∙ directed_append d (padded w (drop i x)) (padded (size - (i + w)) (drop (i + w) x) ++ (end ∷ []))
      ∙ ap (λ (z : List ℕ). z ++ left x size end d (i + w)) (sym is)

-- the first word, and after it the others
module _ (x : List ℕ) (size end : ℕ) (d : Bool) (out₀ out last : List ℕ) (at w word y : ℕ) (h : length x ≤ size) (k : w ≤ size) (b : Bytes x)
    (e : word ≡ low (take w x)) (f : low_bytes w y ≡ directed d (low_bytes w word)) where
  whole_block : low_bytes w y ++ left x size end d w ≡ directed d (block size x end)
  whole_block =
      ap (λ (n : ℕ). low_bytes w y ++ left x size end d n) (sym (zero-add w))
      ∙ sym (left_word x size end d 0 w word y (omega arith) b e f)
      ∙ ap (λ (n : ℕ). directed d (padded n x ++ (end ∷ []))) (sub-zero size)
      ∙ ap (directed d) (sym (block_padded size x end h))

  pub fill_whole : out ≡ sets out₀ at (low_bytes w y) → last ≡ sets out (at + w) (left x size end d w) → last ≡ sets out₀ at (directed d (block size x end))
  fill_whole g l =
      l ∙ ap₂ (λ (n : ℕ) (z : List ℕ). sets z (at + n) (left x size end d w)) (sym (length_low_bytes w y)) g
      ∙ sym (sets_append (low_bytes w y) (left x size end d w) out₀ at) ∙ ap (sets out₀ at) whole_block

-- from place j on, the bytes before place i are written
pub record Filling (x : List ℕ) (size end : ℕ) (d : Bool) (j : ℕ) (out₀ : List ℕ) (at : ℕ) (out : List ℕ) (i : ℕ) : Type 0 where
  pub few : i ≤ size
  pub wrote : Walk (left x size end d j) (left x size end d i) out₀ (at + j) out (at + i)

pub fill_start : (x : List ℕ) (size end : ℕ) (d : Bool) (j : ℕ) (out : List ℕ) (at : ℕ) → j ≤ size → Filling x size end d j out at out j
fill_start x size end d j out at h = record { few = h; wrote = walk_start (left x size end d j) out (at + j) }

module _ {x : List ℕ} {size end : ℕ} {d : Bool} {j : ℕ} {out₀ : List ℕ} {at : ℕ} {out : List ℕ} {i : ℕ}
    (t : Filling x size end d j out₀ at out i) where
  -- a word more
  pub fill_word : (w word y : ℕ) → i + w ≤ size → Bytes x → word ≡ low (take w (drop i x)) → low_bytes w y ≡ directed d (low_bytes w word)
      → Filling x size end d j out₀ at (sets out (at + i) (low_bytes w y)) (i + w)
  fill_word w word y h b e f = record {
    few = h;
    wrote =
        walk_at (at + (i + w))
        (walk_piece w (low_bytes w y) (left x size end d (i + w)) t.wrote (left_word x size end d i w word y h b e f) (length_low_bytes w y))
        (omega arith);
  }

  -- the end byte
  pub fill_end : (last : List ℕ) → size ≤ i → last ≡ sets out (at + size) (directed d (end ∷ [])) → last ≡ sets out₀ (at + j) (left x size end d j)
  fill_end last h e =
      e ∙ ap₂ (λ (k : ℕ) (z : List ℕ). sets out (at + k) (directed d (z ++ (end ∷ [])))) {x = size} {y = i} (omega (arith, t.few))
      (sym (ap (λ (k : ℕ). padded k (drop i x)) (sub-eq-zero_of_le h)))
      ∙ t.wrote.says

-- a block that is all data, and the end byte after it
pub fill_full : (x : List ℕ) (size end : ℕ) (d : Bool) (out₀ out last : List ℕ) (at : ℕ) → length x ≡ size → out ≡ sets out₀ at (directed d x)
    → last ≡ sets out (at + size) (directed d (end ∷ [])) → last ≡ sets out₀ at (directed d (block size x end))
fill_full x size end d out₀ out last at h e f =
    f ∙ ap₂ (λ (k : ℕ) (z : List ℕ). sets z (at + k) (directed d (end ∷ []))) (sym h) e
    ∙ sym (sets_directed d x (end ∷ []) out₀ at)
    ∙ ap (λ (z : List ℕ). sets out₀ at (directed d (z ++ (end ∷ [])))) (sym full)
  where
    full : x ++ replicate (size - length x) 0 ≡ x
    full = ap (λ (k : ℕ). x ++ replicate k 0) {x = size - length x} {y = 0} (omega arith) ∙ append-nil x

-- ---- a run of blocks

-- the blocks before block k are written, and the value is left from place i on
pub record Spreading (size : ℕ → ℕ) (whole val : List ℕ) (d : Bool) (out₀ : List ℕ) (at : ℕ) (out : List ℕ) (place k i : ℕ) : Type 0 where
  pub some_left : i < length val
  pub wrote : Walk (directed d whole) (directed d (stream size k 0 (drop i val))) out₀ at out place

pub spread_start : (size : ℕ → ℕ) (whole val : List ℕ) (d : Bool) (out : List ℕ) (at k i : ℕ) → i < length val → whole ≡ stream size k 0 (drop i val)
    → Spreading size whole val d out at out at k i
spread_start size whole val d out at k i h e = record {
  some_left = h;
  wrote = subst (λ (z : List ℕ). Walk (directed d whole) (directed d z) out at out at) e (walk_start (directed d whole) out at);
}

module _ {size : ℕ → ℕ} {whole val : List ℕ} {d : Bool} {out₀ : List ℕ} {at : ℕ} {out : List ℕ} {place k i : ℕ}
    (t : Spreading size whole val d out₀ at out place k i) (s : ℕ) (e : size k ≡ s) where
  -- a full block, and what follows
  module _ (room : (j : ℕ) → 0 < size j) (h : s < length val - i) where
    abbrev full : List ℕ
    full = block s (take s (drop i val)) 255

    abbrev after : List ℕ
    after = directed d (stream size (suc k) 0 (drop (i + s) val))

    parted : directed d (stream size k 0 (drop i val)) ≡ directed d full ++ after
    parted =
        ap (directed d)
        (stream_more size room (drop i val) k (omega (arith, e, length-drop i val))
        ∙ ap (λ (n : ℕ). block n (take n (drop i val)) 255 ++ stream size (suc k) 0 (drop n (drop i val))) e)
        ∙ directed_append d full (stream size (suc k) 0 (drop s (drop i val)))
        ∙ ap (λ (z : List ℕ). directed d full ++ directed d (stream size (suc k) 0 z)) (drop-drop s i val)

    long : length (directed d full) ≡ s + 1
    long =
        length_directed d full
        ∙ length_block s (take s (drop i val)) 255 (omega (arith, length-take-le s (drop i val) (omega (arith, length-drop i val))))

    -- there is room for it, and the walk goes on
    pub more_room : at + length whole ≤ length out₀ → place + s < length out
    more_room fits = omega (arith, long, walk_room t.wrote (directed d full) after parted (omega (arith, length_directed d whole)))

    pub spread_more : (next : List ℕ) → next ≡ sets out place (directed d (block s (take s (drop i val)) 255))
        → Spreading size whole val d out₀ at next (place + (s + 1)) (k + 1) (i + s)
    spread_more next f = record {
      some_left = omega arith;
      wrote = rw (f, add-one k) (walk_piece (s + 1) (directed d full) after t.wrote parted long);
    }

  -- the last block
  module _ (h : length val - i ≤ s) where
    abbrev end : List ℕ
    end = block s (drop i val) (length val - i)

    ended : directed d (stream size k 0 (drop i val)) ≡ directed d end ++ []
    ended =
        ap (directed d)
        (stream_last size (drop i val) k (omega (arith, e, length-drop i val))
        ∙ ap₂ (λ (n m : ℕ). block n (drop i val) m) e (length-drop i val))
        ∙ sym (append-nil (directed d end))

    last : length (directed d end) ≡ s + 1
    last = length_directed d end ∙ length_block s (drop i val) (length val - i) (omega (arith, length-drop i val))

    -- there is room for it, and the walk ends
    pub last_room : at + length whole ≤ length out₀ → place + s < length out
    last_room fits = omega (arith, last, walk_room t.wrote (directed d end) [] ended (omega (arith, length_directed d whole)))

    pub spread_end : (out' : List ℕ) → out' ≡ sets out place (directed d (block s (drop i val) (length val - i)))
        → Wrote (directed d whole) at out₀ out' (place + s + 1)
    spread_end out' f =
        rw f (walk_wrote (walk_at (place + s + 1) (walk_piece (s + 1) (directed d end) [] t.wrote ended last) (omega arith)) refl)

-- blocks of one size: their number does not matter
pub spread_even : {s : ℕ} {whole val : List ℕ} {d : Bool} {out₀ : List ℕ} {at : ℕ} {out : List ℕ} {place k i : ℕ}
    → Spreading (λ _. s) whole val d out₀ at out place k i → Spreading (λ _. s) whole val d out₀ at out place 0 i
spread_even {s} {whole} {val} {d} {out₀} {at} {out} {place} {k} {i} t = record {
  some_left = t.some_left;
  wrote =
      subst (λ (z : List ℕ). Walk (directed d whole) (directed d z) out₀ at out place) (agree (λ _. s) s (drop i val) k 0 0 (λ j p. refl)) t.wrote;
}

-- the later blocks of a value: there is room for them, and with them all is written
module _ {whole val : List ℕ} {d : Bool} {out₀ : List ℕ} {at : ℕ} {out : List ℕ} {place k i : ℕ} (t : Spreading block_size whole val d out₀ at out place k i)
    (e : k ≡ 4) where
  abbrev others : List ℕ
  others = even_blocks 32 (drop i val)

  four : Walk (directed d whole) (directed d others) out₀ at out place
  four =
      subst (λ (z : List ℕ). Walk (directed d whole) (directed d z) out₀ at out place)
      (ap (λ (j : ℕ). stream block_size j 0 (drop i val)) e ∙ later (drop i val) (omega (arith, t.some_left, length-drop i val))) t.wrote

  pub later_room : at + length whole ≤ length out₀ → place + length (even_blocks 32 (drop i val)) ≤ length out
  later_room fits = omega (arith, four.long, four.same, length_directed d whole, length_directed d others)

  pub spread_later : (out' : List ℕ) (next : ℕ) → Wrote (directed d (even_blocks 32 (drop i val))) place out out' next
      → Wrote (directed d whole) at out₀ out' next
  spread_later out' next p = walk_last four p
