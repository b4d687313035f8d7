-- A signed number word by word: its value bytes turned back from the lowest word, which stands last, up to the top one, which has
-- the sign. Over the count of words. Assumes nothing.
use Prim.Native.Nat.{ℕ, ◌+◌, ◌*◌, ◌<◌, ◌≤◌}
use mathlib.Core.Path.{◌≡◌, sym, ap, ◌∙◌}
use mathlib.Core.Bool.{Bool}
use mathlib.Core.List.{List, ◌++◌, reverse}
use native.Mathlib.Omega.{arith}
use lib.ListN.{length, take, drop, length-drop, length-reverse}
use lib.Seq.{sets, length-take-le}
use Rattle.format.specs.Key.{signed_unkey}
use Rattle.format.specs.Field.{directed}
use Rattle.basics.proofs.Append.{Walk, walk_piece}
use Rattle.laws.proofs.Directed.{length_directed, directed_append}
use Rattle.laws.proofs.TopWord.{words_apart, unsign_apart}

module _ (d : Bool) (row : List ℕ) (from : ℕ) where
  -- the value bytes of the n first words, and those of the word after them
  abbrev first : ℕ → List ℕ
  first n = directed d (take (8 * n) (drop from row))

  abbrev word : ℕ → List ℕ
  word n = directed d (take 8 (drop (from + 8 * n) row))

  -- the n first words turned back
  abbrev pub unkeyed : ℕ → List ℕ
  unkeyed n = signed_unkey (first n)

  -- of so many words the first `left` are left to be written
  pub record Left (words : ℕ) (out₀ : List ℕ) (at : ℕ) (out : List ℕ) (left place : ℕ) : Type 0 where
    pub some : 1 ≤ left
    pub few : left ≤ words
    pub room : place + 8 * left ≡ at + 8 * words
    pub wrote : Walk (unkeyed words) (unkeyed left) out₀ at out place

  -- m words are n of them, one at least, and one after them, which is written
  pub words_more : (m n : ℕ) → m ≡ n + 1 → 0 < n → from + 8 * m ≤ length row → {whole out₀ : List ℕ} {at₀ : ℕ} {out : List ℕ} {at : ℕ} {last : List ℕ}
      → Walk whole (unkeyed m) out₀ at₀ out at → last ≡ sets out at (reverse (word n)) → Walk whole (unkeyed n) out₀ at₀ last (at + 8)
  words_more m n e h inside t p = rw p (walk_piece 8 (reverse (word n)) (unkeyed n) t parted (length-reverse (word n) ∙ long 8 (from + 8 * n) (omega arith)))
    where
      long : (k to : ℕ) → to + k ≤ length row → length (directed d (take k (drop to row))) ≡ k
      long k to i = length_directed d (take k (drop to row)) ∙ length-take-le k (drop to row) (omega (arith, length-drop to row))

      parted : unkeyed m ≡ reverse (word n) ++ unkeyed n
      parted =
          ap signed_unkey
          (ap (directed d) (words_apart m n e row from) ∙ directed_append d (take (8 * n) (drop from row)) (take 8 (drop (from + 8 * n) row)))
          ∙ unsign_apart (first n) (word n) (omega (arith, long (8 * n) from (omega arith)))

  -- the top word is left, and written
  pub words_end : (n : ℕ) → n ≡ 1 → {whole out₀ : List ℕ} {at₀ : ℕ} {out : List ℕ} {at : ℕ} {last : List ℕ}
      → Walk whole (unkeyed n) out₀ at₀ out at → last ≡ sets out at (unkeyed 1) → last ≡ sets out₀ at₀ whole
  words_end n e {out} {at} t p = p ∙ ap (λ (k : ℕ). sets out at (unkeyed k)) (sym e) ∙ t.says
