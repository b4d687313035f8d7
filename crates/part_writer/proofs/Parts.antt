-- Intervals: part after part, each keyed as a signed number. Assumes nothing.
use Prim.Native.Nat.{ℕ, ◌+◌, ◌-◌, ◌≤◌}
use mathlib.Core.Path.{◌≡◌, ap, ap₂, ◌∙◌}
use mathlib.Core.Bool.{Bool}
use mathlib.Core.List.{List, [], ◌∷◌, ◌++◌}
use native.Mathlib.Omega.{arith}
use lib.ListN.{length, take, drop, length-drop}
use lib.Seq.{take-take, drop-drop, length-take-le}
use Rattle.format.specs.Key.{parts_key, signed_key}
use Rattle.format.specs.Field.{directed}
use Rattle.basics.specs.Wrote.{Wrote}
use Rattle.basics.proofs.Append.{Walk}
use Rattle.basics.proofs.Bytes.{long_signed}
use Rattle.laws.proofs.Directed.{length_directed, directed_none, directed_append}
use Rattle.number.proofs.Tops.{drop_take}
use Rattle.runs.proofs.Written.{walk_step, walk_wrote}

module _ (d : Bool) (s : List ℕ) where
  -- the keys of the parts ns of the m bytes from a place on
  abbrev pub keyed : List ℕ → ℕ → ℕ → List ℕ
  keyed ns m from = directed d (parts_key ns (take m (drop from s)))

  -- a part by itself
  abbrev pub part : ℕ → ℕ → List ℕ
  part n from = directed d (signed_key (take n (drop from s)))

  -- it takes n bytes
  pub part_place : (n from at : ℕ) {next : ℕ} → from + n ≤ length s → next ≡ at + length (part n from) → next ≡ at + n
  part_place n from at inside e = omega (arith, long)
    where
      long : length (part n from) ≡ n
      long =
          length_directed d (signed_key (take n (drop from s))) ∙ long_signed (take n (drop from s))
          ∙ length-take-le n (drop from s) (omega (arith, length-drop from s))

  -- the first part of n bytes, and the others, which stand after it
  module _ (n : ℕ) (ns : List ℕ) (m from to : ℕ) (h : n ≤ m) (j : from + n ≡ to) where
    parted : keyed (n ∷ ns) m from ≡ part n from ++ keyed ns (m - n) to
    parted =
        directed_append d (signed_key (take n (take m (drop from s)))) (parts_key ns (drop n (take m (drop from s))))
        ∙ ap₂ (λ (f g : List ℕ). directed d (signed_key f) ++ directed d (parts_key ns g)) (take-take n m (drop from s) h)
        (drop_take n m (drop from s) h ∙ ap (take (m - n)) (drop-drop n from s ∙ ap (λ (k : ℕ). drop k s) j))

    -- it is written
    pub parts_more : {whole out₀ : List ℕ} {at₀ : ℕ} {out : List ℕ} {at : ℕ} {last : List ℕ} {next : ℕ}
        → Walk whole (keyed (n ∷ ns) m from) out₀ at₀ out at → Wrote (part n from) at out last next → Walk whole (keyed ns (m - n) to) out₀ at₀ last next
    parts_more t p = walk_step t (part n from) (keyed ns (m - n) to) parted p

  -- none is left
  pub parts_end : (m from : ℕ) {whole out₀ : List ℕ} {at₀ : ℕ} {out : List ℕ} {at : ℕ} → Walk whole (keyed [] m from) out₀ at₀ out at
      → Wrote whole at₀ out₀ out at
  parts_end m from t = walk_wrote t (directed_none d)
