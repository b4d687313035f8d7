-- Codes, written one after the other: those of columns. Assumes nothing.
use Prim.Native.Nat.{ℕ, ◌+◌, ◌*◌, ◌<◌, ◌≤◌}
use mathlib.Core.Path.{◌≡◌, refl, sym, ap, subst, ◌∙◌}
use mathlib.Core.List.{List}
use native.Mathlib.Omega.{arith}
use lib.ListN.{length, get_or}
use lib.Seq.{sets}
use Rattle.format.specs.declared.Column.{Column}
use Rattle.format.specs.Lists.{each, joined, over}
use Rattle.format.specs.Schemas.{no_column}
use Rattle.format.specs.Described.{code, codes}
use Rattle.basics.proofs.Append.{Turns, over_sets, turns_more, turns_end}
use Rattle.basics.proofs.Lists.{every_each, length_each, length_joined, map_is}

abbrev piece : List Column → ℕ → List ℕ
piece cs j = code (get_or cs j no_column)

-- so many codes are written
abbrev pub Put : List Column → ℕ → List ℕ → List ℕ → ℕ → Type 0
Put cs count out₀ out i = Turns (piece cs) count out₀ 0 out (4 * i) i

pub put_more : (cs : List Column) (count : ℕ) (out₀ out out' : List ℕ) (i : ℕ) → Put cs count out₀ out i → i < count
    → out' ≡ sets out (4 * i) (code (get_or cs i no_column)) → Put cs count out₀ out' (i + 1)
put_more cs count out₀ out out' i t h e =
    subst (λ (at : ℕ). Turns (piece cs) count out₀ 0 out' at (i + 1)) {x = 4 * i + 4} {y = 4 * (i + 1)} (omega arith)
    (subst (λ (o : List ℕ). Turns (piece cs) count out₀ 0 o (4 * i + 4) (i + 1)) (sym e) (turns_more (piece cs) count out₀ 0 out (4 * i) i t 4 h refl))

module _ (cs : List Column) where
  each_code : codes cs ≡ joined (each 0 (length cs) (piece cs))
  each_code = ap joined (map_is code cs no_column)

  four_each : length (joined (each 0 (length cs) (piece cs))) ≡ 4 * length cs
  four_each =
      length_joined 4 (each 0 (length cs) (piece cs)) (every_each (λ x. length x ≡ 4) 0 (length cs) (piece cs) (λ j _ _. refl))
      ∙ omega (arith, length_each 0 (length cs) (piece cs))

  pub put_end : (out₀ out : List ℕ) (i : ℕ) → Put cs (length cs) out₀ out i → length cs ≤ i → 4 * length cs ≤ length out₀ → out ≡ over (codes cs) out₀
  put_end out₀ out i t h fits =
      (turns_end (piece cs) (length cs) out₀ 0 out (4 * i) i t h).1
      ∙ ap (sets out₀ 0) (sym each_code)
      ∙ sym (over_sets (codes cs) out₀ (omega (arith, ap length each_code, four_each)))
