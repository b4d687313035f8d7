-- Walks by what their calls have written. Assumes nothing.
use Prim.Native.Nat.{ℕ}
use mathlib.Core.Path.{◌≡◌, sym, ◌∙◌}
use mathlib.Core.List.{List, [], ◌++◌}
use Rattle.basics.specs.Wrote.{Wrote}
use Rattle.basics.proofs.Append.{Walk, walk_at, walk_more, walk_end}

module _ {whole rest out₀ : List ℕ} {at₀ : ℕ} {out : List ℕ} {at : ℕ} (t : Walk whole rest out₀ at₀ out at) where
  -- a piece more is written
  pub walk_step : (piece rest' : List ℕ) {last : List ℕ} {next : ℕ} → rest ≡ piece ++ rest' → Wrote piece at out last next
      → Walk whole rest' out₀ at₀ last next
  walk_step piece rest' e p = rw p.bytes (walk_at _ (walk_more t piece rest' e) (sym p.place))

  -- what is left is written
  pub walk_last : {last : List ℕ} {next : ℕ} → Wrote rest at out last next → Wrote whole at₀ out₀ last next
  walk_last p = record { place = p.place ∙ t.long; bytes = p.bytes ∙ t.says }

  -- nothing is left
  pub walk_wrote : rest ≡ [] → Wrote whole at₀ out₀ out at
  walk_wrote e = let w = walk_end t e in record { place = w.0; bytes = w.1 }
