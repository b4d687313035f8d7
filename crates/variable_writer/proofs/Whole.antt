-- The field of a value, written part by part: the lead byte, and the blocks. Assumes nothing.
use Prim.Native.Nat.{ℕ, ◌+◌, ◌*◌, ◌/◌, ◌<◌, ◌≤◌}
use mathlib.Core.Path.{◌≡◌, subst}
use mathlib.Core.Bool.{Bool, true, false, cond}
use mathlib.Core.List.{List, [], ◌∷◌}
use native.Mathlib.Omega.{arith}
use lib.Dec.{leb}
use lib.ListN.{length}
use lib.Seq.{sets}
use Rattle.format.specs.Field.{directed, padded_length, variable_bytes}
use Rattle.basics.specs.Wrote.{Wrote}
use Rattle.basics.proofs.Append.{Walk, walk_start, walk_piece}
use Rattle.laws.proofs.Directed.{length_directed, directed_append}
use Rattle.laws.proofs.Lengths.{length_variable}
use Rattle.runs.proofs.Written.{walk_last}
use Rattle.variable_writer.specs.Even.{data_blocks}
use Rattle.variable_writer.proofs.Even.{field_empty, field_data}

module _ (val out₀ : List ℕ) (at : ℕ) (d : Bool) (fits : at + padded_length (length val) ≤ length out₀) where
  -- the whole field is written, up to a place
  abbrev Field : ℕ → List ℕ → Type 0
  Field next out = Wrote (directed d (variable_bytes val)) at out₀ out next

  -- nothing is written
  start : (f : List ℕ) → variable_bytes val ≡ f → Walk (directed d (variable_bytes val)) (directed d f) out₀ at out₀ at
  start f e =
      subst (λ (z : List ℕ). Walk (directed d (variable_bytes val)) (directed d z) out₀ at out₀ at) e (walk_start (directed d (variable_bytes val)) out₀ at)

  -- there is room for the lead byte
  pub lead_room : at < length out₀
  lead_room = omega (arith, some (leb (length val) 32))
    where
      some : (b : Bool) → 0 < cond b (1 + 9 * ((length val + 7) / 8)) (4 + 33 * ((length val + 31) / 32))
      some true = omega arith
      some false = omega arith

  pub one_empty : (out : List ℕ) → length val ≡ 0 → out ≡ sets out₀ at (directed d (1 ∷ [])) → Field (at + 1) out
  one_empty out h e =
      walk_last (start (1 ∷ []) (field_empty val h)) (record { place = omega (arith, length_directed d (1 ∷ [])); bytes = e })

  -- after the lead byte of a value that is not empty
  module _ (some_data : 0 < length val) (out₁ : List ℕ) (e₁ : out₁ ≡ sets out₀ at (directed d (2 ∷ []))) where
    led : Walk (directed d (variable_bytes val)) (directed d (data_blocks val)) out₀ at out₁ (at + 1)
    led =
        rw e₁
        (walk_piece 1 (directed d (2 ∷ [])) (directed d (data_blocks val)) (start (2 ∷ data_blocks val) (field_data val some_data))
        (directed_append d (2 ∷ []) (data_blocks val)) (length_directed d (2 ∷ [])))

    pub data_room : at + 1 + length (data_blocks val) ≤ length out₁
    data_room =
        omega (arith, led.long, led.same, length_directed d (variable_bytes val), length_variable val, length_directed d (data_blocks val))

    pub one_data : (out : List ℕ) (next : ℕ) → Wrote (directed d (data_blocks val)) (at + 1) out₁ out next → Field next out
    one_data out next p = walk_last led p
