-- `sheet_lengths::variable_length` meets its contract: a null takes one byte, and a value lies between its ends. Assumes
-- nothing.
use Prim.Native.Nat.{ℕ, ◌+◌, ◌-◌, ◌≤◌}
use mathlib.Core.Path.{◌≡◌, sym, ap, ◌∙◌}
use mathlib.Core.Bool.{false}
use mathlib.Core.List.{List}
use native.Mathlib.Omega.{arith}
use lib.ListN.{length, take, drop}
use Rattle.format.specs.Limits.{max_slot}
use Rattle.format.specs.Sheet.{ended, packed, end}
use Rattle.laws.proofs.Parts.{part_rest}
use Rattle.laws.proofs.Sheets.{valid_bytes}
use Rattle.sheet_lengths.proofs.Measures.{ends_room, null_length, value_length, apart}
use Rattle.sheet_lengths.proofs.variable_length.Goals as goal

pub bit-requires : goal.bit-requires
bit-requires c = omega (arith, (let the_valid : packed c.args.n ≤ length c.args.part.now = valid_bytes false ended c.args.n c.args.part.now c.requires.passes in the_valid), c.requires.n_le_max_rows)

pub slice_bounds-values-count : goal.slice_bounds-values-count
slice_bounds-values-count c = omega (arith, (let the_valid : packed c.args.n ≤ length c.args.part.now = valid_bytes false ended c.args.n c.args.part.now c.requires.passes in the_valid))

pub slice_bounds-values-start : goal.slice_bounds-values-start
slice_bounds-values-start c = omega (arith, (let the_valid : packed c.args.n ≤ length c.args.part.now = valid_bytes false ended c.args.n c.args.part.now c.requires.passes in the_valid))

pub end_at-requires : goal.end_at-requires
end_at-requires c =
    rw ((let the_rest : take (length c.args.part.now - c.packed-valid.result) (drop c.packed-valid.result c.args.part.now) ≡ (drop (packed c.args.n) c.args.part.now) = let a = c.args in
    part_rest a.part.now c.packed-valid.result ∙ ap (λ (k : ℕ). drop k a.part.now) c.packed-valid.ensures.0 in the_rest)) (omega (arith, ends_room c.args.n c.args.part.now c.requires.passes, c.requires.n_le_max_rows))

pub end_at-requires-then-bit : goal.end_at-requires-then-bit
end_at-requires-then-bit c =
    rw ((let the_rest : take (length c.args.part.now - c.packed-valid.result) (drop c.packed-valid.result c.args.part.now) ≡ (drop (packed c.args.n) c.args.part.now) = let a = c.args in
    part_rest a.part.now c.packed-valid.result ∙ ap (λ (k : ℕ). drop k a.part.now) c.packed-valid.ensures.0 in the_rest)) (omega (arith, ends_room c.args.n c.args.part.now c.requires.passes, c.requires.n_le_max_rows))

pub overflow_sub-end_at : goal.overflow_sub-end_at
overflow_sub-end_at c =
    ((let the_distance : (c.end_at-then-bit.result ≤ c.end_at.result) × (c.end_at.result - c.end_at-then-bit.result ≤ max_slot) = apart c.args.n c.args.part.now c.requires.passes _ c.requires.n_le_max_rows.1 _ _ ((let the_from : c.end_at-then-bit.result ≡ end ((drop (packed c.args.n) c.args.part.now)) c.args.row = c.end_at-then-bit.ensures.0 ∙ ap (λ (s : List ℕ). end s c.args.row) ((let the_rest : take (length c.args.part.now - c.packed-valid.result) (drop c.packed-valid.result c.args.part.now) ≡ (drop (packed c.args.n) c.args.part.now) = let a = c.args in
    part_rest a.part.now c.packed-valid.result ∙ ap (λ (k : ℕ). drop k a.part.now) c.packed-valid.ensures.0 in the_rest)) in the_from)) ((let the_to : c.end_at.result ≡ end ((drop (packed c.args.n) c.args.part.now)) (c.args.row + 1) = c.end_at.ensures.0 ∙ ap (λ (s : List ℕ). end s (c.args.row + 1)) ((let the_rest : take (length c.args.part.now - c.packed-valid.result) (drop c.packed-valid.result c.args.part.now) ≡ (drop (packed c.args.n) c.args.part.now) = let a = c.args in
    part_rest a.part.now c.packed-valid.result ∙ ap (λ (k : ℕ). drop k a.part.now) c.packed-valid.ensures.0 in the_rest)) in the_to)) in the_distance)).0

pub padded_length-requires : goal.padded_length-requires
padded_length-requires c =
    ((let the_distance : (c.end_at-then-bit.result ≤ c.end_at.result) × (c.end_at.result - c.end_at-then-bit.result ≤ max_slot) = apart c.args.n c.args.part.now c.requires.passes _ c.requires.n_le_max_rows.1 _ _ ((let the_from : c.end_at-then-bit.result ≡ end ((drop (packed c.args.n) c.args.part.now)) c.args.row = c.end_at-then-bit.ensures.0 ∙ ap (λ (s : List ℕ). end s c.args.row) ((let the_rest : take (length c.args.part.now - c.packed-valid.result) (drop c.packed-valid.result c.args.part.now) ≡ (drop (packed c.args.n) c.args.part.now) = let a = c.args in
    part_rest a.part.now c.packed-valid.result ∙ ap (λ (k : ℕ). drop k a.part.now) c.packed-valid.ensures.0 in the_rest)) in the_from)) ((let the_to : c.end_at.result ≡ end ((drop (packed c.args.n) c.args.part.now)) (c.args.row + 1) = c.end_at.ensures.0 ∙ ap (λ (s : List ℕ). end s (c.args.row + 1)) ((let the_rest : take (length c.args.part.now - c.packed-valid.result) (drop c.packed-valid.result c.args.part.now) ≡ (drop (packed c.args.n) c.args.part.now) = let a = c.args in
    part_rest a.part.now c.packed-valid.result ∙ ap (λ (k : ℕ). drop k a.part.now) c.packed-valid.ensures.0 in the_rest)) in the_to)) in the_distance)).1

pub returns-then-bit : goal.returns-then-bit
returns-then-bit c =
    c.padded_length.ensures ∙ value_length _ _ c.requires.passes _ c.requires.n_le_max_rows.1 (sym c.bit.ensures ∙ c.if-bit.true) _ _ ((let the_from : c.end_at-then-bit.result ≡ end ((drop (packed c.args.n) c.args.part.now)) c.args.row = c.end_at-then-bit.ensures.0 ∙ ap (λ (s : List ℕ). end s c.args.row) ((let the_rest : take (length c.args.part.now - c.packed-valid.result) (drop c.packed-valid.result c.args.part.now) ≡ (drop (packed c.args.n) c.args.part.now) = let a = c.args in
    part_rest a.part.now c.packed-valid.result ∙ ap (λ (k : ℕ). drop k a.part.now) c.packed-valid.ensures.0 in the_rest)) in the_from)) ((let the_to : c.end_at.result ≡ end ((drop (packed c.args.n) c.args.part.now)) (c.args.row + 1) = c.end_at.ensures.0 ∙ ap (λ (s : List ℕ). end s (c.args.row + 1)) ((let the_rest : take (length c.args.part.now - c.packed-valid.result) (drop c.packed-valid.result c.args.part.now) ≡ (drop (packed c.args.n) c.args.part.now) = let a = c.args in
    part_rest a.part.now c.packed-valid.result ∙ ap (λ (k : ℕ). drop k a.part.now) c.packed-valid.ensures.0 in the_rest)) in the_to))

pub returns : goal.returns
returns c =
    null_length c.args.n c.args.part.now c.requires.passes _ c.requires.n_le_max_rows.1 (sym c.bit.ensures ∙ c.if-bit.false)
