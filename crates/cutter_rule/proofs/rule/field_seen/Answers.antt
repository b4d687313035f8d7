-- `cutter_rule::rule::field_seen` meets its contract. Assumes nothing.
use Prim.Native.Nat.{ℕ, ◌≤◌}
use mathlib.Core.Path.{◌≡◌, ap, subst}
use native.Mathlib.Omega.{arith}
use Rattle.format.specs.declared.Spot.{Spot}
use Rattle.format.specs.declared.Spot.TheVariants.{Block}
use Rattle.format.specs.CutterRule.{field_seen}
use Rattle.block_moves.proofs.Marks.{block_numbers}
use Rattle.cutter_rule.specs.Standing.{Small}
use Rattle.cutter_rule.proofs.rule.field_seen.Goals as goal

-- the matched case j of a spot
small : {spot j : Spot} → Small spot → spot ≡ j → Small j
small h e = subst Small e h

-- the numbers of a block
sized : (spot : Spot) (k seen marks : ℕ) → Small spot → spot ≡ Block k seen marks → (k ≤ 2050) × (seen ≤ 32)
sized spot k seen marks h e = let s = small h e in (block_numbers k s.0, s.1)

pub overflow_add-result : goal.overflow_add-result
overflow_add-result c = omega (arith, small c.requires c.in-Nulls.is)

pub overflow_add-result-in-Value : goal.overflow_add-result-in-Value
overflow_add-result-in-Value c = omega (arith, small c.requires c.in-Value.is)

pub bytes_before-requires : goal.bytes_before-requires
bytes_before-requires c = (small c.requires c.in-Block.is).0

pub overflow_add-result-in-Block : goal.overflow_add-result-in-Block
overflow_add-result-in-Block c = omega (arith, small c.requires c.in-Block.is, sized _ _ _ _ c.requires c.in-Block.is)

pub overflow_add-result-in-Block-2 : goal.overflow_add-result-in-Block-2
overflow_add-result-in-Block-2 c = omega (arith, small c.requires c.in-Block.is, sized _ _ _ _ c.requires c.in-Block.is)

pub overflow_add-result-in-Block-3 : goal.overflow_add-result-in-Block-3
overflow_add-result-in-Block-3 c = omega (arith, small c.requires c.in-Block.is, sized _ _ _ _ c.requires c.in-Block.is)

pub returns-in-Nulls : goal.returns-in-Nulls
returns-in-Nulls c = (omega (arith, ap field_seen c.in-Nulls.is), omega (arith, small c.requires c.in-Nulls.is))

pub returns-in-Value : goal.returns-in-Value
returns-in-Value c = (omega (arith, ap field_seen c.in-Value.is), omega (arith, small c.requires c.in-Value.is))

pub returns-in-Block : goal.returns-in-Block
returns-in-Block c =
    (omega (arith, ap field_seen c.in-Block.is), omega (arith, small c.requires c.in-Block.is, sized _ _ _ _ c.requires c.in-Block.is))
