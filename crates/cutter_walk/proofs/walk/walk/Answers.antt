-- `cutter_walk::walk::walk` meets its contract: bytes, fields, bytes. Assumes nothing.
use Prim.Native.Nat.{ℕ}
use mathlib.Core.Path.{◌≡◌}
use mathlib.Core.Logic.{⊎_elim}
use mathlib.Core.List.{List}
use native.Mathlib.Omega.{arith}
use Rattle.format.specs.declared.Schema.{Schema}
use Rattle.std.specs.declared.result.Result.TheVariants.{Ok}
use Rattle.basics.proofs.Bytes.{bytes_of}
use Rattle.laws.proofs.InUse.{columns_room}
use Rattle.cutter_step.specs.declared.Place.{Place}
use Rattle.cutter_walk.specs.declared.Walked.{Walked}
use Rattle.cutter_walk.specs.Walks.{Walking, Goes}
use Rattle.cutter_walk.proofs.Walking.{walking_kept, first_part, part_passed}
use Rattle.cutter_walk.proofs.walk.walk.Goals as goal

-- parts that went on
module _ (schema : Schema) (p : Place) (piece ends : List ℕ) (r : Walked) (list : List ℕ) (g : Goes schema p piece 0 0 ends r list) (e : r.check ≡ Ok tt) where
  first : Walking schema p piece ends r.place r.ends r.read list
  first = part_passed r.check schema p piece ends r list e (first_part schema p piece ends r list g)

  second : (q : Walked) (list' : List ℕ) → Goes schema r.place piece r.read r.ends list q list' → q.check ≡ Ok tt
      → Walking schema p piece ends q.place q.ends q.read list'
  second q list' h f = part_passed q.check schema p piece ends q list' f (h p ends first)

pub returns-in-Err-clause-walked_on : goal.returns-in-Err-clause-walked_on
returns-in-Err-clause-walked_on c = first_part _ _ _ _ _ _ c.by_bytes-first.ensures.goes

pub returns-then-piece-from-clause-walked_on : goal.returns-then-piece-from-clause-walked_on
returns-then-piece-from-clause-walked_on c = first_part _ _ _ _ _ _ c.by_bytes-first.ensures.goes

pub returns-then-ends-first : goal.returns-then-ends-first
returns-then-ends-first c =
    let a = c.args in
    let w = first a.schema a.place a.piece.now a.ends.now _ _ c.by_bytes-first.ensures.goes c.in_default.is in
    record { walked_on = first_part _ _ _ _ _ _ c.by_bytes-first.ensures.goes; ends_len_bound = λ e l. omega (arith, w.long) }

pub by_fields-next-requires : goal.by_fields-next-requires
by_fields-next-requires c =
    let a = c.args in
    let w = first a.schema a.place a.piece.now a.ends.now _ _ c.by_bytes-first.ensures.goes c.in_default.is in
    record {
      place_value = walking_kept (bytes_of a.piece.now (λ i. (c.type_inv.piece i).fits)) (columns_room a.schema c.well_formed.0) c.requires w;
      spot_value = ⊎_elim (λ full. absurd (omega (arith, full, w.long))) (λ s. s) (c.by_bytes-first.ensures.halts c.in_default.is c.if-piece-from.false);
      found_le_from = w.few;
      from_in_bounds = w.within;
    }

pub returns-in-Err-check-clause-walked_on : goal.returns-in-Err-check-clause-walked_on
returns-in-Err-check-clause-walked_on c =
    let a = c.args in
    c.by_fields-next.ensures a.place a.ends.now (first a.schema a.place a.piece.now a.ends.now _ _ c.by_bytes-first.ensures.goes c.in_default.is)

pub by_bytes-requires : goal.by_bytes-requires
by_bytes-requires c =
    let a = c.args in
    let w = second a.schema a.place a.piece.now a.ends.now _ _ c.by_bytes-first.ensures.goes c.in_default.is
    _ _ c.by_fields-next.ensures c.in_default-check.is in
    record {
      place_value = walking_kept (bytes_of a.piece.now (λ i. (c.type_inv.piece i).fits)) (columns_room a.schema c.well_formed.0) c.requires w;
      found_le_from = w.few;
      from_in_bounds = w.within;
    }

pub returns : goal.returns
returns c =
    let a = c.args in
    let w = second a.schema a.place a.piece.now a.ends.now _ _ c.by_bytes-first.ensures.goes c.in_default.is
    _ _ c.by_fields-next.ensures c.in_default-check.is in
    record {
      walked_on = c.by_bytes.ensures.goes a.place a.ends.now w;
      ends_len_bound = λ e l. ⊎_elim (λ full. omega (arith, full, w.long)) (λ never. absurd never) (c.by_bytes.ensures.halts e l);
    }
