-- `value_moves::folding_byte` meets its contract. Assumes nothing.
use Prim.Native.Nat.{ℕ, suc, ◌+◌, ◌*◌, ◌^◌, ◌<◌}
use mathlib.Core.Path.{◌≡◌, subst, ap, sym, ◌∙◌}
use mathlib.Core.Logic.{◌⊎◌}
use native.Mathlib.Omega.{arith}
use Rattle.value_moves.proofs.Arms.{spelt_room, power_most, at_most_eight, folding_on, folding_last}
use Rattle.value_moves.proofs.folding_byte.Goals as goal

-- the number with a byte more is one of 64 bits
fits : (w seen spelt b : ℕ) → (w ≡ 2) ⊎ ((w ≡ 4) ⊎ (w ≡ 8)) → seen < w → spelt < 256 ^ seen → b < 256 → 256 * spelt + b < 2 ^ 64
fits w seen spelt b f l h k = omega (arith, spelt_room seen spelt b h k, power_most (suc seen) (omega (arith, at_most_eight w f)))

pub overflow_mul-number : goal.overflow_mul-number
overflow_mul-number c =
    let q = c.requires in
    omega (arith, fits _ _ c.args.spelt 0 q.fact q.seen_lt_width q.spelt_bound (omega arith))

pub overflow_add-number : goal.overflow_add-number
overflow_add-number c =
    let q = c.requires in
    omega (arith, fits _ _ c.args.spelt c.from.result q.fact q.seen_lt_width q.spelt_bound (omega (arith, c.from.ensures, c.ranges.byte)))

pub returns-then-seen-width : goal.returns-then-seen-width
returns-then-seen-width c =
    let a = c.args in
    folding_on a.width a.seen a.spelt a.at a.byte _ (ap (λ n. 256 * a.spelt + n) c.from.ensures) c.if-seen-width.true

pub may_stand-requires : goal.may_stand-requires
may_stand-requires c = record {
  fact = c.requires.fact;
  spelt_bound =
      let last : suc c.args.seen ≡ c.args.width = omega (arith, c.if-seen-width.false, c.requires.seen_lt_width) in
      subst (λ (w : ℕ). 256 * c.args.spelt + c.from.result < 256 ^ w) last
      (spelt_room c.args.seen c.args.spelt c.from.result c.requires.spelt_bound (omega (arith, c.from.ensures, c.ranges.byte)));
}

pub returns-then-may_stand : goal.returns-then-may_stand
returns-then-may_stand c =
    let a = c.args in
    folding_last a.width a.seen a.spelt a.at a.byte _ (ap (λ n. 256 * a.spelt + n) c.from.ensures) _ c.if-seen-width.false
    (rw (sym c.may_stand.ensures ∙ c.if-may_stand.true))

pub returns : goal.returns
returns c =
    let a = c.args in
    folding_last a.width a.seen a.spelt a.at a.byte _ (ap (λ n. 256 * a.spelt + n) c.from.ensures) _ c.if-seen-width.false
    (rw (sym c.may_stand.ensures ∙ c.if-may_stand.false))
