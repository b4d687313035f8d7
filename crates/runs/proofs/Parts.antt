-- Pieces written into parts of a buffer. Assumes nothing.
use Prim.Native.Nat.{ℕ, ◌+◌, ◌-◌, ◌≤◌}
use mathlib.Core.Path.{◌≡◌, sym, ap, ◌∙◌}
use mathlib.Core.Bool.{Bool}
use mathlib.Core.List.{List, ◌++◌, append_assoc}
use native.Mathlib.Omega.{arith}
use lib.ListN.{length, take, drop, replicate, length-drop, length-replicate}
use lib.Seq.{sets, sets-eq, drop-drop, length-take-le}
use borrow.Rule.Slice.PartMut.{put_mid}
use Rattle.format.specs.Field.{directed}
use Rattle.laws.proofs.Directed.{length_directed}

-- a piece as long as the part
pub part_put : (at n : ℕ) (out piece : List ℕ) → length piece ≡ n → at + n ≤ length out → put_mid at (at + n - at) out piece ≡ sets out at piece
part_put at n out piece long fits =
    ap (λ (m : ℕ). put_mid at m out piece) {x = at + n - at} {y = length piece} (omega (arith, long))
    ∙ ap (λ (r : List ℕ). take at out ++ (piece ++ r)) (drop-drop (length piece) at out)
    ∙ sym (append_assoc (take at out) piece (drop (at + length piece) out))
    ∙ sym (sets-eq piece out at (omega (arith, long, fits)))

-- n zeros, up to place b
pub part_filled : (at b n : ℕ) (out piece : List ℕ) → b ≡ at + n → piece ≡ replicate (length (take (b - at) (drop at out))) 0 → at + n ≤ length out
    → put_mid at (b - at) out piece ≡ sets out at (replicate n 0)
part_filled at b n out piece e zeros fits =
    let many : length (take (b - at) (drop at out)) ≡ n
    = length-take-le (b - at) (drop at out) (omega (arith, e, fits, length-drop at out)) ∙ omega (arith, e) in
    ap (put_mid at (b - at) out) (zeros ∙ ap (λ (k : ℕ). replicate k 0) many)
    ∙ ap (λ (m : ℕ). put_mid at m out (replicate n 0)) {x = b - at} {y = at + n - at} (omega (arith, e))
    ∙ part_put at n out (replicate n 0) (length-replicate n 0) fits

-- a part of n bytes, and two of them
pub part_long : (from n : ℕ) (src : List ℕ) → from + n ≤ length src → length (take (from + n - from) (drop from src)) ≡ n
part_long from n src inside = length-take-le (from + n - from) (drop from src) (omega (arith, inside, length-drop from src)) ∙ omega arith

pub parts_alike : (at n from : ℕ) (out src : List ℕ) → from + n ≤ length src → at + n ≤ length out
    → length (take (at + n - at) (drop at out)) ≡ length (take (from + n - from) (drop from src))
parts_alike at n from out src inside fits =
    part_long at n out fits ∙ sym (part_long from n src inside)

-- n bytes from a place on, copied into the part
pub part_copied : (at n from : ℕ) (d : Bool) (out src piece : List ℕ) → piece ≡ directed d (take (from + n - from) (drop from src))
    → from + n ≤ length src → at + n ≤ length out → put_mid at (at + n - at) out piece ≡ sets out at (directed d (take n (drop from src)))
part_copied at n from d out src piece e inside fits =
    let bytes : List ℕ = directed d (take n (drop from src)) in
    let is : piece ≡ bytes = e ∙ ap (λ (k : ℕ). directed d (take k (drop from src))) {x = from + n - from} {y = n} (omega arith) in
    let long : length bytes ≡ n
    = length_directed d (take n (drop from src)) ∙ length-take-le n (drop from src) (omega (arith, length-drop from src)) in
    ap (put_mid at (at + n - at) out) is ∙ part_put at n out bytes long fits
