-- Text written piece by piece: a piece after another, a byte after a piece, and the walks over bytes and rows. Assumes nothing.
use Prim.Native.Nat.{ℕ, ◌+◌, ◌/◌, ◌%◌, ◌<◌, ◌≤◌}
use mathlib.Core.Path.{◌≡◌, refl, sym, ap, subst, ◌∙◌}
use mathlib.Core.List.{List, [], ◌∷◌, ◌++◌}
use native.Mathlib.Numerals.{add-one}
use native.Mathlib.Omega.{arith}
use lib.ListN.{length, get_or, set, drop, length-append, drop_of_length-le}
use lib.Seq.{length-sets, drop-cons}
use Rattle.format.specs.Program.{digit, hex}
use Rattle.basics.proofs.Append.{Walk, sets_append, walk_start, walk_end, walk_piece, walk_room}
use Rattle.basics.specs.Wrote.{Wrote}
use Rattle.texts.specs.Text.{row_line}

-- ---- pieces
pub wrote_then : (xs ys : List ℕ) {at : ℕ} {out out' out'' : List ℕ} {next last : ℕ} → Wrote xs at out out' next → Wrote ys next out' out'' last
    → Wrote (xs ++ ys) at out out'' last
wrote_then xs ys {at} {out} v w = record {
  place = omega (arith, v.place, w.place, length-append xs ys);
  bytes = w.bytes ∙ rw (v.bytes, v.place) (sym (sets_append xs ys out at));
}

pub wrote_byte : (xs : List ℕ) (x : ℕ) {at : ℕ} {out out' : List ℕ} {next : ℕ} → Wrote xs at out out' next
    → Wrote (xs ++ (x ∷ [])) at out (set out' next x) (next + 1)
wrote_byte xs x w = wrote_then xs (x ∷ []) w (record { place = refl; bytes = refl })

-- what was written, said another way
pub wrote_as : {xs ys : List ℕ} {at : ℕ} {out out' : List ℕ} {next : ℕ} → Wrote xs at out out' next → xs ≡ ys → Wrote ys at out out' next
wrote_as {at} {out} {out'} {next} w e = subst (λ (zs : List ℕ). Wrote zs at out out' next) e w

-- the buffer stays as long as it was
pub wrote_long : {text : List ℕ} {at : ℕ} {out out' : List ℕ} {next : ℕ} → Wrote text at out out' next → length out' ≡ length out
wrote_long {text} {at} {out} w = ap length w.bytes ∙ length-sets out at text

-- nothing is left of a walk
pub walk_wrote : {whole rest out₀ : List ℕ} {at₀ : ℕ} {out : List ℕ} {at : ℕ} → Walk whole rest out₀ at₀ out at → rest ≡ [] → Wrote whole at₀ out₀ out at
walk_wrote t e = let z = walk_end t e in record { place = z.0; bytes = z.1 }

-- ---- a row in hex, of which i bytes are written
pub record InHex (row out₀ : List ℕ) (at : ℕ) (out : List ℕ) (place i : ℕ) : Type 0 where
  pub within : i ≤ length row
  pub walk : Walk (hex row) (hex (drop i row)) out₀ at out place

pub hex_begin : (row out : List ℕ) (at : ℕ) → InHex row out at out at 0
hex_begin row out at = record { within = omega arith; walk = walk_start (hex row) out at }

module _ {row out₀ : List ℕ} {at : ℕ} {out : List ℕ} {place i : ℕ} (t : InHex row out₀ at out place i) where
  abbrev pair : List ℕ
  pair = digit (get_or row i 0 / 16) ∷ digit (get_or row i 0 % 16) ∷ []

  hex_step : i < length row → hex (drop i row) ≡ pair ++ hex (drop (i + 1) row)
  hex_step h = rw (add-one i, drop-cons row i 0 h)

  hex_end : length row ≤ i → hex (drop i row) ≡ []
  hex_end h = ap hex (drop_of_length-le row {i = i} h)

  module _ (fits : at + length (row_line row) ≤ length out₀) where
    whole : at + length (hex row) + 1 ≤ length out₀
    whole = omega (arith, length-append (hex row) (10 ∷ []))

    -- there is room for the two digits, and at the end for the newline
    pub hex_room : i < length row → place + 2 ≤ length out
    hex_room h = walk_room t.walk pair (hex (drop (i + 1) row)) (hex_step h) (omega (arith, whole))

    pub hex_last : length row ≤ i → place + 1 ≤ length out
    hex_last h = omega (arith, whole, (walk_end t.walk (hex_end h)).0, t.walk.same)

  pub hex_more : i < length row → (a b : ℕ) → a ≡ digit (get_or row i 0 / 16) → b ≡ digit (get_or row i 0 % 16)
      → InHex row out₀ at (set (set out place a) (place + 1) b) (place + 2) (i + 1)
  hex_more h a b p q = record { within = omega arith; walk = rw (p, q, add-one place) (walk_piece 2 pair (hex (drop (i + 1) row)) t.walk (hex_step h) refl) }

  pub hex_wrote : length row ≤ i → Wrote (row_line row) at out₀ (set out place 10) (place + 1)
  hex_wrote h = wrote_byte (hex row) 10 (walk_wrote t.walk (hex_end h))
