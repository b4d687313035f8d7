-- A signed number word by word: its top word is keyed as a signed number, and the lower ones after it are turned round. Over the
-- count of words. Assumes nothing.
use Prim.Native.Nat.{ℕ, ◌+◌, ◌*◌, ◌≤◌}
use mathlib.Core.Path.{◌≡◌, ap, ◌∙◌}
use mathlib.Core.Bool.{Bool}
use mathlib.Core.List.{List, ◌++◌, reverse, reverse-append}
use native.Mathlib.Omega.{arith}
use lib.ListN.{length, take, drop, length-drop, length-reverse}
use lib.Seq.{length-take-le}
use Rattle.format.specs.Key.{signed_key, unsigned_key}
use Rattle.format.specs.Field.{directed}
use Rattle.basics.specs.Wrote.{Wrote}
use Rattle.basics.proofs.Append.{Walk, walk_start}
use Rattle.laws.proofs.Directed.{length_directed, directed_none, directed_append}
use Rattle.laws.proofs.TopWord.{words_apart, signed_apart}
use Rattle.runs.proofs.Written.{walk_step, walk_last, walk_wrote}

module _ (d : Bool) (s : List ℕ) (from : ℕ) where
  -- the bytes of the n lowest words, and those of the word above them
  abbrev low : ℕ → List ℕ
  low n = take (8 * n) (drop from s)

  abbrev word : ℕ → List ℕ
  word n = take 8 (drop (from + 8 * n) s)

  -- what is written of them
  abbrev pub lower : ℕ → List ℕ
  lower n = directed d (unsigned_key (low n))

  abbrev whole : ℕ → List ℕ
  whole n = directed d (signed_key (low n))

  pub lower_long : (n : ℕ) → from + 8 * n ≤ length s → length (lower n) ≡ 8 * n
  lower_long n inside =
      length_directed d (unsigned_key (low n)) ∙ length-reverse (low n) ∙ length-take-le (8 * n) (drop from s) (omega (arith, length-drop from s))

  -- n + 1 words are n and the one above them
  module _ (m n : ℕ) (e : m ≡ n + 1) where
    apart : low m ≡ low n ++ word n
    apart = words_apart m n e s from

    lower_apart : lower m ≡ directed d (unsigned_key (word n)) ++ lower n
    lower_apart =
        ap (directed d) (ap reverse apart ∙ reverse-append (low n) (word n)) ∙ directed_append d (unsigned_key (word n)) (unsigned_key (low n))

    -- a lower word is written
    pub words_more : {all out₀ : List ℕ} {at₀ : ℕ} {out : List ℕ} {at : ℕ} {last : List ℕ} {next : ℕ}
        → Walk all (lower m) out₀ at₀ out at → Wrote (directed d (unsigned_key (word n))) at out last next → Walk all (lower n) out₀ at₀ last next
    words_more t p = walk_step t (directed d (unsigned_key (word n))) (lower n) lower_apart p

    -- the top word, and then all lower ones
    pub words_whole : from + 8 * m ≤ length s → {out : List ℕ} {at : ℕ} {mid : List ℕ} {to : ℕ} {last : List ℕ} {next : ℕ}
        → Wrote (directed d (signed_key (word n))) at out mid to → Wrote (lower n) to mid last next → Wrote (whole m) at out last next
    words_whole inside {out} {at} p q =
        walk_last (walk_step (walk_start (whole m) out at) (directed d (signed_key (word n))) (lower n) parted p) q
      where
        long : length (word n) ≡ 8
        long = length-take-le 8 (drop (from + 8 * n) s) (omega (arith, length-drop (from + 8 * n) s))

        parted : whole m ≡ directed d (signed_key (word n)) ++ lower n
        parted =
            ap (directed d) (ap signed_key apart ∙ signed_apart (low n) (word n) (omega (arith, long)))
            ∙ directed_append d (signed_key (word n)) (unsigned_key (low n))

  -- no word is left
  pub words_end : (n : ℕ) → n ≤ 0 → {all out₀ : List ℕ} {at₀ : ℕ} {out : List ℕ} {at : ℕ} → Walk all (lower n) out₀ at₀ out at → Wrote all at₀ out₀ out at
  words_end n h t = walk_wrote t (ap lower {x = n} {y = 0} (omega arith) ∙ directed_none d)
