-- The field of a slot that is written word by word, over its width and its coding: a lead byte, and the words of the key or those of 0. Assumes
-- nothing.
use Prim.Native.Nat.{ℕ, ◌+◌, ◌-◌, ◌*◌, ◌≤◌, ◌<◌}
use mathlib.Core.Path.{◌≡◌, refl, sym, ap, ap₂, ◌∙◌, subst}
use mathlib.Core.Bool.{Bool, true, false, cond}
use mathlib.Core.List.{List, [], ◌∷◌, ◌++◌}
use mathlib.Core.Logic.{inl}
use native.Mathlib.Omega.{arith}
use borrow.Author.Tests.{ne_eqb}
use lib.ListN.{length, get_or, set, take, drop, replicate, length-drop, length-replicate}
use lib.Seq.{sets, length-take-le}
use Rattle.format.specs.declared.SortOptions.{SortOptions}
use Rattle.format.specs.Lists.{low, low_bytes}
use Rattle.format.specs.Kinds.{Fixed, parts, width}
use Rattle.format.specs.Key.{key}
use Rattle.format.specs.Fold.{folds, folded_bits, folded_value}
use Rattle.format.specs.Field.{directed, null_byte}
use Rattle.format.specs.Sheet.{bit, packed}
use Rattle.basics.specs.Wrote.{Wrote}
use Rattle.basics.proofs.Append.{sets_append, walk_start, walk_at}
use Rattle.basics.proofs.LowBytes.{length_low_bytes}
use Rattle.laws.proofs.Directed.{length_directed}
use Rattle.laws.proofs.Unkey.{length_key}
use Rattle.laws.proofs.Parts.{part_rest}
use Rattle.number.specs.declared.Coding.{Coding}
use Rattle.number.specs.declared.Coding.TheVariants.{Unsigned, Signed, Float}
use Rattle.number.specs.Codings.{coding_key}
use Rattle.number.proofs.Words.{read_back}
use Rattle.part_writer.proofs.Parts.{keyed, part, part_place, parts_more, parts_end}
use Rattle.number_writer.proofs.Writing.{lead_run, wrote_as}
use Rattle.fixed_decoder.specs.Worded.{coded, worded}
use Rattle.fixed_decoder.proofs.Storing.{coded_width, worded_width}
use Rattle.word_writer.specs.Words.{key_bytes, word_field, wide_field}

-- ---- a word

-- x is the number v, f the same folded, y the word of its key, z the same inverted under descending
pub word_is : (w : ℕ) (c : Coding) (d fold : Bool) (s : List ℕ) (from : ℕ) → ((i : ℕ) → get_or s i 0 < 256) → from + w ≤ length s
    → (x f y z : ℕ) → x ≡ low (take w (drop from s)) → f ≡ cond fold (folded_bits w x) x → low_bytes w y ≡ coding_key c (low_bytes w f)
    → low_bytes w z ≡ directed d (low_bytes w y) → low_bytes w z ≡ key_bytes c w fold d (take w (drop from s))
word_is w c d fold s from known inside x f y z p q k t = t ∙ ap (directed d) (k ∙ ap (coding_key c) (go fold q))
  where
    go : (b : Bool) → f ≡ cond b (folded_bits w x) x → low_bytes w f ≡ cond b (low_bytes w (folded_bits w (low (take w (drop from s))))) (take w (drop from s))
    go true e = ap (low_bytes w) (e ∙ ap (folded_bits w) p)
    go false e = ap (low_bytes w) e ∙ read_back w s from x known inside p

-- ---- the parts of the interval, stored one after the other

module _ (d : Bool) (s : List ℕ) (from : ℕ) (inside : from + 16 ≤ length s) (rows : List ℕ) (at : ℕ) where
  abbrev piece : Bool → ℕ → ℕ → List ℕ
  piece b n to = cond b (part d s n to) (replicate n 0)

  -- a part is written
  wrote : (n to place : ℕ) {out last : List ℕ} → to + n ≤ length s → last ≡ sets out place (part d s n to) → Wrote (part d s n to) place out last (place + n)
  wrote n to place h e = record { place = omega (arith, part_place d s n to 0 {next = 0 + length (part d s n to)} h refl); bytes = e }

  pub interval_stored : (b : Bool) (one two three : List ℕ) → one ≡ sets rows at (piece b 4 from) → two ≡ sets one (at + 4) (piece b 4 (from + 4))
      → three ≡ sets two (at + 8) (piece b 8 (from + 8)) → three ≡ sets rows at (cond b (keyed d s (4 ∷ 4 ∷ 8 ∷ []) 16 from) (replicate 16 0))
  interval_stored false one two three e f g =
      let z : List ℕ = replicate 4 0 in
      g
      ∙ ap (λ (l : List ℕ). sets l (at + 8) (replicate 8 0)) (f ∙ ap (λ (l : List ℕ). sets l (at + 4) z) e)
      ∙ ap (λ (k : ℕ). sets (sets (sets rows at z) (at + 4) z) k (replicate 8 0)) {x = at + 8} {y = at + 4 + 4} (omega arith)
      ∙ sym (sets_append z (replicate 8 0) (sets rows at z) (at + 4))
      ∙ sym (sets_append z (z ++ replicate 8 0) rows at)
  interval_stored true one two three e f g =
      let whole = walk_start (keyed d s (4 ∷ 4 ∷ 8 ∷ []) 16 from) rows at in
      let first = parts_more d s 4 (4 ∷ 8 ∷ []) 16 from (from + 4) (omega arith) refl whole (wrote 4 from at (omega arith) e) in
      let second = parts_more d s 4 (8 ∷ []) 12 (from + 4) (from + 8) (omega arith) (omega arith) first (wrote 4 (from + 4) (at + 4) (omega arith) f) in
      let third = parts_more d s 8 [] 8 (from + 8) (from + 16) (omega arith) (omega arith) (walk_at (at + 8) second (omega arith))
      (wrote 8 (from + 8) (at + 8) (omega arith) g) in
      (parts_end d s 0 (from + 16) third).bytes

-- ---- the field

-- a number that is no interval
as_coded : (c : Coding) (w : ℕ) → (w ≡ 16 → ⊥) → worded c w ≡ coded c w
as_coded c w n = ap (λ (b : Bool). cond b (parts (4 ∷ 4 ∷ 8 ∷ [])) (coded c w)) (ne_eqb w 16 n)

-- its value bytes, where fold says whether the column folds
coded_bytes : (c : Coding) (w : ℕ) (fold b d : Bool) (v : List ℕ) → fold ≡ folds (coded c w) b
    → key_bytes c w fold d v ≡ directed d (key (coded c w) (folded_value (coded c w) b v))
coded_bytes Unsigned w fold b d v e = ap (λ (t : Bool). key_bytes Unsigned w t d v) e
coded_bytes Signed w fold b d v e = ap (λ (t : Bool). key_bytes Signed w t d v) e
coded_bytes Float w fold b d v e = ap (λ (t : Bool). key_bytes Float w t d v) e

-- a value of any fixed kind, or zeros, after the lead byte a
abbrev value_bytes : Fixed → SortOptions → List ℕ → List ℕ
value_bytes k o v = directed o.descending (key k (folded_value k o.fold v))

module _ (k : Fixed) (o : SortOptions) (v : List ℕ) (l : length v ≡ width k) where
  abbrev bytes : List ℕ
  bytes = value_bytes k o v

  long : length bytes ≡ width k
  long =
      length_directed o.descending (key k (folded_value k o.fold v)) ∙ length_key k (folded_value k o.fold v) (folded_long (folds k o.fold))
    where
      folded_long : (b : Bool) → length (cond b (low_bytes (width k) (folded_bits (width k) (low v))) v) ≡ width k
      folded_long true = length_low_bytes (width k) (folded_bits (width k) (low v))
      folded_long false = l

  slot_wrote : (valid : Bool) (a : ℕ) (rows last : List ℕ) (at next : ℕ) → a ≡ cond valid 1 (null_byte o)
      → last ≡ sets (set rows at a) (at + 1) (cond valid bytes (replicate (width k) 0)) → next ≡ at + (1 + width k)
      → Wrote (word_field k o valid v) at rows last next
  slot_wrote true a rows last at next h g q =
      wrote_as (lead_run rows at a bytes (set rows at a) last next refl g (omega (arith, long))) (ap (λ (b : ℕ). b ∷ bytes) h)
  slot_wrote false a rows last at next h g q =
      let zeros : List ℕ = replicate (width k) 0 in
      wrote_as (lead_run rows at a zeros (set rows at a) last next refl g (omega (arith, length-replicate {A = ℕ} (width k) 0))) (ap (λ (b : ℕ). b ∷ zeros) h)

module _ (c : Coding) (w : ℕ) (o : SortOptions) (s : List ℕ) (from : ℕ) (inside : from + w ≤ length s)
    (valid : Bool) (a : ℕ) (lead : a ≡ cond valid 1 (null_byte o)) (rows last : List ℕ) (at : ℕ) where
  abbrev value : List ℕ
  value = take w (drop from s)

  abbrev Slot-wrote : ℕ → Type 0
  Slot-wrote next = Wrote (word_field (worded c w) o valid value) at rows last next

  stored : (next : ℕ) (x : List ℕ) → width (worded c w) ≡ w → x ≡ value_bytes (worded c w) o value
      → last ≡ sets (set rows at a) (at + 1) (cond valid x (replicate w 0)) → next ≡ at + (1 + w) → Slot-wrote next
  stored next x wide e g q =
      slot_wrote (worded c w) o value (length-take-le w (drop from s) (omega (arith, length-drop from s)) ∙ sym wide) valid a rows last at next lead
      (g ∙ ap (sets (set rows at a) (at + 1)) (ap₂ {C = List ℕ} (λ (x : List ℕ) (n : ℕ). cond valid x (replicate n 0)) e (sym wide)))
      (omega (arith, wide))

  pub word_slot : (fold : Bool) → fold ≡ folds (worded c w) o.fold → (w ≡ 16 → ⊥)
      → last ≡ sets (set rows at a) (at + 1) (cond valid (key_bytes c w fold o.descending value) (replicate w 0)) → Slot-wrote (at + 1 + w)
  word_slot fold e n g =
      let is = as_coded c w n in
      stored (at + 1 + w) (key_bytes c w fold o.descending value) (ap width is ∙ coded_width c w)
      (coded_bytes c w fold o.fold o.descending value (e ∙ ap (λ (k : Fixed). folds k o.fold) is)
      ∙ ap (λ (k : Fixed). value_bytes k o value) (sym is)) g (omega arith)

  pub interval_slot : w ≡ 16
      → last ≡ sets (set rows at a) (at + 1) (cond valid (keyed o.descending s (4 ∷ 4 ∷ 8 ∷ []) 16 from) (replicate 16 0)) → Slot-wrote (at + 17)
  interval_slot e g =
      stored (at + 17) (keyed o.descending s (4 ∷ 4 ∷ 8 ∷ []) w from) (worded_width c w (inl e)) (ap (λ (n : ℕ). value_bytes (worded c n) o value) (sym e))
      (subst (λ (n : ℕ). last ≡ sets (set rows at a) (at + 1) (cond valid (keyed o.descending s (4 ∷ 4 ∷ 8 ∷ []) n from) (replicate n 0))) (sym e) g)
      (omega (arith, e))

-- ---- in its column

-- the field of row r, from a bit and from values after p bytes of the part
pub word_wide : (w : ℕ) (k : Fixed) (o : SortOptions) (n : ℕ) (s : List ℕ) (r : ℕ) (b : Bool) (p : ℕ) {rows last : List ℕ} {at next : ℕ} → b ≡ bit s r → p ≡ packed n
    → Wrote (word_field k o b (take w (drop (r * w) (take (length s - p) (drop p s))))) at rows last next → Wrote (wide_field w k o n s r) at rows last next
word_wide w k o n s r b p e q h =
    wrote_as h (ap₂ {C = List ℕ} (λ (b : Bool) (t : List ℕ). word_field k o b (take w (drop (r * w) t))) e (part_rest s p ∙ ap (λ (m : ℕ). drop m s) q))
