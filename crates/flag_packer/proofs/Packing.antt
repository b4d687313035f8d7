-- Flags packed eight to a byte: a byte flag by flag, and all flags byte by byte. Assumes nothing.
use Prim.Native.Nat.{ℕ, suc, ◌+◌, ◌-◌, ◌^◌, ◌<◌, ◌≤◌}
use mathlib.Core.Path.{◌≡◌, refl, sym, ap, ap₂, ◌∙◌, subst}
use mathlib.Core.Bool.{Bool, true, false, cond}
use mathlib.Core.List.{List, [], ◌∷◌, ◌++◌, map, map-append}
use native.Mathlib.Numerals.{add-one}
use native.Mathlib.Omega.{arith}
use lib.Dec.{ltb}
use lib.ListN.{length, get_or, set, take, drop, length-take, length-drop, length-map}
use lib.Seq.{take-suc, take_all, length-take-le, drop-drop, get_or-take, get_or-drop}
use borrow.Author.Tests.{lt-ltb, le-ltb, ltb-true, ltb-false}
use Rattle.format.specs.Sheet.{packed}
use Rattle.format.specs.Cleared.{byte_of, pack}
use Rattle.bits.proofs.Flags.{byte_last}
use Rattle.basics.specs.Wrote.{Wrote}
use Rattle.basics.proofs.Append.{Walk, walk_piece, walk_first, walk_end}
use Rattle.basics.proofs.Lists.{map_take, map_drop}
use Rattle.flag_packer.specs.Flags.{Asks, Tells, flags_at}

-- ---- a byte

-- there is room above the first k flags, and so above one more
pub room_more : (b k : ℕ) (on : Bool) → b < 2 ^ k → b + cond on (2 ^ k) 0 < 2 ^ (k + 1)
room_more b k true h = rw add-one (omega arith)
room_more b k false h = rw add-one (omega arith)

module _ (f : ℕ → Bool) (xs : List ℕ) (k : ℕ) (h : k < length xs) where
  count : length (map f (take k xs)) ≡ k
  count = length-map (take k xs) f ∙ length-take-le k xs (omega arith)

  -- one more
  pub byte_more : byte_of (map f (take k xs)) + cond (f (get_or xs k 0)) (2 ^ k) 0 ≡ byte_of (map f (take (k + 1) xs))
  byte_more =
      let e : map f (take (k + 1) xs) ≡ map f (take k xs) ++ (f (get_or xs k 0) ∷ [])
      = ap (λ (m : ℕ). map f (take m xs)) (add-one k) ∙ ap (map f) (take-suc xs k 0 h) ∙ map-append f (take k xs) (get_or xs k 0 ∷ []) in
      sym (
      ap byte_of e
      ∙ byte_last (map f (take k xs)) (f (get_or xs k 0))
      ∙ ap (λ (m : ℕ). byte_of (map f (take k xs)) + cond (f (get_or xs k 0)) (2 ^ m) 0) count
      )

-- ---- all bytes

-- the flags from row `base` on
abbrev packed_from : (ℕ → Bool) → List ℕ → ℕ → List ℕ
packed_from f xs base = pack (packed (length xs - base)) (map f (drop base xs))

-- those before it are packed
pub record Packing (f : ℕ → Bool) (xs out₀ : List ℕ) (at₀ : ℕ) (out : List ℕ) (at base : ℕ) : Type 0 where
  pub within : base ≤ length xs
  pub wrote : Walk (pack (packed (length xs)) (map f xs)) (packed_from f xs base) out₀ at₀ out at

-- none are at the start
pub packing : (f : ℕ → Bool) (xs out : List ℕ) (at : ℕ) → Packing f xs out at out (at + 0) 0
packing f xs out at = record { within = omega arith; wrote = walk_first (flags_at f xs) (packed_from f xs 0) out at all }
  where
    all : packed_from f xs 0 ≡ flags_at f xs
    all = ap (λ (n : ℕ). pack (packed n) (map f xs)) {x = length xs - 0} {y = length xs} (omega arith)

-- how many of the flags that are left go into the next byte
abbrev pub in_byte : ℕ → ℕ
in_byte left = cond (ltb left 8) left 8

pub eight : (left : ℕ) → 8 ≤ left → 8 ≡ in_byte left
eight left h = rw (le-ltb left 8 h) refl

pub fewer : (left : ℕ) → left < 8 → left ≡ in_byte left
fewer left h = rw (lt-ltb left 8 h) refl

-- some, eight at most
in_byte_lem : (left : ℕ) → 0 < left → (0 < in_byte left) × (in_byte left ≤ 8) × (in_byte left ≤ left)
in_byte_lem left h = go (ltb left 8) refl
  where
    go : (b : Bool) → ltb left 8 ≡ b → (0 < cond b left 8) × (cond b left 8 ≤ 8) × (cond b left 8 ≤ left)
    go true l = let few = ltb-true left 8 l in (omega arith, omega arith, omega arith)
    go false l = let many = ltb-false left 8 l in (omega arith, omega arith, omega arith)

module _ {f : ℕ → Bool} {xs out₀ : List ℕ} {at₀ : ℕ} {out : List ℕ} {at base : ℕ} (t : Packing f xs out₀ at₀ out at base) where
  module _ (h : base < length xs) (size : ℕ) (e : size ≡ in_byte (length xs - base)) where
    pub size_small : (0 < size) × (size ≤ 8) × (base + size ≤ length xs)
    size_small = let k = in_byte_lem (length xs - base) (omega arith) in (omega arith, omega arith, omega arith)

    abbrev byte : ℕ
    byte = byte_of (map f (take size (drop base xs)))

    -- the next byte has eight flags, or all that are left
    next_is : packed_from f xs base ≡ byte ∷ packed_from f xs (base + size)
    next_is = go (ltb (length xs - base) 8) refl e
      where
        go : (b : Bool) → ltb (length xs - base) 8 ≡ b → size ≡ cond b (length xs - base) 8
            → packed_from f xs base ≡ byte ∷ packed_from f xs (base + size)
        go true l e =
            let few = ltb-true (length xs - base) 8 l in
            let one : packed (length xs - base) ≡ 1 = omega arith in
            let none : packed (length xs - (base + size)) ≡ 0 = omega arith in
            ap (λ (n : ℕ). pack n (map f (drop base xs))) one
            ∙ ap₂ {C = List ℕ} (λ (x : List Bool) (n : ℕ). byte_of x ∷ pack n (map f (drop (base + size) xs)))
            (take_all 8 (map f (drop base xs)) (omega (arith, length-map (drop base xs) f, length-drop base xs))
            ∙ ap (map f) (sym (take_all size (drop base xs) (omega (arith, length-drop base xs)))))
            (sym none)
        go false l e =
            let many = ltb-false (length xs - base) 8 l in
            let one : packed (length xs - base) ≡ suc (packed (length xs - (base + size))) = omega arith in
            ap (λ (n : ℕ). pack n (map f (drop base xs))) one
            ∙ ap₂ {C = List ℕ} (λ (x y : List Bool). byte_of x ∷ pack (packed (length xs - (base + size))) y)
            (sym (map_take f 8 (drop base xs)) ∙ ap (λ (n : ℕ). map f (take n (drop base xs))) (sym e))
            (sym (map_drop f 8 (drop base xs)) ∙ ap (map f) (drop-drop 8 base xs ∙ ap (λ (n : ℕ). drop (base + n) xs) (sym e)))

    -- and it is stored
    pub pack_more : (b n : ℕ) → n ≡ size → b ≡ byte_of (map f (take n (drop base xs))) → Packing f xs out₀ at₀ (set out at b) (at + 1) (base + size)
    pack_more b n s q =
        let same : byte ≡ b = sym (q ∙ ap (λ (n : ℕ). byte_of (map f (take n (drop base xs)))) s) in
        record {
          within = size_small.2;
          wrote =
              walk_piece 1 (b ∷ []) (packed_from f xs (base + size)) t.wrote
              (next_is ∙ ap (λ (x : ℕ). x ∷ packed_from f xs (base + size)) same) refl;
        }

  -- none is left
  pub pack_end : length xs ≤ base → Wrote (flags_at f xs) at₀ out₀ out at
  pack_end l =
      let none : packed (length xs - base) ≡ 0 = omega arith in
      let end = walk_end t.wrote (ap (λ (n : ℕ). pack n (map f (drop base xs))) none) in
      record { place = end.0; bytes = end.1 }

-- ---- a part of the cursors

module _ (xs : List ℕ) (n base : ℕ) where
  part_at : (r : ℕ) → r < length (take n (drop base xs)) → get_or (take n (drop base xs)) r 0 ≡ get_or xs (base + r) 0
  part_at r l = get_or-take n (drop base xs) r 0 (omega (arith, length-take n (drop base xs))) ∙ get_or-drop base xs r 0

  part_in : (r : ℕ) → r < length (take n (drop base xs)) → base + r < length xs
  part_in r l = omega (arith, length-take n (drop base xs), length-drop base xs)

  pub part_asks : (may : ℕ → Type 0) → Asks may xs → Asks may (take n (drop base xs))
  part_asks may h r l = subst may (sym (part_at r l)) (h (base + r) (part_in r l))

  pub part_tells : (gives : ℕ → Bool → Type 0) (flag : ℕ → Bool) → Tells gives flag xs → Tells gives flag (take n (drop base xs))
  part_tells gives flag t r l on e =
      subst (λ (p : ℕ). on ≡ flag p) (sym (part_at r l)) (t (base + r) (part_in r l) on (subst (λ (p : ℕ). gives p on) (part_at r l) e))
