-- Coded descriptions, four bytes at a time: what was coded is read again, and what passes is what its columns are coded as. Assumes nothing.
use Prim.Native.Nat.{ℕ, suc, ◌+◌, ◌*◌, ◌/◌, ◌%◌, ◌<◌}
use mathlib.Core.Path.{◌≡◌, refl, ap, ap₂, sym, subst, ◌∙◌}
use mathlib.Core.List.{List, [], ◌∷◌, ◌++◌, map}
use native.Mathlib.Omega.{arith}
use native.Mathlib.Nat.{add-div_left, div-eq_of_lt}
use lib.Dec.{lit<}
use lib.ListN.{length, get_or, length-append}
use Rattle.format.specs.declared.Column.{Column}
use Rattle.format.specs.Lists.{Bytes, each, low, low_bytes}
use Rattle.format.specs.Described.{Description, held, column_of, code, codes, code_at, descriptions_in}
use Rattle.basics.proofs.Lists.{Every, each_same, each_next}
use Rattle.basics.proofs.LowBytes.{low_low_bytes, low_bytes_low}
use Rattle.laws.proofs.Described.{AllFine}
use Rattle.readings.proofs.Back.{held_back}

-- a description in the first four bytes, and the others
module _ (a b x y : ℕ) (s : List ℕ) where
  abbrev front : List ℕ
  front = a ∷ b ∷ x ∷ y ∷ s

  byte_after : (i j : ℕ) → get_or front (4 * suc i + j) 0 ≡ get_or s (4 * i + j) 0
  byte_after i j = ap (λ (k : ℕ). get_or front k 0) {x = 4 * suc i + j} {y = suc (suc (suc (suc (4 * i + j))))} (omega arith)

  kind_after : (i : ℕ) → get_or front (4 * suc i) 0 ≡ get_or s (4 * i) 0
  kind_after i = ap (λ (k : ℕ). get_or front k 0) {x = 4 * suc i} {y = suc (suc (suc (suc (4 * i))))} (omega arith)

  code_after : (i : ℕ) → code_at front (suc i) ≡ code_at s i
  code_after i = rw (kind_after i, byte_after i 1, byte_after i 2, byte_after i 3)

  pub first_in : descriptions_in front ≡ record { kind = a; options = b; width = x + 256 * y } ∷ descriptions_in s
  first_in =
      ap (λ (k : ℕ). each 0 k (code_at front)) {x = length front / 4} {y = suc (length s / 4)} (omega (arith, add-div_left (length s) {k = 4} (lit< tt)))
      ∙ ap (λ (l : List Description). code_at front 0 ∷ l)
      (each_next 0 (length s / 4) (code_at front)
      ∙ each_same 0 (length s / 4) (λ i. code_at front (suc i)) (code_at s) (λ i j k. code_after i))

-- fewer than four bytes have none
pub none_in : (t : List ℕ) → length t < 4 → descriptions_in t ≡ []
none_in t h = ap (λ (k : ℕ). each 0 k (code_at t)) (div-eq_of_lt h)

-- ---- what was coded is read again

pub length_codes : (cols : List Column) → length (codes cols) ≡ 4 * length cols
length_codes [] = refl
length_codes (col ∷ cols) = length-append (code col) (codes cols) ∙ omega (arith, length_codes cols)

abbrev pub Narrowed : List Column → Type 0
Narrowed cols = Every (λ col. (held col).width < 65536) cols

pub codes_in : (cols : List Column) (t : List ℕ) → Narrowed cols → length t < 4 → descriptions_in (codes cols ++ t) ≡ map held cols
codes_in [] t h l = none_in t l
codes_in (col ∷ cols) t h l =
    let w : ℕ = (held col).width in
    let two : w % 256 + 256 * (w / 256 % 256) ≡ w = omega (arith, low_low_bytes 2 w h.0) in
    first_in (held col).kind (held col).options (w % 256) (w / 256 % 256) (codes cols ++ t)
    ∙ ap₂ {C = List Description} (λ (v : ℕ) (ds : List Description). record { kind = (held col).kind; options = (held col).options; width = v } ∷ ds)
    two (codes_in cols t h.1 l)

-- ---- what passes is what its columns are coded as

-- the codes of some columns, and a tail that does not count
pub record Coded (c : List ℕ) : Type 0 where
  pub tail : List ℕ
  pub short : length tail < 4
  pub is : c ≡ codes (map column_of (descriptions_in c)) ++ tail

too_few : (c : List ℕ) → length c < 4 → Coded c
too_few c l = record { tail = c; short = l; is = ap (λ (ds : List Description). codes (map column_of ds) ++ c) (sym (none_in c l)) }

pub coded_of : (c : List ℕ) → Bytes c → AllFine (descriptions_in c) → Coded c
coded_of [] b f = too_few [] (lit< tt)
coded_of (k ∷ []) b f = too_few (k ∷ []) (lit< tt)
coded_of (k ∷ o ∷ []) b f = too_few (k ∷ o ∷ []) (lit< tt)
coded_of (k ∷ o ∷ x ∷ []) b f = too_few (k ∷ o ∷ x ∷ []) (lit< tt)
coded_of (k ∷ o ∷ x ∷ y ∷ s) b f =
    let d : Description = record { kind = k; options = o; width = x + 256 * y } in
    let all : AllFine (d ∷ descriptions_in s) = subst AllFine (first_in k o x y s) f in
    let rest = coded_of s b.1.1.1.1 all.1 in
    let two : low_bytes 2 (x + 256 * y) ≡ x ∷ y ∷ []
    = ap (low_bytes 2) {x = x + 256 * y} {y = low (x ∷ y ∷ [])} (omega arith) ∙ low_bytes_low (x ∷ y ∷ []) (b.1.1.0, (b.1.1.1.0, tt)) in
    let four : code (column_of d) ≡ k ∷ o ∷ x ∷ y ∷ []
    = ap (λ (h : Description). h.kind ∷ h.options ∷ low_bytes 2 h.width) (held_back d all.0) ∙ ap (λ (l : List ℕ). k ∷ o ∷ l) two in
    record {
      tail = rest.tail;
      short = rest.short;
      is = ap (λ (l : List ℕ). k ∷ o ∷ x ∷ y ∷ l) rest.is
          ∙ sym (ap (λ (l : List ℕ). (l ++ codes (map column_of (descriptions_in s))) ++ rest.tail) four)
          ∙ sym (ap (λ (ds : List Description). codes (map column_of ds) ++ rest.tail) (first_in k o x y s));
    }
