-- A state, read back: its numbers, its columns one by one, and whether two runs of bytes are the same. Assumes nothing.
use Prim.Native.Nat.{ℕ, zero, suc, ◌+◌, ◌-◌, ◌*◌, ◌/◌, ◌<◌, ◌≤◌}
use mathlib.Core.Path.{◌≡◌, refl, sym, ap, ap₂, ◌∙◌}
use mathlib.Core.Bool.{Bool, true, false, cond, false≢true}
use mathlib.Core.List.{List, [], ◌∷◌, ◌++◌}
use native.Mathlib.Omega.{arith}
use lib.Dec.{leb}
use lib.ListN.{length, get_or, set, take, drop, replicate, length-drop}
use lib.Seq.{take_all, take-take, take-add, drop_at, length-take-le, get_or-take, get_or-drop, set_at, append_snoc}
use borrow.Author.Tests.{eqb-true}
use borrow.Rule.Slice.PartMut.{mid_of}
use Rattle.format.specs.declared.Column.{Column}
use Rattle.format.specs.declared.Schema.{Schema}
use Rattle.format.specs.Check.{Check}
use Rattle.format.specs.declared.Spot.{Spot}
use Rattle.format.specs.declared.Cutter.{Cutter}
use Rattle.format.specs.Limits.{max_columns}
use Rattle.format.specs.Lists.{each, low, low_bytes}
use Rattle.format.specs.Schemas.{no_column, schema_of}
use Rattle.format.specs.Described.{code_at, column_of}
use Rattle.format.specs.Lent.{eights}
use Rattle.format.specs.CutterBytes.{numbers_size, state_size, check_of, spot_of, columns_of, state_of, same}
use Rattle.basics.proofs.Lists.{each_at, each_same, length_each}
use Rattle.number.proofs.Words.{read_back}
use Rattle.lent_bytes.specs.Offsets.{eight_at}
use Rattle.cutter_laws.proofs.RuleMoves.{and_true}
use Rattle.cutter_laws.proofs.StateBack.{same_self}

-- ---- the columns, one by one

each_snoc : {A : Type 0} (i k : ℕ) (f : ℕ → A) → each i (suc k) f ≡ each i k f ++ (f (i + k) ∷ [])
each_snoc i zero f = ap (λ (n : ℕ). f n ∷ []) {x = i} {y = i + zero} (omega arith)
each_snoc {A} i (suc k) f =
    ap (λ (l : List A). f i ∷ l)
    (each_snoc (suc i) k f ∙ ap (λ (n : ℕ). each (suc i) k f ++ (f n ∷ [])) {x = suc i + k} {y = i + suc k} (omega arith))

-- so many are read
pub record ColumnsRead (f : ℕ → Column) (count : ℕ) (array : List Column) (i : ℕ) : Type 0 where
  pub most : i ≤ count
  pub made : array ≡ each 0 i f ++ replicate (max_columns - i) no_column

module _ (f : ℕ → Column) (count : ℕ) (few : count ≤ max_columns) where
  pub columns_begin : (none : Column) → none ≡ no_column → ColumnsRead f count (replicate max_columns none) 0
  columns_begin none e = record { most = omega arith; made = ap (replicate max_columns) e }

  pub columns_more : (array : List Column) (i : ℕ) (col : Column) → ColumnsRead f count array i → i < count → col ≡ f i
      → ColumnsRead f count (set array i col) (i + 1)
  columns_more array i col t l e = record {
    most = omega arith;
    made =
        ap (λ (z : List Column). set z i col)
        (t.made ∙ ap (λ (m : ℕ). each 0 i f ++ replicate m no_column) {x = max_columns - i} {y = suc (max_columns - (i + 1))} (omega arith))
        ∙ set_at (each 0 i f) no_column rest col i (length_each 0 i f)
        ∙ sym (append_snoc (each 0 i f) col rest)
        ∙ ap (λ (z : List Column). z ++ rest)
        (ap (λ (x : Column). each 0 i f ++ (x ∷ [])) (e ∙ ap f {x = i} {y = 0 + i} (omega arith))
        ∙ sym (each_snoc 0 i f)
        ∙ ap (λ (m : ℕ). each 0 m f) {x = suc i} {y = i + 1} (omega arith));
  }
    where
      rest : List Column
      rest = replicate (max_columns - (i + 1)) no_column

  pub columns_end : (array : List Column) (i : ℕ) → ColumnsRead f count array i → count ≤ i
      → record { columns = array; count = count } ≡ schema_of (each 0 count f)
  columns_end array i t l =
      ap (λ (z : List Column). record { columns = z; count = count })
      (t.made ∙ ap (λ (m : ℕ). each 0 m f ++ replicate (max_columns - m) no_column) {x = i} {y = count} (omega (arith, t.most)))
      ∙ ap (λ (m : ℕ). record { columns = each 0 count f ++ replicate (max_columns - m) no_column; count = m }) (sym (length_each 0 count f))

-- ---- words

-- two lists with the same bytes to the end of word i have that word in common
word_of : (a b : List ℕ) (i : ℕ) → 8 * i ≤ length a → 8 * i ≤ length b → take (8 * i + 8) a ≡ take (8 * i + 8) b
    → take 8 (drop (8 * i) a) ≡ take 8 (drop (8 * i) b)
word_of a b i la lb e =
    sym (drop_at (take (8 * i) a) (take 8 (drop (8 * i) a)) (8 * i) (length-take-le (8 * i) a la))
    ∙ ap (drop (8 * i)) (sym (take-add (8 * i) 8 a) ∙ e ∙ take-add (8 * i) 8 b)
    ∙ drop_at (take (8 * i) b) (take 8 (drop (8 * i) b)) (8 * i) (length-take-le (8 * i) b lb)

-- a word of the first n bytes
word_in : (n : ℕ) (l : List ℕ) (i : ℕ) → 8 * i + 8 ≤ n → n ≤ length l → take 8 (drop (8 * i) (take n l)) ≡ take 8 (drop (8 * i) l)
word_in n l i h room = word_of (take n l) l i (omega (arith, length-take-le n l room)) (omega arith) (take-take (8 * i + 8) n l h)

-- ---- whether two runs of bytes are the same

pub same_eq : (xs ys : List ℕ) → same xs ys ≡ true → xs ≡ ys
same_eq [] [] h = refl
same_eq [] (y ∷ ys) h = absurd (false≢true h)
same_eq (x ∷ xs) [] h = absurd (false≢true h)
same_eq (x ∷ xs) (y ∷ ys) h = let p = and_true h in ap₂ {C = List ℕ} (λ z zs. z ∷ zs) (eqb-true x y p.0) (same_eq xs ys p.1)

different : (xs ys : List ℕ) → (xs ≡ ys → ⊥) → false ≡ same xs ys
different xs ys n = go (same xs ys) refl
  where
    go : (t : Bool) → same xs ys ≡ t → false ≡ same xs ys
    go true q = absurd (n (same_eq xs ys q))
    go false q = sym q

-- up to word i
abbrev pub SameTo : List ℕ → List ℕ → ℕ → Type 0
SameTo a b i = take (8 * i) a ≡ take (8 * i) b

module _ (a b : List ℕ) (fa : (j : ℕ) → get_or a j 0 < 256) (fb : (j : ℕ) → get_or b j 0 < 256) (la : state_size ≤ length a) (lb : state_size ≤ length b) where
  module _ (i x y : ℕ) (l : i < 45) (p : x ≡ low (take 8 (drop (8 * i) a))) (q : y ≡ low (take 8 (drop (8 * i) b))) where
    pub same_more : SameTo a b i → x ≡ y → SameTo a b (i + 1)
    same_more t e =
        ap (λ (n : ℕ). take n a) {x = 8 * (i + 1)} {y = 8 * i + 8} (omega arith)
        ∙ take-add (8 * i) 8 a
        ∙ ap₂ {C = List ℕ} (λ u v. u ++ v) t (sym (read_back 8 a (8 * i) x fa (omega arith) p) ∙ ap (low_bytes 8) e ∙ read_back 8 b (8 * i) y fb (omega arith) q)
        ∙ sym (take-add (8 * i) 8 b)
        ∙ ap (λ (n : ℕ). take n b) {x = 8 * i + 8} {y = 8 * (i + 1)} (omega arith)

    pub same_not : (x ≡ y → ⊥) → false ≡ same (take state_size a) (take state_size b)
    same_not n = different (take state_size a) (take state_size b) (λ e. n (p ∙ ap low (word e) ∙ sym q))
      where
        word : take state_size a ≡ take state_size b → take 8 (drop (8 * i) a) ≡ take 8 (drop (8 * i) b)
        word e =
            sym (word_in state_size a i (omega arith) la)
            ∙ ap (λ (z : List ℕ). take 8 (drop (8 * i) z)) e
            ∙ word_in state_size b i (omega arith) lb

  pub same_end : (i : ℕ) → SameTo a b i → i ≤ 45 → 45 ≤ i → true ≡ same (take state_size a) (take state_size b)
  same_end i t h g =
      sym (same_self (take state_size a))
      ∙ ap (same (take state_size a))
      (ap (λ (n : ℕ). take n a) {x = state_size} {y = 8 * i} (omega arith) ∙ t ∙ ap (λ (n : ℕ). take n b) {x = 8 * i} {y = state_size} (omega arith))

-- ---- the whole

module _ (state : List ℕ) (room : state_size ≤ length state) where
  abbrev x : List ℕ
  x = take state_size state

  abbrev ns : List ℕ
  ns = eights (take numbers_size x)

  -- number k
  number : (k : ℕ) → k < 13 → get_or ns k 0 ≡ eight_at state k
  number k l =
      ap (λ (n : ℕ). get_or (each 0 n (eight_at (take numbers_size x))) k 0) {x = length (take numbers_size x) / 8} {y = 13} (omega (arith, long))
      ∙ each_at 13 (eight_at (take numbers_size x)) 0 k l
      ∙ ap low (word_in numbers_size x k (omega arith) (omega (arith, length-take-le state_size state room)) ∙ word_in state_size state k (omega arith) room)
    where
      long : length (take numbers_size x) ≡ numbers_size
      long = length-take-le numbers_size x (omega (arith, length-take-le state_size state room))

  abbrev coded : List ℕ
  coded = mid_of numbers_size (length state - numbers_size) state

  -- byte k after the numbers
  byte_in : (k : ℕ) → k < 4 * max_columns → get_or coded k 0 ≡ get_or (drop numbers_size x) k 0
  byte_in k l =
      ap (λ (z : List ℕ). get_or z k 0) (take_all (length state - numbers_size) (drop numbers_size state) (omega (arith, length-drop numbers_size state)))
      ∙ get_or-drop numbers_size state k 0
      ∙ sym (get_or-take state_size state (numbers_size + k) 0 (omega arith))
      ∙ sym (get_or-drop numbers_size x k 0)

  column_in : (i : ℕ) → i < max_columns → column_of (code_at coded i) ≡ column_of (code_at (drop numbers_size x) i)
  column_in i l =
      ap column_of
      (ap₂ (λ (k o : ℕ). record { kind = k; options = o; width = get_or coded (4 * i + 2) 0 + 256 * get_or coded (4 * i + 3) 0 })
      (byte_in (4 * i) (omega arith)) (byte_in (4 * i + 1) (omega arith))
      ∙ ap₂ (λ (a b : ℕ). record { kind = get_or y (4 * i) 0; options = get_or y (4 * i + 1) 0; width = a + 256 * b })
      (byte_in (4 * i + 2) (omega arith)) (byte_in (4 * i + 3) (omega arith)))
    where
      y : List ℕ
      y = drop numbers_size x

  -- as many columns as number 12 says
  columns_in : (said count : ℕ) → said ≡ eight_at state 12 → count ≡ cond (leb said max_columns) said 0 → count ≤ max_columns
      → each 0 count (λ i. column_of (code_at coded i)) ≡ columns_of x (get_or ns 12 0)
  columns_in said count e p few =
      each_same 0 count (λ i. column_of (code_at coded i)) (λ i. column_of (code_at (drop numbers_size x) i)) (λ i _ l. column_in i (omega arith))
      ∙ ap (λ (n : ℕ). each 0 n (λ i. column_of (code_at (drop numbers_size x) i)))
      (p ∙ ap (λ (n : ℕ). cond (leb n max_columns) n 0) (e ∙ sym (number 12 (omega arith))))

  pub state_read : (said count : ℕ) → said ≡ eight_at state 12 → (count ≡ cond (leb said max_columns) said 0) × (count ≤ max_columns)
      → (schema : Schema) → schema ≡ schema_of (each 0 count (λ i. column_of (code_at coded i)))
      → (a b c d : ℕ) → a ≡ eight_at state 0 → b ≡ eight_at state 1 → c ≡ eight_at state 2 → d ≡ eight_at state 3
      → (rows bytes row column : ℕ) → rows ≡ eight_at state 4 → bytes ≡ eight_at state 5 → row ≡ eight_at state 6 → column ≡ eight_at state 7
      → (p q r s : ℕ) → p ≡ eight_at state 8 → q ≡ eight_at state 9 → r ≡ eight_at state 10 → s ≡ eight_at state 11
      → (check : Check) → check ≡ check_of a b c d → (spot : Spot) → spot ≡ spot_of p q r s
      → ◌≡◌ {A = Cutter} (record { schema = schema; refusal = check; rows = rows; bytes = bytes; row = row; column = column; spot = spot }) (state_of x)
  unfolding state_of
  state_read said count e few schema is a b c d e₀ e₁ e₂ e₃ rows bytes row column e₄ e₅ e₆ e₇ p q r s e₈ e₉ e₁₀ e₁₁ check f spot g =
      let n₀ = e₀ ∙ sym (number 0 (omega arith)) in
      let n₁ = e₁ ∙ sym (number 1 (omega arith)) in
      let n₂ = e₂ ∙ sym (number 2 (omega arith)) in
      let n₃ = e₃ ∙ sym (number 3 (omega arith)) in
      let n₄ = e₄ ∙ sym (number 4 (omega arith)) in
      let n₅ = e₅ ∙ sym (number 5 (omega arith)) in
      let n₆ = e₆ ∙ sym (number 6 (omega arith)) in
      let n₇ = e₇ ∙ sym (number 7 (omega arith)) in
      let n₈ = e₈ ∙ sym (number 8 (omega arith)) in
      let n₉ = e₉ ∙ sym (number 9 (omega arith)) in
      let n₁₀ = e₁₀ ∙ sym (number 10 (omega arith)) in
      let n₁₁ = e₁₁ ∙ sym (number 11 (omega arith)) in
      let m = is ∙ ap schema_of (columns_in said count e few.0 few.1) in
      rw (m, f, g, n₀, n₁, n₂, n₃, n₄, n₅, n₆, n₇, n₈, n₉, n₁₀, n₁₁)
