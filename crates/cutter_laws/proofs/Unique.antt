-- What the row cutter's entries promise has one answer: any two that satisfy it are equal, in what they return and in every lent buffer at
-- exit. Assumes nothing.
use Prim.Native.Nat.{ℕ}
use mathlib.Core.Path.{◌≡◌}
use mathlib.Core.List.{List}
use Rattle.format.specs.Numbers.{Answer}
use Rattle.format.specs.declared.Cutter.{Cutter}
use Rattle.format.specs.Described.{ColumnList}
use Rattle.format.specs.Promises.{Started, PieceCut, Finished, LentStarted, LentPieceCut, LentFinished}
use Rattle.laws.proofs.Numbers.{numbers_injective}

pub start_unique : {list : ColumnList} {r r' : Answer} {s s' : Cutter} → Started list r s → Started list r' s' → (r ≡ r') × (s ≡ s')
start_unique {list} {r} {r'} g h = (numbers_injective r r' (cc), cc)

pub cut_unique : {s : Cutter} {piece ends : List ℕ} {r r' : Answer} {s₁ s₂ : Cutter} {ends₁ ends₂ : List ℕ}
    → PieceCut s piece ends r s₁ ends₁ → PieceCut s piece ends r' s₂ ends₂ → (r ≡ r') × (s₁ ≡ s₂) × (ends₁ ≡ ends₂)
cut_unique {s} {piece} {ends} {r} {r'} g h = (numbers_injective r r' (cc), cc, cc)

pub finish_unique : {s : Cutter} {r r' : Answer} → Finished s r → Finished s r' → r ≡ r'
finish_unique {s} {r} {r'} g h = numbers_injective r r' (cc)

-- ---- the C entries
pub lent_start_unique : {list : ColumnList} {state lent state₁ state₂ lent₁ lent₂ : List ℕ} → LentStarted list state lent state₁ lent₁
    → LentStarted list state lent state₂ lent₂ → (lent₁ ≡ lent₂) × (state₁ ≡ state₂)
lent_start_unique g h = (cc, cc)

pub lent_cut_unique : {state piece ends lent state₁ state₂ ends₁ ends₂ lent₁ lent₂ : List ℕ} → LentPieceCut state piece ends lent state₁ ends₁ lent₁
    → LentPieceCut state piece ends lent state₂ ends₂ lent₂ → (lent₁ ≡ lent₂) × (state₁ ≡ state₂) × (ends₁ ≡ ends₂)
lent_cut_unique g h = (cc, cc, cc)

pub lent_finish_unique : {state lent lent₁ lent₂ : List ℕ} → LentFinished state lent lent₁ → LentFinished state lent lent₂ → lent₁ ≡ lent₂
lent_finish_unique g h = cc
