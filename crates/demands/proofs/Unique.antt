-- What a public entry promises has one answer: any two that satisfy it are equal, in what they return and in every lent buffer at
-- exit. Assumes nothing.
use Prim.Native.Nat.{ℕ}
use mathlib.Core.Path.{◌≡◌}
use mathlib.Core.List.{List}
use lib.IntN.{ℤ}
use Rattle.format.specs.declared.Column.{Column}
use Rattle.format.specs.Numbers.{Answer}
use Rattle.format.specs.Described.{ColumnList}
use Rattle.format.specs.Promises.{Joined, LookedUp, LentJoined, LentLookedUp, SheetsCompared, PairsCompared, LentSheetsCompared, LentPairsCompared}
use Rattle.format.specs.Promises.{ListChecked, ListRead, Measured, Encoded, Decoded, Compared, LentListChecked, LentListRead, LentMeasured, LentEncoded, LentDecoded}
use Rattle.laws.proofs.Numbers.{numbers_injective}

pub check_list_unique : {list : List ℕ} {r r' : Answer} → ListChecked list r → ListChecked list r' → r ≡ r'
check_list_unique {list} {r} {r'} g h = numbers_injective r r' (cc)

pub read_list_unique : {list : List ℕ} {lent : List Column} {r r' : Answer} {lent₁ lent₂ : List Column}
    → ListRead list lent r lent₁ → ListRead list lent r' lent₂ → (r ≡ r') × (lent₁ ≡ lent₂)
read_list_unique {list} {lent} {r} {r'} g h = (numbers_injective r r' (cc), cc)

pub measure_unique : {list : ColumnList} {n : ℕ} {sheet : List ℕ} {r r' : Answer} → Measured list n sheet r → Measured list n sheet r' → r ≡ r'
measure_unique {list} {n} {sheet} {r} {r'} g h = numbers_injective r r' (cc)

pub encode_unique : {list : ColumnList} {n : ℕ} {sheet rows offsets : List ℕ} {r r' : Answer} {rows₁ rows₂ offsets₁ offsets₂ : List ℕ}
    → Encoded list n sheet rows offsets r rows₁ offsets₁ → Encoded list n sheet rows offsets r' rows₂ offsets₂
    → (r ≡ r') × (rows₁ ≡ rows₂) × (offsets₁ ≡ offsets₂)
encode_unique {list} {n} {sheet} {rows} {offsets} {r} {r'} g h = (numbers_injective r r' (cc), cc, cc)

pub decode_unique : {list : ColumnList} {n : ℕ} {rows offsets sheet : List ℕ} {r r' : Answer} {sheet₁ sheet₂ : List ℕ}
    → Decoded list n rows offsets sheet r sheet₁ → Decoded list n rows offsets sheet r' sheet₂ → (r ≡ r') × (sheet₁ ≡ sheet₂)
decode_unique {list} {n} {rows} {offsets} {sheet} {r} {r'} g h = (numbers_injective r r' (cc), cc)

pub join_unique : {n₀ : ℕ} {rows₀ offsets₀ : List ℕ} {n₁ : ℕ} {rows₁ offsets₁ list : List ℕ} {r r' : Answer} {list₁ list₂ : List ℕ}
    → Joined n₀ rows₀ offsets₀ n₁ rows₁ offsets₁ list r list₁ → Joined n₀ rows₀ offsets₀ n₁ rows₁ offsets₁ list r' list₂
    → (r ≡ r') × (list₁ ≡ list₂)
join_unique {r} {r'} g h = (numbers_injective r r' (cc), cc)

pub look_up_unique : {list : ColumnList} {k : ℕ} {key : List ℕ} {n : ℕ} {rows offsets : List ℕ} {r r' : Answer}
    → LookedUp list k key n rows offsets r → LookedUp list k key n rows offsets r' → r ≡ r'
look_up_unique {r} {r'} g h = numbers_injective r r' (cc)

pub compare_unique : {a b : List ℕ} {r r' : ℤ} → Compared a b r → Compared a b r' → r ≡ r'
compare_unique g h = cc

pub compare_sheets_unique : {list : ColumnList} {n₀ : ℕ} {sheet₀ : List ℕ} {r₀ n₁ : ℕ} {sheet₁ : List ℕ} {r₁ : ℕ} {r r' : Answer}
    → SheetsCompared list n₀ sheet₀ r₀ n₁ sheet₁ r₁ r → SheetsCompared list n₀ sheet₀ r₀ n₁ sheet₁ r₁ r' → r ≡ r'
compare_sheets_unique {r} {r'} g h = numbers_injective r r' (cc)

pub compare_pairs_unique : {list : ColumnList} {n₀ : ℕ} {sheet₀ : List ℕ} {n₁ : ℕ} {sheet₁ rows lent : List ℕ} {r r' : Answer} {lent₁ lent₂ : List ℕ}
    → PairsCompared list n₀ sheet₀ n₁ sheet₁ rows lent r lent₁ → PairsCompared list n₀ sheet₀ n₁ sheet₁ rows lent r' lent₂ → (r ≡ r') × (lent₁ ≡ lent₂)
compare_pairs_unique {r} {r'} g h = (numbers_injective r r' (cc), cc)

-- ---- the C entries
pub lent_check_list_unique : {list lent lent₁ lent₂ : List ℕ} → LentListChecked list lent lent₁ → LentListChecked list lent lent₂ → lent₁ ≡ lent₂
lent_check_list_unique g h = cc

pub lent_read_list_unique : {list descriptions lent descriptions₁ descriptions₂ lent₁ lent₂ : List ℕ}
    → LentListRead list descriptions lent descriptions₁ lent₁ → LentListRead list descriptions lent descriptions₂ lent₂
    → (lent₁ ≡ lent₂) × (descriptions₁ ≡ descriptions₂)
lent_read_list_unique g h = (cc, cc)

pub lent_measure_unique : {list : ColumnList} {n : ℕ} {sheet lent lent₁ lent₂ : List ℕ} → LentMeasured list n sheet lent lent₁
    → LentMeasured list n sheet lent lent₂ → lent₁ ≡ lent₂
lent_measure_unique g h = cc

pub lent_encode_unique : {list : ColumnList} {n : ℕ} {sheet rows offsets lent rows₁ rows₂ offsets₁ offsets₂ lent₁ lent₂ : List ℕ}
    → LentEncoded list n sheet rows offsets lent rows₁ offsets₁ lent₁ → LentEncoded list n sheet rows offsets lent rows₂ offsets₂ lent₂
    → (lent₁ ≡ lent₂) × (rows₁ ≡ rows₂) × (offsets₁ ≡ offsets₂)
lent_encode_unique g h = (cc, cc, cc)

pub lent_decode_unique : {list : ColumnList} {n : ℕ} {rows offsets sheet lent sheet₁ sheet₂ lent₁ lent₂ : List ℕ}
    → LentDecoded list n rows offsets sheet lent sheet₁ lent₁ → LentDecoded list n rows offsets sheet lent sheet₂ lent₂
    → (lent₁ ≡ lent₂) × (sheet₁ ≡ sheet₂)
lent_decode_unique g h = (cc, cc)

pub lent_join_unique : {n₀ : ℕ} {rows₀ offsets₀ : List ℕ} {n₁ : ℕ} {rows₁ offsets₁ list lent list₁ list₂ lent₁ lent₂ : List ℕ}
    → LentJoined n₀ rows₀ offsets₀ n₁ rows₁ offsets₁ list lent list₁ lent₁ → LentJoined n₀ rows₀ offsets₀ n₁ rows₁ offsets₁ list lent list₂ lent₂
    → (lent₁ ≡ lent₂) × (list₁ ≡ list₂)
lent_join_unique g h = (cc, cc)

pub lent_look_up_unique : {list : ColumnList} {k : ℕ} {key : List ℕ} {n : ℕ} {rows offsets lent lent₁ lent₂ : List ℕ}
    → LentLookedUp list k key n rows offsets lent lent₁ → LentLookedUp list k key n rows offsets lent lent₂ → lent₁ ≡ lent₂
lent_look_up_unique g h = cc

pub lent_compare_sheets_unique : {list : ColumnList} {n₀ : ℕ} {sheet₀ : List ℕ} {r₀ n₁ : ℕ} {sheet₁ : List ℕ} {r₁ : ℕ} {lent lent₁ lent₂ : List ℕ}
    → LentSheetsCompared list n₀ sheet₀ r₀ n₁ sheet₁ r₁ lent lent₁ → LentSheetsCompared list n₀ sheet₀ r₀ n₁ sheet₁ r₁ lent lent₂ → lent₁ ≡ lent₂
lent_compare_sheets_unique g h = cc

pub lent_compare_pairs_unique : {list : ColumnList} {n₀ : ℕ} {sheet₀ : List ℕ} {n₁ : ℕ} {sheet₁ pairs found lent found₁ found₂ lent₁ lent₂ : List ℕ}
    → LentPairsCompared list n₀ sheet₀ n₁ sheet₁ pairs found lent found₁ lent₁ → LentPairsCompared list n₀ sheet₀ n₁ sheet₁ pairs found lent found₂ lent₂
    → (lent₁ ≡ lent₂) × (found₁ ≡ found₂)
lent_compare_pairs_unique g h = (cc, cc)
