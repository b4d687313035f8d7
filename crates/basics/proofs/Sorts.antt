-- The three sorts of kinds: bool, values of one width, and variable bytes; that every number with a sign has a byte for it, and every
-- float a width that folds; and the last arm of a match on a kind, which takes those that no arm before it names. Assumes nothing.
use Prim.Native.Nat.{ℕ, ◌^◌, ◌<◌}
use mathlib.Core.Path.{◌≡◌, refl, sym, ap, subst, ◌∙◌}
use mathlib.Core.Bool.{Bool as Truth, true, false, true≢false}
use mathlib.Core.Logic.{◌⊎◌, inl, inr}
use mathlib.Core.List.{List, [], ◌∷◌}
use native.Mathlib.Omega.{arith}
use lib.Dec.{lit<}
use Rattle.format.specs.declared.Kind.{Kind}
use Rattle.format.specs.declared.Kind.TheVariants.{Bool, I8, I16, I32, I64, U8, U16, U32, U64, F16, F32, F64, DayTime, MonthDayNano, FixedBinary, Variable, I128, I256}
use Rattle.format.specs.Kinds.{Fixed, bool, plain, number, integer, float, parts, Shape, fixed, variable, shape, shape_bytes, width, value_bytes}
use Rattle.format.specs.Value.{half}
use Rattle.format.specs.Fold.{infinity, one_na_n, folds}
use Rattle.format.specs.Sheet.{layout_for, wide}
use Rattle.basics.specs.Wide.{WideKind, WideShape}

-- every part has a byte
abbrev pub AllPositive : List ℕ → Type 0
AllPositive [] = Unit {0}
AllPositive (n ∷ ns) = (0 < n) × AllPositive ns

-- every number that has a sign has a byte for it
abbrev pub Signs : Fixed → Type 0
Signs bool = Unit {0}
Signs (plain n) = Unit {0}
Signs (number n) = Unit {0}
Signs (integer n) = 0 < n
Signs (float n) = 0 < n
Signs (parts ns) = AllPositive ns

abbrev pub ShapeSigns : Shape → Type 0
ShapeSigns (fixed k) = Signs k
ShapeSigns variable = Unit {0}

-- what folding a float of n bytes rests on: the one NaN is above infinity and below the sign, which n bytes hold
pub record Foldable (n : ℕ) : Type 0 where
  pub above : infinity n < one_na_n n
  pub below : one_na_n n < half n
  pub holds : half n < 256 ^ n

-- every float has such a width
abbrev pub Folding : Fixed → Type 0
Folding bool = Unit {0}
Folding (plain n) = Unit {0}
Folding (number n) = Unit {0}
Folding (integer n) = Unit {0}
Folding (float n) = Foldable n
Folding (parts ns) = Unit {0}

abbrev pub ShapeFolding : Shape → Type 0
ShapeFolding (fixed k) = Folding k
ShapeFolding variable = Unit {0}

-- values of a kind never fold, or they are floats
data Folds (kind : Kind) (k : Fixed) : Type 0 where
  never : ((b : Truth) → folds k b ≡ false) → Folds kind k
  floats : Folding k → (kind ≡ F16) ⊎ ((kind ≡ F32) ⊎ (kind ≡ F64)) → Folds kind k

-- a kind is one of the three
data Sort (kind : Kind) : Type 0 where
  bools : kind ≡ Bool → Sort kind
  wides : (w : WideKind kind) → Signs w.k → Folds kind w.k → Sort kind
  variables : kind ≡ Variable → Sort kind

-- whether fixed values are bools, which alone are packed bits
abbrev is_bool : Fixed → Truth
is_bool bool = true
is_bool (plain w) = false
is_bool (number w) = false
is_bool (integer w) = false
is_bool (float w) = false
is_bool (parts ws) = false

-- the second sort
of_width : {kind : Kind} (k : Fixed) → shape kind ≡ fixed k → is_bool k ≡ false → Signs k → Folds kind k → Sort kind
of_width k e h s f = wides (record { k = k; says = e; other = λ q. let z : ◌≡◌ {A = ℕ} 0 1 = cc (ap is_bool q) in omega arith }) s f

-- the table of kinds, by sort: what is proved of every kind is proved from here
sort : (kind : Kind) → Sort kind
sort Bool = bools refl
sort I8 = of_width (integer 1) refl refl (omega arith) (never (λ b. refl))
sort I16 = of_width (integer 2) refl refl (omega arith) (never (λ b. refl))
sort I32 = of_width (integer 4) refl refl (omega arith) (never (λ b. refl))
sort I64 = of_width (integer 8) refl refl (omega arith) (never (λ b. refl))
sort U8 = of_width (number 1) refl refl tt (never (λ b. refl))
sort U16 = of_width (number 2) refl refl tt (never (λ b. refl))
sort U32 = of_width (number 4) refl refl tt (never (λ b. refl))
sort U64 = of_width (number 8) refl refl tt (never (λ b. refl))
sort F16 = of_width (float 2) refl refl (omega arith) (floats (record { above = lit< tt; below = lit< tt; holds = lit< tt }) (inl refl))
sort F32 = of_width (float 4) refl refl (omega arith) (floats (record { above = lit< tt; below = lit< tt; holds = lit< tt }) (inr (inl refl)))
sort F64 = of_width (float 8) refl refl (omega arith) (floats (record { above = lit< tt; below = lit< tt; holds = lit< tt }) (inr (inr refl)))
sort DayTime = of_width (parts (4 ∷ 4 ∷ [])) refl refl (omega arith) (never (λ b. refl))
sort MonthDayNano = of_width (parts (4 ∷ 4 ∷ 8 ∷ [])) refl refl (omega arith) (never (λ b. refl))
sort (FixedBinary w) = of_width (plain w) refl refl tt (never (λ b. refl))
sort Variable = variables refl
sort I128 = of_width (integer 16) refl refl (omega arith) (never (λ b. refl))
sort I256 = of_width (integer 32) refl refl (omega arith) (never (λ b. refl))

-- in every kind
pub signs : (kind : Kind) → ShapeSigns (shape kind)
signs kind = go (sort kind)
  where
    go : Sort kind → ShapeSigns (shape kind)
    go (bools e) = rw e tt
    go (wides w s f) = rw w.says s
    go (variables e) = rw e tt

pub foldable : (kind : Kind) → ShapeFolding (shape kind)
foldable kind = go (sort kind)
  where
    folding : (k : Fixed) → Folds kind k → Folding k
    folding k (floats f e) = f
    folding bool (never h) = tt
    folding (plain n) (never h) = tt
    folding (number n) (never h) = tt
    folding (integer n) (never h) = tt
    folding (float n) (never h) = absurd (true≢false (h true))
    folding (parts ns) (never h) = tt

    go : Sort kind → ShapeFolding (shape kind)
    go (bools e) = rw e tt
    go (wides w s f) = rw w.says (folding w.k f)
    go (variables e) = rw e tt

-- ---- values of one width

-- neither bool nor variable bytes
pub not_bool : {kind : Kind} → WideKind kind → kind ≡ Bool → ⊥
not_bool {kind} w e = w.other (sym same)
  where
    told : fixed bool ≡ fixed w.k
    told = sym (ap shape e) ∙ w.says

    same : bool ≡ w.k
    same = cc

pub not_variable : {kind : Kind} → WideKind kind → kind ≡ Variable → ⊥
not_variable {kind} w e = let z : ◌≡◌ {A = ℕ} 0 1 = differ in omega arith
  where
    told : variable ≡ fixed w.k
    told = sym (ap shape e) ∙ w.says

    differ : ◌≡◌ {A = ℕ} 0 1
    differ = cc

-- as a reader is told of it
pub wide_shape : {kind : Kind} (w : WideKind kind) → WideShape (value_bytes kind) w.k
wide_shape w = record { bytes = sym (ap shape_bytes w.says); other = w.other }

-- they stand as such in the sheet
pub wide_layout : {kind : Kind} → WideKind kind → layout_for (shape kind) ≡ wide (value_bytes kind)
wide_layout {kind} w = rw w.says (go w.k w.other)
  where
    go : (k : Fixed) → (k ≡ bool → ⊥) → layout_for (fixed k) ≡ wide (width k)
    go bool o = absurd (o refl)
    go (plain n) o = refl
    go (number n) o = refl
    go (integer n) o = refl
    go (float n) o = refl
    go (parts ns) o = refl

-- ---- the last arm of a match, by the kinds that have an arm before it

-- after the arms of bool and of variable bytes
pub wide_arm : (kind : Kind) → (kind ≡ Bool → ⊥) → (kind ≡ Variable → ⊥) → WideKind kind
wide_arm kind b v = go (sort kind)
  where
    go : Sort kind → WideKind kind
    go (bools e) = absurd (b e)
    go (wides w s f) = w
    go (variables e) = absurd (v e)

-- none of the kinds whose values are read or folded in a way of their own
pub record PlainArm (kind : Kind) : Type 0 where
  pub no_bool : kind ≡ Bool → ⊥
  pub no_half : kind ≡ F16 → ⊥
  pub no_single : kind ≡ F32 → ⊥
  pub no_double : kind ≡ F64 → ⊥
  pub no_variable : kind ≡ Variable → ⊥

-- after their arms
pub plain_arm : (kind : Kind) → PlainArm kind → (w : WideKind kind) × ((b : Truth) → folds w.k b ≡ false)
plain_arm kind h = go (sort kind)
  where
    go : Sort kind → (w : WideKind kind) × ((b : Truth) → folds w.k b ≡ false)
    go (bools e) = absurd (h.no_bool e)
    go (wides w s (never f)) = (w, f)
    go (wides w s (floats f (inl e))) = absurd (h.no_half e)
    go (wides w s (floats f (inr (inl e)))) = absurd (h.no_single e)
    go (wides w s (floats f (inr (inr e)))) = absurd (h.no_double e)
    go (variables e) = absurd (h.no_variable e)

-- after the arm of variable bytes: what holds of bool and of values of one width
pub fixed_arm : (P : Kind → Type 0) (kind : Kind) → P Bool → (WideKind kind → P kind) → (kind ≡ Variable → ⊥) → P kind
fixed_arm P kind b w v = go (sort kind)
  where
    go : Sort kind → P kind
    go (bools e) = subst P (sym e) b
    go (wides k s f) = w k
    go (variables e) = absurd (v e)
