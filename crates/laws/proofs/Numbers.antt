-- The numbers of an answer tell which answer it is: two answers with equal numbers are equal. Assumes nothing.
use Prim.Native.Nat.{ℕ, ◌-◌}
use mathlib.Core.Path.{◌≡◌, refl, ap, sym, ◌∙◌}
use mathlib.Core.Bool.{cond}
use mathlib.Core.List.{List, [], ◌∷◌}
use lib.Dec.{eqb}
use lib.ListN.{get_or}
use Rattle.format.specs.declared.RowFault.TheVariants.{Cut, Lead, NullRest, BoolByte, EndByte, Padding, Extra, TooLong, Unfolded}
use Rattle.format.specs.declared.Refusal.{Refusal}
use Rattle.format.specs.declared.Refusal.TheVariants.{ListCut, UnknownKind, OptionBits, Width, ManyColumns, ManyRows, ColumnCut, SpareBit, Ends, LongSlot, BytesAfter, ManyBytes, RowRoom, OffsetRoom, Offsets, Row, SheetRoom, Input, OutOfOrder, Missing, ColumnRoom, KeyColumns, SheetRow, BrokenState}
use Rattle.format.specs.Numbers.{Answer, numbers_of}
use Rattle.std.specs.declared.result.Result.TheVariants.{Ok, Err}
use Rattle.format.specs.declared.Returned.{Returned}

-- the refusals in the order of their numbers, each made of the second, third and fourth number; nothing has 30
abbrev refusals : List (ℕ → ℕ → ℕ → Refusal)
refusals =
    (λ a b p. ListCut a) ∷ (λ a b p. UnknownKind a) ∷ (λ a b p. OptionBits a) ∷ (λ a b p. Width a) ∷ (λ a b p. ManyColumns a)
    ∷ (λ a b p. ManyRows a) ∷ (λ a b p. ColumnCut a) ∷ (λ a b p. SpareBit a) ∷ (λ a b p. Ends a b) ∷ (λ a b p. LongSlot a b)
    ∷ (λ a b p. BytesAfter a) ∷ (λ a b p. ManyBytes a b) ∷ (λ a b p. RowRoom a) ∷ (λ a b p. OffsetRoom a) ∷ (λ a b p. Offsets a)
    ∷ (λ a b p. Row Cut a b p) ∷ (λ a b p. Row Lead a b p) ∷ (λ a b p. Row NullRest a b p) ∷ (λ a b p. Row BoolByte a b p)
    ∷ (λ a b p. Row EndByte a b p) ∷ (λ a b p. Row Padding a b p) ∷ (λ a b p. Row Extra a b p) ∷ (λ a b p. Row TooLong a b p)
    ∷ (λ a b p. SheetRoom a) ∷ (λ a b p. Input) ∷ (λ a b p. OutOfOrder a b) ∷ (λ a b p. Missing a b) ∷ (λ a b p. Row Unfolded a b p)
    ∷ (λ a b p. ColumnRoom a) ∷ (λ a b p. Input) ∷ (λ a b p. KeyColumns a) ∷ (λ a b p. SheetRow a b) ∷ (λ a b p. BrokenState) ∷ []

-- the answer of four numbers
abbrev answer_of : Returned → Answer
answer_of x = cond (eqb x.0 0) (Ok (x.1, x.2)) (Err (get_or refusals (x.0 - 1) (λ a b p. Input) x.1 x.2 x.3))

numbers_back : (a : Answer) → answer_of (numbers_of a) ≡ a
numbers_back (Ok (a, b)) = refl
numbers_back (Err (ListCut place)) = refl
numbers_back (Err (UnknownKind place)) = refl
numbers_back (Err (OptionBits place)) = refl
numbers_back (Err (Width place)) = refl
numbers_back (Err (ManyColumns place)) = refl
numbers_back (Err (ManyRows n)) = refl
numbers_back (Err (ColumnCut c)) = refl
numbers_back (Err (SpareBit c)) = refl
numbers_back (Err (Ends c r)) = refl
numbers_back (Err (LongSlot c r)) = refl
numbers_back (Err (BytesAfter place)) = refl
numbers_back (Err (ManyBytes total rows)) = refl
numbers_back (Err (RowRoom total)) = refl
numbers_back (Err (OffsetRoom count)) = refl
numbers_back (Err (Offsets i)) = refl
numbers_back (Err (Row Cut r c place)) = refl
numbers_back (Err (Row Lead r c place)) = refl
numbers_back (Err (Row NullRest r c place)) = refl
numbers_back (Err (Row BoolByte r c place)) = refl
numbers_back (Err (Row EndByte r c place)) = refl
numbers_back (Err (Row Padding r c place)) = refl
numbers_back (Err (Row Extra r c place)) = refl
numbers_back (Err (Row TooLong r c place)) = refl
numbers_back (Err (Row Unfolded r c place)) = refl
numbers_back (Err (SheetRoom bytes)) = refl
numbers_back (Err Input) = refl
numbers_back (Err (OutOfOrder p r)) = refl
numbers_back (Err (Missing c r)) = refl
numbers_back (Err (ColumnRoom count)) = refl
numbers_back (Err (KeyColumns k)) = refl
numbers_back (Err (SheetRow sheet r)) = refl
numbers_back (Err BrokenState) = refl

pub numbers_injective : (a b : Answer) → numbers_of a ≡ numbers_of b → a ≡ b
numbers_injective a b e = sym (numbers_back a) ∙ ap answer_of e ∙ numbers_back b
