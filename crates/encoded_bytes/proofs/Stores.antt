-- What encode stores in lent bytes: on a refusal nothing, on a success the ends. Assumes nothing.
use Prim.Native.Nat.{ℕ, suc, ◌≤◌}
use mathlib.Core.Path.{◌≡◌, refl, sym, ◌∙◌}
use mathlib.Core.List.{List, append-nil}
use native.Mathlib.Omega.{arith}
use lib.ListN.{length, drop_of_length-le}
use Rattle.format.specs.declared.Refusal.{Refusal}
use Rattle.format.specs.Check.{Check}
use Rattle.std.specs.declared.result.Result.TheVariants.{Ok, Err}
use Rattle.format.specs.Numbers.{Answer}
use Rattle.format.specs.Lists.{ends_from, over}
use Rattle.format.specs.Described.{ColumnList, columns}
use Rattle.format.specs.Sheet.{sheet_slots}
use Rattle.format.specs.Entries.{answer, sheet_rows, encode_check, encode_answer}
use Rattle.format.specs.Lent.{eight_bytes}
use Rattle.format.specs.Promises.{Encoded}
use Rattle.basics.proofs.Lists.{length_ends}
use Rattle.laws.proofs.Numbers.{numbers_injective}
use Rattle.laws.proofs.Accept.{encode_done, encode_offsets_lem}
use Rattle.laws.proofs.Turned.{rows_many}
use Rattle.encoded_bytes.specs.Stored.{EncodedBytes}

pub answer_refused : (m : Check) (a b : ℕ) (x : Refusal) → answer m a b ≡ Err x → m ≡ Err x
answer_refused (Ok tt) a b x e = absurd (let z : ◌≡◌ {A = ℕ} 0 1 = cc in omega arith)
answer_refused (Err y) a b x e = cc

module _ (list : ColumnList) (n : ℕ) (sheet rows offsets numbers : List ℕ) (r : Answer) (rows' numbers' : List ℕ)
    (h : Encoded list n sheet rows numbers r rows' numbers') where
  abbrev ends : List ℕ
  ends = ends_from 0 (sheet_rows n (columns list) sheet)

  -- a refusal stores nothing
  pub none_stored : (x : Refusal) → r ≡ Err x → EncodedBytes list n sheet rows offsets (length numbers) r rows' offsets
  unfolding encode_answer
  none_stored x e =
      let refuses = answer_refused (encode_check list n sheet (length rows) (length numbers)) _ _ x (sym (numbers_injective _ _ h.answers) ∙ e) in
      record { answers = h.answers; row_bytes = h.row_bytes; row_ends = rw refuses }

  -- a success stores the ends: there is room for no more numbers
  pub ends_stored : (x y : ℕ) → r ≡ Ok (x, y) → length numbers ≤ suc n → (offsets' : List ℕ) → offsets' ≡ over (eight_bytes numbers') offsets
      → EncodedBytes list n sheet rows offsets (length numbers) r rows' offsets'
  ends_stored x y e most offsets' w =
      let passes = (encode_done list n sheet (length rows) (length numbers) x y (sym (numbers_injective _ _ h.answers) ∙ e)).0 in
      let many = rows_many n (columns list) (sheet_slots n (columns list) sheet) in
      let short : length numbers ≤ length ends = omega (arith, length_ends 0 (sheet_rows n (columns list) sheet), many) in
      let all : numbers' ≡ ends = h.row_ends ∙ encode_offsets_lem list n sheet rows numbers passes ∙ rw (drop_of_length-le numbers short) (append-nil ends) in
      record { answers = h.answers; row_bytes = h.row_bytes; row_ends = w ∙ rw (passes, all) refl }
