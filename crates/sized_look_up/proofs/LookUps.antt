-- The look-up on lent bytes: with the offsets that it uses alone it answers as with all of them. Assumes nothing.
use Prim.Native.Nat.{ℕ, ◌/◌, ◌<◌, ◌≤◌}
use mathlib.Core.Path.{◌≡◌, refl, ap, subst, ◌∙◌}
use mathlib.Core.Logic.{⊎_elim}
use mathlib.Core.List.{List}
use lib.ListN.{length, take}
use borrow.Author.Tests.{lt-ltb}
use Rattle.format.specs.Numbers.{Answer, numbers_of}
use Rattle.format.specs.Check.{Check}
use Rattle.std.specs.declared.result.Result.TheVariants.{Ok, Err}
use Rattle.format.specs.Limits.{max_rows}
use Rattle.format.specs.Described.{ColumnList, list_fault, columns}
use Rattle.format.specs.Read.{row_fault}
use Rattle.format.specs.Entries.{answer}
use Rattle.format.specs.Batch.{sorted_fault}
use Rattle.format.specs.Lookup.{key_columns_fault, lookup_check, lookup_answer}
use Rattle.format.specs.Lent.{eights, number_bytes, answer_room, lent_lookup}
use Rattle.format.specs.Lists.{over}
use Rattle.format.specs.Promises.{LookedUp, LentLookedUp}
use Rattle.basics.proofs.Checks.{refuse_pass, both_pass}
use Rattle.lent_bytes.specs.Offsets.{first_eights, Used}
use Rattle.lent_calls.proofs.Enough.{le_or_lt, agree, offsets_fault_lem, cuts}
use Rattle.lent_calls.proofs.Entries.{short_answer, long_answer}

-- the numbers of a success do not count in a refusal
refused_answer : (c : Check) (a b a' b' : ℕ) → (c ≡ Ok tt → ⊥) → answer c a b ≡ answer c a' b'
refused_answer (Ok tt) a b a' b' f = absurd (f refl)
refused_answer (Err r) a b a' b' f = refl

module _ (list : ColumnList) (k : ℕ) (key : List ℕ) (n : ℕ) (bytes bs : List ℕ) (used : ℕ) (u : Used n (length bs / 8) used) where
  abbrev few : List ℕ
  few = first_eights used bs

  abbrev all : List ℕ
  all = eights bs

  check : lookup_check list k key n bytes few ≡ lookup_check list k key n bytes all
  unfolding lookup_check sorted_fault
  check =
      ⊎_elim (λ h. let same = agree bs n (length bs / 8) used u h in rw (offsets_fault_lem n bytes few all same, cuts n bytes few all same))
      (λ h. rw (lt-ltb max_rows n h)) (le_or_lt n max_rows)

  -- over 4,096 rows are refused, whatever the offsets are
  many : max_rows < n → (os : List ℕ) → lookup_check list k key n bytes os ≡ Ok tt → ⊥
  unfolding lookup_check sorted_fault
  many h os e =
      let a = both_pass (list_fault list) _ e in
      let b = both_pass (key_columns_fault k (columns list)) _ a.1 in
      let c = both_pass (row_fault 0 (length key) 0 (take k (columns list)) key) _ b.1 in
      refuse_pass (rw (lt-ltb max_rows n h) at c.1)

  pub look_up_answer : lookup_answer list k key n bytes few ≡ lookup_answer list k key n bytes all
  unfolding lookup_answer
  look_up_answer =
      ⊎_elim (λ h. rw (check, cuts n bytes few all (agree bs n (length bs / 8) used u h)))
      (λ h. rw check (refused_answer (lookup_check list k key n bytes all) _ _ _ _ (many h all))) (le_or_lt n max_rows)

-- ---- an answer that cannot hold the four numbers
pub look_up_short : (lent : List ℕ) → length lent < answer_room → (list : ColumnList) (k : ℕ) (key : List ℕ) (n : ℕ) (rows offsets : List ℕ)
    → LentLookedUp list k key n rows offsets lent lent
unfolding lent_lookup
look_up_short lent short list k key n rows offsets = record { answers = short_answer lent short (lookup_answer list k key n rows (eights offsets)) }

-- ---- one that can, and holds those of r, which is the answer with the offsets that were read
pub look_up_long : (lent lent' : List ℕ) (r : Answer) → answer_room ≤ length lent → lent' ≡ over (number_bytes (numbers_of r)) lent
    → (list : ColumnList) (k : ℕ) (key : List ℕ) (n : ℕ) (rows offsets : List ℕ) (used : ℕ) (read : List ℕ) → Used n (length offsets / 8) used
    → read ≡ first_eights used offsets → LookedUp list k key n rows read r → LentLookedUp list k key n rows offsets lent lent'
unfolding lent_lookup
look_up_long lent lent' r long put list k key n rows offsets used read u e d =
    let h = subst (λ (os : List ℕ). LookedUp list k key n rows os r) e d in
    record {
      answers = long_answer lent lent' r long put (lookup_answer list k key n rows (eights offsets))
          (h.answers ∙ ap numbers_of (look_up_answer list k key n rows offsets used u));
    }
