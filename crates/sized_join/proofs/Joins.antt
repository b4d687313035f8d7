-- `station_join`: with the offsets and the entries that it uses alone it answers and writes as with all of them. Assumes nothing.
use Prim.Native.Nat.{ℕ, ◌+◌, ◌/◌, ◌<◌, ◌≤◌}
use mathlib.Core.Path.{◌≡◌, refl, sym, ap, ap₂, subst, ◌∙◌}
use mathlib.Core.Bool.{Bool}
use mathlib.Core.Logic.{⊎_elim}
use mathlib.Core.List.{List, append-nil}
use native.Mathlib.Omega.{arith}
use lib.Dec.{ltb}
use lib.ListN.{length, drop_of_length-le}
use borrow.Author.Tests.{lt-ltb, le-ltb}
use Rattle.format.specs.declared.Refusal.{Refusal}
use Rattle.format.specs.declared.Refusal.TheVariants.{ManyRows, OffsetRoom}
use Rattle.format.specs.Check.{Check, both, fail_if}
use Rattle.std.specs.declared.result.Result.TheVariants.{Ok, Err}
use Rattle.format.specs.Numbers.{Answer, numbers_of}
use Rattle.format.specs.Limits.{max_rows}
use Rattle.format.specs.Lists.{Bytes, over}
use Rattle.format.specs.Entries.{answer, written, row_count_fault, row_bytes, cut_rows}
use Rattle.format.specs.Batch.{pass_fault}
use Rattle.format.specs.Join.{join_order, join_check, join_answer, join_list}
use Rattle.format.specs.Lent.{eights, eight_bytes, number_bytes, answer_room, lent_join, lent_join_list}
use Rattle.format.specs.Promises.{Joined, LentJoined}
use Rattle.basics.proofs.Checks.{answer_done, both_pass, enough}
use Rattle.basics.proofs.Lists.{length_each}
use Rattle.laws.proofs.Numbers.{numbers_injective}
use Rattle.joiner.proofs.Sorting.{length_order}
use Rattle.lent_bytes.specs.Offsets.{eight_at, first_eights, Used}
use Rattle.lent_bytes.specs.Entries.{UsedEntries}
use Rattle.encoded_bytes.proofs.Stores.{answer_refused}
use Rattle.sized_join.specs.Order.{JoinedBytes}
use Rattle.lent_calls.proofs.Enough.{le_or_lt, front, agree, offsets_fault_lem, cuts}
use Rattle.lent_calls.proofs.Entries.{short_answer, short_kept, long_answer, long_new}

-- an order has an entry a row
length_new : (n₀ : ℕ) (rows₀ offsets₀ : List ℕ) (n₁ : ℕ) (rows₁ offsets₁ : List ℕ)
    → length (join_order (cut_rows n₀ rows₀ offsets₀) (cut_rows n₁ rows₁ offsets₁)) ≡ n₀ + n₁
length_new n₀ rows₀ offsets₀ n₁ rows₁ offsets₁ =
    length_order (cut_rows n₀ rows₀ offsets₀) (cut_rows n₁ rows₁ offsets₁)
    ∙ ap₂ {C = ℕ} (λ a b. a + b) (length_each 0 n₀ (row_bytes rows₀ offsets₀)) (length_each 0 n₁ (row_bytes rows₁ offsets₁))

-- ---- join with the offsets that were read
pub read_joined : {n₀ : ℕ} {rows₀ os₀ few₀ : List ℕ} {n₁ : ℕ} {rows₁ os₁ few₁ list : List ℕ} {r : Answer} {list' : List ℕ} → os₀ ≡ few₀ → os₁ ≡ few₁
    → Joined n₀ rows₀ os₀ n₁ rows₁ os₁ list r list' → Joined n₀ rows₀ few₀ n₁ rows₁ few₁ list r list'
read_joined {n₀} {rows₀} {os₀} {few₀} {n₁} {rows₁} {os₁} {few₁} {list} {r} {list'} e f h =
    subst (λ (x : List ℕ). Joined n₀ rows₀ x n₁ rows₁ few₁ list r list') e (subst (λ (x : List ℕ). Joined n₀ rows₀ os₀ n₁ rows₁ x list r list') f h)

-- ---- join with numbers in bytes
module _ (n₀ : ℕ) (rows₀ offsets₀ : List ℕ) (n₁ : ℕ) (rows₁ offsets₁ order list : List ℕ) (r : Answer) (list' : List ℕ)
    (h : Joined n₀ rows₀ offsets₀ n₁ rows₁ offsets₁ list r list') where
  abbrev new : List ℕ
  new = join_order (cut_rows n₀ rows₀ offsets₀) (cut_rows n₁ rows₁ offsets₁)

  -- a refusal stores nothing
  pub no_entries : (x : Refusal) → r ≡ Err x → JoinedBytes n₀ rows₀ offsets₀ n₁ rows₁ offsets₁ order (length list) r order
  unfolding join_answer
  no_entries x e =
      let refuses = answer_refused (join_check n₀ rows₀ offsets₀ n₁ rows₁ offsets₁ (length list)) _ _ x (sym (numbers_injective _ _ h.answers) ∙ e) in
      record { answers = h.answers; entries = rw refuses }

  -- a success stores the order: there is room for no more entries
  pub entries_stored : (x y : ℕ) → r ≡ Ok (x, y) → length list ≤ n₀ + n₁ → (order' : List ℕ) → order' ≡ over (eight_bytes list') order
      → JoinedBytes n₀ rows₀ offsets₀ n₁ rows₁ offsets₁ order (length list) r order'
  unfolding join_answer join_list
  entries_stored x y e most order' w =
      let passes = (answer_done (join_check n₀ rows₀ offsets₀ n₁ rows₁ offsets₁ (length list)) _ _ x y (sym (numbers_injective _ _ h.answers) ∙ e)).0 in
      let many = length_new n₀ rows₀ offsets₀ n₁ rows₁ offsets₁ in
      let short : length list ≤ length new = omega (arith, many) in
      let all : list' ≡ new = h.order ∙ rw passes (rw (drop_of_length-le list short) (append-nil new)) in
      record { answers = h.answers; entries = w ∙ rw (passes, all) refl }

-- ---- an answer that cannot hold the four numbers
pub join_short : (n₀ : ℕ) (rows₀ bs₀ : List ℕ) (n₁ : ℕ) (rows₁ bs₁ order lent : List ℕ) → length lent < answer_room
    → LentJoined n₀ rows₀ bs₀ n₁ rows₁ bs₁ order lent order lent
unfolding lent_join lent_join_list
join_short n₀ rows₀ bs₀ n₁ rows₁ bs₁ order lent short = record {
  answers = short_answer lent short (join_answer n₀ rows₀ (eights bs₀) n₁ rows₁ (eights bs₁) (length order / 8));
  order = short_kept lent short (over (eight_bytes (join_list n₀ rows₀ (eights bs₀) n₁ rows₁ (eights bs₁) (eights order))) order) order;
}

-- ---- the offsets used are enough
pass_enough : (p n : ℕ) (bytes bs : List ℕ) (k : ℕ) → Used n (length bs / 8) k → pass_fault p n bytes (first_eights k bs) ≡ pass_fault p n bytes (eights bs)
unfolding pass_fault
pass_enough p n bytes bs k u =
    ⊎_elim
    (λ h.
    let a = agree bs n (length bs / 8) k u h in
    rw (offsets_fault_lem n bytes (first_eights k bs) (eights bs) a, cuts n bytes (first_eights k bs) (eights bs) a))
    (λ h. rw (lt-ltb max_rows n h)) (le_or_lt n max_rows)

pass_few : (p n : ℕ) (bytes offsets : List ℕ) → pass_fault p n bytes offsets ≡ Ok tt → n ≤ max_rows
unfolding pass_fault
pass_few p n bytes offsets e = (enough max_rows n (ManyRows n) (Ok tt) (both_pass (row_count_fault n) _ e).0).0

-- what follows a refusal does not count
both_same : (x y a b : Check) → (x ≡ Ok tt → y ≡ Ok tt → a ≡ b) → both x (both y a) ≡ both x (both y b)
both_same (Ok _) (Ok _) a b h = h refl refl
both_same (Ok tt) (Err s) a b h = refl
both_same (Err r) y a b h = refl

written_same : (x : Check) (new new' old : List ℕ) → (x ≡ Ok tt → new ≡ new') → written x new old ≡ written x new' old
written_same (Ok tt) _ _ old h = ap (λ (z : List ℕ). over z old) (h refl)
written_same (Err r) _ _ old h = refl

-- k entries reach the last row just where all do
reach : (n₀ n₁ room k : ℕ) → UsedEntries n₀ n₁ room k → n₀ ≤ max_rows → n₁ ≤ max_rows → ltb k (n₀ + n₁) ≡ ltb room (n₀ + n₁)
reach n₀ n₁ room k u f g =
    ⊎_elim (λ l. le-ltb k (n₀ + n₁) l ∙ sym (le-ltb room (n₀ + n₁) (omega (arith, u.there))))
    (λ l. ap (λ (m : ℕ). ltb m (n₀ + n₁)) (u.enough f g l)) (le_or_lt (n₀ + n₁) k)

module _ (n₀ : ℕ) (rows₀ bs₀ : List ℕ) (k₀ : ℕ) (u₀ : Used n₀ (length bs₀ / 8) k₀)
    (n₁ : ℕ) (rows₁ bs₁ : List ℕ) (k₁ : ℕ) (u₁ : Used n₁ (length bs₁ / 8) k₁) where
  abbrev fewCheck : ℕ → Check
  fewCheck room = join_check n₀ rows₀ (first_eights k₀ bs₀) n₁ rows₁ (first_eights k₁ bs₁) room

  abbrev allCheck : ℕ → Check
  allCheck room = join_check n₀ rows₀ (eights bs₀) n₁ rows₁ (eights bs₁) room

  -- what is known of a join that is not refused
  passed : (room : ℕ) → allCheck room ≡ Ok tt → (n₀ ≤ max_rows) × (n₁ ≤ max_rows) × (n₀ + n₁ ≤ room)
  unfolding join_check
  passed room e =
      let p = both_pass (pass_fault 0 n₀ rows₀ (eights bs₀)) _ e in
      let q = both_pass (pass_fault 1 n₁ rows₁ (eights bs₁)) _ p.1 in
      (pass_few 0 n₀ rows₀ (eights bs₀) p.0, pass_few 1 n₁ rows₁ (eights bs₁) q.0, (enough room (n₀ + n₁) (OffsetRoom (n₀ + n₁)) (Ok tt) q.1).0)

  module _ (room k : ℕ) (u : UsedEntries n₀ n₁ room k) where
    check_enough : fewCheck k ≡ allCheck room
    unfolding join_check
    check_enough =
        rw (pass_enough 0 n₀ rows₀ bs₀ k₀ u₀, pass_enough 1 n₁ rows₁ bs₁ k₁ u₁)
        (both_same (pass_fault 0 n₀ rows₀ (eights bs₀)) (pass_fault 1 n₁ rows₁ (eights bs₁)) _ _
        (λ e f.
        ap (λ (t : Bool). fail_if t (OffsetRoom (n₀ + n₁)) (Ok tt))
        (reach n₀ n₁ room k u (pass_few 0 n₀ rows₀ (eights bs₀) e) (pass_few 1 n₁ rows₁ (eights bs₁) f))))

    answer_enough : join_answer n₀ rows₀ (first_eights k₀ bs₀) n₁ rows₁ (first_eights k₁ bs₁) k ≡ join_answer n₀ rows₀ (eights bs₀) n₁ rows₁ (eights bs₁) room
    unfolding join_answer
    answer_enough = ap (λ (c : Check). answer c (n₀ + n₁) 0) check_enough

  abbrev newFew : List ℕ
  newFew = join_order (cut_rows n₀ rows₀ (first_eights k₀ bs₀)) (cut_rows n₁ rows₁ (first_eights k₁ bs₁))

  abbrev newAll : List ℕ
  newAll = join_order (cut_rows n₀ rows₀ (eights bs₀)) (cut_rows n₁ rows₁ (eights bs₁))

  new_same : n₀ ≤ max_rows → n₁ ≤ max_rows → newFew ≡ newAll
  new_same f g =
      ap₂ join_order (cuts n₀ rows₀ (first_eights k₀ bs₀) (eights bs₀) (agree bs₀ n₀ (length bs₀ / 8) k₀ u₀ f))
      (cuts n₁ rows₁ (first_eights k₁ bs₁) (eights bs₁) (agree bs₁ n₁ (length bs₁ / 8) k₁ u₁ g))

  entries_enough : (order : List ℕ) (k : ℕ) → Bytes order → UsedEntries n₀ n₁ (length order / 8) k
      → written (fewCheck k) (eight_bytes newFew) order ≡ over (eight_bytes (join_list n₀ rows₀ (eights bs₀) n₁ rows₁ (eights bs₁) (eights order))) order
  unfolding join_list
  entries_enough order k b u =
      let room = length order / 8 in
      ap (λ (c : Check). written c (eight_bytes newFew) order) (check_enough room k u)
      ∙ written_same (allCheck room) (eight_bytes newFew) (eight_bytes newAll) order
      (λ e. let p = passed room e in ap eight_bytes (new_same p.0 p.1))
      ∙ front (allCheck room) newAll order b (λ e. omega (arith, passed room e, length_new n₀ rows₀ (eights bs₀) n₁ rows₁ (eights bs₁)))
      ∙ rw (length_each 0 room (eight_at order)) refl

  -- ---- the entry, where the answer can hold the four numbers
  pub join_long : (order : List ℕ) (k : ℕ) (order' lent lent' : List ℕ) (r : Answer) → Bytes order → UsedEntries n₀ n₁ (length order / 8) k
      → answer_room ≤ length lent → lent' ≡ over (number_bytes (numbers_of r)) lent
      → JoinedBytes n₀ rows₀ (first_eights k₀ bs₀) n₁ rows₁ (first_eights k₁ bs₁) order k r order'
      → LentJoined n₀ rows₀ bs₀ n₁ rows₁ bs₁ order lent order' lent'
  unfolding lent_join lent_join_list
  join_long order k order' lent lent' r b u long put h = record {
    answers =
        long_answer lent lent' r long put (join_answer n₀ rows₀ (eights bs₀) n₁ rows₁ (eights bs₁) (length order / 8))
        (h.answers ∙ ap numbers_of (answer_enough (length order / 8) k u));
    order = long_new lent lent' r long put order' _ order (h.entries ∙ entries_enough order k b u);
  }
