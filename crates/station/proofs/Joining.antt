-- The ways out of `join`: what each answers and leaves in the list. Assumes nothing.
use Prim.Native.Nat.{ℕ, ◌+◌, ◌<◌, ◌≤◌}
use mathlib.Core.Path.{◌≡◌, refl, sym, ap, ◌∙◌}
use mathlib.Core.List.{List}
use native.Mathlib.Omega.{arith}
use lib.ListN.{length}
use borrow.Author.Tests.{lt-ltb, le-ltb}
use Rattle.format.specs.declared.Refusal.{Refusal}
use Rattle.format.specs.declared.Refusal.TheVariants.{ManyRows, OffsetRoom}
use Rattle.std.specs.declared.result.Result.TheVariants.{Ok, Err}
use Rattle.format.specs.Limits.{max_rows}
use Rattle.format.specs.Lists.{over}
use Rattle.format.specs.Entries.{row_count_fault, offsets_fault, cut_rows}
use Rattle.format.specs.Batch.{pass_fault}
use Rattle.format.specs.Join.{join_order, join_check, join_answer, join_list}
use Rattle.format.specs.Promises.{Joined}
use Rattle.basics.proofs.Checks.{both_pass, enough}
use Rattle.laws.proofs.Cuts.{offsets_passed}
use Rattle.joiner.specs.Rows.{Sorted, Joinable}

-- a pass of which nothing is refused is in order
sorted : (p n : ℕ) (bytes offsets : List ℕ) → pass_fault p n bytes offsets ≡ Ok tt → Sorted p n bytes offsets
unfolding pass_fault
sorted p n bytes offsets e =
    let s = both_pass (row_count_fault n) _ e in
    let t = both_pass (offsets_fault n bytes offsets) _ s.1 in
    record { few = (enough max_rows n (ManyRows n) (Ok tt) s.0).0; cuts = offsets_passed n bytes offsets t.0; rises = t.1 }

module _ (n₀ : ℕ) (rows₀ offsets₀ : List ℕ) (n₁ : ℕ) (rows₁ offsets₁ list : List ℕ) where
  -- a refusal writes nothing
  refused : (x : Refusal) → join_check n₀ rows₀ offsets₀ n₁ rows₁ offsets₁ (length list) ≡ Err x
      → Joined n₀ rows₀ offsets₀ n₁ rows₁ offsets₁ list (Err x) list
  unfolding join_answer join_list
  refused x e = record { answers = rw e; order = rw e }

  pub bad_first : (x : Refusal) → pass_fault 0 n₀ rows₀ offsets₀ ≡ Err x → Joined n₀ rows₀ offsets₀ n₁ rows₁ offsets₁ list (Err x) list
  unfolding join_check
  bad_first x e = refused x (rw e)

  module _ (e : pass_fault 0 n₀ rows₀ offsets₀ ≡ Ok tt) where
    pub bad_second : (x : Refusal) → pass_fault 1 n₁ rows₁ offsets₁ ≡ Err x → Joined n₀ rows₀ offsets₀ n₁ rows₁ offsets₁ list (Err x) list
    unfolding join_check
    bad_second x f = refused x (rw (e, f))

    module _ (f : pass_fault 1 n₁ rows₁ offsets₁ ≡ Ok tt) where
      -- there are few rows in both
      pub few : (n₀ ≤ max_rows) × (n₁ ≤ max_rows)
      few = ((sorted 0 n₀ rows₀ offsets₀ e).few, (sorted 1 n₁ rows₁ offsets₁ f).few)

      -- 14
      pub short : length list < n₀ + n₁ → Joined n₀ rows₀ offsets₀ n₁ rows₁ offsets₁ list (Err (OffsetRoom (n₀ + n₁))) list
      unfolding join_check
      short h = refused (OffsetRoom (n₀ + n₁)) (rw (e, f, lt-ltb (length list) (n₀ + n₁) h))

      module _ (h : n₀ + n₁ ≤ length list) where
        -- what the merge asks
        pub joinable : Joinable n₀ rows₀ offsets₀ n₁ rows₁ offsets₁ list
        joinable = record { first = sorted 0 n₀ rows₀ offsets₀ e; second = sorted 1 n₁ rows₁ offsets₁ f; room = h }

        pub merged : (list' : List ℕ) → list' ≡ over (join_order (cut_rows n₀ rows₀ offsets₀) (cut_rows n₁ rows₁ offsets₁)) list
            → Joined n₀ rows₀ offsets₀ n₁ rows₁ offsets₁ list (Ok (n₀ + n₁, 0)) list'
        unfolding join_check join_answer join_list
        merged list' w = record {
          answers = rw (e, f, le-ltb (length list) (n₀ + n₁) h);
          order = w ∙ rw (e, f, le-ltb (length list) (n₀ + n₁) h) refl;
        }
