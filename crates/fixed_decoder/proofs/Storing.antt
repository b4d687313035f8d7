-- The slot of a field that is decoded word by word: its words, or those of 0. Assumes nothing.
use Prim.Native.Nat.{ℕ, suc, ◌+◌, ◌≤◌}
use mathlib.Core.Path.{◌≡◌, refl, sym, ap, ap₂, ◌∙◌, subst}
use mathlib.Core.Bool.{Bool, true, false, cond, not}
use mathlib.Core.Logic.{inl, inr}
use mathlib.Core.List.{List, [], ◌∷◌}
use native.Mathlib.Omega.{arith}
use lib.Dec.{eqb}
use lib.ListN.{length, get_or, take, drop, replicate}
use lib.Seq.{sets}
use borrow.Author.Tests.{eqb-true}
use Rattle.format.specs.declared.SortOptions.{SortOptions}
use Rattle.format.specs.declared.RowFault.TheVariants.{Lead}
use Rattle.format.specs.Kinds.{Fixed, parts, width}
use Rattle.format.specs.Key.{parts_unkey, unkey}
use Rattle.format.specs.Cleared.{fixed_slot}
use Rattle.format.specs.Field.{directed}
use Rattle.format.specs.Read.{fault, Good, null_lead, read_bytes, read_fixed, read_null, slot_read}
use Rattle.laws.proofs.Fields.{not_null}
use Rattle.number.specs.declared.Coding.{Coding}
use Rattle.number.specs.declared.Coding.TheVariants.{Unsigned, Signed, Float}
use Rattle.number.specs.Codings.{coding_unkey}
use Rattle.number_reader.specs.Words.{WordWidth}
use Rattle.fixed_reader.proofs.Standing.{stands, keyIn}
use Rattle.fixed_decoder.specs.Worded.{Worded, coded, worded}

-- ---- what they are of a field

-- where no reader found a fault, what does not begin with 01 is null
no_one : (k : Fixed) (o : SortOptions) (s : List ℕ) → Good (read_fixed k o s) → not (eqb (get_or s 0 0) 1) ≡ null_lead o (get_or s 0 0)
no_one k o [] g = absurd g
no_one k o (x ∷ s) g = go (null_lead o x) (eqb x 1) refl refl g
  where
    go : (n b : Bool) → null_lead o x ≡ n → eqb x 1 ≡ b → Good (cond n (read_null (width k) s) (cond b (read_bytes k o s) (fault Lead (suc (length s)))))
        → not b ≡ n
    go true true e f g = let one = eqb-true x 1 f in sym (not_null o x (omega (arith, one)) (omega (arith, one))) ∙ e
    go true false e f g = refl
    go false true e f g = refl
    go false false e f g = absurd g

-- the value bytes turned back, or zeros
slot_is : (k : Fixed) (o : SortOptions) (s : List ℕ) → Good (read_fixed k o s) → (b : Bool) → b ≡ not (eqb (get_or s 0 0) 1)
    → cond b (replicate (width k) 0) (unkey k (keyIn k o s)) ≡ fixed_slot (width k) (slot_read (read_fixed k o s))
slot_is k o s g true q = sym (ap (fixed_slot (width k)) ((stands k o s g).null (sym (q ∙ no_one k o s g))).0)
slot_is k o s g false q = sym (ap (fixed_slot (width k)) ((stands k o s g).value (sym (q ∙ no_one k o s g))).0)

-- what is stored where there is no null, and where there is one
pub null_or : (b : Bool) (x y out : List ℕ) (at : ℕ) → sets out at (cond (not b) x y) ≡ sets out at (cond b y x)
null_or true x y out at = refl
null_or false x y out at = refl

-- a number of w bytes, and its bytes back
pub coded_width : (c : Coding) (w : ℕ) → width (coded c w) ≡ w
coded_width Unsigned w = refl
coded_width Signed w = refl
coded_width Float w = refl

coded_unkey : (c : Coding) (w : ℕ) (f : List ℕ) → unkey (coded c w) f ≡ coding_unkey c f
coded_unkey Unsigned w f = refl
coded_unkey Signed w f = refl
coded_unkey Float w f = refl

-- a word is no interval
as_coded : (c : Coding) (w : ℕ) → WordWidth w → worded c w ≡ coded c w
as_coded c w (inl e) = rw e refl
as_coded c w (inr (inl e)) = rw e refl
as_coded c w (inr (inr e)) = rw e refl

pub word_left : (w : ℕ) → Worded w → (w ≡ 16 → ⊥) → WordWidth w
word_left w (inl e) n = absurd (n e)
word_left w (inr h) n = h

pub worded_width : (c : Coding) (w : ℕ) → Worded w → width (worded c w) ≡ w
worded_width c w (inl e) = rw e refl
worded_width c w (inr h) = ap width (as_coded c w h) ∙ coded_width c w

module _ (c : Coding) (w : ℕ) (o : SortOptions) (s : List ℕ) (g : Good (read_fixed (worded c w) o s)) where
  -- the field is there
  pub slot_whole : Worded w → 1 + w ≤ length s
  slot_whole h = omega (arith, (stands (worded c w) o s g).whole, worded_width c w h)

  module _ (b : Bool) (q : b ≡ not (eqb (get_or s 0 0) 1)) (out last : List ℕ) (at : ℕ) where
    abbrev Took : Type 0
    Took = last ≡ sets out at (fixed_slot w (slot_read (read_fixed (worded c w) o s)))

    pub took_word : WordWidth w → last ≡ sets out at (cond b (replicate w 0) (coding_unkey c (directed o.descending (take w (drop 1 s))))) → Took
    took_word h e = e ∙ ap (sets out at) (values ∙ slot)
      where
        k : Fixed
        k = worded c w

        long : width k ≡ w
        long = worded_width c w (inr h)

        value : coding_unkey c (directed o.descending (take w (drop 1 s))) ≡ unkey k (keyIn k o s)
        value =
            sym (coded_unkey c w (directed o.descending (take w (drop 1 s))))
            ∙ ap₂ {C = List ℕ} (λ (f : Fixed) (n : ℕ). unkey f (directed o.descending (take n (drop 1 s)))) (sym (as_coded c w h)) (sym long)

        values : cond b (replicate w 0) (coding_unkey c (directed o.descending (take w (drop 1 s)))) ≡ cond b (replicate (width k) 0) (unkey k (keyIn k o s))
        values = ap₂ {C = List ℕ} (λ (n : ℕ) (v : List ℕ). cond b (replicate n 0) v) (sym long) value

        slot : cond b (replicate (width k) 0) (unkey k (keyIn k o s)) ≡ fixed_slot w (slot_read (read_fixed k o s))
        slot = slot_is k o s g b q ∙ ap (λ (n : ℕ). fixed_slot n (slot_read (read_fixed k o s))) long

    pub took_interval : w ≡ 16
        → last ≡ sets out at (cond b (replicate 16 0) (parts_unkey (4 ∷ 4 ∷ 8 ∷ []) (directed o.descending (take 16 (drop 1 s))))) → Took
    took_interval e p =
        let f : Fixed = parts (4 ∷ 4 ∷ 8 ∷ []) in
        subst (λ (n : ℕ). last ≡ sets out at (fixed_slot n (slot_read (read_fixed (worded c n) o s)))) (sym e)
        (p ∙ ap (sets out at) (slot_is f o s (subst (λ (n : ℕ). Good (read_fixed (worded c n) o s)) e g) b q))
