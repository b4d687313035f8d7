-- The output, case by case: of an input that is too long, and of one whose header is whole or cut. And how long it is. Assumes nothing.
use Prim.Native.Nat.{ℕ, suc, ◌+◌, ◌-◌, ◌<◌, ◌≤◌}
use mathlib.Core.Path.{◌≡◌, sym, ap, ap₂, ◌∙◌}
use mathlib.Core.Bool.{Bool, true, false, cond}
use mathlib.Core.List.{List}
use native.Mathlib.Numerals.{add-one}
use native.Mathlib.Omega.{arith}
use lib.ListN.{length, take, drop}
use lib.Seq.{drop-cons, take_at, drop_at, length-take-le, length-sets}
use borrow.Author.Tests.{lt-ltb, le-ltb}
use borrow.Author.Rules.{part_to_end}
use Rattle.format.specs.declared.Refusal.TheVariants.{Input}
use Rattle.format.specs.Lists.{low, over}
use Rattle.format.specs.Described.{spelled}
use Rattle.format.specs.Numbers.{refusal_numbers}
use Rattle.format.specs.Program.{input_room, refused_line, two, header_cut, list_in, count_in, sheet_in, output}
use Rattle.basics.proofs.Append.{over_sets}
use Rattle.io.specs.Counts.{IsPrefixLen}
use Rattle.basics.specs.Wrote.{Wrote}
use Rattle.texts.proofs.Refused.{refused_short}
use Rattle.sheet_text.specs.SheetText.{text_room, sheet_text}
use Rattle.sheet_text.proofs.SheetLines.{sheet_short}
use Rattle.printer.specs.Printed.{Printed}

-- ---- an input

-- two bytes, low byte first
two_is : (s : List ℕ) (at : ℕ) → at + 2 ≤ length s → low (take 2 (drop at s)) ≡ two s at
two_is s at h = rw (drop-cons s at 0 (omega arith), drop-cons s (suc at) 0 (omega arith), add-one at) (omega arith)

cut_output : (s : List ℕ) → header_cut s ≡ true → refused_line (refusal_numbers Input) ≡ output s
unfolding output
cut_output s e = rw e

whole_output : (s : List ℕ) → header_cut s ≡ false → sheet_text (spelled (list_in s)) (count_in s) (sheet_in s) ≡ output s
unfolding output
whole_output s e = rw e

-- over 32,768 bytes
pub long_output : (s : List ℕ) → input_room < length s → refused_line (refusal_numbers Input) ≡ output s
long_output s h = cut_output s (rw (lt-ltb input_room (length s) h))

module _ (s : List ℕ) (few : length s ≤ input_room) where
  -- the list length is cut
  pub length_output : length s < 2 → refused_line (refusal_numbers Input) ≡ output s
  length_output h = cut_output s (rw (le-ltb input_room (length s) few, lt-ltb (length s) 2 h))

  module _ (h : 2 ≤ length s) (k : ℕ) (e : k ≡ low (take 2 (drop 0 s))) where
    listed : k ≡ two s 0
    listed = e ∙ two_is s 0 h

    -- the list or the row count is
    pub list_output : length s < 2 + k + 2 → refused_line (refusal_numbers Input) ≡ output s
    list_output l =
        cut_output s (rw (le-ltb input_room (length s) few, le-ltb (length s) 2 h, lt-ltb (length s) (2 + two s 0 + 2) (omega (arith, listed))))

    -- none is
    pub sheet_output : 2 + k + 2 ≤ length s → (n : ℕ) → n ≡ low (take 2 (drop (2 + k) s))
        → sheet_text (spelled (take (2 + k - 2) (drop 2 s))) n (take (length s - (2 + k + 2)) (drop (2 + k + 2) s)) ≡ output s
    sheet_output l n f =
        let same : 2 + k - 2 ≡ two s 0 = omega (arith, listed) in
        let start : 2 + k + 2 ≡ 2 + two s 0 + 2 = omega (arith, listed) in
        ap (λ (list : List ℕ). sheet_text (spelled list) n (take (length s - (2 + k + 2)) (drop (2 + k + 2) s))) (ap (λ (m : ℕ). take m (drop 2 s)) same)
        ∙ ap₂ (λ (m : ℕ) (sheet : List ℕ). sheet_text (spelled (list_in s)) m sheet)
        (f ∙ ap (λ (m : ℕ). low (take 2 (drop (2 + m) s))) listed ∙ two_is s (2 + two s 0) (omega arith))
        (part_to_end s (2 + k + 2) ∙ ap (λ (m : ℕ). drop m s) start)
        ∙ whole_output s (rw (le-ltb input_room (length s) few, le-ltb (length s) 2 h, le-ltb (length s) (2 + two s 0 + 2) (omega arith)))

-- no output is longer than its room
output_short : (s : List ℕ) → length (output s) ≤ text_room
unfolding output
output_short s = by_test (header_cut s)
  where
    by_test : (b : Bool) → length (cond b (refused_line (refusal_numbers Input)) (sheet_text (spelled (list_in s)) (count_in s) (sheet_in s))) ≤ text_room
    by_test true = omega (arith, refused_short (refusal_numbers Input))
    by_test false = sheet_short (spelled (list_in s)) (count_in s) (sheet_in s)

-- ---- the text in front of the buffer, and the bytes past it
module _ (text out out' : List ℕ) (r : ℕ) (w : Wrote text 0 out out' r) (fits : length text ≤ length out) where
  long : r ≡ length text
  long = omega (arith, w.place)

  counted : IsPrefixLen r out'
  counted =
      let most : r ≤ length out' = omega (arith, long, ap length w.bytes, length-sets out 0 text) in
      (most, sym (length-take-le r out' most))

  over_is : out' ≡ over text out
  over_is = w.bytes ∙ sym (over_sets text out fits)

  front : take r out' ≡ text
  front = ap (take r) over_is ∙ take_at text (drop (length text) out) r (sym long)

  back : drop r out' ≡ drop r out
  back = ap (drop r) over_is ∙ drop_at text (drop (length text) out) r (sym long) ∙ ap (λ (k : ℕ). drop k out) (sym long)

-- what is shown: 25 where more follows, and else the output
pub printed_more : (input out out' : List ℕ) (more : Bool) (r : ℕ) → more ≡ true → text_room ≤ length out
    → Wrote (refused_line (refusal_numbers Input)) 0 out out' r → Printed input more out out' r
printed_more input out out' more r e room w =
    let fits : length (refused_line (refusal_numbers Input)) ≤ length out = omega (arith, refused_short (refusal_numbers Input)) in
    record { counts = counted _ out out' r w fits; says = rw e (front _ out out' r w fits); stays = back _ out out' r w fits }

pub printed_whole : (input out out' : List ℕ) (more : Bool) (r : ℕ) → more ≡ false → text_room ≤ length out → Wrote (output input) 0 out out' r
    → Printed input more out out' r
printed_whole input out out' more r e room w =
    let fits : length (output input) ≤ length out = omega (arith, output_short input) in
    record { counts = counted _ out out' r w fits; says = rw e (front _ out out' r w fits); stays = back _ out out' r w fits }
