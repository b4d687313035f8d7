-- What `print` promises decides its answer: two texts and buffers that satisfy it are equal. And of what the program reads it is the
-- output for the whole of standard input. Assumes nothing.
use Prim.Native.Nat.{ℕ}
use mathlib.Core.Path.{◌≡◌, refl, sym, ap, ap₂, ◌∙◌}
use mathlib.Core.Bool.{Bool, true, false}
use mathlib.Core.List.{List, [], ◌∷◌, ◌++◌, append-nil}
use native.Mathlib.Omega.{arith}
use lib.Dec.{ltb}
use lib.ListN.{length, take, drop, length-append, take-append-drop}
use borrow.Author.Tests.{ltb-true, ltb-false}
use Rattle.format.specs.Program.{output}
use Rattle.printer.specs.Printed.{Read, shown, Printed}
use Rattle.printer.proofs.Output.{long_output}

pub print_unique : (input : List ℕ) (more : Bool) (entry exit exit' : List ℕ) (r r' : ℕ) → Printed input more entry exit r
    → Printed input more entry exit' r' → (r ≡ r') × (exit ≡ exit')
print_unique input more entry exit exit' r r' p q =
    let text : take r exit ≡ take r' exit' = p.says ∙ sym q.says in
    let count : r ≡ r' = p.counts.1 ∙ ap length text ∙ sym q.counts.1 in (
      count,
      sym (take-append-drop r exit) ∙ ap₂ (λ (x y : List ℕ). x ++ y) text (p.stays ∙ ap (λ (k : ℕ). drop k entry) count ∙ sym q.stays)
          ∙ take-append-drop r' exit',
    )

-- nothing follows: the input is what was read
none_left : (rest : List ℕ) → false ≡ ltb 0 (length rest) → rest ≡ []
none_left [] e = refl
none_left (x ∷ rest) e = absurd (omega (arith, ltb-false 0 (length (x ∷ rest)) (sym e)))

-- what was read and every rest, which is empty unless more follows
pub print_whole : (input : List ℕ) (more : Bool) (rest : List ℕ) → Read input more → more ≡ ltb 0 (length rest) → shown input more ≡ output (input ++ rest)
print_whole input true rest i e =
    long_output (input ++ rest) (omega (arith, i.full refl, length-append input rest, ltb-true 0 (length rest) (sym e)))
print_whole input false rest i e = ap output (sym (append-nil input) ∙ ap (λ (l : List ℕ). input ++ l) (sym (none_left rest e)))
