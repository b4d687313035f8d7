-- `station::list::check_list` meets its contract: the answer is that of the check that `read_list` ensures. Assumes nothing.
use Prim.Native.Nat.{ℕ}
use mathlib.Core.Path.{◌≡◌, sym, ap, ◌∙◌}
use mathlib.Core.List.{List}
use lib.ListN.{length}
use Rattle.std.proofs.lemmas.Result.{err_from_is_err_and}
use Rattle.format.specs.declared.Refusal.{Refusal}
use Rattle.format.specs.declared.Schema.{Schema}
use Rattle.format.specs.Check.{Check}
use Rattle.std.specs.declared.result.Result.TheVariants.{Ok, Err}
use Rattle.format.specs.Columns.{spelled_columns}
use Rattle.format.specs.Described.{spelled}
use Rattle.format.specs.Entries.{answer, check_list_answer}
use Rattle.format.specs.Promises.{ListChecked}
use Rattle.format.specs.Numbers.{numbers_of}
use Rattle.list_reader.specs.Listing.{Listed, ListedAs}
use Rattle.list_reader.proofs.Schemas.{list_refused, list_passed}
use Rattle.station.proofs.list.check_list.Goals as goal

done : (list : List ℕ) (r : Listed) (schema : Schema) → ListedAs (spelled list) r → r ≡ Ok schema → ListChecked list (Ok (schema.count, 0))
unfolding check_list_answer
done list r schema l e =
    let p = list_passed (spelled list) r schema l e in
    record { answers = ap numbers_of (ap (λ (s : Schema). Ok (s.count, 0)) p.1 ∙ ap (λ (x : Check). answer x (length (spelled_columns list)) 0) (sym p.0)) }

refused : (list : List ℕ) (r : Listed) (x : Refusal) → ListedAs (spelled list) r → r ≡ Err x → ListChecked list (Err x)
unfolding check_list_answer
refused list r x l e = record { answers = ap (λ (y : Check). numbers_of (answer y (length (spelled_columns list)) 0)) (sym (list_refused (spelled list) r x l e)) }

pub returns-in_err-schema : goal.returns-in_err-schema
returns-in_err-schema c =
    let p = err_from_is_err_and c.from_residual.result c.from_residual.ensures.1 in
    rw (p.1, p.2) (refused c.args.list.now _ _ c.read_list.ensures c.in_err-schema.was)

pub returns : goal.returns
returns c = done c.args.list.now _ _ c.read_list.ensures c.in_ok-schema.was
