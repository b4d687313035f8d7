-- The columns in use of a schema that a function is handed: how many there are, and one after the other. Assumes nothing.
use Prim.Native.Nat.{ℕ, suc, ◌-◌, ◌<◌, ◌≤◌}
use mathlib.Core.Path.{◌≡◌, ap, ◌∙◌}
use mathlib.Core.List.{List, ◌∷◌}
use native.Mathlib.Omega.{arith}
use lib.ListN.{length, get_or, drop, replicate, get_or-append}
use lib.Seq.{drop-cons, get_or-take, length-take-le}
use denote.Laws.{Is}
use denote.Struct.Declared.{row}
use denote.Struct.Laws.{vals}
use Rattle.format.specs.contracts.Schema.{the_type}
use Rattle.format.proofs.Schema.TheLaws.{the_laws}
use Rattle.format.specs.declared.Column.{Column}
use Rattle.format.specs.declared.Schema.{Schema}
use Rattle.format.specs.Kinds.{value_bytes}
use Rattle.format.specs.Limits.{max_columns, max_width}
use Rattle.format.specs.Schemas.{Limited, no_column, schema_of, cols_of}

-- a schema that a function is handed
abbrev pub Held : Schema → Type 0
Held schema = Is (row the_type) schema (vals the_type the_laws schema)

-- its array has room for every column
pub columns_room : (schema : Schema) → Held schema → length schema.columns ≡ max_columns
columns_room schema held =
    let fields = held.1.1 in
    let elements = fields.0.1 in
    elements.0.1

module _ (schema : Schema) (held : Held schema) (few : schema.count ≤ max_columns) where
  within : schema.count ≤ length schema.columns
  within = omega (arith, columns_room schema held)

  -- as many are in use as the schema counts
  pub in_use : length (cols_of schema) ≡ schema.count
  in_use = length-take-le schema.count schema.columns within

  -- column c is the first of those from c on
  pub next_in_use : (c : ℕ) → c < schema.count → drop c (cols_of schema) ≡ get_or schema.columns c no_column ∷ drop (suc c) (cols_of schema)
  next_in_use c l =
      drop-cons (cols_of schema) c no_column (omega (arith, in_use))
      ∙ ap (λ (x : Column). x ∷ drop (suc c) (cols_of schema)) (get_or-take schema.count schema.columns c no_column l)

-- columns that are those in use are no wider than the ceilings
pub used_narrow : (schema : Schema) {cols : List Column} → cols ≡ cols_of schema → length cols ≡ schema.count → Limited schema
    → (c : ℕ) → c < length cols → value_bytes (get_or cols c no_column).kind ≤ max_width
used_narrow schema e many limited c l =
    let inside : c < schema.count = omega (arith, many) in
    rw (e, get_or-take schema.count schema.columns c no_column inside) (limited.narrow c inside)

-- the columns in use of a schema within the ceilings are within them
pub limited_in_use : (schema : Schema) → length (cols_of schema) ≡ schema.count → Limited schema → Limited (schema_of (cols_of schema))
limited_in_use schema many limited = record {
  few = rw many limited.few;
  narrow = λ c l.
      let inside : c < schema.count = omega (arith, many) in
      rw (
        get_or-append (cols_of schema) (replicate (max_columns - length (cols_of schema)) no_column) no_column c l,
        get_or-take schema.count schema.columns c no_column inside,
      ) (limited.narrow c inside);
}
