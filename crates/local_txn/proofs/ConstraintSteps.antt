-- The steps of a new row, one after another: secondary constraints by their places.
use Rattle.std.proofs.Common.{◌≡◌, ℕ, ◌+◌, Bool, true, false, List, [], ◌∷◌, length, drop, map, refl, sym, ◌∙◌, arith}
use Rattle.std.specs.Prelude.{Option, Some, None, cond, slice_get}
use Rattle.rep_lists.proofs.Places.{drop_from_found}
use Rattle.rep_values.specs.declared.refusal.Refusal.{Refusal}
use Rattle.rep_values.specs.declared.refusal.Refusal.TheVariants.{UniqueTaken}
use Rattle.rep_values.specs.RefusalSteps.{first_refusal}
use Rattle.rep_schema.specs.declared.schema.Schema.{Schema}
use Rattle.rep_schema.specs.declared.schema.Column.{Column}
use Rattle.rep_schema.specs.declared.schema.Constraint.{Constraint}
use Rattle.rep_schema.specs.Tables.{Cells, Rows, columns_of, constraints_of, constraint_columns_of, rows_of, key_of, key_count}
use Rattle.unique_resolve.specs.Settling.{is_held}
use Rattle.txn_effects.specs.Statements.{taken_step}

-- a key has a value for each key column of a row that is long enough
pub length-key_of_long : (columns : List Column) (row : Cells) → length columns ≡ length row → length (key_of columns row) ≡ key_count columns
length-key_of_long [] row long = refl
length-key_of_long (c ∷ cs) [] long = absurd (omega (arith, long))
length-key_of_long (c ∷ cs) (v ∷ vs) long = go c.key (length-key_of_long cs vs (omega (arith, long)))
  where
    go : (b : Bool) → length (key_of cs vs) ≡ key_count cs → length (cond b (v ∷ key_of cs vs) (key_of cs vs)) ≡ cond b (key_count cs + 1) (key_count cs)
    go true rest = omega (arith, rest)
    go false rest = rest

-- steps one after another
module _ {X : Type 0} (step : X → Option Refusal) (xs : List X) (i : ℕ) (x : X) (there : slice_get xs i ≡ Some x) where
  pub first_refusal-here : (why : Refusal) → step x ≡ Some why → first_refusal (map step (drop i xs)) ≡ Some why
  first_refusal-here why refuses = rw (drop_from_found xs i x there, refuses) refl

  pub first_refusal-more : step x ≡ None → first_refusal (map step (drop i xs)) ≡ first_refusal (map step (drop (i + 1) xs))
  first_refusal-more passes = rw (drop_from_found xs i x there, passes) refl

module _ (schema : Schema) (tables : List Rows) (table : ℕ) (row : Cells) (place : ℕ) (constraint : Constraint) where
  pub taken_step-held : (found : Constraint) → slice_get (constraints_of schema table) place ≡ Some constraint → slice_get (constraints_of schema table) place ≡ Some found
      → is_held (columns_of schema table) (constraint_columns_of schema table place) (rows_of tables table) row ≡ true
      → Some (UniqueTaken found.name) ≡ taken_step schema tables table row constraint
  taken_step-held found there also held =
      let same : constraint ≡ found = let e = sym there ∙ also in cc in
      let here : is_held (columns_of schema table) constraint.columns (rows_of tables table) row ≡ true = rw there at held in
      rw (here, same) refl

  pub taken_step-free : slice_get (constraints_of schema table) place ≡ Some constraint
      → is_held (columns_of schema table) (constraint_columns_of schema table place) (rows_of tables table) row ≡ false
      → None ≡ taken_step schema tables table row constraint
  taken_step-free there free =
      let here : is_held (columns_of schema table) constraint.columns (rows_of tables table) row ≡ false = rw there at free in
      rw here refl
