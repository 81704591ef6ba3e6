-- Steps of settling.
use Rattle.std.proofs.Common.{◌≡◌, ℕ, zero, suc, ◌<◌, Bool, false, List, [], ◌∷◌, length, get_or, set, Some, refl, ap, ◌∙◌}
use Rattle.std.specs.Prelude.{◌↔◌, IsTrue, Option, None, IsSomeAnd}
use Rattle.std.proofs.lemmas.Bool.Decides.{same_from_decides}
use Rattle.std.proofs.lemmas.Option.{slice_get_within}
use Rattle.rep_values.specs.declared.value.Value.{Value}
use Rattle.rep_values.specs.declared.value.Value.TheVariants.{Words}
use Rattle.rep_schema.specs.declared.schema.Schema.{Schema}
use Rattle.rep_schema.specs.Tables.{Cells, Rows, columns_of, constraint_columns_of, key_of, find_row, rows_of, picked, IsHeldElsewhere}
use Rattle.unique_resolve.specs.Appending.{appended}
use Rattle.unique_resolve.specs.Settling.{is_held}
use Rattle.unique_resolve.specs.Trying.{IsTestable, HasBefore}
use Rattle.unique_resolve.proofs.HeldValues.{held_test}
use Rattle.unique_resolve.proofs.FreeSettlements.{is_held-kept}
use Rattle.unique_resolve.proofs.AppendedTexts.{IsAppend-appended, RowFits-append}

-- a value that is put back
pub set_back : {X : Type 0} (xs : List X) (p : ℕ) (y x : X) → x ≡ get_or xs p x → set (set xs p y) p x ≡ xs
set_back [] p y x is = refl
set_back (z ∷ zs) zero y x is = cc
set_back (z ∷ zs) (suc p) y x is = ap (λ ys. z ∷ ys) (set_back zs p y x is)

-- another row with the key has the same row before it
pub HasBefore-like : (schema : Schema) (tables : List Rows) (table : ℕ) (before : Option Cells) (row after : Cells) → key_of (columns_of schema table) after ≡ key_of (columns_of schema table) row
    → HasBefore schema tables table before row → HasBefore schema tables table before after
HasBefore-like schema tables table None row after key has = tt
HasBefore-like schema tables table (Some found) row after key has = ap (λ k. find_row (columns_of schema table) k (rows_of tables table)) key ∙ has

module _ (schema : Schema) (tables : List Rows) (table place : ℕ) (row : Cells) (testable : IsTestable schema tables table place row) where
  -- the store's answer and the test are one
  pub is_held-answer : (answer : Bool) → (IsTrue answer ↔ IsHeldElsewhere (columns_of schema table) (constraint_columns_of schema table place) row (rows_of tables table))
      → answer ≡ is_held (columns_of schema table) (constraint_columns_of schema table place) (rows_of tables table) row
  is_held-answer answer means =
      same_from_decides answer (is_held (columns_of schema table) (constraint_columns_of schema table place) (rows_of tables table) row) means
      (held_test (columns_of schema table) (constraint_columns_of schema table place) row testable.fits (rows_of tables table) (testable.are.each table testable.of_table).fit)

  -- a row that has what the one before has in the constraint doesn't violate it
  pub is_held-before : (before : Option Cells) → HasBefore schema tables table before row
      → IsSomeAnd before (λ found. picked (constraint_columns_of schema table place) found ≡ picked (constraint_columns_of schema table place) row)
      → is_held (columns_of schema table) (constraint_columns_of schema table place) (rows_of tables table) row ≡ false
  is_held-before None has kept = absurd kept
  is_held-before (Some found) has kept = is_held-kept schema tables table place found row testable.are testable.of_table testable.fits testable.of_constraint has kept

  module _ (column : ℕ) (bytes : List ℕ) (longer : Value)
      (gives : appended (columns_of schema table) (constraint_columns_of schema table place) column bytes row ≡ Some (set row column longer)) where
    -- where an append gives a row, the column is one of the row's
    pub appended_within : column < length row
    appended_within =
        let append = IsAppend-appended (columns_of schema table) (constraint_columns_of schema table place) column row bytes (set row column longer) gives in
        slice_get_within row column (Words append.old) append.there

    -- and the row that it gives can be tested
    pub testable-appended : IsTestable schema tables table place (set row column longer)
    testable-appended =
        let append = IsAppend-appended (columns_of schema table) (constraint_columns_of schema table place) column row bytes (set row column longer) gives in
        record {
          are = testable.are;
          of_table = testable.of_table;
          keyed = testable.keyed;
          of_constraint = testable.of_constraint;
          fits = RowFits-append (columns_of schema table) (constraint_columns_of schema table place) column row (set row column longer) append testable.fits;
        }
