-- How uniqueness is settled among rows of two tables, where each constraint's test answers alike at both.
use Rattle.std.proofs.Common.{◌≡◌, ℕ, ◌<◌, List, [], ◌∷◌, get_or, Bool, true, false, cond, Some, None, refl, sym, ap, ◌∙◌}
use Rattle.std.specs.Prelude.{Option, ◌&&◌, is_some, slice_get, decimal, not, length}
use Rattle.std.specs.List.{AllByRecursion}
use Rattle.std.proofs.lemmas.List.{get_or-set_same}
use Rattle.rep_lists.proofs.Each.{each_then}
use Rattle.rep_values.specs.declared.name.SiteName.{SiteName}
use Rattle.rep_schema.specs.declared.schema.Schema.{Schema}
use Rattle.rep_schema.specs.declared.schema.Column.{Column}
use Rattle.rep_schema.specs.declared.schema.Constraint.{Constraint}
use Rattle.rep_schema.specs.declared.schema.UniqueMethod.{UniqueMethod}
use Rattle.rep_schema.specs.declared.schema.UniqueMethod.TheVariants as method
use Rattle.rep_schema.specs.Tables.{Cells, Rows, columns_of, constraints_of, key_of, find_row, rows_of, picked}
use Rattle.rep_schema.specs.Groups.{values_at, are_same}
use Rattle.unique_resolve.specs.declared.settled.Settled.{Settled}
use Rattle.unique_resolve.specs.declared.settled.Settled.TheVariants.{Fits, Dropped, Conflict}
use Rattle.unique_resolve.specs.Numbers.{Numbers, number_raised}
use Rattle.unique_resolve.specs.Appending.{appended}
use Rattle.unique_resolve.specs.Settling.{is_held, helping, settled_by, settled_one, TableOutcome, with_number, go_on, settled_each, key_methods_in, key_taken, with_numbers, settlement_of}
use Rattle.dependency_index.specs.Tokens.{constrained_columns}
use Rattle.rep_laws.proofs.RowsAlike.{StandAlike, AreAlike, list_any-StandAlike}
use Rattle.rep_laws.proofs.ConstrainedValues.{constrained_values_same}

module _ (columns : List Column) (rows others : Rows) where
  -- the test of a constraint answers alike at both
  abbrev pub TestsAlike : Constraint → Type 0
  TestsAlike constraint = (row : Cells) → is_held columns constraint.columns rows row ≡ is_held columns constraint.columns others row

  module _ (origin : SiteName) where
    module _ (constraint : Constraint) (alike : TestsAlike constraint) where
      helping-alike : (row : Option Cells) → helping columns constraint.columns rows row ≡ helping columns constraint.columns others row
      helping-alike None = refl
      helping-alike (Some row) = ap (λ b. cond b None (Some row)) (alike row)

      settled_by-alike : (methods : List UniqueMethod) (row : Cells) (number : ℕ) → settled_by columns constraint rows origin methods row number ≡ settled_by columns constraint others origin methods row number
      settled_by-alike [] row number = refl
      settled_by-alike (method.Discard ∷ methods) row number = refl
      settled_by-alike (method.AppendSite column ∷ methods) row number =
          rw (helping-alike (appended columns constraint.columns column origin.0 row), settled_by-alike methods row number) refl
      settled_by-alike (method.AppendSequence column ∷ methods) row number =
          rw (helping-alike (appended columns constraint.columns column (decimal (number_raised number)) row), settled_by-alike methods row (number_raised number)) refl

      settled_one-alike : (row : Cells) (number : ℕ) → settled_one columns rows origin constraint row number ≡ settled_one columns others origin constraint row number
      settled_one-alike row number = rw (alike row, settled_by-alike constraint.methods row number) refl

    -- so a row is settled alike
    pub settled_each-alike : (constraints : List Constraint) (numbers : List ℕ) (row : Cells) → AllByRecursion TestsAlike constraints
        → settled_each columns rows origin constraints numbers row ≡ settled_each columns others origin constraints numbers row
    settled_each-alike [] numbers row alike = refl
    settled_each-alike (c ∷ cs) [] row alike = refl
    settled_each-alike (c ∷ cs) (n ∷ ns) row alike =
        rw (settled_one-alike c alike.0 row n) (go (settled_one columns others origin c row n).settled (settled_one columns others origin c row n).number (λ one. settled_each-alike cs ns one alike.1))
      where
        go : (settled : Settled) (number : ℕ) → ((one : Cells) → settled_each columns rows origin cs ns one ≡ settled_each columns others origin cs ns one)
            → go_on settled number ns (settled_each columns rows origin cs ns) ≡ go_on settled number ns (settled_each columns others origin cs ns)
        go (Fits one) number later = ap (with_number number) (later one)
        go Dropped number later = refl
        go (Conflict name) number later = refl

-- tests of a table's constraints answer alike at rows that stand alike
pub tests_alike : (schema : Schema) (table : ℕ) (rows others : Rows) → StandAlike (AreAlike (columns_of schema table) (constrained_columns schema table)) rows others
    → AllByRecursion (TestsAlike (columns_of schema table) rows others) (constraints_of schema table)
tests_alike schema table rows others alike =
    each_then (λ (c : Constraint). (a b : Cells) → picked (constrained_columns schema table) a ≡ picked (constrained_columns schema table) b → values_at c.columns a ≡ values_at c.columns b)
    (TestsAlike (columns_of schema table) rows others)
    (λ c same row. list_any-StandAlike (AreAlike (columns_of schema table) (constrained_columns schema table))
    (λ one. not (are_same (key_of (columns_of schema table) one) (key_of (columns_of schema table) row)) && are_same (values_at c.columns one) (values_at c.columns row))
    (λ x y both. rw (both.0, same x y both.1) refl) rows others alike)
    (constraints_of schema table) (constrained_values_same schema table)

module _ (schema : Schema) (tables other_tables : List Rows) (numbers other_numbers : Numbers) (origin : SiteName) (table : ℕ) (inserting : Bool) (row : Cells)
    (taken : (inserting && is_some (find_row (columns_of schema table) (key_of (columns_of schema table) row) (rows_of tables table)))
    ≡ (inserting && is_some (find_row (columns_of schema table) (key_of (columns_of schema table) row) (rows_of other_tables table))))
    (alike : AllByRecursion (TestsAlike (columns_of schema table) (rows_of tables table) (rows_of other_tables table)) (constraints_of schema table))
    (counters : get_or numbers table [] ≡ get_or other_numbers table []) where
  by_constraints_alike : settled_each (columns_of schema table) (rows_of tables table) origin (constraints_of schema table) (get_or numbers table []) row
      ≡ settled_each (columns_of schema table) (rows_of other_tables table) origin (constraints_of schema table) (get_or other_numbers table []) row
  by_constraints_alike =
      settled_each-alike (columns_of schema table) (rows_of tables table) (rows_of other_tables table) origin (constraints_of schema table) (get_or numbers table []) row alike
      ∙ ap (λ ns. settled_each (columns_of schema table) (rows_of other_tables table) origin (constraints_of schema table) ns row) counters

  -- a row that is to be put into both tables is settled alike
  pub settled-alike : (settlement_of schema tables numbers origin table inserting row).settled ≡ (settlement_of schema other_tables other_numbers origin table inserting row).settled
  settled-alike = rw taken (go (inserting && is_some (find_row (columns_of schema table) (key_of (columns_of schema table) row) (rows_of other_tables table))))
    where
      go : (b : Bool) → (cond b (record { settled = key_taken (key_methods_in (slice_get schema.tables table)); numbers = numbers })
          (with_numbers table numbers (settled_each (columns_of schema table) (rows_of tables table) origin (constraints_of schema table) (get_or numbers table []) row))).settled
          ≡ (cond b (record { settled = key_taken (key_methods_in (slice_get schema.tables table)); numbers = other_numbers })
          (with_numbers table other_numbers (settled_each (columns_of schema table) (rows_of other_tables table) origin (constraints_of schema table) (get_or other_numbers table []) row))).settled
      go true = refl
      go false = ap (λ (outcome : TableOutcome). outcome.settled) by_constraints_alike

  -- and the table's counters are the same afterwards
  pub counters-alike : table < length numbers → table < length other_numbers
      → get_or (settlement_of schema tables numbers origin table inserting row).numbers table [] ≡ get_or (settlement_of schema other_tables other_numbers origin table inserting row).numbers table []
  counters-alike below other_below = rw taken (go (inserting && is_some (find_row (columns_of schema table) (key_of (columns_of schema table) row) (rows_of other_tables table))))
    where
      go : (b : Bool) → get_or (cond b (record { settled = key_taken (key_methods_in (slice_get schema.tables table)); numbers = numbers })
          (with_numbers table numbers (settled_each (columns_of schema table) (rows_of tables table) origin (constraints_of schema table) (get_or numbers table []) row))).numbers table []
          ≡ get_or (cond b (record { settled = key_taken (key_methods_in (slice_get schema.tables table)); numbers = other_numbers })
          (with_numbers table other_numbers (settled_each (columns_of schema table) (rows_of other_tables table) origin (constraints_of schema table) (get_or other_numbers table []) row))).numbers table []
      go true = counters
      go false = get_or-set_same numbers table _ [] below ∙ ap (λ (outcome : TableOutcome). outcome.numbers) by_constraints_alike ∙ sym (get_or-set_same other_numbers table _ [] other_below)
