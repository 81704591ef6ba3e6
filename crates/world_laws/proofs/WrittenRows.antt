-- A row that a script puts into a table leaves it a table.
use Rattle.std.proofs.Common.{◌≡◌, ℕ, ◌<◌, Bool, true, false, List, [], ◌∷◌, ◌++◌, length, refl}
use Rattle.std.specs.Prelude.{Option, Some, None, ◌&&◌, ◌||◌, cond, not, is_some, slice_get}
use Rattle.std.proofs.lemmas.Bool.{and_parts, and_from}
use Rattle.std.proofs.lemmas.List.Quantifiers.{position-Some}
use Rattle.rep_values.specs.declared.name.TableName.{TableName}
use Rattle.rep_values.specs.declared.literal.Literal.{Literal}
use Rattle.rep_values.specs.declared.literal.Literal.TheVariants as literal
use Rattle.rep_values.specs.declared.refusal.Refusal.{Refusal}
use Rattle.rep_values.specs.declared.refusal.Refusal.TheVariants as refusal
use Rattle.rep_values.specs.Literal.{value_of_literal}
use Rattle.rep_values.specs.RefusalSteps.{refused, or_then, first_refusal, known}
use Rattle.rep_values.proofs.RefusalSteps.{or_then-None, refused_not-None, none_refuses}
use Rattle.rep_schema.specs.declared.schema.Schema.{Schema}
use Rattle.rep_schema.specs.declared.schema.Column.{Column}
use Rattle.rep_schema.specs.declared.schema.Constraint.{Constraint}
use Rattle.rep_schema.specs.declared.schema.Kind.{Kind}
use Rattle.rep_schema.specs.declared.schema.Kind.TheVariants as kind
use Rattle.rep_schema.specs.Tables.{Cells, Rows, columns_of, constraints_of, constraint_columns_of, key_of, rows_of, RowFits, IsUniqueRow, IsTable, AreTables}
use Rattle.rep_schema.specs.Fitting.{fits_kind, row_fits, is_keyed}
use Rattle.rep_schema.specs.Kinds.{is_filled, is_of_kind, is_site_kind, value_in_range, row_in_range}
use Rattle.rep_schema.specs.Named.{is_table, table_place}
use Rattle.rep_schema.specs.Entries.{plain_table}
use Rattle.rep_schema.proofs.FittingTests.{row_test}
use Rattle.rep_schema.proofs.TableSteps.{IsTable-put, AreTables-set}
use Rattle.rep_lists.proofs.Places.{found_at}
use Rattle.unique_resolve.specs.Settling.{is_held}
use Rattle.unique_resolve.proofs.HeldValues.{held_test}
use Rattle.txn_effects.specs.Literals.{names_site, literal_fits, literals_fit, values_of}
use Rattle.txn_effects.specs.Filled.{blank_value, written_columns, with_written, row_written}
use Rattle.txn_effects.specs.Statements.{row_at, taken_step, unique_steps, check_step, row_steps}
use Rattle.local_txn.specs.BaseRows.{base_row, base_steps, base_refusal, tables_with, tables_with_row}

-- ---- it fits

fits_literal : (k : Kind) (l : Literal) → is_of_kind k l ≡ true → value_in_range (value_of_literal l) ≡ true → fits_kind k (value_of_literal l) ≡ true
fits_literal kind.Number (literal.Num n) of range = range
fits_literal kind.Date (literal.Num n) of range = range
fits_literal kind.Stamp (literal.Num n) of range = range
fits_literal kind.Words (literal.Num n) of range = absurd (cc of)
fits_literal kind.Site (literal.Num n) of range = absurd (cc of)
fits_literal kind.Number (literal.Words t) of range = absurd (cc of)
fits_literal kind.Date (literal.Words t) of range = absurd (cc of)
fits_literal kind.Stamp (literal.Words t) of range = absurd (cc of)
fits_literal kind.Words (literal.Words t) of range = refl
fits_literal kind.Site (literal.Words t) of range = refl

fits_blank : (c : Column) → is_filled c ≡ true → fits_kind c.kind (blank_value c) ≡ true
fits_blank c filled = by c.kind c.key filled
  where
    by : (k : Kind) (key : Bool) → is_filled (record { name = c.name; kind = k; key = key }) ≡ true → fits_kind k (blank_value (record { name = c.name; kind = k; key = key })) ≡ true
    by kind.Number key filled = absurd (cc filled)
    by kind.Words key filled = absurd (cc filled)
    by kind.Date key filled = absurd (cc filled)
    by kind.Stamp key filled = refl
    by kind.Site key filled = refl

-- the row of literals that fit fits, where its numbers are in range
row_fits-written : (schema : Schema) (columns : List Column) (literals : List Literal) → literals_fit schema (written_columns columns) literals ≡ true → row_in_range (row_written columns (values_of literals)) ≡ true
    → row_fits columns (row_written columns (values_of literals)) ≡ true
row_fits-written schema [] [] fits range = refl
row_fits-written schema [] (l ∷ ls) fits range = absurd (cc fits)
row_fits-written schema (c ∷ cs) literals fits range = go (is_filled c) refl literals fits range (λ ls. row_fits-written schema cs ls)
  where
    go : (b : Bool) → is_filled c ≡ b → (ls : List Literal) → literals_fit schema (cond (not b) (c ∷ written_columns cs) (written_columns cs)) ls ≡ true
        → row_in_range (with_written b c (row_written cs) (values_of ls)) ≡ true
        → ((rest : List Literal) → literals_fit schema (written_columns cs) rest ≡ true → row_in_range (row_written cs (values_of rest)) ≡ true → row_fits cs (row_written cs (values_of rest)) ≡ true)
        → row_fits (c ∷ cs) (with_written b c (row_written cs) (values_of ls)) ≡ true
    go true filled ls fit range rest =
        and_from (fits_kind c.kind (blank_value c)) (row_fits cs (row_written cs (values_of ls))) (fits_blank c filled)
        (rest ls fit (and_parts (value_in_range (blank_value c)) (row_in_range (row_written cs (values_of ls))) range).1)
    go false written [] fit range rest = absurd (cc fit)
    go false written (l ∷ ls) fit range rest =
        let here = and_parts (literal_fits schema c l) (literals_fit schema (written_columns cs) ls) fit in
        let ranges = and_parts (value_in_range (value_of_literal l)) (row_in_range (row_written cs (values_of ls))) range in
        and_from (fits_kind c.kind (value_of_literal l)) (row_fits cs (row_written cs (values_of ls)))
        (fits_literal c.kind l (and_parts (is_of_kind c.kind l) (not (c.key && is_site_kind c.kind) || names_site schema l) here.0).0 ranges.0) (rest ls here.1 ranges.1)

-- ---- it is unique

module _ (schema : Schema) (tables : List Rows) (table : ℕ) (row : Cells) (is : IsTable schema table (rows_of tables table)) (fits : RowFits (columns_of schema table) row)
    (passes : first_refusal (unique_steps schema tables table row) ≡ None) where
  free_of : (i : ℕ) (constraint : Constraint) → slice_get (constraints_of schema table) i ≡ Some constraint → is_held (columns_of schema table) constraint.columns (rows_of tables table) row ≡ false
  free_of i constraint there = go (is_held (columns_of schema table) constraint.columns (rows_of tables table) row) refl (none_refuses (taken_step schema tables table row) (constraints_of schema table) passes i constraint there)
    where
      go : (b : Bool) → is_held (columns_of schema table) constraint.columns (rows_of tables table) row ≡ b → refused b (refusal.UniqueTaken constraint.name) ≡ None
          → is_held (columns_of schema table) constraint.columns (rows_of tables table) row ≡ false
      go true held none = absurd (cc none)
      go false free none = free

  IsUniqueRow-free : IsUniqueRow schema table row (rows_of tables table)
  IsUniqueRow-free = record {
    unheld = λ i below held.
        let found = found_at (constraints_of schema table) i below in
        let free : is_held (columns_of schema table) (constraint_columns_of schema table i) (rows_of tables table) row ≡ false = rw found.1 (free_of i found.0 found.1) in
        let test = (held_test (columns_of schema table) (constraint_columns_of schema table i) row fits (rows_of tables table) is.fit).1 held in
        absurd (cc (free, test));
  }

-- ---- the table with it

first_None : (xs ys : List (Option Refusal)) → first_refusal (xs ++ ys) ≡ None → first_refusal xs ≡ None
first_None [] ys none = refl
first_None (x ∷ xs) ys none = let parts = or_then-None x (first_refusal (xs ++ ys)) none in rw parts.0 (first_None xs ys parts.1)

module _ (schema : Schema) (tables : List Rows) (values : List Literal) (are : AreTables schema tables) where
  put_at_table : (table : ℕ) → table < length schema.tables → first_refusal (base_steps schema tables table values) ≡ None → AreTables schema (tables_with schema tables (Some table) values)
  put_at_table table below none = AreTables-set schema tables table _ are (IsTable-put schema table row (rows_of tables table) fits (IsUniqueRow-free schema tables table row is fits (first_None (unique_steps schema tables table row) last parts.1)) is)
    where
      columns : List Column
      columns = columns_of schema table

      row : Cells
      row = base_row schema table values

      is : IsTable schema table (rows_of tables table)
      is = are.each table below

      last : List (Option Refusal)
      last = check_step schema table row ∷ []

      taken : Option Refusal
      taken = refused (is_some (row_at schema tables table (key_of (columns_of schema table) row))) refusal.KeyTaken

      shape : Bool
      shape = is_keyed (columns_of schema table) && literals_fit schema (written_columns (columns_of schema table)) values

      steps : (refused (not shape) refusal.RowShape ≡ None) × (or_then taken (first_refusal (row_steps schema tables table row)) ≡ None)
      steps = or_then-None (refused (not shape) refusal.RowShape) (or_then taken (first_refusal (row_steps schema tables table row))) none

      takes : literals_fit schema (written_columns columns) values ≡ true
      takes = (and_parts (is_keyed columns) (literals_fit schema (written_columns columns) values) (refused_not-None shape refusal.RowShape steps.0)).1

      parts : (refused (not (row_in_range row)) refusal.ValueRange ≡ None) × (first_refusal (unique_steps schema tables table row ++ last) ≡ None)
      parts = or_then-None (refused (not (row_in_range row)) refusal.ValueRange) (first_refusal (unique_steps schema tables table row ++ last))
          (or_then-None taken (first_refusal (row_steps schema tables table row)) steps.1).1

      fits : RowFits (columns_of schema table) row
      fits = (row_test columns row).0 (row_fits-written schema columns values takes (refused_not-None (row_in_range row) refusal.ValueRange parts.0))

  -- the tables with one more row that isn't refused are tables
  pub AreTables-with_row : (name : TableName) → base_refusal schema tables name values ≡ None → AreTables schema (tables_with_row schema tables name values)
  AreTables-with_row name none = go (table_place schema name) refl none
    where
      go : (found : Option ℕ) → table_place schema name ≡ found → first_refusal (known found (λ table. base_steps schema tables table values)) ≡ None → AreTables schema (tables_with schema tables found values)
      go None found none = are
      go (Some table) found none = put_at_table table (position-Some (is_table name) schema.tables table (plain_table name []) found).0 none
