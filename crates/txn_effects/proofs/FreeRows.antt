-- A row that no constraint refuses is unique.
use Rattle.std.proofs.Common.{◌≡◌, ℕ, Bool, true, false, List, refl}
use Rattle.std.specs.Prelude.{Some, None, slice_get}
use Rattle.rep_schema.specs.declared.schema.Schema.{Schema}
use Rattle.rep_schema.specs.declared.schema.Constraint.{Constraint}
use Rattle.rep_schema.specs.Tables.{Cells, Rows, columns_of, constraints_of, constraint_columns_of, rows_of, RowFits, IsTable, IsUniqueRow}
use Rattle.rep_values.specs.RefusalSteps.{first_refusal}
use Rattle.rep_values.proofs.RefusalSteps.{none_refuses}
use Rattle.unique_resolve.specs.Settling.{is_held}
use Rattle.unique_resolve.proofs.HeldValues.{held_test}
use Rattle.txn_effects.specs.Statements.{taken_step, unique_steps}
use Rattle.rep_lists.proofs.Places.{found_at}

module _ (schema : Schema) (tables : List Rows) (table : ℕ) (row : Cells) (is_table : IsTable schema table (rows_of tables table)) (fits : RowFits (columns_of schema table) row)
    (passes : first_refusal (unique_steps schema tables table row) ≡ None) where
  -- no other row has the row's values in a constraint
  pub free_of : (i : ℕ) (constraint : Constraint) → slice_get (constraints_of schema table) i ≡ Some constraint → is_held (columns_of schema table) constraint.columns (rows_of tables table) row ≡ false
  free_of i constraint there = go (is_held (columns_of schema table) constraint.columns (rows_of tables table) row) refl
      (none_refuses (taken_step schema tables table row) (constraints_of schema table) passes i constraint there)
    where
      go : (b : Bool) → is_held (columns_of schema table) constraint.columns (rows_of tables table) row ≡ b → taken_step schema tables table row constraint ≡ None → is_held (columns_of schema table) constraint.columns (rows_of tables table) row ≡ false
      go true held none = let taken = rw held at none in cc
      go false free none = free

  pub IsUniqueRow-free : IsUniqueRow schema table row (rows_of tables table)
  IsUniqueRow-free = record {
    unheld = λ i below held.
        let found = found_at (constraints_of schema table) i below in
        let free : is_held (columns_of schema table) (constraint_columns_of schema table i) (rows_of tables table) row ≡ false = rw found.1 (free_of i found.0 found.1) in
        let test = (held_test (columns_of schema table) (constraint_columns_of schema table i) row fits (rows_of tables table) is_table.fit).1 held in
        cc (free, test);
  }
