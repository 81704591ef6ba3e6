-- A schema that has its shape: the empty one, and what the shape says of one table.
use Rattle.std.proofs.Common.{ℕ, ◌≤◌, List, [], ◌∷◌, length, Option, Some, None, zero, suc, arith}
use Rattle.std.specs.Prelude.{slice_get, IfSome}
use Rattle.std.specs.List.{All}
use Rattle.std.proofs.lemmas.List.Elements.{All-head, All-tail}
use Rattle.rep_schema.specs.declared.schema.Schema.{Schema}
use Rattle.rep_schema.specs.declared.schema.TableEntry.{TableEntry}
use Rattle.rep_schema.specs.Limits.{most_columns, most_keys, most_constraints}
use Rattle.rep_schema.specs.Tables.{columns_in, constraints_in, columns_of, constraints_of, key_count}
use Rattle.rep_schema.specs.Shape.{HasTableShape, HasShape}

-- what holds of each value holds of the one at a place
pub slice_get-All : {X : Type 0} (P : X → Type 0) (xs : List X) (i : ℕ) → All P xs → IfSome (slice_get xs i) P
slice_get-All P [] i all = tt
slice_get-All P (x ∷ xs) zero all = All-head P x xs all
slice_get-All P (x ∷ xs) (suc i) all = slice_get-All P xs i (All-tail P x xs all)

-- a schema without sites, tables and priority groups has its shape
pub HasShape-empty : HasShape (record { sites = []; tables = []; priorities = [] })
HasShape-empty = record {
  masters = omega arith;
  snapshots = omega arith;
  site_names = λ i j d lt in_range. absurd (omega arith);
  site_masters = λ k d in_range. absurd (omega arith);
  tables = λ k d in_range. absurd (omega arith);
  table_number = omega arith;
  table_names = λ i j d lt in_range. absurd (omega arith);
  priorities = λ k d in_range. absurd (omega arith);
  priority_names = λ i j d lt in_range. absurd (omega arith);
}

module _ (schema : Schema) (shape : HasShape schema) (table : ℕ) where
  -- a table of the schema has its shape
  pub table_shape : IfSome (slice_get schema.tables table) (HasTableShape (length schema.priorities))
  table_shape = slice_get-All (HasTableShape (length schema.priorities)) schema.tables table shape.tables

  -- it has at most 32 columns
  pub length-columns_of : length (columns_of schema table) ≤ most_columns
  length-columns_of = go (slice_get schema.tables table) table_shape
    where
      go : (entry : Option TableEntry) → IfSome entry (HasTableShape (length schema.priorities)) → length (columns_in entry) ≤ most_columns
      go None is = omega arith
      go (Some entry) is = is.columns

  -- at most 4 of them are key columns
  pub key_count-columns_of : key_count (columns_of schema table) ≤ most_keys
  key_count-columns_of = go (slice_get schema.tables table) table_shape
    where
      go : (entry : Option TableEntry) → IfSome entry (HasTableShape (length schema.priorities)) → key_count (columns_in entry) ≤ most_keys
      go None is = omega arith
      go (Some entry) is = is.keys

  -- and it has at most 8 secondary constraints
  pub length-constraints_of : length (constraints_of schema table) ≤ most_constraints
  length-constraints_of = go (slice_get schema.tables table) table_shape
    where
      go : (entry : Option TableEntry) → IfSome entry (HasTableShape (length schema.priorities)) → length (constraints_in entry) ≤ most_constraints
      go None is = omega arith
      go (Some entry) is = is.constraint_number
