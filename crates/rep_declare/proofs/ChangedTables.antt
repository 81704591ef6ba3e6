-- A schema with one of its tables changed, which is found by its name.
use Rattle.std.proofs.Common.{◌≡◌, ℕ, List, Option, Some, None, get_or, ap, ◌∙◌}
use Rattle.std.specs.Prelude.{slice_set}
use Rattle.std.specs.List.{position}
use Rattle.rep_values.specs.declared.name.TableName.{TableName}
use Rattle.rep_schema.specs.declared.schema.Schema.{Schema}
use Rattle.rep_schema.specs.declared.schema.TableEntry.{TableEntry}
use Rattle.rep_schema.specs.Named.{is_table}
use Rattle.rep_declare.specs.Additions.{with_tables, with_table_changed}
use Rattle.rep_declare.proofs.Changed.{changed_read, none_read}

module _ (schema : Schema) (name : TableName) (change : TableEntry → TableEntry) (found : Option ℕ) (tables : List TableEntry)
    (of_schema : tables ≡ schema.tables) (by : found ≡ position (is_table name) tables) where
  -- the one that is found is changed
  pub table_changed : (place : ℕ) (before after : TableEntry) → found ≡ Some place → before ≡ get_or schema.tables place before → after ≡ change before
      → with_tables (slice_set schema.tables place after) schema ≡ with_table_changed name change schema
  table_changed place before after is read changed =
      ap (λ ts. with_tables ts schema) (ap (slice_set schema.tables place) changed
      ∙ changed_read (is_table name) change schema.tables found place before (by ∙ ap (position (is_table name)) of_schema) is read)

  -- none is found, and none is changed
  pub no_table_changed : found ≡ None → schema ≡ with_table_changed name change schema
  no_table_changed is = ap (λ ts. with_tables ts schema) (none_read (is_table name) change schema.tables found (by ∙ ap (position (is_table name)) of_schema) is)
