-- The rules of uniqueness constraints.
use Rattle.std.specs.Prelude.{Bool, not, ◌&&◌, List, is_none}
use Rattle.std.specs.List.{list_all}
use Rattle.rep_schema.specs.declared.schema.Schema.{Schema}
use Rattle.rep_schema.specs.declared.schema.TableEntry.{TableEntry}
use Rattle.rep_schema.specs.declared.schema.Column.{Column}
use Rattle.rep_schema.specs.declared.schema.Constraint.{Constraint}
use Rattle.rep_schema.specs.Shape.{unique_column}
use Rattle.rep_schema.specs.Kinds.{is_none_or, is_text, is_plain, has_kind, is_key_at, has_place}

-- each secondary constraint of each table passes a test, which is given the table's columns
abbrev pub each_constraint : (List Column → Constraint → Bool) → Schema → Bool
each_constraint test schema = list_all (λ table. list_all (test table.columns) table.constraints) schema.tables

-- the columns of a secondary constraint are no key columns and are NUMBER, TEXT or DATE
abbrev pub has_plain_columns : List Column → Constraint → Bool
has_plain_columns columns constraint = list_all (λ place. not (is_key_at columns place) && has_kind is_plain columns place) constraint.columns

-- an append method of a secondary constraint names a TEXT column of it
abbrev pub appends_to_own_texts : List Column → Constraint → Bool
appends_to_own_texts columns constraint =
    list_all (λ m. is_none_or (λ place. has_place constraint.columns place && has_kind is_text columns place) (unique_column m)) constraint.methods

-- no method of a table's key is an append method, and those of its secondary constraints name TEXT columns of them
abbrev pub has_good_appends : TableEntry → Bool
has_good_appends table = list_all (λ m. is_none (unique_column m)) table.key_methods && list_all (appends_to_own_texts table.columns) table.constraints
