-- The rules of checks.
use Rattle.std.specs.Prelude.{Bool, ◌==◌, List, length}
use Rattle.std.specs.List.{list_all}
use Rattle.rep_schema.specs.declared.schema.Schema.{Schema}
use Rattle.rep_schema.specs.declared.schema.TableEntry.{TableEntry}
use Rattle.rep_schema.specs.declared.schema.Column.{Column}
use Rattle.rep_schema.specs.declared.check.Check.{Check}
use Rattle.rep_schema.specs.Kinds.{is_plain, has_kind}

-- each check of each table passes a test, which is given the table's columns
abbrev pub each_check : (List Column → Check → Bool) → Schema → Bool
each_check test schema = list_all (λ table. list_all (test table.columns) table.checks) schema.tables

-- the column of a check is a NUMBER, TEXT or DATE
abbrev pub tests_plain_column : List Column → Check → Bool
tests_plain_column columns check = has_kind is_plain columns check.column

-- a table has no check
abbrev pub is_unchecked : TableEntry → Bool
is_unchecked table = length table.checks == 0
