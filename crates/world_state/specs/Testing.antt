-- What a line's tests ask of the columns of a table.
use Rattle.std.specs.Prelude.{Bool, List}
use Rattle.std.specs.List.{list_all}
use Rattle.rep_values.specs.Literal.{value_of_literal}
use Rattle.rep_schema.specs.declared.schema.Column.{Column}
use Rattle.rep_schema.specs.Kinds.{is_of_kind, value_in_range, is_some_and}
use Rattle.rep_schema.specs.Named.{has_column, column_named}
use Rattle.script_parse.specs.declared.command.TestWords.{TestWords}

abbrev pub has_columns : List Column → List TestWords → Bool
has_columns columns tests = list_all (λ (t : TestWords). has_column columns t.column) tests

abbrev pub is_of_column : List Column → TestWords → Bool
is_of_column columns t = is_some_and (λ (c : Column). is_of_kind c.kind t.value) (column_named columns t.column)

abbrev pub test_in_range : TestWords → Bool
test_in_range t = value_in_range (value_of_literal t.value)
