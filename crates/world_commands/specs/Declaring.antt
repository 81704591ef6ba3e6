-- What it takes to declare a snapshot.
use Rattle.std.specs.Prelude.{◌≡◌, true, Option, Some, None, is_some}
use Rattle.rep_schema.specs.declared.schema.Schema.{Schema}
use Rattle.rep_schema.specs.Named.{table_place}
use Rattle.script_parse.specs.declared.command.ParentWords.{ParentWords}

-- the table of the parents that words name is there
abbrev pub IsParentThere : Schema → Option ParentWords → Type 0
IsParentThere schema None = Unit {0}
IsParentThere schema (Some p) = is_some (table_place schema p.table) ≡ true
