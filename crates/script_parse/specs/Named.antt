-- What the declarations that are read have besides.
use Rattle.rep_declare.specs.Additions.{ColumnNamed}
use Rattle.script_parse.specs.declared.command.Command.{Command}
use Rattle.script_parse.specs.declared.command.Command.TheVariants as command

-- a group or a constraint that is declared names a column
abbrev pub NamesColumn : Command → Type 0
NamesColumn (command.Declare declaration) = ColumnNamed declaration
NamesColumn _ = Unit {0}
