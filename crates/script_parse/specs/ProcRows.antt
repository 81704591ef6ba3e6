-- The forms of lines about procedures, one row each, with what stands behind the first word.
use Rattle.std.specs.Prelude.{ℕ, List}
use Rattle.rep_values.specs.declared.literal.Literal.{Literal}
use Rattle.script_words.specs.Words.{is_named, is_valued, is_chosen}
use Rattle.script_words.specs.Reading.{Reading, row, ◌⊛◌, several, one_or_more}
use Rattle.script_words.specs.Parts.{name, whole_number, value, choice}
use Rattle.script_parse.specs.declared.heads.ProcHead.{ProcHead}
use Rattle.script_parse.specs.declared.heads.ProcHead.TheVariants as head
use Rattle.script_parse.specs.declared.proc_line.ProcLine.{ProcLine}
use Rattle.script_parse.specs.declared.proc_line.ProcLine.TheVariants as proc_line
use Rattle.script_parse.specs.Columns.{plain_column}
use Rattle.script_parse.specs.Actions.{action}
use Rattle.script_parse.specs.Parts.{site, table, fates}

-- proctable NAME COLUMN+
abbrev pub proc_table_row : Reading ProcLine
proc_table_row = row proc_line.Table ⊛ table ⊛ one_or_more is_named plain_column

-- procedure NAME NAME ACTION
abbrev pub procedure_row : Reading ProcLine
procedure_row = row proc_line.Procedure ⊛ name ⊛ table ⊛ action

-- calls NAME
abbrev pub calls_row : Reading ProcLine
calls_row = row proc_line.Calls ⊛ site

-- a call by its parts
abbrev pub call_of : List ℕ → List Literal → ProcLine
call_of p values = proc_line.Call (record { procedure = p; values = values })

-- call NAME [VALUE]..
abbrev pub call_row : Reading ProcLine
call_row = row call_of ⊛ name ⊛ several is_valued value

-- send [NAME]..
abbrev pub send_row : Reading ProcLine
send_row = row proc_line.Send ⊛ several is_named site

-- push-calls NAME NAME
abbrev pub push_calls_row : Reading ProcLine
push_calls_row = row proc_line.Push ⊛ site ⊛ site

-- fate-calls NAME NAME FATE+
abbrev pub fate_calls_row : Reading ProcLine
fate_calls_row = row proc_line.Fates ⊛ site ⊛ site ⊛ one_or_more (is_chosen fates) (choice fates)

-- execute-calls NAME NAME WHOLE
abbrev pub execute_calls_row : Reading ProcLine
execute_calls_row = row proc_line.Execute ⊛ site ⊛ site ⊛ whole_number

-- the form behind the first word of a line about procedures
abbrev pub proc_row_of : ProcHead → Reading ProcLine
proc_row_of head.Table = proc_table_row
proc_row_of head.Procedure = procedure_row
proc_row_of head.Calls = calls_row
proc_row_of head.Call = call_row
proc_row_of head.Send = send_row
proc_row_of head.Push = push_calls_row
proc_row_of head.Fates = fate_calls_row
proc_row_of head.Execute = execute_calls_row
