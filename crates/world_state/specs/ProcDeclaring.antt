-- What Setup's lines about procedures add.
use Rattle.std.specs.Prelude.{ℕ, Bool, List, [], ◌∷◌, ◌++◌, map, Option, Some, None}
use Rattle.std.specs.List.{find, position}
use Rattle.rep_values.specs.declared.name.TableName.{TableName}
use Rattle.rep_values.specs.Name.{same_bytes}
use Rattle.rep_schema.specs.declared.schema.Column.{Column}
use Rattle.rep_schema.specs.declared.schema.TableEntry.{TableEntry}
use Rattle.rep_schema.specs.Entries.{plain_table}
use Rattle.rep_schema.specs.Tables.{columns_in}
use Rattle.rep_schema.specs.Named.{is_table}
use Rattle.rep_declare.specs.Additions.{column_number}
use Rattle.snapshot_query.specs.declared.query.Query.{Query}
use Rattle.proc_state.specs.declared.procedure.Action.{Action}
use Rattle.proc_state.specs.declared.procedure.Action.TheVariants as action
use Rattle.proc_state.specs.declared.procedure.Procedure.{Procedure}
use Rattle.script_parse.specs.declared.command.TestWords.{TestWords}
use Rattle.script_parse.specs.declared.proc_line.ActionWords.{ActionWords}
use Rattle.script_parse.specs.declared.proc_line.ActionWords.TheVariants as words
use Rattle.world_state.specs.Declaring.{test_of, tests_in}
use Rattle.world_state.specs.Procs.{Procs}

-- ---- names

-- the table of procedures of this name
abbrev pub proc_table_named : List TableEntry → TableName → Option TableEntry
proc_table_named tables name = find (is_table name) tables

abbrev pub is_procedure : List ℕ → Procedure → Bool
is_procedure name p = same_bytes p.name name

-- the procedure of this name
abbrev pub procedure_named : List Procedure → List ℕ → Option Procedure
procedure_named procedures name = find (is_procedure name) procedures

-- its place
abbrev pub procedure_place : List Procedure → List ℕ → Option ℕ
procedure_place procedures name = position (is_procedure name) procedures

-- ---- tables

-- a table that procedures write, behind those that are declared
abbrev pub with_proc_table : TableName → List Column → Procs → Procs
with_proc_table name columns p = record p { tables = p.tables ++ plain_table name columns ∷ [] }

-- ---- procedures

-- the query of a table that these tests mean
abbrev pub query_of : List Column → Option (List TestWords) → Query
query_of columns tests = record { tests = map (test_of columns) (tests_in tests) }

-- the action on a table that these words mean
abbrev pub action_of : List Column → ActionWords → Action
action_of columns words.Put = action.Put
action_of columns (words.Add column tests) = action.Add (column_number columns column) (query_of columns tests)
action_of columns (words.Drop tests) = action.Drop (query_of columns tests)

abbrev pub procedure_at : Option ℕ → List ℕ → Action → Procs → Procs
procedure_at None name does p = p
procedure_at (Some table) name does p = record p { procedures = p.procedures ++ record { name = name; table = table; action = does } ∷ [] }

-- a procedure, behind those that are declared
abbrev pub with_procedure : List ℕ → TableName → ActionWords → Procs → Procs
with_procedure name table does p = procedure_at (position (is_table table) p.tables) name (action_of (columns_in (proc_table_named p.tables table)) does) p
