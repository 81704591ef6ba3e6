-- Why a line about procedures is refused behind the phase: the first of its steps that refuses it.
use Rattle.std.specs.Prelude.{ℕ, ◌+◌, ◌&&◌, Bool, true, false, not, List, [], ◌∷◌, length, Option, Some, None}
use Rattle.std.specs.List.{list_all}
use Rattle.rep_values.specs.declared.name.SiteName.{SiteName}
use Rattle.rep_values.specs.declared.name.TableName.{TableName}
use Rattle.rep_values.specs.declared.refusal.Refusal.{Refusal}
use Rattle.rep_values.specs.declared.refusal.Refusal.TheVariants as refusal
use Rattle.rep_values.specs.declared.refusal.Limit.TheVariants as limit
use Rattle.rep_values.specs.RefusalSteps.{refused, first_refusal, unknown, taken, known, full, too_many}
use Rattle.rep_schema.specs.declared.schema.Column.{Column}
use Rattle.rep_schema.specs.declared.schema.TableEntry.{TableEntry}
use Rattle.rep_schema.specs.Limits.{most_tables, most_keys}
use Rattle.rep_schema.specs.Tables.{key_count}
use Rattle.rep_schema.specs.Kinds.{is_number}
use Rattle.rep_schema.specs.Named.{table_named, column_named}
use Rattle.rep_declare.specs.declared.declaration.Declare.{Declare}
use Rattle.rep_declare.specs.declared.declaration.Declare.TheVariants as declare
use Rattle.rep_declare.specs.Refusals.{share_a_name}
use Rattle.net_plan.specs.Directions.{is_up}
use Rattle.rep_schema.specs.Sites.{is_among}
use Rattle.proc_state.specs.State.{ProcState, other_masters}
use Rattle.proc_state.specs.Errors.{proc_execute_refusal}
use Rattle.script_parse.specs.declared.command.TestWords.{TestWords}
use Rattle.script_parse.specs.declared.proc_line.ActionWords.{ActionWords}
use Rattle.script_parse.specs.declared.proc_line.ActionWords.TheVariants as words
use Rattle.script_parse.specs.declared.proc_line.ProcLine.{ProcLine}
use Rattle.script_parse.specs.declared.proc_line.ProcLine.TheVariants as line
use Rattle.world_state.specs.World.{WorldState}
use Rattle.world_state.specs.Declaring.{tests_in}
use Rattle.world_state.specs.Testing.{has_columns, is_of_column, test_in_range}
use Rattle.world_state.specs.Procs.{Procs, proc_of}
use Rattle.world_state.specs.ProcDeclaring.{proc_table_named, procedure_named}
use Rattle.world_state.specs.CallBlocks.{can_send_to, send_refusal}

-- ---- tables

-- a table that is declared, whoever writes it: no table has its name, its columns have different names, and there may be 32 in
-- all
abbrev pub table_step : TableName → List Column → WorldState → Option Refusal
table_step name columns w = first_refusal (
    taken (table_named w.schema name) ∷
    taken (proc_table_named w.procs.tables name) ∷
    refused (share_a_name columns) refusal.NameTaken ∷
    full most_tables (length w.schema.tables + length w.procs.tables) limit.Tables ∷ [])

-- what a declaration meets because procedures have tables too
abbrev pub declaring_step : Declare → WorldState → Option Refusal
declaring_step (declare.Site name) w = None
declaring_step (declare.LateSite name) w = None
declaring_step (declare.SnapSite name master) w = None
declaring_step (declare.Table name columns) w = table_step name columns w
declaring_step (declare.Group table group columns) w = None
declaring_step (declare.Method table group method) w = None
declaring_step (declare.Priority group value level) w = None
declaring_step (declare.SiteLevel site level) w = None
declaring_step (declare.Unique table constraint columns) w = None
declaring_step (declare.UniqueMethod table constraint method) w = None
declaring_step (declare.Check table check column rel value) w = None
declaring_step (declare.Convergent table) w = None

-- a table of procedures has at most so many columns: a carrier has two more
abbrev pub most_proc_columns : ℕ
most_proc_columns = 30

-- a table of procedures: its names, then the limits
abbrev pub proc_table_steps : TableName → List Column → WorldState → List (Option Refusal)
proc_table_steps name columns w =
    table_step name columns w ∷
    too_many most_proc_columns (length columns) limit.Columns ∷
    too_many most_keys (key_count columns) limit.Keys ∷ []

-- ---- procedures

-- a NUMBER column outside the key
abbrev pub takes_amount : Column → Bool
takes_amount column = is_number column.kind && not column.key

-- an action whose own column is of the right kind, or isn't: the columns of its tests, then all kinds, then the ranges
abbrev pub test_steps : Bool → List Column → List TestWords → List (Option Refusal)
test_steps is_right columns tests =
    refused (not (has_columns columns tests)) refusal.UnknownName ∷
    refused (not (is_right && list_all (is_of_column columns) tests)) refusal.RowShape ∷
    refused (not (list_all test_in_range tests)) refusal.ValueRange ∷ []

-- an action on a table of these columns
abbrev pub action_steps : List Column → ActionWords → List (Option Refusal)
action_steps columns words.Put = []
action_steps columns (words.Add column tests) = known (column_named columns column) (λ (found : Column). test_steps (takes_amount found) columns (tests_in tests))
action_steps columns (words.Drop tests) = test_steps true columns (tests_in tests)

-- a procedure: its name, then its table's, then its action
abbrev pub procedure_steps : List ℕ → TableName → ActionWords → Procs → List (Option Refusal)
procedure_steps name table does p =
    taken (procedure_named p.procedures name) ∷
    known (proc_table_named p.tables table) (λ (entry : TableEntry). action_steps entry.columns does)

-- ---- sites

abbrev pub is_other : SiteName → Option ProcState → Bool
is_other other None = false
is_other other (Some x) = is_among (other_masters x) other

-- both hold tables of procedures, and they aren't the same
abbrev pub are_two_masters : SiteName → SiteName → Procs → Bool
are_two_masters a b p = is_other b (proc_of a p.sites)

-- ---- a line

-- the steps of a line about procedures behind the phase
abbrev pub proc_steps : ProcLine → WorldState → List (Option Refusal)
proc_steps (line.Table name columns) w = proc_table_steps name columns w
proc_steps (line.Procedure name table does) w = procedure_steps name table does w.procs
proc_steps (line.Calls site) w = unknown (proc_of site w.procs.sites) ∷ []
proc_steps (line.Call call) w = []
proc_steps (line.Send to) w = refused (not (can_send_to to w.procs)) refusal.UnknownName ∷ send_refusal w.procs ∷ []
proc_steps (line.Push from to) w = refused (not (are_two_masters from to w.procs)) refusal.UnknownName ∷ refused (not (is_up from to w.net)) refusal.LinkDown ∷ []
proc_steps (line.Fates from to fates) w = refused (not (are_two_masters from to w.procs)) refusal.UnknownName ∷ []
proc_steps (line.Execute site origin position) w =
    known (proc_of site w.procs.sites) (λ x. refused (not (are_two_masters site origin w.procs)) refusal.UnknownName ∷ proc_execute_refusal origin position x ∷ [])
