-- What a command asks of the phase and of the open block.
use Rattle.std.specs.Prelude.{ℕ, ◌||◌, min, Bool, true, false, not, cond, List, [], Option, Some, None, is_some, is_none}
use Rattle.std.specs.List.{list_all}
use Rattle.std.specs.Option.{option_map}
use Rattle.rep_values.specs.declared.name.TableName.{TableName}
use Rattle.rep_values.specs.declared.refusal.Refusal.{Refusal}
use Rattle.rep_values.specs.declared.refusal.Refusal.TheVariants as refusal
use Rattle.rep_values.specs.RefusalSteps.{refused, or_then}
use Rattle.rep_schema.specs.declared.schema.Schema.{Schema}
use Rattle.rep_schema.specs.declared.schema.TableEntry.{TableEntry}
use Rattle.rep_schema.specs.Tables.{Rows, rows_of}
use Rattle.rep_schema.specs.Named.{table_place}
use Rattle.schema_rules.specs.KeyRules.{is_well_keyed}
use Rattle.schema_rules.specs.Rules.{broken_rule}
use Rattle.rep_declare.specs.declared.declaration.Declare.{Declare}
use Rattle.rep_declare.specs.Shaping.{table_shaped}
use Rattle.site_state.specs.Steps.{is_empty}
use Rattle.world_state.specs.declared.phase.Phase.{Phase}
use Rattle.world_state.specs.declared.phase.Phase.TheVariants as phase
use Rattle.script_parse.specs.declared.command.Command.{Command}
use Rattle.script_parse.specs.declared.command.Command.TheVariants as command
use Rattle.script_parse.specs.declared.proc_line.ProcLine.{ProcLine}
use Rattle.script_parse.specs.declared.proc_line.ProcLine.TheVariants as proc_line
use Rattle.world_state.specs.World.{WorldState}

abbrev pub is_setup : Phase → Bool
is_setup phase.Setup = true
is_setup phase.Running = false
is_setup phase.Suspended = false

abbrev pub is_running : Phase → Bool
is_running phase.Setup = false
is_running phase.Running = true
is_running phase.Suspended = false

abbrev pub is_suspended : Phase → Bool
is_suspended phase.Setup = false
is_suspended phase.Running = false
is_suspended phase.Suspended = true

-- a block is open, of a transaction or of calls
abbrev pub has_block : WorldState → Bool
has_block w = is_some w.block || is_some w.procs.block

-- ---- Setup's lines

-- they are for Setup alone
abbrev pub setup_step : WorldState → Option Refusal
setup_step w = refused (not (is_setup w.phase) || has_block w) refusal.WrongPhase

abbrev pub rows_at : List Rows → Option ℕ → Rows
rows_at base None = []
rows_at base (Some table) = rows_of base table

abbrev pub has_rows : WorldState → Option TableName → Bool
has_rows w None = false
has_rows w (Some table) = not (is_empty (rows_at w.base (table_place w.schema table)))

-- a declaration is for Setup, and one that shapes a table comes before the table's rows
abbrev pub declare_step : Declare → WorldState → Option Refusal
declare_step declaration w = or_then (setup_step w) (refused (has_rows w (table_shaped declaration)) refusal.WrongPhase)

-- ---- the other lines

-- what is said in a block is for an open one
abbrev pub block_step : WorldState → Option Refusal
block_step w = refused (is_none w.block) refusal.WrongPhase

-- so it is with calls
abbrev pub call_block_step : WorldState → Option Refusal
call_block_step w = refused (is_none w.procs.block) refusal.WrongPhase

-- all else is for any phase behind Setup while no block is open
abbrev pub behind_setup_step : WorldState → Option Refusal
behind_setup_step w = refused (is_setup w.phase || has_block w) refusal.WrongPhase

abbrev pub lower : Option ℕ → Option ℕ → Option ℕ
lower None other = other
lower (Some rule) None = Some rule
lower (Some rule) (Some other) = Some (min rule other)

-- the rule that each table has a key, where a table of procedures breaks it
abbrev pub broken_by : List TableEntry → Option ℕ
broken_by tables = cond (list_all is_well_keyed tables) None (Some 2)

-- the lowest rule that is broken, by the schema or by tables of procedures
abbrev pub lowest_broken : Schema → List TableEntry → Option ℕ
lowest_broken schema tables = lower (broken_rule schema) (broken_by tables)

-- Setup ends where no rule of a schema is broken
abbrev pub resume_step : Phase → Option ℕ → Option Refusal
resume_step phase.Setup broken = option_map refusal.SchemaRule broken
resume_step phase.Running broken = Some refusal.WrongPhase
resume_step phase.Suspended broken = None

-- why the phase or an open block hinders a line about procedures, if one does
abbrev pub proc_phase_step : ProcLine → WorldState → Option Refusal
proc_phase_step (proc_line.Table name columns) w = setup_step w
proc_phase_step (proc_line.Procedure name table does) w = setup_step w
proc_phase_step (proc_line.Calls site) w = or_then (behind_setup_step w) (refused (is_suspended w.phase) refusal.Suspended)
proc_phase_step (proc_line.Call call) w = call_block_step w
proc_phase_step (proc_line.Send to) w = call_block_step w
proc_phase_step (proc_line.Push from to) w = behind_setup_step w
proc_phase_step (proc_line.Fates from to fates) w = behind_setup_step w
proc_phase_step (proc_line.Execute site origin position) w = behind_setup_step w

-- why the phase or the open block hinders a line, if one does
abbrev pub phase_step : Command → WorldState → Option Refusal
phase_step command.Nothing w = None
phase_step (command.Declare declaration) w = declare_step declaration w
phase_step (command.Snapshot site table parent tests) w = setup_step w
phase_step (command.Row table values) w = setup_step w
phase_step command.Resume w = or_then (refused (has_block w) refusal.WrongPhase) (resume_step w.phase (lowest_broken w.schema w.procs.tables))
phase_step (command.Statement statement) w = block_step w
phase_step (command.Txn site) w = or_then (behind_setup_step w) (refused (is_suspended w.phase) refusal.Suspended)
phase_step command.Commit w = block_step w
phase_step command.Abandon w = block_step w
phase_step (command.Push from to count) w = behind_setup_step w
phase_step (command.Fates from to fates) w = behind_setup_step w
phase_step (command.ClearFates from to) w = behind_setup_step w
phase_step (command.Link from to link) w = behind_setup_step w
phase_step (command.Clock site time) w = behind_setup_step w
phase_step (command.Purge site) w = behind_setup_step w
phase_step (command.Execute site origin position) w = behind_setup_step w
phase_step (command.DropError site origin position) w = behind_setup_step w
phase_step (command.Refresh site how) w = behind_setup_step w
phase_step (command.PurgeLog master table) w = behind_setup_step w
phase_step command.Suspend w = or_then (behind_setup_step w) (refused (not (is_running w.phase)) refusal.WrongPhase)
phase_step (command.Join site source) w = or_then (behind_setup_step w) (refused (not (is_suspended w.phase)) refusal.WrongPhase)
phase_step (command.Show what site) w = behind_setup_step w
phase_step (command.Procedures line) w = proc_phase_step line w
