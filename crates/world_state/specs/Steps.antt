-- What a line of a script does to the world.
use Rattle.std.specs.Prelude.{ℕ, suc, Bool, true, false, cond, List, [], ◌∷◌, Option, Some, None}
use Rattle.rep_values.specs.declared.name.SiteName.{SiteName}
use Rattle.rep_values.specs.declared.refusal.Refusal.{Refusal}
use Rattle.rep_schema.specs.Named.{table_place}
use Rattle.net_plan.specs.Directions.{at_direction, with_link, with_fates, without_fates}
use Rattle.site_state.specs.Commits.{site_clock}
use Rattle.site_state.specs.Errors.{site_execute, site_drop}
use Rattle.site_state.specs.Purges.{site_purge, site_purge_log}
use Rattle.site_events.specs.Joins.{joined}
use Rattle.site_events.specs.Events.{refreshed}
use Rattle.world_state.specs.declared.phase.Phase.{Phase}
use Rattle.world_state.specs.declared.phase.Phase.TheVariants as phase
use Rattle.world_state.specs.declared.refused.Refused.{Refused}
use Rattle.script_parse.specs.declared.command.Command.{Command}
use Rattle.script_parse.specs.declared.command.Command.TheVariants as command
use Rattle.script_parse.specs.declared.command.Link.{Link}
use Rattle.script_parse.specs.declared.command.Link.TheVariants as link
use Rattle.world_state.specs.World.{WorldState, with_site}
use Rattle.world_state.specs.Declaring.{with_declaration, with_snapshot, with_row, tests_in}
use Rattle.world_state.specs.Making.{world_made}
use Rattle.world_state.specs.Blocks.{block_opened, closed, with_statement, world_commit, is_commit, commit_line}
use Rattle.world_state.specs.CallBlocks.{calls_closed, sent_to, send_line}
use Rattle.world_state.specs.ProcSteps.{procs_done}
use Rattle.world_state.specs.Pushes.{world_push}
use Rattle.world_state.specs.Refusals.{world_refusal}

-- ---- what a command does where it isn't refused

-- Setup ends, or transactions may begin again
abbrev pub resumed : Phase → WorldState → WorldState
resumed phase.Setup w = world_made w
resumed phase.Running w = w
resumed phase.Suspended w = record w { phase = phase.Running }

-- a snapshot site gets what its queries pick of its master's rows now; by logs or by all rows, these are the same
abbrev pub world_refresh : SiteName → WorldState → WorldState
world_refresh site w = with_site site (refreshed w.sites) w

abbrev pub log_purged_at : SiteName → Option ℕ → WorldState → WorldState
log_purged_at site None w = w
log_purged_at site (Some table) w = with_site site (site_purge_log table) w

-- the word of a link
abbrev pub is_up_word : Link → Bool
is_up_word link.Up = true
is_up_word link.Down = false

-- what the line of a number does
abbrev pub world_done : ℕ → Command → WorldState → WorldState
world_done number command.Nothing w = w
world_done number (command.Declare declaration) w = with_declaration declaration w
world_done number (command.Snapshot site table parent tests) w = with_snapshot site table parent (tests_in tests) w
world_done number (command.Row table values) w = with_row table values w
world_done number command.Resume w = resumed w.phase w
world_done number (command.Statement statement) w = with_statement number statement w
world_done number (command.Txn site) w = block_opened site w
world_done number command.Commit w = world_commit w
world_done number command.Abandon w = closed w
world_done number (command.Push from to count) w = world_push from to count w
world_done number (command.Fates from to fates) w = record w { net = at_direction from to (with_fates fates) w.net }
world_done number (command.ClearFates from to) w = record w { net = at_direction from to without_fates w.net }
world_done number (command.Link from to word) w = record w { net = at_direction from to (with_link (is_up_word word)) w.net }
world_done number (command.Clock site time) w = with_site site (site_clock time) w
world_done number (command.Purge site) w = with_site site site_purge w
world_done number (command.Execute site origin position) w = with_site site (site_execute origin position) w
world_done number (command.DropError site origin position) w = with_site site (site_drop origin position) w
world_done number (command.Refresh site how) w = world_refresh site w
world_done number (command.PurgeLog master table) w = log_purged_at master (table_place w.schema table) w
world_done number command.Suspend w = record w { phase = phase.Suspended }
world_done number (command.Join site source) w = record w { sites = joined site source w.sites }
world_done number (command.Show what site) w = w
world_done number (command.Procedures line) w = record w { procs = procs_done number line w.net w.procs }

-- ---- what a refused one does

abbrev pub left_by : Option (List SiteName) → WorldState → WorldState
left_by None w = w
left_by (Some to) w = record w { procs = calls_closed w.procs }

-- it leaves the world, but that a commit and a send close their block
abbrev pub world_refused : Command → WorldState → WorldState
world_refused command w = cond (is_commit command) (closed w) (left_by (sent_to command) w)

-- ---- a step

-- the world after a line that met a refusal, or none
abbrev pub step_by : Option Refusal → ℕ → Command → WorldState → WorldState
step_by None number command w = world_done number command w
step_by (Some why) number command w = world_refused command w

-- the world after the line of a number
abbrev pub world_step : ℕ → Command → WorldState → WorldState
world_step number command w = step_by (world_refusal command w) number command w

-- the world after lines, the first of which has a number
abbrev pub world_steps : ℕ → List Command → WorldState → WorldState
world_steps number [] w = w
world_steps number (command ∷ more) w = world_steps (suc number) more (world_step number command w)

-- ---- what is told of a refusal

abbrev pub told_at : Option (List SiteName) → ℕ → WorldState → ℕ
told_at None number w = number
told_at (Some to) number w = send_line number to w.procs

-- the line that is told: its own; that of the refused statement where it is a commit, and that of the refused call where it is a
-- send
abbrev pub told_line : ℕ → Command → WorldState → ℕ
told_line number command w = cond (is_commit command) (commit_line number w) (told_at (sent_to command) number w)

abbrev pub told_by : Option Refusal → ℕ → Command → WorldState → Option Refused
told_by None number command w = None
told_by (Some why) number command w = Some (record { line = told_line number command w; refusal = why })

-- what is told of the line of a number, where it is refused
abbrev pub step_refused : ℕ → Command → WorldState → Option Refused
step_refused number command w = told_by (world_refusal command w) number command w
