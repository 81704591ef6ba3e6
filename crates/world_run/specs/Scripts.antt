-- What a script prints: each of its lines is read as a command and done to the world, or refused there.
use Rattle.std.specs.Prelude.{◌≡◌, ℕ, ◌+◌, ◌<◌, List, [], take, slice_get, Option, Some, None, Result, Ok, Err}
use Rattle.rep_values.specs.declared.name.SiteName.{SiteName}
use Rattle.script_drive.specs.Lines.{lines_after}
use Rattle.script_drive.specs.Runs.{Stepped, goes, halts, state_after}
use Rattle.script_drive.specs.Told.{report}
use Rattle.report_text.specs.Texts.{malformed_text}
use Rattle.script_parse.specs.declared.command.Refresh.{Refresh}
use Rattle.script_parse.specs.declared.command.Command.{Command}
use Rattle.script_parse.specs.declared.command.Command.TheVariants as command
use Rattle.script_parse.specs.declared.proc_line.ProcLine.TheVariants as proc_line
use Rattle.script_parse.specs.Parsed.{parsed}
use Rattle.site_state.specs.State.{SiteState}
use Rattle.site_events.specs.Cluster.{site_of}
use Rattle.proc_state.specs.State.{ProcState}
use Rattle.world_state.specs.World.{WorldState, first_world}
use Rattle.world_state.specs.Procs.{proc_of}
use Rattle.world_state.specs.Refusals.{world_refusal}
use Rattle.world_state.specs.Steps.{world_step}
use Rattle.world_laws.specs.ProcedureWorlds.{ProceduresHold, NoCallsReady}
use Rattle.world_laws.specs.Worlds.{WorldHolds}
use Rattle.site_state.specs.Rounds.{NothingReady}
use Rattle.world_laws.specs.Sites.{SnapshotsHold}
use Rattle.world_laws.specs.Refreshes.{ShowsItsMaster}
use Rattle.convergent_worlds.specs.Convergence.{ConvergenceHolds}
use Rattle.world_commands.specs.Joining.{TakesOver}
use Rattle.world.specs.Texts.{line_text}
use Rattle.script_drive.specs.LineBytes.{most_lines, line_step}

abbrev pub stepped_by : WorldState → ℕ → Result Command ℕ → Stepped WorldState
stepped_by w number (Err rule) = halts w (malformed_text number rule)
stepped_by w number (Ok command) = goes (world_step number command w) (line_text number command w)

-- what a line within the limits does
unfoldable pub script_step : WorldState → ℕ → List ℕ → Stepped WorldState
script_step w number line = stepped_by w number (parsed line)

-- what a script prints: what its lines print in order, up to the first malformed line and with its own
abbrev pub script_report : List ℕ → List ℕ
script_report script = report (line_step script_step) first_world script

-- the world behind lines of a script
abbrev pub world_behind : List (List ℕ) → WorldState
world_behind lines = state_after (line_step script_step) first_world 1 lines

-- the laws over events hold of the world behind whatever lines of a script, so of each world that a report tells of
abbrev pub ReportedWorldsHold : Type 0
ReportedWorldsHold = (lines : List (List ℕ)) → WorldHolds (world_behind lines)

-- behind lines of a script, once a push is reported no position of any sender is ready at the receiver
abbrev pub PushesOfScriptsLeaveNothingReady : Type 0
PushesOfScriptsLeaveNothingReady = (lines : List (List ℕ)) (number : ℕ) (line : List ℕ) (from to : SiteName) (count : Option ℕ) (x : SiteState)
    → parsed line ≡ Ok (command.Push from to count) → world_refusal (command.Push from to count) (world_behind lines) ≡ None
    → site_of to (script_step (world_behind lines) number line).state.sites ≡ Some x → NothingReady x

-- so it is once a push of calls is
abbrev pub PushesOfCallsLeaveNothingReady : Type 0
PushesOfCallsLeaveNothingReady = (lines : List (List ℕ)) (number : ℕ) (line : List ℕ) (from to : SiteName) (x : ProcState)
    → parsed line ≡ Ok (command.Procedures (proc_line.Push from to)) → world_refusal (command.Procedures (proc_line.Push from to)) (world_behind lines) ≡ None
    → proc_of to (script_step (world_behind lines) number line).state.procs.sites ≡ Some x → NoCallsReady x

-- behind lines of a script, once a refresh is reported each snapshot of the site is its query of its master's table, and the
-- master is as before
abbrev pub RefreshesOfScriptsShowTheQuery : Type 0
RefreshesOfScriptsShowTheQuery = (lines : List (List ℕ)) (number : ℕ) (line : List ℕ) (site : SiteName) (how : Refresh)
    → parsed line ≡ Ok (command.Refresh site how) → world_refusal (command.Refresh site how) (world_behind lines) ≡ None
    → ShowsItsMaster site (world_behind lines) (script_step (world_behind lines) number line).state

-- behind lines of a script, once a join is reported the late master has taken over from the master that the line names
abbrev pub JoinsOfScriptsTakeOver : Type 0
JoinsOfScriptsTakeOver = (lines : List (List ℕ)) (number : ℕ) (line : List ℕ) (site source : SiteName)
    → parsed line ≡ Ok (command.Join site source) → world_refusal (command.Join site source) (world_behind lines) ≡ None
    → TakesOver site source (world_behind lines) (script_step (world_behind lines) number line).state

-- the laws of snapshots hold of the world behind whatever lines of a script
abbrev pub ReportedSnapshotsHold : Type 0
ReportedSnapshotsHold = (lines : List (List ℕ)) → SnapshotsHold (world_behind lines)

-- and so do those of convergence
abbrev pub ReportedWorldsConverge : Type 0
ReportedWorldsConverge = (lines : List (List ℕ)) → ConvergenceHolds (world_behind lines)

-- and so do those of procedures
abbrev pub ReportedProceduresHold : Type 0
ReportedProceduresHold = (lines : List (List ℕ)) → ProceduresHold (world_behind lines)

-- all of these laws hold of a world
pub record AllLawsHold (w : WorldState) : Type 0 where
  pub events : WorldHolds w
  pub snapshots : SnapshotsHold w
  pub convergence : ConvergenceHolds w
  pub procedures : ProceduresHold w

-- the world behind the first n lines of a script
abbrev pub world_at : List ℕ → ℕ → WorldState
world_at script n = world_behind (take n (lines_after [] script))

-- line n + 1 of a script is this command, and it is done: the world behind the lines before it doesn't refuse it
pub record IsDoneAt (script : List ℕ) (n : ℕ) (c : Command) : Type 0 where
  pub line : List ℕ
  pub here : slice_get (lines_after [] script) n ≡ Some line
  pub few : n < most_lines
  pub reads : parsed line ≡ Ok c
  pub passes : world_refusal c (world_at script n) ≡ None

-- all of these laws hold of the world behind the first n lines of a script. Behind line n + 1, where it is a push that is done, no
-- position of any sender is ready at the receiver, and so it is with a push of calls; where it is a refresh that is done, each
-- snapshot of the site is its query of its master's table, and the master is as before; where it is a join that is done, the late
-- master has taken over from the master that the line names
pub record LineHolds (script : List ℕ) (n : ℕ) : Type 0 where
  pub laws : AllLawsHold (world_at script n)
  pub pushed : (from to : SiteName) (count : Option ℕ) (x : SiteState) → IsDoneAt script n (command.Push from to count)
      → site_of to (world_at script (n + 1)).sites ≡ Some x → NothingReady x
  pub calls_pushed : (from to : SiteName) (x : ProcState) → IsDoneAt script n (command.Procedures (proc_line.Push from to))
      → proc_of to (world_at script (n + 1)).procs.sites ≡ Some x → NoCallsReady x
  pub refreshed : (site : SiteName) (how : Refresh) → IsDoneAt script n (command.Refresh site how) → ShowsItsMaster site (world_at script n) (world_at script (n + 1))
  pub joined : (site source : SiteName) → IsDoneAt script n (command.Join site source) → TakesOver site source (world_at script n) (world_at script (n + 1))

-- so it is with each line of every script
abbrev pub LinesOfScriptsHold : Type 0
LinesOfScriptsHold = (script : List ℕ) (n : ℕ) → LineHolds script n

-- and so of the script that a source has left
abbrev pub EachLineHolds : Option (List ℕ) → Type 0
EachLineHolds left = (script : List ℕ) (n : ℕ) → left ≡ Some script → LineHolds script n
