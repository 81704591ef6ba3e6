-- What holds of the world of every script, from the world in which nothing is declared.
use Rattle.std.specs.Prelude.{◌≡◌, ℕ, Option, None, Some, List}
use Rattle.std.specs.List.{AllByRecursion}
use Rattle.rep_values.specs.declared.name.SiteName.{SiteName}
use Rattle.rep_values.specs.declared.refusal.Refusal.{Refusal}
use Rattle.rep_schema.specs.Shape.{HasShape}
use Rattle.site_state.specs.State.{SiteState}
use Rattle.site_events.specs.Cluster.{site_of}
use Rattle.script_parse.specs.declared.command.Command.{Command}
use Rattle.script_parse.specs.declared.command.Command.TheVariants as command
use Rattle.script_parse.specs.declared.proc_line.ProcLine.TheVariants as proc_line
use Rattle.script_parse.specs.Named.{NamesColumn}
use Rattle.world_state.specs.World.{WorldState, first_world}
use Rattle.world_state.specs.CallBlocks.{calls_closed}
use Rattle.world_state.specs.Refusals.{world_refusal}
use Rattle.world_state.specs.Steps.{world_step, world_steps}
use Rattle.world_laws.specs.Worlds.{EachWaitsForNothing, WorldHolds}
use Rattle.site_state.specs.Rounds.{NothingReady}

-- the world after the lines of a script
abbrev pub script_world : List Command → WorldState
script_world lines = world_steps 1 lines first_world

-- the laws over events hold of the world of every script
abbrev pub ScriptsHold : Type 0
ScriptsHold = (lines : List Command) → AllByRecursion NamesColumn lines → WorldHolds (script_world lines)

-- so nothing waits for ever there
abbrev pub NothingWaitsInScripts : Type 0
NothingWaitsInScripts = (lines : List Command) → AllByRecursion NamesColumn lines → EachWaitsForNothing (script_world lines).sites

-- once a push is reported no position of any sender is ready at the receiver
abbrev pub ReportedPushesLeaveNothingReady : Type 0
ReportedPushesLeaveNothingReady = (number : ℕ) (from to : SiteName) (count : Option ℕ) (w : WorldState) (x : SiteState) → HasShape w.schema
    → world_refusal (command.Push from to count) w ≡ None → site_of to (world_step number (command.Push from to count) w).sites ≡ Some x → NothingReady x

-- all but the open block is as before, be it of a transaction or of calls
pub record LeavesAllButTheBlock (w y : WorldState) : Type 0 where
  pub phase : y.phase ≡ w.phase
  pub schema : y.schema ≡ w.schema
  pub base : y.base ≡ w.base
  pub snapshots : y.snapshots ≡ w.snapshots
  pub sites : y.sites ≡ w.sites
  pub net : y.net ≡ w.net
  pub procs : calls_closed y.procs ≡ calls_closed w.procs

-- a line that is refused leaves all but the open block
abbrev pub RefusedLinesLeaveAllButTheBlock : Type 0
RefusedLinesLeaveAllButTheBlock = (number : ℕ) (c : Command) (w : WorldState) (why : Refusal) → world_refusal c w ≡ Some why → LeavesAllButTheBlock w (world_step number c w)

-- a commit that is refused closes the open block
abbrev pub RefusedCommitsCloseTheBlock : Type 0
RefusedCommitsCloseTheBlock = (number : ℕ) (w : WorldState) (why : Refusal) → world_refusal command.Commit w ≡ Some why → (world_step number command.Commit w).block ≡ None

-- and so does a send
abbrev pub RefusedSendsCloseTheBlock : Type 0
RefusedSendsCloseTheBlock = (number : ℕ) (to : List SiteName) (w : WorldState) (why : Refusal) → world_refusal (command.Procedures (proc_line.Send to)) w ≡ Some why
    → (world_step number (command.Procedures (proc_line.Send to)) w).procs.block ≡ None
