-- What is so where a push, a refresh or a join is reported.
use Rattle.std.specs.Prelude.{◌≡◌, ℕ, Option, Some, Result, IsOk}
use Rattle.rep_values.specs.declared.name.SiteName.{SiteName}
use Rattle.script_parse.specs.declared.command.Refresh.{Refresh}
use Rattle.script_parse.specs.declared.command.Command.{Command}
use Rattle.script_parse.specs.declared.command.Command.TheVariants as command
use Rattle.script_parse.specs.declared.proc_line.ProcLine.TheVariants as proc_line
use Rattle.site_state.specs.State.{SiteState}
use Rattle.site_events.specs.Cluster.{site_of}
use Rattle.world_state.specs.declared.refused.Refused.{Refused}
use Rattle.proc_state.specs.State.{ProcState}
use Rattle.world_state.specs.World.{WorldState}
use Rattle.world_state.specs.Procs.{proc_of}
use Rattle.world_laws.specs.ProcedureWorlds.{NoCallsReady}
use Rattle.site_state.specs.Rounds.{NothingReady}
use Rattle.world_laws.specs.Refreshes.{ShowsItsMaster}
use Rattle.world.specs.declared.answer.Answer.{Answer}
use Rattle.world_commands.specs.Joining.{TakesOver}

-- once a push is reported no position of any sender is ready at the receiver
abbrev pub PushLeavesNothingReady : Command → WorldState → Result Answer Refused → Type 0
PushLeavesNothingReady line new result = (from to : SiteName) (count : Option ℕ) (x : SiteState) → line ≡ command.Push from to count → IsOk result
    → site_of to new.sites ≡ Some x → NothingReady x

-- so it is with a push of calls
abbrev pub PushLeavesNoCallsReady : Command → WorldState → Result Answer Refused → Type 0
PushLeavesNoCallsReady line new result = (from to : SiteName) (x : ProcState) → line ≡ command.Procedures (proc_line.Push from to) → IsOk result
    → proc_of to new.procs.sites ≡ Some x → NoCallsReady x

-- once a refresh is reported each snapshot of the site is its query of its master's table, and the master is as before
abbrev pub RefreshShowsTheQuery : Command → WorldState → WorldState → Result Answer Refused → Type 0
RefreshShowsTheQuery line old new result = (site : SiteName) (how : Refresh) → line ≡ command.Refresh site how → IsOk result → ShowsItsMaster site old new

-- once a join is reported the late master has taken over from the master that the line names
abbrev pub JoinTakesOver : Command → WorldState → WorldState → Result Answer Refused → Type 0
JoinTakesOver line old new result = (site source : SiteName) → line ≡ command.Join site source → IsOk result → TakesOver site source old new
