-- Which refusals are known before a line is tried. What a row, a commit, a send and an execution meet besides comes out as they
-- run.
use Rattle.std.specs.Prelude.{Bool, true, false, not, List, [], ◌∷◌, Option}
use Rattle.rep_values.specs.declared.refusal.Refusal.{Refusal}
use Rattle.rep_values.specs.declared.refusal.Refusal.TheVariants as refusal
use Rattle.rep_values.specs.RefusalSteps.{refused, or_then, first_refusal, known}
use Rattle.script_parse.specs.declared.command.Command.{Command}
use Rattle.script_parse.specs.declared.command.Command.TheVariants as command
use Rattle.script_parse.specs.declared.proc_line.ProcLine.{ProcLine}
use Rattle.script_parse.specs.declared.proc_line.ProcLine.TheVariants as proc_line
use Rattle.site_events.specs.Cluster.{site_of}
use Rattle.world_state.specs.World.{WorldState}
use Rattle.world_state.specs.Phases.{phase_step}
use Rattle.world_state.specs.Procs.{proc_of}
use Rattle.world_state.specs.CallBlocks.{can_send_to}
use Rattle.world_state.specs.ProcRefusals.{are_two_masters, proc_steps}
use Rattle.world_state.specs.Refusals.{has_sender, further_steps}

-- ---- lines about procedures

-- one that has to be tried before all of its refusals are known
abbrev pub refuses_late_call : ProcLine → Bool
refuses_late_call (proc_line.Send to) = true
refuses_late_call (proc_line.Execute site origin position) = true
refuses_late_call _ = false

-- its steps behind the phase that are known before: of a send those of its names
abbrev pub precheck_proc_steps : ProcLine → WorldState → List (Option Refusal)
precheck_proc_steps (proc_line.Table table columns) w = proc_steps (proc_line.Table table columns) w
precheck_proc_steps (proc_line.Procedure procedure table does) w = proc_steps (proc_line.Procedure procedure table does) w
precheck_proc_steps (proc_line.Calls site) w = proc_steps (proc_line.Calls site) w
precheck_proc_steps (proc_line.Call call) w = proc_steps (proc_line.Call call) w
precheck_proc_steps (proc_line.Send to) w = refused (not (can_send_to to w.procs)) refusal.UnknownName ∷ []
precheck_proc_steps (proc_line.Push from to) w = proc_steps (proc_line.Push from to) w
precheck_proc_steps (proc_line.Fates from to fates) w = proc_steps (proc_line.Fates from to fates) w
precheck_proc_steps (proc_line.Execute site origin position) w = known (proc_of site w.procs.sites) (λ x. refused (not (are_two_masters site origin w.procs)) refusal.UnknownName ∷ [])

-- ---- every line

-- a line that has to be tried before all of its refusals are known
abbrev pub refuses_late : Command → Bool
refuses_late (command.Row table values) = true
refuses_late command.Commit = true
refuses_late (command.Execute site origin position) = true
refuses_late (command.DropError site origin position) = true
refuses_late (command.Procedures line) = refuses_late_call line
refuses_late _ = false

-- the steps behind the phase that are known before
abbrev pub precheck_steps : Command → WorldState → List (Option Refusal)
precheck_steps command.Nothing w = further_steps command.Nothing w
precheck_steps (command.Declare declaration) w = further_steps (command.Declare declaration) w
precheck_steps (command.Snapshot site table parent tests) w = further_steps (command.Snapshot site table parent tests) w
precheck_steps (command.Row table values) w = []
precheck_steps command.Resume w = further_steps command.Resume w
precheck_steps (command.Statement statement) w = further_steps (command.Statement statement) w
precheck_steps (command.Txn site) w = further_steps (command.Txn site) w
precheck_steps command.Commit w = []
precheck_steps command.Abandon w = further_steps command.Abandon w
precheck_steps (command.Push from to count) w = further_steps (command.Push from to count) w
precheck_steps (command.Fates from to fates) w = further_steps (command.Fates from to fates) w
precheck_steps (command.ClearFates from to) w = further_steps (command.ClearFates from to) w
precheck_steps (command.Link from to word) w = further_steps (command.Link from to word) w
precheck_steps (command.Clock site time) w = further_steps (command.Clock site time) w
precheck_steps (command.Purge site) w = further_steps (command.Purge site) w
precheck_steps (command.Execute site origin position) w = known (site_of site w.sites) (λ x. refused (not (has_sender w site origin)) refusal.UnknownName ∷ [])
precheck_steps (command.DropError site origin position) w = known (site_of site w.sites) (λ x. refused (not (has_sender w site origin)) refusal.UnknownName ∷ [])
precheck_steps (command.Refresh site how) w = further_steps (command.Refresh site how) w
precheck_steps (command.PurgeLog master table) w = further_steps (command.PurgeLog master table) w
precheck_steps command.Suspend w = further_steps command.Suspend w
precheck_steps (command.Join site source) w = further_steps (command.Join site source) w
precheck_steps (command.Show what site) w = further_steps (command.Show what site) w
precheck_steps (command.Procedures line) w = precheck_proc_steps line w

-- the refusal of a line that is known before it is tried
abbrev pub precheck_refusal : Command → WorldState → Option Refusal
precheck_refusal command w = or_then (phase_step command w) (first_refusal (precheck_steps command w))
