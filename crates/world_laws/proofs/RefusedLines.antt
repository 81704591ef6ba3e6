-- What lines that are refused leave.
use Rattle.std.proofs.Common.{◌≡◌, List, Bool, true, false, cond, Some, None, refl, sym, subst}
use Rattle.std.specs.Prelude.{Option}
use Rattle.rep_values.specs.declared.name.SiteName.{SiteName}
use Rattle.rep_values.specs.declared.refusal.Refusal.{Refusal}
use Rattle.script_parse.specs.declared.command.Command.{Command}
use Rattle.script_parse.specs.declared.command.Command.TheVariants as command
use Rattle.script_parse.specs.declared.proc_line.ProcLine.TheVariants as proc_line
use Rattle.world_state.specs.World.{WorldState}
use Rattle.world_state.specs.Blocks.{closed, is_commit}
use Rattle.world_state.specs.CallBlocks.{sent_to}
use Rattle.world_state.specs.Steps.{left_by, world_refused, step_by}
use Rattle.world_laws.specs.Scripts.{LeavesAllButTheBlock, RefusedLinesLeaveAllButTheBlock, RefusedCommitsCloseTheBlock, RefusedSendsCloseTheBlock}

leaves_all : (w : WorldState) → LeavesAllButTheBlock w w
leaves_all w = record { phase = refl; schema = refl; base = refl; snapshots = refl; sites = refl; net = refl; procs = refl }

pub refused_leaves : (c : Command) (w : WorldState) → LeavesAllButTheBlock w (world_refused c w)
refused_leaves c w = go (is_commit c) (sent_to c)
  where
    go : (b : Bool) (to : Option (List SiteName)) → LeavesAllButTheBlock w (cond b (closed w) (left_by to w))
    go true to = record { phase = refl; schema = refl; base = refl; snapshots = refl; sites = refl; net = refl; procs = refl }
    go false None = leaves_all w
    go false (Some to) = record { phase = refl; schema = refl; base = refl; snapshots = refl; sites = refl; net = refl; procs = refl }

pub refused_lines_leave_all_but_the_block : RefusedLinesLeaveAllButTheBlock
refused_lines_leave_all_but_the_block number c w why is = subst (λ (r : Option Refusal). LeavesAllButTheBlock w (step_by r number c w)) (sym is) (refused_leaves c w)

pub refused_commits_close_the_block : RefusedCommitsCloseTheBlock
refused_commits_close_the_block number w why is = subst (λ (r : Option Refusal). (step_by r number command.Commit w).block ≡ None) (sym is) refl

pub refused_sends_close_the_block : RefusedSendsCloseTheBlock
refused_sends_close_the_block number to w why is =
    subst (λ (r : Option Refusal). (step_by r number (command.Procedures (proc_line.Send to)) w).procs.block ≡ None) (sym is) refl

-- no open block of a transaction comes of a refusal
pub refused_block : (c : Command) (w : WorldState) → w.block ≡ None → (world_refused c w).block ≡ None
refused_block c w none = go (is_commit c) (sent_to c)
  where
    go : (b : Bool) (to : Option (List SiteName)) → (cond b (closed w) (left_by to w)).block ≡ None
    go true to = refl
    go false None = none
    go false (Some to) = none
