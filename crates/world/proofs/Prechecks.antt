-- A refusal that is known before a line is tried is the line's, and where none is known only those that are tried may meet one.
use Rattle.std.proofs.Common.{◌≡◌, ℕ, List, [], ◌∷◌, Bool, true, false, Some, None, refl, ap, ◌∙◌}
use Rattle.std.specs.Prelude.{not, cond, is_none, Option}
use Rattle.rep_values.specs.declared.name.SiteName.{SiteName}
use Rattle.rep_values.specs.declared.refusal.Refusal.{Refusal}
use Rattle.rep_values.specs.declared.refusal.Refusal.TheVariants as refusal
use Rattle.rep_values.specs.RefusalSteps.{refused, or_then, first_refusal, known}
use Rattle.script_parse.specs.declared.command.Command.{Command}
use Rattle.script_parse.specs.declared.command.Command.TheVariants as command
use Rattle.script_parse.specs.declared.proc_line.ProcLine.{ProcLine}
use Rattle.script_parse.specs.declared.proc_line.ProcLine.TheVariants as proc_line
use Rattle.site_state.specs.Errors.{execute_refusal, drop_refusal}
use Rattle.site_events.specs.Cluster.{site_of}
use Rattle.proc_state.specs.Errors.{proc_execute_refusal}
use Rattle.world_state.specs.declared.block.Block.{Block}
use Rattle.world_state.specs.declared.call_block.CallBlock.{CallBlock}
use Rattle.world_state.specs.World.{WorldState}
use Rattle.world_state.specs.Procs.{Procs, proc_of}
use Rattle.world_state.specs.Phases.{call_block_step, behind_setup_step, phase_step}
use Rattle.world_state.specs.CallBlocks.{are_others, block_site, can_send_to, send_stop, send_refusal, called_line, send_line}
use Rattle.world_state.specs.ProcRefusals.{are_two_masters}
use Rattle.world_state.specs.Blocks.{commit_stop, stated_line}
use Rattle.world_state.specs.Refusals.{has_sender, world_refusal}
use Rattle.world_state.specs.Steps.{world_refused, told_line, told_by}
use Rattle.world.specs.Precheck.{precheck_refusal}
use Rattle.world.specs.Doing.{IsRefused}

-- a step more changes nothing where one in front refuses
or_first : (first following : Option Refusal) (why : Refusal) → or_then first None ≡ Some why → or_then first following ≡ Some why
or_first None following why is = absurd (cc is)
or_first (Some w) following why is = is

known_first : {X : Type 0} (found : Option X) (test : Bool) (further : X → Option Refusal) (phase : Option Refusal) (why : Refusal)
    → or_then phase (first_refusal (known found (λ x. refused test refusal.UnknownName ∷ []))) ≡ Some why
    → or_then phase (first_refusal (known found (λ x. refused test refusal.UnknownName ∷ further x ∷ []))) ≡ Some why
known_first found test further (Some p) why is = is
known_first None test further None why is = is
known_first (Some x) true further None why is = is
known_first (Some x) false further None why is = absurd (cc is)

-- ---- lines about procedures

-- one more step behind the only one
known_then : (phase first following : Option Refusal) (why : Refusal) → or_then phase (or_then first None) ≡ Some why → or_then phase (or_then first (or_then following None)) ≡ Some why
known_then (Some p) first following why is = is
known_then None None following why is = absurd (cc is)
known_then None (Some w) following why is = is

known_proc_met : (line : ProcLine) (w : WorldState) (why : Refusal) → precheck_refusal (command.Procedures line) w ≡ Some why → world_refusal (command.Procedures line) w ≡ Some why
known_proc_met (proc_line.Table table columns) w why is = is
known_proc_met (proc_line.Procedure procedure table does) w why is = is
known_proc_met (proc_line.Calls site) w why is = is
known_proc_met (proc_line.Call call) w why is = is
known_proc_met (proc_line.Send to) w why is = known_then (call_block_step w) (refused (not (can_send_to to w.procs)) refusal.UnknownName) (send_refusal w.procs) why is
known_proc_met (proc_line.Push from to) w why is = is
known_proc_met (proc_line.Fates from to fates) w why is = is
known_proc_met (proc_line.Execute site origin position) w why is =
    known_first (proc_of site w.procs.sites) (not (are_two_masters site origin w.procs)) (proc_execute_refusal origin position) (behind_setup_step w) why is

-- a send that is refused so names masters to which it can't be sent, or finds no open block
cant_send : (block : Option CallBlock) (p : Procs) (to : List SiteName) (why : Refusal)
    → or_then (refused (is_none block) refusal.WrongPhase) (or_then (refused (not (are_others to (block_site block p))) refusal.UnknownName) None) ≡ Some why → are_others to (block_site block p) ≡ false
cant_send None p to why is = refl
cant_send (Some block) p to why is = go (are_others to (block_site (Some block) p)) is
  where
    go : (b : Bool) → or_then (refused (not b) refusal.UnknownName) None ≡ Some why → b ≡ false
    go true is = absurd (cc is)
    go false is = refl

known_send_line : (number : ℕ) (to : List SiteName) (w : WorldState) (why : Refusal) → precheck_refusal (command.Procedures (proc_line.Send to)) w ≡ Some why → send_line number to w.procs ≡ number
known_send_line number to w why is = ap (λ (b : Bool). cond b (called_line number w.procs.block (send_stop w.procs)) number) (cant_send w.procs.block w.procs to why is)

known_proc_line : (number : ℕ) (line : ProcLine) (w : WorldState) (why : Refusal) → precheck_refusal (command.Procedures line) w ≡ Some why → told_line number (command.Procedures line) w ≡ number
known_proc_line number (proc_line.Table table columns) w why is = refl
known_proc_line number (proc_line.Procedure procedure table does) w why is = refl
known_proc_line number (proc_line.Calls site) w why is = refl
known_proc_line number (proc_line.Call call) w why is = refl
known_proc_line number (proc_line.Send to) w why is = known_send_line number to w why is
known_proc_line number (proc_line.Push from to) w why is = refl
known_proc_line number (proc_line.Fates from to fates) w why is = refl
known_proc_line number (proc_line.Execute site origin position) w why is = refl

-- ---- every line

-- the line meets it
known_met : (c : Command) (w : WorldState) (why : Refusal) → precheck_refusal c w ≡ Some why → world_refusal c w ≡ Some why
known_met command.Nothing w why is = is
known_met (command.Declare declaration) w why is = is
known_met (command.Snapshot site table parent tests) w why is = is
known_met (command.Row table values) w why is = or_first (phase_step (command.Row table values) w) _ why is
known_met command.Resume w why is = is
known_met (command.Statement statement) w why is = is
known_met (command.Txn site) w why is = is
known_met command.Commit w why is = or_first (phase_step command.Commit w) _ why is
known_met command.Abandon w why is = is
known_met (command.Push from to count) w why is = is
known_met (command.Fates from to fates) w why is = is
known_met (command.ClearFates from to) w why is = is
known_met (command.Link from to word) w why is = is
known_met (command.Clock site time) w why is = is
known_met (command.Purge site) w why is = is
known_met (command.Execute site origin position) w why is = known_first (site_of site w.sites) (not (has_sender w site origin)) (execute_refusal origin position) (phase_step (command.Execute site origin position) w) why is
known_met (command.DropError site origin position) w why is = known_first (site_of site w.sites) (not (has_sender w site origin)) (drop_refusal origin position) (phase_step (command.DropError site origin position) w) why is
known_met (command.Refresh site how) w why is = is
known_met (command.PurgeLog master table) w why is = is
known_met command.Suspend w why is = is
known_met (command.Join site source) w why is = is
known_met (command.Show what site) w why is = is
known_met (command.Procedures line) w why is = known_proc_met line w why is

-- a commit that is refused so finds no open block
no_block : (w : WorldState) (why : Refusal) → precheck_refusal command.Commit w ≡ Some why → w.block ≡ None
no_block w why is = go w.block refl
  where
    go : (b : Option Block) → w.block ≡ b → w.block ≡ None
    go None at = at
    go (Some block) at = let passes : precheck_refusal command.Commit w ≡ None = rw at refl in absurd (cc (passes, is))

-- its line is its own
known_line : (number : ℕ) (c : Command) (w : WorldState) (why : Refusal) → precheck_refusal c w ≡ Some why → told_line number c w ≡ number
known_line number command.Nothing w why is = refl
known_line number (command.Declare declaration) w why is = refl
known_line number (command.Snapshot site table parent tests) w why is = refl
known_line number (command.Row table values) w why is = refl
known_line number command.Resume w why is = refl
known_line number (command.Statement statement) w why is = refl
known_line number (command.Txn site) w why is = refl
known_line number command.Commit w why is = ap (λ (b : Option Block). stated_line number b (commit_stop w)) (no_block w why is)
known_line number command.Abandon w why is = refl
known_line number (command.Push from to count) w why is = refl
known_line number (command.Fates from to fates) w why is = refl
known_line number (command.ClearFates from to) w why is = refl
known_line number (command.Link from to word) w why is = refl
known_line number (command.Clock site time) w why is = refl
known_line number (command.Purge site) w why is = refl
known_line number (command.Execute site origin position) w why is = refl
known_line number (command.DropError site origin position) w why is = refl
known_line number (command.Refresh site how) w why is = refl
known_line number (command.PurgeLog master table) w why is = refl
known_line number command.Suspend w why is = refl
known_line number (command.Join site source) w why is = refl
known_line number (command.Show what site) w why is = refl
known_line number (command.Procedures line) w why is = known_proc_line number line w why is

-- so it is refused: the world is left as a refused line leaves it
pub precheck_refused : (number : ℕ) (c : Command) (w : WorldState) (why : Refusal) → precheck_refusal c w ≡ Some why → IsRefused number c w (world_refused c w) (record { line = number; refusal = why })
precheck_refused number c w why is = record {
  told = ap (λ (o : Option Refusal). told_by o number c w) (known_met c w why is) ∙ ap (λ (line : ℕ). Some (record { line = line; refusal = why })) (known_line number c w why is);
  world = refl;
}
