-- What comes of a line where there is no memory, and what of one that had to be tried.
use Rattle.std.proofs.Common.{◌≡◌, ◌-◌, ℕ, List, [], ◌∷◌, false, Some, None, refl, sym, ap, subst, ◌∙◌}
use Rattle.std.specs.Prelude.{Option, slice_get}
use Rattle.rep_values.specs.declared.name.SiteName.{SiteName}
use Rattle.rep_values.specs.declared.name.TableName.{TableName}
use Rattle.rep_values.specs.declared.literal.Literal.{Literal}
use Rattle.rep_values.specs.declared.refusal.Refusal.{Refusal}
use Rattle.rep_values.specs.declared.refusal.Refusal.TheVariants as refusal
use Rattle.rep_values.specs.RefusalSteps.{or_then, refused, first_refusal, known}
use Rattle.rep_values.proofs.RefusalSteps.{or_then-None}
use Rattle.txn_effects.specs.declared.local.LocalStop.{LocalStop}
use Rattle.local_txn.specs.BaseRows.{base_refusal}
use Rattle.script_parse.specs.declared.command.Command.{Command}
use Rattle.script_parse.specs.declared.command.Command.TheVariants as command
use Rattle.site_state.specs.State.{SiteState}
use Rattle.site_state.specs.Errors.{execute_refusal, drop_refusal}
use Rattle.site_events.specs.Cluster.{site_of}
use Rattle.world_state.specs.declared.block.Block.{Block}
use Rattle.world_state.specs.declared.refused.Refused.{Refused}
use Rattle.world_state.specs.World.{WorldState}
use Rattle.world_state.specs.Phases.{block_step, setup_step}
use Rattle.world_state.specs.CallBlocks.{sent_to}
use Rattle.world_state.specs.Blocks.{is_commit, closed, stop_at_site, refusal_in, commit_stop, commit_refusal, commit_line, line_in}
use Rattle.world_state.specs.Refusals.{world_refusal}
use Rattle.world_state.specs.Steps.{told_by}
use Rattle.world.specs.Precheck.{refuses_late, precheck_refusal}
use Rattle.world.specs.Doing.{PushesCallsInPart, IsOutOfMemory, IsRefused}
use Rattle.world.proofs.Following.{in_part_none}
use Rattle.world.proofs.CallsFollowing.{calls_part_none}

-- ---- want of memory

-- where nothing changed, of a push of calls no step was done
no_calls_pushed : (from to : SiteName) (old new : WorldState) → new ≡ old → PushesCallsInPart from to old new
no_calls_pushed from to old new same = record {
  part = calls_part_none from to old.procs new.procs (ap (λ (w : WorldState). w.procs) same);
  rest = subst (λ (w : WorldState). w ≡ record old { procs = w.procs }) (sym same) refl;
}

-- there was no memory, and nothing changed
pub is_short : (number : ℕ) (command : Command) (old new : WorldState) (r : Refused) → r ≡ record { line = number; refusal = refusal.Memory } → (refuses_late command ≡ false → world_refusal command old ≡ None)
    → new ≡ old → IsOutOfMemory number command old new r
is_short number command old new r is passes same = record {
  memory = ap (λ (r : Refused). r.refusal) is;
  line = ap (λ (r : Refused). r.line) is;
  passes = passes;
  kept = λ push. same;
  pushed = λ from to count push. in_part_none from to old new same;
  called = λ from to push. no_calls_pushed from to old new same;
}

-- ---- lines that had to be tried

-- the last step decides
last_step : (step : Option Refusal) → or_then step None ≡ step
last_step None = refl
last_step (Some why) = refl

-- so a line is refused for the step that remains
or_then-tried : (phase step : Option Refusal) → phase ≡ None → or_then phase (or_then step None) ≡ step
or_then-tried phase step none = rw none (last_step step)

-- a row
pub row_tried : (w : WorldState) (table : TableName) (values : List Literal) → precheck_refusal (command.Row table values) w ≡ None → world_refusal (command.Row table values) w ≡ base_refusal w.schema w.base table values
row_tried w table values passes = or_then-tried (setup_step w) (base_refusal w.schema w.base table values) (or_then-None (setup_step w) None passes).0

-- a commit
pub commit_tried : (w : WorldState) → precheck_refusal command.Commit w ≡ None → world_refusal command.Commit w ≡ commit_refusal w
commit_tried w passes = or_then-tried (block_step w) (commit_refusal w) (or_then-None (block_step w) None passes).0

-- the last step of a line on a site and its sender
tried_of_sender : (phase sender : Option Refusal) (step : SiteState → Option Refusal) (found : Option SiteState) (x : SiteState) → found ≡ Some x
    → or_then phase (first_refusal (known found (λ y. sender ∷ []))) ≡ None → or_then phase (first_refusal (known found (λ y. sender ∷ step y ∷ []))) ≡ step x
tried_of_sender phase sender step None x there passes = cc
tried_of_sender phase sender step (Some y) x there passes =
    let both = or_then-None phase (or_then sender None) passes in
    let same : y ≡ x = cc in
    rw (both.0, (or_then-None sender None both.1).0) (last_step (step y) ∙ ap step same)

-- an execution
pub execute_tried : (w : WorldState) (site origin : SiteName) (position : ℕ) (x : SiteState) → site_of site w.sites ≡ Some x → precheck_refusal (command.Execute site origin position) w ≡ None
    → world_refusal (command.Execute site origin position) w ≡ execute_refusal origin position x
execute_tried w site origin position x there passes = tried_of_sender _ _ (execute_refusal origin position) (site_of site w.sites) x there passes

-- a drop of an error
pub drop_tried : (w : WorldState) (site origin : SiteName) (position : ℕ) (x : SiteState) → site_of site w.sites ≡ Some x → precheck_refusal (command.DropError site origin position) w ≡ None
    → world_refusal (command.DropError site origin position) w ≡ drop_refusal origin position x
drop_tried w site origin position x there passes = tried_of_sender _ _ (drop_refusal origin position) (site_of site w.sites) x there passes

-- one that is refused leaves the world, where it is no commit and no send
pub is_refused : (number : ℕ) (command : Command) (old new : WorldState) (why : Refusal) → is_commit command ≡ false → sent_to command ≡ None → world_refusal command old ≡ Some why → new ≡ old
    → IsRefused number command old new (record { line = number; refusal = why })
is_refused number command old new why other unsent refused same = record {
  told = rw (refused, other, unsent) refl;
  world = rw (other, unsent) same;
}

-- ---- commits

-- what a refused commit tells, and that it closes its block
pub commit_is_refused : (number : ℕ) (old new : WorldState) (block : Block) (stop : LocalStop) → old.block ≡ Some block → precheck_refusal command.Commit old ≡ None
    → stop_at_site block.statements (site_of block.site old.sites) ≡ Some stop → new ≡ closed old
    → IsRefused number command.Commit old new (record { line = line_in number (slice_get block.lines (stop.statement - 1)); refusal = stop.refusal })
commit_is_refused number old new block stop is_open passes stops same = record {
  told = ap (λ why. told_by why number command.Commit old) (commit_tried old passes ∙ ap refusal_in is) ∙ ap (λ line. Some (record { line = line; refusal = stop.refusal })) line;
  world = same;
}
  where
    is : commit_stop old ≡ Some stop
    is = rw is_open stops

    line : commit_line number old ≡ line_in number (slice_get block.lines (stop.statement - 1))
    line = rw (is_open, stops) refl
