-- Looking for a master at which something hinders a join.
use Rattle.std.proofs.Common.{◌≡◌, drop}
use Rattle.world_state.specs.Refusals.{quiet_step}
use Rattle.world.proofs.joins.quiet_step.Given as goal

-- those so far hinder nothing
abbrev pub invariant-loop-entry : goal.invariant-loop-entry
invariant-loop-entry l = quiet_step l.sites (drop l.entry-index l.entries) ≡ quiet_step l.sites l.entries
