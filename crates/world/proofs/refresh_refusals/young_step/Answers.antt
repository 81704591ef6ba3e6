-- The first snapshot of which the log is too young counts.
use Rattle.std.proofs.Common.{sym, ◌∙◌}
use Rattle.world.proofs.Young.{reaches_back, too_young}
use Rattle.world.proofs.refresh_refusals.young_step.Goals as goal

pub returns-in-Some : goal.returns-in-Some
returns-in-Some c = too_young c.args.logs.now.logs c.args.snapshots.now.snapshots c.loop-place.place _ c.snapshot_at.ensures c.in-Some.refusal (sym c.too_young.ensures ∙ c.in-Some.is) ∙ c.loop-place.invariant

pub loop-place-preserved : goal.loop-place-preserved
loop-place-preserved c = reaches_back c.args.logs.now.logs c.args.snapshots.now.snapshots c.loop-place.place _ c.snapshot_at.ensures (sym c.too_young.ensures ∙ c.in_default.is) ∙ c.loop-place.invariant
