-- The first master at which something hinders counts.
use Rattle.std.proofs.Common.{sym, ap, ◌∙◌}
use Rattle.std.proofs.lemmas.List.{drop_all}
use Rattle.world_state.specs.Refusals.{quiet_step}
use Rattle.world.proofs.Quiet.{hinders_nothing, hinders}
use Rattle.world.proofs.joins.quiet_step.Goals as goal

pub returns-in-Some : goal.returns-in-Some
returns-in-Some c =
    hinders c.args.sites.now c.args.entries.now c.loop-entry.entry-index c.entry-item.result c.loop-entry-test.true c.entry-item.is c.in-Some.refusal (sym c.named_step.ensures ∙ c.in-Some.is)
    ∙ c.loop-entry.invariant

pub loop-entry-preserved : goal.loop-entry-preserved
loop-entry-preserved c =
    hinders_nothing c.args.sites.now c.args.entries.now c.loop-entry.entry-index c.entry-item.result c.loop-entry-test.true c.entry-item.is (sym c.named_step.ensures ∙ c.in_default.is)
    ∙ c.loop-entry.invariant

pub returns : goal.returns
returns c = sym (ap (quiet_step c.args.sites.now) (drop_all c.loop-entry.entry-index c.args.entries.now c.loop-entry-test.false)) ∙ c.loop-entry.invariant
