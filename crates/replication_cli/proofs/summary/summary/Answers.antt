use Rattle.std.proofs.Common.{◌∙◌}
use Rattle.std.proofs.lemmas.Result.{IfOk-weaker}
use Rattle.replication_cli.proofs.Summed.{summed}
use Rattle.replication_cli.proofs.summary.summary.Goals as goal

-- the lines are those of what the run told, and of its world
pub returns : goal.returns
returns g c =
    IfOk-weaker c.lines_of-told.result _ _ (λ lines is.
    is ∙ summed c.args.seed c.args.count c.in_ok-run.run' c.in_ok-run.ensures c.tally.result c.site_totals-totals.result c.masters_agree-agree.result
    c.tally.ensures (rw (c.first_site.ensures, c.world.ensures.world) at c.site_totals-totals.ensures) (rw c.world-2.ensures.world at c.masters_agree-agree.ensures))
    c.lines_of-told.ensures
