-- The entries that the journal has more are those of the pass.
use Rattle.std.proofs.Common.{◌∙◌}
use Rattle.world_run.proofs.Crews.{counted_by_pass}
use Rattle.world_run.proofs.crew.crew_pass.Goals as goal

pub returns : goal.returns
returns g c =
    (c.in_ok-site.ensures.ok, c.finished_by_newest-count.ensures ∙ counted_by_pass c.args.origin.now c.args.site c.in_ok-site.site c.in_ok-site.ensures.ok _ _ _ c.journal_len-before.ensures c.journal_len.ensures c.saturating_sub-added.ensures)
