use Rattle.std.proofs.Common.{List, ap, ◌∙◌}
use Rattle.rep_calls.specs.declared.past.PastEntry.{PastEntry}
use Rattle.site_state.specs.Making.{master_here}
use Rattle.site_state.specs.Joining.{site_copy}
use Rattle.site_events.specs.Joins.{open_to_each}
use Rattle.world_commands.proofs.joins.copied.Goals as goal

pub returns : goal.returns
returns c =
    let source = c.args.source.now in
    c.open_to_each.ensures
    ∙ ap (open_to_each c.args.sites.now)
    (c.in_ok-made.ensures ∙ ap (λ (firsts : List PastEntry). site_copy source (master_here source.schema c.args.site.now) firsts) (c.as_slice.ensures ∙ c.in_ok-firsts.ensures))
