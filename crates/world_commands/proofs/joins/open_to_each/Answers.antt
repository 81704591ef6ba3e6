use Rattle.std.proofs.Common.{◌+◌, List, drop, sym, ap, ◌∙◌}
use Rattle.std.proofs.lemmas.List.{drop_all}
use Rattle.rep_lists.proofs.Places.{drop_from_place}
use Rattle.rep_values.specs.declared.name.SiteName.{SiteName}
use Rattle.site_state.specs.State.{SiteState}
use Rattle.site_state.specs.Joining.{site_open}
use Rattle.site_events.specs.Joins.{open_to_each}
use Rattle.world_commands.proofs.joins.open_to_each.Goals as goal

pub loop-other-preserved : goal.loop-other-preserved
loop-other-preserved c =
    let others = c.args.others.now in
    let place = c.loop-other.other-index in
    let next = drop_from_place others place c.other-item.result c.loop-other-test.true c.other-item.is in
    ap (open_to_each (drop (place + 1) others)) (c.open_to.ensures ∙ ap (λ (n : SiteName). site_open n c.loop-other.site) c.name.ensures)
    ∙ ap (λ (left : List SiteState). open_to_each left c.loop-other.site) (sym next) ∙ c.loop-other.invariant

pub returns : goal.returns
returns c = ap (λ (left : List SiteState). open_to_each left c.loop-other.site) (sym (drop_all c.loop-other.other-index c.args.others.now c.loop-other-test.false)) ∙ c.loop-other.invariant
