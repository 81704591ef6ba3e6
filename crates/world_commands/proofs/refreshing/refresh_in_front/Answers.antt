-- The site stands in the front part, and its master begins the back part.
use Rattle.std.proofs.Common.{Some, ap, sym, ◌∙◌}
use Rattle.std.specs.Prelude.{slice_set}
use Rattle.world_commands.proofs.Parts.{front_read, back_read, front_written}
use Rattle.world_commands.proofs.RefreshedSites.{refreshed_at-is, told_at-is, can_be, reaches_back, refreshed_so, told_so}
use Rattle.world_commands.proofs.refreshing.refresh_in_front.Goals as goal

pub refresh_from-requires-clause-can : goal.refresh_from-requires-clause-can
refresh_from-requires-clause-can c =
    let cut = c.split_at_mut-front in
    let can = c.requires.can in
    let own = front_read _ _ _ _ cut.ensures.value cut.ensures.front_len c.args.place can.here c.index-front-place.result c.requires.order can.at_place in
    let its = back_read _ _ _ _ cut.ensures.value cut.ensures.front_len can.there c.index-back-0.result can.at_master in
    can_be _ _ _ _ can _ _ own its

pub refresh_from-requires-clause-reach : goal.refresh_from-requires-clause-reach
refresh_from-requires-clause-reach c =
    let cut = c.split_at_mut-front in
    let can = c.requires.can in
    let own = front_read _ _ _ _ cut.ensures.value cut.ensures.front_len c.args.place can.here c.index-front-place.result c.requires.order can.at_place in
    let its = back_read _ _ _ _ cut.ensures.value cut.ensures.front_len can.there c.index-back-0.result can.at_master in
    reaches_back _ _ _ _ can _ _ own its

pub returns-clause-ok : goal.returns-clause-ok
returns-clause-ok c =
    let cut = c.split_at_mut-front in
    let can = c.requires.can in
    let own = front_read _ _ _ _ cut.ensures.value cut.ensures.front_len c.args.place can.here c.index-front-place.result c.requires.order can.at_place in
    let its = back_read _ _ _ _ cut.ensures.value cut.ensures.front_len can.there c.index-back-0.result can.at_master in
    front_written _ _ _ _ cut.ensures.value cut.ensures.front_len c.args.place c.refresh_from.new.site c.requires.order
    ∙ ap (slice_set c.args.sites.now c.args.place) (c.in_ok-told.ensures.ok ∙ refreshed_so _ _ _ _ can _ _ own its) ∙ sym (refreshed_at-is _ _ _ _ can)

pub returns-clause-told : goal.returns-clause-told
returns-clause-told c =
    let cut = c.split_at_mut-front in
    let can = c.requires.can in
    let own = front_read _ _ _ _ cut.ensures.value cut.ensures.front_len c.args.place can.here c.index-front-place.result c.requires.order can.at_place in
    let its = back_read _ _ _ _ cut.ensures.value cut.ensures.front_len can.there c.index-back-0.result can.at_master in
    told_at-is _ _ _ _ can ∙ ap Some (sym (c.in_ok-told.ensures.told ∙ told_so _ _ _ _ can _ _ own its))
