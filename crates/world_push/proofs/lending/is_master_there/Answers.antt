use Rattle.std.proofs.Common.{refl, sym, ap, ◌∙◌}
use Rattle.site_events.specs.Events.{is_master_in}
use Rattle.world.proofs.Written.{site_of-read}
use Rattle.world_push.proofs.lending.is_master_there.Goals as goal

pub returns : goal.returns
returns c =
    c.is_master.ensures ∙ ap is_master_in (sym (site_of-read c.args.name.now c.args.sites.now c.args.sites.now c.in-Some.place _ refl c.in-Some.ensures c.index-sites-place.is))
