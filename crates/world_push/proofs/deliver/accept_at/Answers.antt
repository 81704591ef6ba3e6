use Rattle.std.proofs.Common.{sym, ap, ◌∙◌}
use Rattle.std.proofs.lemmas.Result.{on_ok_weaker}
use Rattle.site_state.specs.Packets.{site_accept}
use Rattle.site_events.specs.Cluster.{site_of}
use Rattle.world_laws.proofs.Finding.{at_none}
use Rattle.world.proofs.Written.{at_site-written}
use Rattle.world_push.proofs.deliver.accept_at.Goals as goal

pub returns-in_default-clause-ok : goal.returns-in_default-clause-ok
returns-in_default-clause-ok c =
    sym (at_none c.args.to.now (site_accept c.args.sealed.now) c.args.sites.now.items (ap (site_of c.args.to.now) (sym c.deref.ensures.value) ∙ c.in_default.ensures))

pub returns-clause-ok : goal.returns-clause-ok
returns-clause-ok c =
    on_ok_weaker c.accept.result (at_site-written _ _ _ _ _ c.deref.ensures.value c.in-Some.ensures c.index_mut.ensures.value (site_accept c.args.sealed.now) c.accept.new.site)
    c.accept.ensures.ok
