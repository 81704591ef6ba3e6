-- The site and its master stand at their places.
use Rattle.std.proofs.Common.{length, sym, ap, ◌∙◌}
use Rattle.std.proofs.lemmas.List.{with_items_is}
use Rattle.world_commands.proofs.RefreshSteps.{can_refresh_there, world_refreshed, as_many_sites}
use Rattle.world_commands.proofs.refreshing.refresh_site.Goals as goal

pub refresh_at-requires : goal.refresh_at-requires
refresh_at-requires c = can_refresh_there c.args.parts.now c.requires.built c.args.site.now c.args.how c.requires.passes _ _ _ _ c.in-Some-master_of.master c.in-Some.place c.in-Some-place_of.there c.parts.view_is c.schema.ensures.value c.in-Some-master_of.ensures c.deref.ensures.value c.in-Some.ensures c.deref-2.ensures.value c.in-Some-place_of.ensures c.deref_mut.result.now c.deref_mut.ensures.value

pub returns-clause-ok : goal.returns-clause-ok
returns-clause-ok c =
    let kept = c.parts.inside in
    let all = as_many_sites c.args.parts.now c.requires.built c.args.site.now c.args.how c.requires.passes _ _ _ _ c.in-Some-master_of.master c.in-Some.place c.in-Some-place_of.there c.parts.view_is c.schema.ensures.value c.in-Some-master_of.ensures c.deref.ensures.value c.in-Some.ensures c.deref-2.ensures.value c.in-Some-place_of.ensures c.deref_mut.result.now c.refresh_at.new.sites c.deref_mut.ensures.value c.in_ok-told.ensures.ok ∙ ap length c.deref_mut.ensures.value ∙ sym kept.sites.ok.0 in
    ap (λ sites. record { phase = kept.phase; schema = kept.store.schema; base = kept.store.tables; snapshots = kept.snapshots; sites = sites; net = kept.net; block = kept.block; procs = kept.procs }) (with_items_is kept.sites c.refresh_at.new.sites all)
    ∙ world_refreshed c.args.parts.now c.requires.built c.args.site.now c.args.how c.requires.passes _ _ _ _ c.in-Some-master_of.master c.in-Some.place c.in-Some-place_of.there c.parts.view_is c.schema.ensures.value c.in-Some-master_of.ensures c.deref.ensures.value c.in-Some.ensures c.deref-2.ensures.value c.in-Some-place_of.ensures c.deref_mut.result.now c.refresh_at.new.sites c.deref_mut.ensures.value c.in_ok-told.ensures.ok
