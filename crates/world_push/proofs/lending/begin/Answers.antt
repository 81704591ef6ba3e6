-- A pass begins at the site of the name.
use Rattle.site_state.specs.Steps.{begun}
use Rattle.world.proofs.Written.{with_site-written}
use Rattle.world_push.proofs.OneAfterAnother.{absent_as_before}
use Rattle.world_push.proofs.lending.begin.Goals as goal

pub returns-in_default-clause-ok : goal.returns-in_default-clause-ok
returns-in_default-clause-ok c = absent_as_before c.args.name.now begun _ c.args.parts.now c.deref.result.now c.parts.view_is c.deref.ensures.value c.in_default.ensures

pub returns-clause-ok : goal.returns-clause-ok
returns-clause-ok c =
    with_site-written _ _ _ _ _ _ c.parts.view_is c.deref.ensures.value c.in-Some.ensures c.index_mut-site.ensures.value begun c.begin_pass.new.self c.begin_pass.ensures
