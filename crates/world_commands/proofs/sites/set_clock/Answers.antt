use Rattle.site_state.specs.Commits.{site_clock}
use Rattle.world.proofs.Written.{with_site-written}
use Rattle.world_commands.proofs.sites.set_clock.Goals as goal

pub returns : goal.returns
returns c number = record {
  passes = c.requires.passes;
  world = with_site-written _ _ _ _ _ _ c.parts.view_is c.deref.ensures.value c.in-Some.ensures c.index_mut.ensures.value (site_clock c.args.time) c.set_clock.new.self c.set_clock.ensures;
  text = c.nothing.ensures.bytes;
  outcome = c.nothing.ensures.outcome;
}
