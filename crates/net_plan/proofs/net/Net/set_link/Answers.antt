use Rattle.net_plan.specs.Directions.{with_link}
use Rattle.net_plan.proofs.Places.{at_direction-written}
use Rattle.net_plan.proofs.net.Net.set_link.Goals as goal

pub returns : goal.returns
returns c = at_direction-written _ _ _ _ _ _ _ c.self.view_is c.deref.ensures.value c.place_of-place.ensures.place c.place_of-place.ensures.within c.index_mut.ensures.value (with_link c.args.up) c.set_link.new.self c.set_link.ensures
