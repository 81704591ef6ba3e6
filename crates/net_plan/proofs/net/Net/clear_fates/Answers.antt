use Rattle.net_plan.specs.Directions.{without_fates}
use Rattle.net_plan.proofs.Places.{at_direction-written}
use Rattle.net_plan.proofs.net.Net.clear_fates.Goals as goal

pub returns : goal.returns
returns c = at_direction-written _ _ _ _ _ _ _ c.self.view_is c.deref.ensures.value c.place_of-place.ensures.place c.place_of-place.ensures.within c.index_mut.ensures.value without_fates c.clear_fates.new.self c.clear_fates.ensures
