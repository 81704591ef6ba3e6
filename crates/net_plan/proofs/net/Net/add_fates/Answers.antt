use Rattle.std.proofs.lemmas.Result.{on_ok_weaker}
use Rattle.net_plan.specs.Directions.{with_fates}
use Rattle.net_plan.proofs.Places.{at_direction-written}
use Rattle.net_plan.proofs.net.Net.add_fates.Goals as goal

pub returns-clause-ok : goal.returns-clause-ok
returns-clause-ok c = on_ok_weaker c.add_fates.result
    (at_direction-written _ _ _ _ _ _ _ c.self.view_is c.deref.ensures.value c.place_of-place.ensures.place c.place_of-place.ensures.within c.index_mut.ensures.value (with_fates c.args.fates.now) c.add_fates.new.self) c.add_fates.ensures.ok
