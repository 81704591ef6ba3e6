use Rattle.std.proofs.lemmas.Result.{on_ok_weaker}
use Rattle.net_plan.specs.Directions.{with_sent}
use Rattle.net_plan.proofs.Places.{at_direction-written}
use Rattle.net_plan.proofs.net.Net.send.Goals as goal

pub returns-clause-ok : goal.returns-clause-ok
returns-clause-ok c = on_ok_weaker c.send.result
    (at_direction-written _ _ _ _ _ _ _ c.self.view_is c.deref.ensures.value c.place_of-place.ensures.place c.place_of-place.ensures.within c.index_mut.ensures.value (with_sent c.args.packet) c.send.new.self) c.send.ensures.ok
