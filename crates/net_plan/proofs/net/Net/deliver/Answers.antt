use Rattle.std.proofs.Common.{sym, ap, ◌∙◌}
use Rattle.net_plan.specs.Directions.{first_in, delivered}
use Rattle.net_plan.proofs.Places.{direction_of-read, at_direction-written}
use Rattle.net_plan.proofs.net.Net.deliver.Goals as goal

pub returns-clause-value : goal.returns-clause-value
returns-clause-value c = c.deliver.ensures.value ∙ sym (ap first_in (direction_of-read _ _ _ _ _ _ _ c.self.view_is c.deref.ensures.value c.place_of-place.ensures.place c.place_of-place.ensures.within c.index_mut.ensures.value))

pub returns-clause-kept : goal.returns-clause-kept
returns-clause-kept c = at_direction-written _ _ _ _ _ _ _ c.self.view_is c.deref.ensures.value c.place_of-place.ensures.place c.place_of-place.ensures.within c.index_mut.ensures.value delivered c.deliver.new.self c.deliver.ensures.kept
