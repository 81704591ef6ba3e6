use Rattle.std.proofs.Common.{sym, ap, ◌∙◌}
use Rattle.net_plan.specs.Directions.{is_up_in}
use Rattle.net_plan.proofs.Places.{direction_of-read}
use Rattle.net_plan.proofs.net.Net.is_up.Goals as goal

pub returns : goal.returns
returns c = c.is_up.ensures ∙ sym (ap is_up_in (direction_of-read _ _ _ _ _ _ _ c.self.view_is c.deref.ensures.value c.place_of-place.ensures.place c.place_of-place.ensures.within c.index.ensures))
