use Rattle.live_streams.proofs.Crews.{new_crew}
use Rattle.live_streams.proofs.crew.LiveCrew.make.Goals as goal

pub invariant_of-result : goal.invariant_of-result
invariant_of-result g c = rw (c.of-opened.ensures, c.new-2.ensures.items, c.in-Ok-new.ensures.ok) (new_crew c.in-Ok.origins c.args.sessions c.args.site c.requires)
