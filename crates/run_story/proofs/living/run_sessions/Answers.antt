-- The site comes back as the turns leave it, and with it all is as the end of a part leaves it.
use Rattle.run_story.proofs.PartEnds.{runs_sessions}
use Rattle.run_story.proofs.living.run_sessions.Goals as goal

pub live_close-requires : goal.live_close-requires
live_close-requires g c = c.in_ok-site.ensures.back c.args.sessions c.in_ok-site-2.turns c.in_ok-site-2.site c.in_ok-site-2.ensures.1

pub returns : goal.returns
returns g c =
    runs_sessions c.args.name.now c.args.world.now.world c.args.sessions c.in_ok-site-2.turns c.live_open.new.self c.live_close.new.self c.in_ok-site.site c.in_ok-site-2.site
    c.in_ok-site.ensures.world c.in_ok-site.ensures.site c.in_ok-site-2.ensures (c.in_ok-live_close.ensures.world c.args.name.now c.in_ok-site.ensures.lent) c.in_ok-live_close.ensures.free
