-- What hinders a join at a site, one other site after another.
use Rattle.std.specs.Prelude.{ℕ, cond}
use Rattle.site_state.specs.State.{SiteState}
use Rattle.site_state.specs.Joining.{unfinished_of}
use Rattle.site_events.specs.Quiet.{is_other_master, last_position_to}

-- how many positions of another master aren't finished at a site; none where that is the site itself, or no master
abbrev pub unfinished_from : SiteState → SiteState → ℕ
unfinished_from x other = cond (is_other_master x.here.site other) (unfinished_of x (last_position_to x.here.site other)) 0
