-- The directions between sites of procedures.
use Rattle.std.specs.Prelude.{◌≡◌, true}
use Rattle.rep_values.specs.declared.name.SiteName.{SiteName}
use Rattle.net_plan.specs.Directions.{HasDirection}
use Rattle.world_state.specs.World.{WorldState, gets_from}

-- there is a direction for calls from each site to its senders and back
abbrev pub LinksForCalls : WorldState → Type 0
LinksForCalls w = (site origin : SiteName) → gets_from w site origin ≡ true → HasDirection w.procs.net site origin × HasDirection w.procs.net origin site
