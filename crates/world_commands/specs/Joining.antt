-- A late master that joins: what that makes of a world, and what is so then.
use Rattle.std.specs.Prelude.{◌≡◌, true, [], Some, None}
use Rattle.rep_values.specs.declared.name.SiteName.{SiteName}
use Rattle.site_state.specs.State.{SiteState}
use Rattle.site_events.specs.Cluster.{Cluster, site_of}
use Rattle.site_events.specs.Joins.{may_join, joined}
use Rattle.event_laws.specs.Joined.{HasJoined}
use Rattle.world_state.specs.World.{WorldState}

-- a late master joins as a copy of another one, where it may
abbrev pub world_join : SiteName → SiteName → WorldState → WorldState
world_join site source w = record w { sites = joined site source w.sites }

-- the sites of a world, and of what was sent and begun nothing
abbrev pub sites_alone : WorldState → Cluster
sites_alone w = record { sites = w.sites; sent = []; begun = [] }

-- a late master takes over from a master: it wasn't there, the other one was, and all masters were quiet; now it is there as a copy
-- of the other one, each master that was there has opened its stream to it, and beside the sites the world is as before
pub record TakesOver (site source : SiteName) (old new : WorldState) : Type 0 where
  pub absent : site_of site old.sites ≡ None
  pub from : SiteState
  pub found : site_of source old.sites ≡ Some from
  pub may : may_join old.sites from site ≡ true
  pub joins : HasJoined (sites_alone old) from site (sites_alone new)
  pub rest : new ≡ record old { sites = new.sites }
