-- A late master joins.
use Rattle.std.specs.Prelude.{◌&&◌, Bool, cond, List, [], ◌∷◌, ◌++◌, map, filter, Option, Some, None}
use Rattle.rep_values.specs.declared.name.SiteName.{SiteName}
use Rattle.rep_calls.specs.declared.past.PastEntry.{PastEntry}
use Rattle.site_state.specs.State.{SiteState}
use Rattle.site_state.specs.Streams.{count_of}
use Rattle.site_state.specs.Making.{master_here}
use Rattle.rep_schema.specs.Sites.{is_late_master}
use Rattle.site_state.specs.Joining.{site_open, site_copy}
use Rattle.site_events.specs.Cluster.{site_of}
use Rattle.site_events.specs.Quiet.{are_quiet}

abbrev pub count_at : SiteState → PastEntry
count_at x = record { origin = x.here.site; number = count_of x }

-- the queue count of each master that is there
abbrev pub queue_counts : List SiteState → List PastEntry
queue_counts sites = map count_at (filter (λ (x : SiteState). x.here.is_master) sites)

-- a site is open to each of these that it has as a destination
abbrev pub open_to_each : List SiteState → SiteState → SiteState
open_to_each [] x = x
open_to_each (other ∷ others) x = open_to_each others (site_open other.here.site x)

-- the late master as a copy of one that is there, open to all that are there
abbrev pub copied : List SiteState → SiteState → SiteName → SiteState
copied sites source site = open_to_each sites (site_copy source (master_here source.schema site) (queue_counts sites))

-- it comes behind the others, and each of them that has it as a destination is open to it
abbrev pub with_joined : List SiteState → SiteState → SiteName → List SiteState
with_joined sites source site = map (site_open site) sites ++ copied sites source site ∷ []

-- a site of this name may join as a copy of another one: the schema declares it as late, the other one is a master, and
-- all masters are quiet
abbrev pub may_join : List SiteState → SiteState → SiteName → Bool
may_join sites source site = source.here.is_master && is_late_master source.schema site && are_quiet sites

abbrev pub joined_by : List SiteState → SiteName → Option SiteState → Option SiteState → List SiteState
joined_by sites site (Some there) source = sites
joined_by sites site None None = sites
joined_by sites site None (Some source) = cond (may_join sites source site) (with_joined sites source site) sites

-- a late master that isn't there yet joins as a copy of one that is, where it may
abbrev pub joined : SiteName → SiteName → List SiteState → List SiteState
joined site source sites = joined_by sites site (site_of site sites) (site_of source sites)
