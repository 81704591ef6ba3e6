-- The names of sites: where no two have the same, each site is found by its name.
use Rattle.std.specs.Prelude.{◌≡◌, List, [], ◌∷◌, Some, None}
use Rattle.std.specs.List.{AllByRecursion}
use Rattle.site_state.specs.State.{SiteState}
use Rattle.site_events.specs.Cluster.{Cluster, site_of}
use Rattle.site_events.specs.Events.{Event, run}

-- no two of these sites have the same name
abbrev pub SitesApart : List SiteState → Type 0
SitesApart [] = Unit {0}
SitesApart (x ∷ xs) = (site_of x.here.site xs ≡ None) × SitesApart xs

-- each of these sites is found by its name
abbrev pub AreFoundByName : List SiteState → Type 0
AreFoundByName sites = AllByRecursion (λ (x : SiteState). site_of x.here.site sites ≡ Some x) sites

-- sites whose names are apart stay so, after every list of events
abbrev pub NamesStayApart : Type 0
NamesStayApart = (start : Cluster) (events : List Event) → SitesApart start.sites → SitesApart (run events start).sites

-- and each of them is found by its name then
abbrev pub EachIsFoundByItsName : Type 0
EachIsFoundByItsName = (start : Cluster) (events : List Event) → SitesApart start.sites → AreFoundByName (run events start).sites
