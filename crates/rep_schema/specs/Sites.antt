-- The sites of a schema: who sends to whom, and which tables one holds.
use Rattle.std.specs.Prelude.{ℕ, Bool, false, not, ◌&&◌, ◌||◌, List, [], Option, Some, None, map, filter, flat_map, slice_index_or}
use Rattle.std.specs.List.{find, list_any}
use Rattle.rep_values.specs.declared.name.SiteName.{SiteName}
use Rattle.rep_schema.specs.declared.schema.Schema.{Schema}
use Rattle.rep_schema.specs.declared.schema.SiteEntry.{SiteEntry}
use Rattle.rep_schema.specs.Shape.{is_master, is_early_master}
use Rattle.rep_schema.specs.Named.{is_site, site_named}
use Rattle.rep_values.specs.SiteNames.{is_same_site}

-- the first declared of the master sites that are there from the start
abbrev pub first_master : Schema → Option SiteEntry
first_master schema = find is_early_master schema.sites

-- a master sends to the other sites, late ones among them, a snapshot site to its master
abbrev pub addresses : SiteEntry → Option SiteName → SiteEntry → Bool
addresses from None to = not (is_site from.name to)
addresses from (Some master) to = is_site master to

-- one site sends to another: a master to the other masters, a snapshot site to its master
abbrev pub sends_to : SiteEntry → SiteEntry → Bool
sends_to from to = is_master to && addresses from from.master to

abbrev pub names_of : List SiteEntry → List SiteName
names_of sites = map (λ s. s.name) sites

abbrev pub senders_to : List SiteEntry → Option SiteEntry → List SiteEntry
senders_to sites None = []
senders_to sites (Some to) = filter (λ from. sends_to from to) sites

abbrev pub destinations_from : List SiteEntry → Option SiteEntry → List SiteEntry
destinations_from sites None = []
destinations_from sites (Some from) = filter (sends_to from) sites

-- the sites that send to the site of this name, in declared order
abbrev pub senders_of : Schema → SiteName → List SiteName
senders_of schema site = names_of (senders_to schema.sites (site_named schema site))

-- the sites that the site of this name sends to, in declared order
abbrev pub destinations_of : Schema → SiteName → List SiteName
destinations_of schema site = names_of (destinations_from schema.sites (site_named schema site))

-- one of two sites sends to the other
abbrev pub are_linked : SiteEntry → SiteEntry → Bool
are_linked a b = sends_to a b || sends_to b a

-- the pairs of sites with a direction from one to the other: two masters, late ones among them, and a snapshot site and its
-- master in either order
abbrev pub linked_pairs : List SiteEntry → List (SiteName × SiteName)
linked_pairs entries = flat_map (λ (a : SiteEntry). map (λ (b : SiteEntry). (a.name, b.name)) (filter (are_linked a) entries)) entries

-- a table is among those of a set
abbrev pub has_table : List Bool → ℕ → Bool
has_table set table = slice_index_or set table false

-- a site of this name is a master site of the schema, there from the start or late
abbrev pub is_master_site : Schema → SiteName → Bool
is_master_site schema name = list_any (λ site. is_site name site && is_master site) schema.sites

-- a name is among these
abbrev pub is_among : List SiteName → SiteName → Bool
is_among names name = list_any (λ (n : SiteName). is_same_site n name) names

-- a site of this name is a late master of the schema: it isn't there from the start
abbrev pub is_late_master : Schema → SiteName → Bool
is_late_master schema name = list_any (λ site. is_site name site && (is_master site && site.late)) schema.sites
