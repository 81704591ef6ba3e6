-- The sites and the net as Setup's end makes them.
use Rattle.std.specs.Prelude.{ℕ, ◌==◌, ◌&&◌, ◌||◌, Bool, false, not, List, [], map, filter, replicate, length, Option, Some, None}
use Rattle.std.specs.List.{list_any, range_with_len}
use Rattle.rep_values.specs.declared.name.SiteName.{SiteName}
use Rattle.rep_schema.specs.declared.schema.Schema.{Schema}
use Rattle.rep_schema.specs.declared.schema.SiteEntry.{SiteEntry}
use Rattle.rep_schema.specs.Tables.{Rows}
use Rattle.rep_schema.specs.Sites.{first_master, linked_pairs, is_late_master}
use Rattle.rep_values.specs.SiteNames.{is_same_site}
use Rattle.txn_effects.specs.declared.local.Here.{Here}
use Rattle.local_txn.specs.BaseRows.{filled_tables}
use Rattle.snapshot_query.specs.declared.parent.Parent.{Parent}
use Rattle.snapshot_query.specs.declared.snapshot.Snapshot.{Snapshot}
use Rattle.net_plan.specs.Directions.{net_of}
use Rattle.site_state.specs.State.{SiteState}
use Rattle.site_state.specs.Making.{master_here, new_site}
use Rattle.site_state.specs.Refreshes.{with_tables}
use Rattle.site_events.specs.Rules.{rows_ruled}
use Rattle.world_state.specs.declared.phase.Phase.TheVariants as phase
use Rattle.world_state.specs.declared.declared_snapshot.DeclaredSnapshot.{DeclaredSnapshot}
use Rattle.world_state.specs.World.{WorldState}
use Rattle.world_state.specs.Declaring.{has_snapshot}
use Rattle.world_state.specs.Procs.{procs_made}

-- ---- rows

abbrev pub filled_by : Option SiteEntry → Schema → List Rows → List Rows
filled_by None schema base = base
filled_by (Some master) schema base = filled_tables (record { stamp = 0; site = master.name }) schema.tables base

-- the rows that masters begin with: their filled columns are filled in with stamp 0 and the first declared master
abbrev pub rows_made : Schema → List Rows → List Rows
rows_made schema base = filled_by (first_master schema) schema base

-- ---- snapshots

-- a site is a snapshot site of a master
abbrev pub is_snapshot_site_of : SiteName → Option SiteName → Bool
is_snapshot_site_of name None = false
is_snapshot_site_of name (Some master) = is_same_site master name

abbrev pub is_of_parents : ℕ → Option Parent → Bool
is_of_parents table None = false
is_of_parents table (Some p) = p.table == table

-- a declared snapshot of a site goes by the log of a table: of its own table, or of its parents'
abbrev pub goes_by_log : SiteName → ℕ → DeclaredSnapshot → Bool
goes_by_log site table s = is_same_site s.site site && (s.table == table || is_of_parents table s.parent)

-- some snapshot of a site does
abbrev pub needs_log : List DeclaredSnapshot → SiteName → ℕ → Bool
needs_log snapshots site table = list_any (goes_by_log site table) snapshots

-- some snapshot of a snapshot site of a master goes by the log of a table
abbrev pub is_logged : List SiteEntry → List DeclaredSnapshot → SiteName → ℕ → Bool
is_logged entries snapshots master table = list_any (λ (e : SiteEntry). is_snapshot_site_of master e.master && needs_log snapshots e.name table) entries

-- the tables that a master logs
abbrev pub logged_at : Schema → List DeclaredSnapshot → SiteName → List Bool
logged_at schema snapshots master = map (is_logged schema.sites snapshots master) (range_with_len 0 32)

-- the snapshots of a site, none of them refreshed yet
abbrev pub snapshots_at : List DeclaredSnapshot → SiteName → List Snapshot
snapshots_at snapshots site =
    map (λ (s : DeclaredSnapshot). record { table = s.table; query = s.query; parent = s.parent; mark = 0; touched = [] }) (filter (λ (s : DeclaredSnapshot). is_same_site s.site site) snapshots)

-- a snapshot site, which holds the tables of its snapshots
abbrev pub snapshot_here : List DeclaredSnapshot → SiteName → Here
snapshot_here snapshots site = record { site = site; is_master = false; tables = map (has_snapshot snapshots site) (range_with_len 0 32) }

-- the rows that snapshots pick, and no others
abbrev pub rows_of_snapshots : Schema → List Rows → List Snapshot → List Rows
rows_of_snapshots schema rows snapshots = with_tables (rows_ruled schema rows snapshots) (replicate (length schema.tables) [])

-- ---- sites

-- the site of a name with these rows, a master or a snapshot site
abbrev pub site_made : Schema → List Rows → List DeclaredSnapshot → SiteName → Option SiteName → SiteState
site_made schema rows snapshots site None = new_site schema (master_here schema site) (logged_at schema snapshots site) [] rows
site_made schema rows snapshots site (Some master) =
    new_site schema (snapshot_here snapshots site) [] (snapshots_at snapshots site) (rows_of_snapshots schema rows (snapshots_at snapshots site))

abbrev pub entry_made : Schema → List Rows → List DeclaredSnapshot → SiteEntry → SiteState
entry_made schema rows snapshots e = site_made schema rows snapshots e.name e.master

-- a site is there from the start
abbrev pub is_early : Schema → SiteEntry → Bool
is_early schema e = not (is_late_master schema e.name)

-- the sites that are there from the start, in declared order
abbrev pub sites_made : Schema → List Rows → List DeclaredSnapshot → List SiteState
sites_made schema rows snapshots = map (entry_made schema rows snapshots) (filter (is_early schema) schema.sites)

-- ---- Setup's end

-- the sites are made, and transactions may begin
abbrev pub world_made : WorldState → WorldState
world_made w = record w { phase = phase.Running; sites = sites_made w.schema (rows_made w.schema w.base) w.snapshots; net = net_of (linked_pairs w.schema.sites); procs = procs_made w.schema w.procs }
