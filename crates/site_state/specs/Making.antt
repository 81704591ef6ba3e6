-- A site at which nothing has happened.
use Rattle.std.specs.Prelude.{◌&&◌, Bool, true, nat_lt, cond, List, [], map, length, Some, None}
use Rattle.std.specs.List.{range_with_len}
use Rattle.rep_values.specs.declared.name.SiteName.{SiteName}
use Rattle.rep_schema.specs.declared.schema.Schema.{Schema}
use Rattle.rep_schema.specs.Tables.{Rows}
use Rattle.rep_schema.specs.Shape.{is_master}
use Rattle.rep_schema.specs.Sites.{senders_of, destinations_of, is_late_master}
use Rattle.txn_effects.specs.declared.local.Here.{Here}
use Rattle.snapshot_query.specs.declared.snapshot.Snapshot.{Snapshot}
use Rattle.site_state.specs.State.{SenderState, DestinationState, SiteState}
use Rattle.change_logs.specs.LogState.{new_log, tables_in}

abbrev pub new_sender : SiteName → SenderState
new_sender origin = record { origin = origin; first = 0; arrived = [] }

-- a destination is open at first, unless it is a late master
abbrev pub new_destination : Schema → SiteName → DestinationState
new_destination schema site = record { site = site; opened = cond (is_late_master schema site) None (Some 0); acked = 0 }

-- the set of all tables of a schema
abbrev pub all_tables : Schema → List Bool
all_tables schema = map (λ table. nat_lt table (length schema.tables)) (range_with_len 0 32)

-- a master site, which holds every table
abbrev pub master_here : Schema → SiteName → Here
master_here schema site = record { site = site; is_master = true; tables = all_tables schema }

-- a site of the schema with these base rows: its senders and destinations are those that the schema gives it, and it has
-- logs of these tables and these snapshots
abbrev pub new_site : Schema → Here → List Bool → List Snapshot → List Rows → SiteState
new_site schema here logged snapshots base = record {
  schema = schema;
  here = here;
  base = base;
  journal = [];
  senders = map new_sender (senders_of schema here.site);
  destinations = map (new_destination schema) (destinations_of schema here.site);
  purged = 0;
  stamps = record { clock = 0; last = 0 };
  logs = map new_log (tables_in logged);
  snapshots = snapshots;
  moment = 0;
}
