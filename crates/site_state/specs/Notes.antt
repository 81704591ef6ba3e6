-- What is noted of changed rows: at a master in its logs the keys with the moment, at a snapshot site the keys.
use Rattle.std.specs.Prelude.{◌==◌, List, ◌∷◌, map}
use Rattle.rep_schema.specs.declared.change.Change.{Change}
use Rattle.site_state.specs.State.{SiteState}
use Rattle.change_logs.specs.Noting.{logged_in, touched_in}

-- changed rows are noted at the site's moment
abbrev pub noted : List Change → SiteState → SiteState
noted changes x = record x {
  logs = map (logged_in x.schema x.moment changes) x.logs;
  snapshots = map (touched_in x.schema changes) x.snapshots;
}

-- ---- what a refresh by the logs goes by
