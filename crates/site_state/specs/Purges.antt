-- What a site lets go of: queued transactions that each of their destinations has acknowledged, and logged keys.
use Rattle.std.specs.Prelude.{ℕ, ◌+◌, ◌-◌, ◌==◌, nat_le, max, min, List, [], ◌∷◌, map, Option, Some, None}
use Rattle.site_state.specs.State.{DestinationState, SiteState}
use Rattle.change_logs.specs.LogState.{LoggedKey, purged_where}
use Rattle.site_state.specs.Streams.{count_of}
use Rattle.change_logs.specs.Noting.{log_of, keys_in}
use Rattle.rep_lists.specs.Counting.{count_where}

-- up to which number of so many a destination has acknowledged all that it has: it has what was queued since it was
-- opened, and nothing as long as it isn't open
abbrev pub acknowledged_by : ℕ → ℕ → Option ℕ → ℕ
acknowledged_by count acked None = count
acknowledged_by count acked (Some opened) = opened + acked

-- up to which number of so many each destination has
abbrev pub acknowledged_by_all : ℕ → List DestinationState → ℕ
acknowledged_by_all count [] = count
acknowledged_by_all count (d ∷ ds) = min (acknowledged_by count d.acked d.opened) (acknowledged_by_all count ds)

-- what every destination has acknowledged of what it has is purged
abbrev pub site_purge : SiteState → SiteState
site_purge x = record x { purged = max x.purged (acknowledged_by_all (count_of x) x.destinations) }

-- how many transactions a purge takes
abbrev pub purge_answer : SiteState → ℕ
purge_answer x = (site_purge x).purged - x.purged

-- the log of a table is purged up to the present moment
abbrev pub site_purge_log : ℕ → SiteState → SiteState
site_purge_log table x = record x { logs = map (purged_where table x.moment) x.logs }

-- how many keys a purge of a log takes
abbrev pub purge_log_answer : ℕ → SiteState → ℕ
purge_log_answer table x = count_where (λ (logged : LoggedKey). nat_le logged.moment x.moment) (keys_in (log_of table x.logs))
