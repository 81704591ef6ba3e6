-- A refresh of a site at its place from its master at another one.
use Rattle.std.specs.Prelude.{◌≡◌, ◌≢◌, ℕ, List, Option, Some, None, slice_get, slice_set}
use Rattle.site_state.specs.State.{SiteState}
use Rattle.site_state.specs.Contents.{tables_of}
use Rattle.site_state.specs.Refreshes.{site_refresh}
use Rattle.site_events.specs.Rules.{rows_ruled}
use Rattle.script_parse.specs.declared.command.Refresh.{Refresh}
use Rattle.world_state.specs.Refusals.{log_step}
use Rattle.world_state.specs.Answers.{RefreshTold, refresh_between}
use Rattle.world_laws.specs.Sites.{CanRefreshFrom}
use Rattle.world_commands.specs.declared.refreshing.Told.{Told}

-- what a refresh tells
abbrev pub told_of : Told → RefreshTold
told_of told = record { by_logs = told.by_logs; count = told.count }

-- two sites stand at two places, and the one can be refreshed from the other, by the logs too where it is to go by them alone
pub record CanRefreshAt (how : Refresh) (sites : List SiteState) (place master : ℕ) : Type 0 where
  pub here : SiteState
  pub there : SiteState
  pub at_place : slice_get sites place ≡ Some here
  pub at_master : slice_get sites master ≡ Some there
  pub apart : place ≢ master
  pub can : CanRefreshFrom there here
  pub reaches : log_step how there.logs here.snapshots ≡ None

-- a site as its refresh from a master leaves it
abbrev pub refreshed_by : SiteState → SiteState → SiteState
refreshed_by m x = site_refresh (rows_ruled x.schema (tables_of m) x.snapshots) m.moment x

abbrev pub written_between : List SiteState → ℕ → Option SiteState → Option SiteState → List SiteState
written_between sites place None there = sites
written_between sites place (Some x) None = sites
written_between sites place (Some x) (Some m) = slice_set sites place (refreshed_by m x)

-- the site at a place was refreshed from the master at another one
abbrev pub refreshed_at : List SiteState → ℕ → ℕ → List SiteState
refreshed_at sites place master = written_between sites place (slice_get sites place) (slice_get sites master)

-- what that tells
abbrev pub refresh_told_at : Refresh → List SiteState → ℕ → ℕ → Option RefreshTold
refresh_told_at how sites place master = refresh_between how (slice_get sites place) (slice_get sites master)
