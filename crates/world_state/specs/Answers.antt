-- What commands tell that aren't refused.
use Rattle.std.specs.Prelude.{ℕ, Bool, true, false, sum, map, length, List, Option, Some, None, Result, Ok, Err, is_none}
use Rattle.rep_values.specs.declared.name.SiteName.{SiteName}
use Rattle.rep_schema.specs.Tables.{Rows}
use Rattle.txn_effects.specs.declared.local.LocalStop.{LocalStop}
use Rattle.snapshot_query.specs.declared.snapshot.Snapshot.{Snapshot}
use Rattle.script_parse.specs.declared.command.Refresh.{Refresh}
use Rattle.script_parse.specs.declared.command.Refresh.TheVariants as refresh
use Rattle.site_state.specs.declared.answers.RefreshCount.{RefreshCount}
use Rattle.site_state.specs.State.{SiteState}
use Rattle.change_logs.specs.LogState.{LogState}
use Rattle.site_state.specs.Contents.{tables_of}
use Rattle.site_state.specs.Commits.{commit_answer}
use Rattle.site_state.specs.Purges.{purge_answer, purge_log_answer}
use Rattle.site_state.specs.Refreshes.{refresh_complete_answer}
use Rattle.site_events.specs.Cluster.{site_of}
use Rattle.site_events.specs.Rules.{rows_ruled, refresh_ruled_answer}
use Rattle.site_events.specs.Events.{master_of, found_site}
use Rattle.world_state.specs.declared.block.Block.{Block}
use Rattle.world_state.specs.World.{WorldState}
use Rattle.world_state.specs.Refusals.{young_step}

-- something of a site, 0 where it isn't there
abbrev pub number_there : (SiteState → ℕ) → Option SiteState → ℕ
number_there number None = 0
number_there number (Some x) = number x

-- ---- commits

abbrev pub answered_number : Result ℕ LocalStop → ℕ
answered_number (Ok number) = number
answered_number (Err stop) = 0

abbrev pub block_number : Option Block → WorldState → ℕ
block_number None w = 0
block_number (Some block) w = number_there (λ x. answered_number (commit_answer block.statements x)) (site_of block.site w.sites)

-- the number under which the open block is queued, 0 where no row changes
abbrev pub commit_number : WorldState → ℕ
commit_number w = block_number w.block w

-- ---- purges

-- how many transactions a purge takes
abbrev pub purge_count : SiteName → WorldState → ℕ
purge_count site w = number_there purge_answer (site_of site w.sites)

-- how many keys a purge of a table's log takes
abbrev pub log_purge_count : SiteName → ℕ → WorldState → ℕ
log_purge_count site table w = number_there (purge_log_answer table) (site_of site w.sites)

-- ---- refreshes

-- a refresh goes by the logs: where it is asked to, or where they reach back far enough
abbrev pub goes_by_logs : Refresh → List LogState → List Snapshot → Bool
goes_by_logs refresh.Fast logs snapshots = true
goes_by_logs refresh.Complete logs snapshots = false
goes_by_logs refresh.Force logs snapshots = is_none (young_step logs snapshots)

-- what a refresh tells, of a site and its master: whether it went by the logs, and its counts
pub record RefreshTold : Type 0 where
  pub by_logs : Bool
  pub count : RefreshCount

abbrev pub count_of_refresh : Bool → SiteState → SiteState → RefreshCount
count_of_refresh true x master = refresh_ruled_answer master.logs (rows_ruled x.schema (tables_of master) x.snapshots) x
count_of_refresh false x master = refresh_complete_answer (rows_ruled x.schema (tables_of master) x.snapshots)

abbrev pub refresh_told : Refresh → SiteState → SiteState → RefreshTold
refresh_told mode x master = record { by_logs = goes_by_logs mode master.logs x.snapshots; count = count_of_refresh (goes_by_logs mode master.logs x.snapshots) x master }

abbrev pub refresh_between : Refresh → Option SiteState → Option SiteState → Option RefreshTold
refresh_between mode None master = None
refresh_between mode (Some x) None = None
refresh_between mode (Some x) (Some master) = Some (refresh_told mode x master)

-- what a refresh of a site tells, where it and its master are there
abbrev pub refresh_answer : SiteName → Refresh → WorldState → Option RefreshTold
refresh_answer site mode w = refresh_between mode (site_of site w.sites) (found_site w.sites (master_of w.schema site))

-- ---- joins

abbrev pub row_count : List Rows → ℕ
row_count tables = sum (map length tables)

-- how many rows a late master takes over from the site that it copies
abbrev pub join_count : SiteName → WorldState → ℕ
join_count source w = number_there (λ x. row_count (tables_of x)) (site_of source w.sites)
