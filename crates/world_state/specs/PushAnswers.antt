-- What a push tells.
use Rattle.std.specs.Prelude.{ℕ, ◌-◌, List, [], length, take, flat_map, Option, Some, None}
use Rattle.rep_values.specs.declared.name.SiteName.{SiteName}
use Rattle.error_queue.specs.declared.entry.ErrorEntry.{ErrorEntry}
use Rattle.site_state.specs.declared.entry.Entry.{Entry}
use Rattle.site_state.specs.State.{SiteState}
use Rattle.site_state.specs.Journal.{low_water}
use Rattle.site_state.specs.Passes.{is_done, is_error, added_count}
use Rattle.site_state.specs.Errors.{errors_from}
use Rattle.site_events.specs.Cluster.{site_of}
use Rattle.report_text.specs.declared.printed.PushCount.{PushCount}
use Rattle.world_state.specs.World.{WorldState}
use Rattle.site_state.specs.Rounds.{site_until_quiet}
use Rattle.world_state.specs.Pushes.{positions_above, pushed_in}

abbrev pub count_in : ℕ → SiteName → Option SiteState → PushCount
count_in sent from None = record { sent = sent; done = 0; errors = 0; low = 0 }
count_in sent from (Some x) = record {
  sent = sent;
  done = added_count is_done x (site_until_quiet from x);
  errors = added_count is_error x (site_until_quiet from x);
  low = low_water from (site_until_quiet from x).journal;
}

-- the counts of a push
abbrev pub push_count : SiteName → SiteName → Option ℕ → WorldState → PushCount
push_count from to count w = count_in (length (positions_above from to count w)) from (site_of to (pushed_in from to count w).sites)

-- the entries that a journal has more than an earlier one
abbrev pub entries_since : List Entry → List Entry → List Entry
entries_since before after = take (length after - length before) after

abbrev pub errors_in : SiteName → Option SiteState → List ErrorEntry
errors_in from None = []
errors_in from (Some x) = flat_map (errors_from (entries_since x.journal (site_until_quiet from x).journal)) (site_until_quiet from x).senders

-- the errors that a push brought, by sender as declared, then by position
abbrev pub push_errors : SiteName → SiteName → Option ℕ → WorldState → List ErrorEntry
push_errors from to count w = errors_in from (site_of to (pushed_in from to count w).sites)
