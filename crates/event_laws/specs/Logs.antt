-- What stands in the logs of masters, whatever happens.
use Rattle.std.specs.Prelude.{◌≡◌, ℕ, ◌<◌, ◌≤◌, true, List, Some}
use Rattle.std.specs.List.{AllByRecursion}
use Rattle.rep_values.specs.declared.name.SiteName.{SiteName}
use Rattle.rep_schema.specs.declared.schema.Schema.{Schema}
use Rattle.site_state.specs.State.{SiteState}
use Rattle.change_logs.specs.LogState.{LoggedKey, LogState}
use Rattle.site_events.specs.Cluster.{Cluster, site_of}
use Rattle.site_events.specs.Events.{Event, run}
use Rattle.event_laws.specs.SnapshotStarts.{IsLogStart}

-- a key was noted behind the moment up to which its log is purged, and not behind this one
abbrev pub IsNotedSince : ℕ → ℕ → LoggedKey → Type 0
IsNotedSince purged moment k = (purged < k.moment) × (k.moment ≤ moment)

-- each key of a log was
abbrev pub AreNotedSince : ℕ → LogState → Type 0
AreNotedSince moment log = AllByRecursion (IsNotedSince log.purged moment) log.keys

-- so it is with each log of every master, from new logs on
abbrev pub NotedAreAbovePurged : Type 0
NotedAreAbovePurged = (schema : Schema) (start : Cluster) (events : List Event) → IsLogStart schema start → (site : SiteName) (x : SiteState)
    → site_of site (run events start).sites ≡ Some x → x.here.is_master ≡ true → AllByRecursion (AreNotedSince x.moment) x.logs
