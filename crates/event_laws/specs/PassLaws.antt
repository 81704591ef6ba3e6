-- What passes and purges leave, at any site.
use Rattle.std.specs.Prelude.{◌≡◌, ℕ, ◌-◌, ◌<◌, ◌≤◌, ◌↔◌, false, List, Option, Some, None}
use Rattle.std.specs.List.{AllByRecursion}
use Rattle.rep_values.specs.declared.name.SiteName.{SiteName}
use Rattle.rep_schema.specs.declared.schema.Schema.{Schema}
use Rattle.origin_marks.specs.Marks.{IsLowWater}
use Rattle.site_state.specs.declared.entry.Entry.{Entry}
use Rattle.site_state.specs.State.{DestinationState, SiteState, arrivals}
use Rattle.site_state.specs.Arrivals.{CanPass}
use Rattle.site_state.specs.Journal.{finished, low_water}
use Rattle.site_state.specs.Streams.{count_of}
use Rattle.site_state.specs.Ready.{is_ready}
use Rattle.site_state.specs.Passes.{site_pass}
use Rattle.site_state.specs.Purges.{site_purge}
use Rattle.site_events.specs.Cluster.{Cluster, site_of}
use Rattle.site_events.specs.Events.{Event, run}
use Rattle.event_laws.specs.Starts.{IsStart}
use Rattle.event_laws.specs.Declared.{AreDeclared}

-- after a pass no position of the sender is ready
abbrev pub PassesLeaveNothingReady : Type 0
PassesLeaveNothingReady = (origin : SiteName) (x : SiteState) → CanPass origin (arrivals origin x)
    → (position : ℕ) → is_ready origin position (site_pass origin x) ≡ false

-- the low-water mark of a sender is that of its finished positions
abbrev pub LowWaterIsThatOfTheFinished : Type 0
LowWaterIsThatOfTheFinished = (origin : SiteName) (journal : List Entry) → IsLowWater (finished origin journal) (low_water origin journal)

-- so every site can make such a pass for every sender, after every list of events, where sites are as the schema declares
-- them
abbrev pub EverySiteCanPass : Type 0
EverySiteCanPass = (schema : Schema) (start : Cluster) (events : List Event) → IsStart schema start → AreDeclared schema start.sites
    → (site origin : SiteName) (x : SiteState) → site_of site (run events start).sites ≡ Some x → CanPass origin (arrivals origin x)

abbrev pub AckedSince : Option ℕ → ℕ → ℕ → Type 0
AckedSince None acked number = Unit {0}
AckedSince (Some opened) acked number = opened < number → number - opened ≤ acked

-- a destination that has the transaction of a number has acknowledged its position
abbrev pub HasAcked : ℕ → DestinationState → Type 0
HasAcked number d = AckedSince d.opened d.acked number

-- of what isn't purged yet, a purge takes what every destination that has it has acknowledged, and nothing else
abbrev pub PurgesTakeWhatIsAcknowledged : Type 0
PurgesTakeWhatIsAcknowledged = (x : SiteState) (number : ℕ) → x.purged < number → number ≤ count_of x
    → (number ≤ (site_purge x).purged) ↔ AllByRecursion (HasAcked number) x.destinations
