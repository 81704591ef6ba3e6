-- What comes of a transaction that another site sent.
use Rattle.std.specs.Prelude.{ℕ, ◌+◌, ◌&&◌, Bool, not, cond, List, Option, Some, None, is_some, Result, Ok, Err}
use Rattle.std.specs.List.{list_any}
use Rattle.rep_values.specs.declared.name.SiteName.{SiteName}
use Rattle.rep_values.specs.declared.refusal.Refusal.{Refusal}
use Rattle.rep_values.specs.declared.refusal.Refusal.TheVariants as refusal
use Rattle.rep_schema.specs.declared.change.Change.{Change}
use Rattle.rep_calls.specs.declared.past.PastEntry.{PastEntry}
use Rattle.txn_effects.specs.Calls.{Effect}
use Rattle.txn_effects.specs.Transactions.{Failure}
use Rattle.txn_apply.specs.declared.stop.ApplyStop.{ApplyStop}
use Rattle.txn_apply.specs.declared.stop.ApplyStop.TheVariants.{Failed, Memory}
use Rattle.error_queue.specs.declared.entry.ErrorEntry.{ErrorEntry}
use Rattle.site_state.specs.declared.entry.Entry.{Entry}
use Rattle.site_state.specs.declared.entry.Entry.TheVariants.{Done, Error}
use Rattle.site_state.specs.declared.arrival.Arrival.{Arrival}
use Rattle.site_state.specs.State.{SiteState}
use Rattle.rep_schema.specs.Sites.{is_master_site}
use Rattle.site_state.specs.Pasts.{past_of}
use Rattle.site_state.specs.Steps.{is_empty, is_open}

-- changed rows go onward where there are some and where the site has what it had seen to send with them
abbrev pub goes_on : Option (List PastEntry) → List Change → Bool
goes_on past changes = not (is_empty changes) && is_some past

-- the number under which they are queued behind so many transactions, 0 where they don't go onward
abbrev pub onward_of : Option (List PastEntry) → List Change → ℕ → ℕ
onward_of past changes count = cond (goes_on past changes) (count + 1) 0

-- the entry of an arrival by what its transaction does
abbrev pub entry_by : Option (List PastEntry) → SiteName → Arrival → ℕ → Result Effect Failure → Entry
entry_by past origin a count (Ok effect) = Done origin a.position (onward_of past effect.changes count) a.txn
entry_by past origin a count (Err failure) = Error origin a.position failure.call failure.error a.txn

-- the error of an arrival, where its transaction fails
abbrev pub error_by : SiteName → Arrival → Result Effect Failure → Option ErrorEntry
error_by origin a (Ok effect) = None
error_by origin a (Err failure) = Some (record { origin = origin; position = a.position; call = failure.call; error = failure.error; txn = a.txn })

-- a master sends on what came from a site that is no master, where another master is open
abbrev pub sends_on : SiteName → SiteState → Bool
sends_on origin x = x.here.is_master && not (is_master_site x.schema origin) && list_any is_open x.destinations

-- what a site had seen, where it sends on what came from an origin
abbrev pub onward_past : SiteName → SiteState → Option (List PastEntry)
onward_past origin x = cond (sends_on origin x) (Some (past_of x)) None

-- why an error isn't executed whose transaction stops so
abbrev pub execute_stop_refusal : ApplyStop → Refusal
execute_stop_refusal (Failed call error) = refusal.StillFails error
execute_stop_refusal Memory = refusal.Memory
