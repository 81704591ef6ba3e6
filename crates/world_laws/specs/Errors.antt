-- Errors of sites: one that stands is a whole transaction as its origin sent it, and it stands until it is cleared.
use Rattle.std.specs.Prelude.{◌≡◌, ℕ, false, List, ◌∷◌, ◌++◌, Some, Err}
use Rattle.std.specs.List.{list_any, Contains}
use Rattle.rep_values.specs.declared.name.SiteName.{SiteName}
use Rattle.rep_values.specs.declared.refusal.ApplyError.{ApplyError}
use Rattle.rep_calls.specs.declared.call.Txn.{Txn}
use Rattle.txn_effects.specs.Contents.{effect_on}
use Rattle.deferred_queue.specs.Streams.{at_position}
use Rattle.error_queue.specs.declared.entry.ErrorEntry.{ErrorEntry}
use Rattle.site_state.specs.declared.entry.Entry.{Entry}
use Rattle.site_state.specs.declared.entry.Entry.TheVariants.{Error}
use Rattle.site_state.specs.declared.arrival.Arrival.{Arrival}
use Rattle.site_state.specs.State.{SiteState, arrived_at}
use Rattle.site_state.specs.Journal.{clears_error, error_at}
use Rattle.site_state.specs.Contents.{journal_content}
use Rattle.site_state.specs.Streams.{queue_after, stream_to}
use Rattle.site_state.specs.Errors.{errors_of}
use Rattle.site_events.specs.Cluster.{site_of}

-- an error of a position at a site: it is in the error queue, and the journal has its entry; its transaction, with all its calls, is
-- the one that the origin has at that position for the site, and the one that arrived there; on the tables and counters that the
-- entries before it lead to that transaction fails, at this call and for this reason; and the entry changes neither these nor what
-- the site has queued
pub record IsWholeError (sites : List SiteState) (site origin : SiteName) (position : ℕ) (x : SiteState) (e : ErrorEntry) : Type 0 where
  pub origin_is : e.origin ≡ origin
  pub position_is : e.position ≡ position
  pub listed : Contains (errors_of x) e
  pub since : List Entry
  pub before : List Entry
  pub journal : x.journal ≡ since ++ Error origin position e.call e.error e.txn ∷ before
  pub sender : SiteState
  pub there : site_of origin sites ≡ Some sender
  pub sent : at_position position (stream_to site sender) ≡ Some e.txn
  pub arrival : Arrival
  pub arrived : arrived_at origin position x.senders ≡ Some arrival
  pub whole : e.txn ≡ arrival.txn
  pub fails : effect_on x.schema origin e.txn (journal_content x.schema x.here.site x.base before) ≡ Err (record { call = e.call; error = e.error })
  pub content : journal_content x.schema x.here.site x.base (Error origin position e.call e.error e.txn ∷ before) ≡ journal_content x.schema x.here.site x.base before
  pub queue : queue_after x.schema x.here x.base (Error origin position e.call e.error e.txn ∷ before) ≡ queue_after x.schema x.here x.base before

-- each error that stands at a site is such a one
abbrev pub EachErrorIsWhole : List SiteState → Type 0
EachErrorIsWhole sites = (site origin : SiteName) (position : ℕ) (x : SiteState) (e : ErrorEntry) → site_of site sites ≡ Some x → error_at origin position x.journal ≡ Some e
    → IsWholeError sites site origin position x e

-- each error of a site's journal stands, with its whole transaction, where nothing since has executed or dropped it
abbrev pub EachUnclearedErrorStands : List SiteState → Type 0
EachUnclearedErrorStands sites = (site origin : SiteName) (position call : ℕ) (error : ApplyError) (txn : Txn) (since before : List Entry) (x : SiteState) → site_of site sites ≡ Some x
    → x.journal ≡ since ++ Error origin position call error txn ∷ before → list_any (clears_error origin position) since ≡ false
    → error_at origin position x.journal ≡ Some (record { origin = origin; position = position; call = call; error = error; txn = txn })
