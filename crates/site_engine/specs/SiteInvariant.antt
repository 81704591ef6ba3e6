-- What the fields of a site mean, and that what it keeps beside its state is what the state says.
use Rattle.std.specs.Prelude.{◌≡◌, ℕ, ◌≤◌, List, length, map}
use Rattle.std.specs.List.{AllByRecursion}
use Rattle.rep_schema.specs.declared.schema.Schema.{Schema}
use Rattle.rep_schema.specs.Tables.{Rows, AreTables}
use Rattle.rep_calls.specs.declared.call.Txn.{Txn}
use Rattle.unique_resolve.specs.Numbers.{Numbers}
use Rattle.txn_effects.specs.declared.local.Here.{Here}
use Rattle.txn_effects.specs.declared.local.Stamps.{Stamps}
use Rattle.error_queue.specs.ErrorLists.{ErrorList, in_order}
use Rattle.site_state.specs.declared.entry.Entry.{Entry}
use Rattle.site_state.specs.State.{SiteState}
use Rattle.site_state.specs.Contents.{content_of, tables_of}
use Rattle.site_state.specs.Streams.{queue_of}
use Rattle.site_state.specs.Pasts.{pasts_of}
use Rattle.site_state.specs.DeclaredSites.{IsDeclared}
use Rattle.site_state.specs.Fits.{EntryHas, SendersHave, FinishedHaveArrived, SnapshotsApart, SiteFits}
use Rattle.change_logs.specs.Noted.{NotesState}
use Rattle.sender_inbox.specs.Incoming.{Incoming}
use Rattle.site_outbox.specs.Outgoing.{Outgoing, Keeps}
use Rattle.sender_inbox.specs.Inboxes.{senders_in, Follows, error_list}
use Rattle.journal_sort.specs.Sorting.{StaysWithMasters}
use Rattle.site_state.specs.Waited.{HaveWaited, IsFinishedOnce}

-- the site that the fields mean
abbrev pub state_of : Schema → Here → List Rows → List Entry → List Incoming → Outgoing → NotesState → Stamps → ℕ → SiteState
state_of schema here base journal inboxes out notes stamps moment = record {
  schema = schema;
  here = here;
  base = base;
  journal = journal;
  senders = senders_in inboxes;
  destinations = out.destinations;
  purged = out.purged;
  stamps = stamps;
  logs = notes.logs;
  snapshots = notes.snapshots;
  moment = moment;
}

-- a transaction of 1 to 1,000 calls
pub record IsSized (txn : Txn) : Type 0 where
  pub some : 1 ≤ length txn.calls
  pub most : length txn.calls ≤ 1000

-- each transaction of a site has 1 to 1,000 calls
pub record AreSized (x : SiteState) : Type 0 where
  pub queued : AllByRecursion IsSized (queue_of x)
  pub arrived : SendersHave IsSized x.senders
  pub journal : AllByRecursion (EntryHas IsSized) x.journal

-- what a site keeps: base rows that are tables, at most one snapshot of a table, positions that are finished once and have
-- waited for earlier ones, and beside its state the tables and counters of its store, its inboxes, its outbox, its error
-- queue, and so much room in its journal that each error can be dropped
pub record SiteHolds (x : SiteState) (rows : List Rows) (numbers : Numbers) (inboxes : List Incoming) (out : Outgoing) (lists : List ErrorList) (room : ℕ) : Type 0 where
  pub based : AreTables x.schema x.base
  pub fits : SiteFits x
  pub sized : AreSized x
  pub declared : IsDeclared x.schema x
  pub arrived : FinishedHaveArrived x.journal x.senders
  pub once : IsFinishedOnce x.journal
  pub waited : HaveWaited x.senders x.journal
  pub stays : AllByRecursion (StaysWithMasters x.schema) x.journal
  pub apart : SnapshotsApart x.snapshots
  pub tables_are : rows ≡ tables_of x
  pub numbers_are : numbers ≡ (content_of x).numbers
  pub follow : AllByRecursion (Follows x.journal) inboxes
  pub keeps : Keeps x.schema (pasts_of x) (queue_of x) out
  pub errors_are : lists ≡ map (error_list x.journal) x.senders
  pub droppable : length (in_order lists) ≤ room
