-- What holds of the procedures of the world of every script.
use Rattle.std.specs.Prelude.{◌≡◌, ℕ, ◌≤◌, false, List, ◌∷◌, ◌++◌, Some, None, Err}
use Rattle.rep_values.specs.declared.name.SiteName.{SiteName}
use Rattle.deferred_queue.specs.Streams.{acked_by}
use Rattle.error_queue.specs.declared.entry.ErrorEntry.{ErrorEntry}
use Rattle.site_state.specs.declared.entry.Entry.{Entry}
use Rattle.site_state.specs.declared.entry.Entry.TheVariants.{Error}
use Rattle.site_state.specs.declared.arrival.Arrival.{Arrival}
use Rattle.site_state.specs.State.{arrived_at}
use Rattle.site_state.specs.Journal.{error_at}
use Rattle.site_state.specs.Ready.{is_ready}
use Rattle.site_state.specs.Waited.{EachBehind, IsFinishedOnce}
use Rattle.proc_state.specs.Carriers.{txn_after}
use Rattle.proc_state.specs.State.{ProcState, as_site, journal_tables}
use Rattle.proc_state.specs.Fits.{ProcFits}
use Rattle.proc_state.specs.Laws.{ComesBehind}
use Rattle.script_parse.specs.declared.command.Command.TheVariants as command
use Rattle.script_parse.specs.declared.proc_line.ProcLine.TheVariants as proc_line
use Rattle.world_state.specs.World.{WorldState}
use Rattle.world_state.specs.Procs.{proc_of}
use Rattle.world_state.specs.Refusals.{world_refusal}
use Rattle.world_state.specs.Steps.{world_step}
use Rattle.world_laws.specs.Streams.{low_at, CallsWereSent}
use Rattle.world_laws.specs.SnapshotScripts.{InScripts}

-- ---- at each site

-- tables stay tables, and every transaction that is journalled or arrived is one of calls
abbrev pub EachFits : List ProcState → Type 0
EachFits sites = (site : SiteName) (x : ProcState) → proc_of site sites ≡ Some x → ProcFits x

-- each position of a sender is finished at most once
abbrev pub EachFinishesOnce : List ProcState → Type 0
EachFinishesOnce sites = (site : SiteName) (x : ProcState) → proc_of site sites ≡ Some x → IsFinishedOnce x.journal

-- of two positions of a sender whose transactions share a token, the earlier one is finished first
abbrev pub EachGoesInOrder : List ProcState → Type 0
EachGoesInOrder sites = (site origin : SiteName) (x : ProcState) → proc_of site sites ≡ Some x → EachBehind (ComesBehind x origin) x.journal

-- an acknowledged mark of a stream is at most the receiver's low-water mark
abbrev pub EachMarkIsLow : List ProcState → Type 0
EachMarkIsLow sites = (from to : SiteName) (x : ProcState) → proc_of from sites ≡ Some x → acked_by to x.acked ≤ low_at from (proc_of to sites)

-- what arrived of a stream at a position is what its origin has there for the site
abbrev pub EachArrivalWasSent : List ProcState → Type 0
EachArrivalWasSent sites = (site origin : SiteName) (position : ℕ) (x : ProcState) (a : Arrival) → proc_of site sites ≡ Some x → arrived_at origin position x.senders ≡ Some a
    → CallsWereSent sites origin site position a.txn

-- ---- errors

-- an error of a position at a site: the journal has its entry; its transaction, with all its calls, is the one that the origin has
-- at that position for the site; on the tables that the entries before it lead to that transaction fails, at this call and for
-- this reason; and the entry changes none of them
pub record IsWholeCallError (sites : List ProcState) (site origin : SiteName) (position : ℕ) (x : ProcState) (e : ErrorEntry) : Type 0 where
  pub since : List Entry
  pub before : List Entry
  pub journal : x.journal ≡ since ++ Error origin position e.call e.error e.txn ∷ before
  pub sent : CallsWereSent sites origin site position e.txn
  pub fails : txn_after x.schema x.procedures e.txn (journal_tables x.schema x.procedures before) ≡ Err (record { call = e.call; error = e.error })
  pub tables : journal_tables x.schema x.procedures (Error origin position e.call e.error e.txn ∷ before) ≡ journal_tables x.schema x.procedures before

-- each error that stands at a site is such a one
abbrev pub EachCallErrorIsWhole : List ProcState → Type 0
EachCallErrorIsWhole sites = (site origin : SiteName) (position : ℕ) (x : ProcState) (e : ErrorEntry) → proc_of site sites ≡ Some x → error_at origin position x.journal ≡ Some e
    → IsWholeCallError sites site origin position x e

-- ---- all of it

-- the laws over calls, of the sites of procedures of a world
pub record ProceduresHold (w : WorldState) : Type 0 where
  pub fits : EachFits w.procs.sites
  pub once : EachFinishesOnce w.procs.sites
  pub order : EachGoesInOrder w.procs.sites
  pub low : EachMarkIsLow w.procs.sites
  pub arrived : EachArrivalWasSent w.procs.sites
  pub errors : EachCallErrorIsWhole w.procs.sites

-- they hold of the world of every script
abbrev pub ProceduresHoldInScripts : Type 0
ProceduresHoldInScripts = InScripts ProceduresHold

-- no position of any sender is ready at a site
abbrev pub NoCallsReady : ProcState → Type 0
NoCallsReady x = (origin : SiteName) (position : ℕ) → is_ready origin position (as_site x) ≡ false

-- once a push of calls is done in such a world no position of any sender is ready at the receiver
abbrev pub PushesLeaveNoCallsReady : WorldState → Type 0
PushesLeaveNoCallsReady w = (number : ℕ) (from to : SiteName) (x : ProcState) → world_refusal (command.Procedures (proc_line.Push from to)) w ≡ None
    → proc_of to (world_step number (command.Procedures (proc_line.Push from to)) w).procs.sites ≡ Some x → NoCallsReady x
