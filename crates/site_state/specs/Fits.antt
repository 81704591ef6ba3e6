-- What fits at a site: its content, and each transaction that it holds.
use Rattle.std.specs.Prelude.{◌≡◌, ◌≢◌, ℕ, ◌<◌, true, List, [], ◌∷◌, length, None}
use Rattle.std.specs.List.{AllByRecursion}
use Rattle.rep_values.specs.declared.name.SiteName.{SiteName}
use Rattle.rep_schema.specs.declared.schema.Schema.{Schema}
use Rattle.rep_schema.specs.Shape.{HasShape}
use Rattle.rep_calls.specs.declared.call.Txn.{Txn}
use Rattle.conflict_detect.specs.Fits.{TxnFits}
use Rattle.txn_effects.specs.Calls.{KeysStandAlone}
use Rattle.conflict_detect.specs.KeysNamed.{HasKeys}
use Rattle.txn_effects.specs.Contents.{IsContent}
use Rattle.snapshot_query.specs.declared.snapshot.Snapshot.{Snapshot}
use Rattle.site_state.specs.declared.entry.Entry.{Entry}
use Rattle.site_state.specs.declared.entry.Entry.TheVariants.{Local, Done, Error, Executed, Dropped, Refreshed}
use Rattle.site_state.specs.declared.arrival.Arrival.{Arrival}
use Rattle.site_state.specs.State.{SenderState, SiteState, arrived_at}
use Rattle.site_state.specs.Journal.{finished}
use Rattle.site_state.specs.Contents.{content_of}
use Rattle.site_state.specs.Streams.{queue_of}

-- what applying a transaction asks of a schema; each that breaks no rule has it
pub record SchemaIsKeyed (schema : Schema) : Type 0 where
  pub shape : HasShape schema
  pub keys : HasKeys schema
  pub apart : KeysStandAlone schema

-- something holds of the transaction of an entry, if it has one
abbrev pub EntryHas : (Txn → Type 0) → Entry → Type 0
EntryHas P (Local number txn) = P txn
EntryHas P (Done origin position onward txn) = P txn
EntryHas P (Error origin position call error txn) = P txn
EntryHas P (Executed origin position onward txn) = P txn
EntryHas P (Dropped origin position) = Unit {0}
EntryHas P (Refreshed moment) = Unit {0}

-- something holds of each transaction that arrived
abbrev pub SendersHave : (Txn → Type 0) → List SenderState → Type 0
SendersHave P senders = AllByRecursion (λ (s : SenderState). AllByRecursion (λ (a : Arrival). P a.txn) s.arrived) senders

-- the transaction of an entry fits
abbrev pub EntryFits : Schema → Entry → Type 0
EntryFits schema e = EntryHas (TxnFits schema) e

-- each transaction that arrived fits
abbrev pub SendersFit : Schema → List SenderState → Type 0
SendersFit schema senders = SendersHave (TxnFits schema) senders

-- each finished position of a sender has arrived
abbrev pub FinishedHaveArrived : List Entry → List SenderState → Type 0
FinishedHaveArrived journal senders = (origin : SiteName) (p : ℕ) → finished origin journal p ≡ true → arrived_at origin p senders ≢ None

-- snapshots are of the schema's tables
abbrev pub AreWithin : Schema → List Snapshot → Type 0
AreWithin schema snapshots = AllByRecursion (λ (s : Snapshot). s.table < length schema.tables) snapshots

-- no table has two snapshots
abbrev pub SnapshotsApart : List Snapshot → Type 0
SnapshotsApart [] = Unit {0}
SnapshotsApart (s ∷ ss) = AllByRecursion (λ (t : Snapshot). t.table ≢ s.table) ss × SnapshotsApart ss

-- tables and counters are those of the schema, and what is queued, arrived or journalled fits it
pub record SiteFits (x : SiteState) : Type 0 where
  pub keyed : SchemaIsKeyed x.schema
  pub content : IsContent x.schema (content_of x)
  pub queued : AllByRecursion (TxnFits x.schema) (queue_of x)
  pub senders : SendersFit x.schema x.senders
  pub journal : AllByRecursion (EntryFits x.schema) x.journal
  pub within : AreWithin x.schema x.snapshots
