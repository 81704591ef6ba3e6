-- What fits at every site, whatever happens.
use Rattle.std.specs.Prelude.{◌≡◌, List, Some, Ok}
use Rattle.std.specs.List.{AllByRecursion}
use Rattle.rep_values.specs.declared.name.SiteName.{SiteName}
use Rattle.rep_schema.specs.declared.schema.Schema.{Schema}
use Rattle.rep_schema.specs.Tables.{AreTables}
use Rattle.rep_calls.specs.declared.statement.Statement.{Statement}
use Rattle.rep_laws.specs.Commuting.{IsSound}
use Rattle.conflict_detect.specs.Fits.{TxnFits}
use Rattle.txn_effects.specs.Contents.{effect_on, IsContent}
use Rattle.txn_effects.specs.Locals.{BlockEffect}
use Rattle.site_state.specs.State.{SiteState}
use Rattle.site_state.specs.Contents.{content_of, txn_of}
use Rattle.site_state.specs.Streams.{queue_of}
use Rattle.site_state.specs.Commits.{block_at}
use Rattle.site_state.specs.Fits.{EntryFits, SendersFit, AreWithin}
use Rattle.site_events.specs.Cluster.{Cluster, site_of}
use Rattle.site_events.specs.Events.{Event, run}
use Rattle.event_laws.specs.Starts.{IsStart}

-- the base rows are tables of the schema, and the snapshots are of its tables
pub record StartsFit (schema : Schema) (x : SiteState) : Type 0 where
  pub base : AreTables schema x.base
  pub within : AreWithin schema x.snapshots

-- new sites of a sound schema, each with tables as base rows
pub record IsFitStart (schema : Schema) (w : Cluster) : Type 0 where
  pub sound : IsSound schema
  pub start : IsStart schema w
  pub sites : AllByRecursion (StartsFit schema) w.sites

-- the tables are tables; what is queued, arrived or journalled fits; and the transaction that a block makes, applied to the
-- tables, changes the rows that the block changed
pub record FitsHere (x : SiteState) : Type 0 where
  pub content : IsContent x.schema (content_of x)
  pub queued : AllByRecursion (TxnFits x.schema) (queue_of x)
  pub arrived : SendersFit x.schema x.senders
  pub journal : AllByRecursion (EntryFits x.schema) x.journal
  pub blocks : (statements : List Statement) (block : BlockEffect) → block_at statements x ≡ Ok block
      → effect_on x.schema x.here.site (txn_of x.schema block.changes) (content_of x) ≡ Ok (record { changes = block.changes; numbers = (content_of x).numbers })

-- so it is at every site after every list of events
abbrev pub EverySiteFits : Type 0
EverySiteFits = (schema : Schema) (start : Cluster) (events : List Event) → IsFitStart schema start
    → (site : SiteName) (x : SiteState) → site_of site (run events start).sites ≡ Some x → FitsHere x
