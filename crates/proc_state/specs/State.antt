-- What a site of procedures keeps, and what is computed from it.
use Rattle.std.specs.Prelude.{ℕ, true, List, [], ◌∷◌, length, map, replicate, filter, filter_map, Option, Some, None}
use Rattle.rep_values.specs.declared.name.SiteName.{SiteName}
use Rattle.rep_schema.specs.declared.schema.Schema.{Schema}
use Rattle.rep_schema.specs.Tables.{Rows}
use Rattle.rep_calls.specs.declared.call.Txn.{Txn}
use Rattle.deferred_queue.specs.declared.destination.Destination.{Destination}
use Rattle.deferred_queue.specs.Streams.{Deferred, Mark}
use Rattle.site_state.specs.declared.entry.Entry.{Entry}
use Rattle.site_state.specs.declared.entry.Entry.TheVariants.{Local, Done, Error, Executed, Dropped, Refreshed}
use Rattle.site_state.specs.State.{SenderState, SiteState}
use Rattle.rep_schema.specs.Sites.{is_among}
use Rattle.site_state.specs.Making.{new_sender}
use Rattle.site_state.specs.Streams.{with_one}
use Rattle.proc_state.specs.declared.procedure.Procedure.{Procedure}
use Rattle.proc_state.specs.Carriers.{tables_after, dependency_of}

-- a site of procedures: the journal stands newest first, and so do the destinations of each transaction of the site's own;
-- the senders, and how far each has acknowledged its stream, as declared
pub record ProcState : Type 0 where
  pub schema : Schema
  pub procedures : List Procedure
  pub me : SiteName
  pub journal : List Entry
  pub senders : List SenderState
  pub lists : List (List SiteName)
  pub acked : List Mark

-- nothing was sent to a site, and nothing acknowledged
abbrev pub no_mark : SiteName → Mark
no_mark site = record { site = site; acked = 0 }

-- a site of this name among other masters at which nothing has happened: its tables are empty
abbrev pub new_proc : Schema → List Procedure → SiteName → List SiteName → ProcState
new_proc schema procedures me masters = record {
  schema = schema;
  procedures = procedures;
  me = me;
  journal = [];
  senders = map new_sender masters;
  lists = [];
  acked = map no_mark masters;
}

-- a site with this schema, name and journal and with these senders, and with nothing else: what is finished, has arrived, is
-- ready or in error is told of it
abbrev pub as_site : ProcState → SiteState
as_site x = record {
  schema = x.schema;
  here = record { site = x.me; is_master = true; tables = [] };
  base = [];
  journal = x.journal;
  senders = x.senders;
  destinations = [];
  purged = 0;
  stamps = record { clock = 0; last = 0 };
  logs = [];
  snapshots = [];
  moment = 0;
}

-- ---- tables

-- the tables of a schema without a row
abbrev pub empty_tables : Schema → List Rows
empty_tables schema = replicate (length schema.tables) []

-- the tables after one entry more: a transaction is applied, and an error changes nothing
abbrev pub tables_with : Schema → List Procedure → Entry → List Rows → List Rows
tables_with schema procedures (Local number txn) tables = tables_after schema procedures txn tables
tables_with schema procedures (Done origin position onward txn) tables = tables_after schema procedures txn tables
tables_with schema procedures (Error origin position call error txn) tables = tables
tables_with schema procedures (Executed origin position onward txn) tables = tables_after schema procedures txn tables
tables_with schema procedures (Dropped origin position) tables = tables
tables_with schema procedures (Refreshed moment) tables = tables

-- the tables after a journal, from empty ones on
abbrev pub journal_tables : Schema → List Procedure → List Entry → List Rows
journal_tables schema procedures [] = empty_tables schema
journal_tables schema procedures (e ∷ es) = tables_with schema procedures e (journal_tables schema procedures es)

-- a site's tables
abbrev pub proc_tables : ProcState → List Rows
proc_tables x = journal_tables x.schema x.procedures x.journal

-- ---- queue and streams

abbrev pub own_txn : Entry → Option Txn
own_txn (Local number txn) = Some txn
own_txn (Done origin position onward txn) = None
own_txn (Error origin position call error txn) = None
own_txn (Executed origin position onward txn) = None
own_txn (Dropped origin position) = None
own_txn (Refreshed moment) = None

-- the transactions of a journal that are the site's own, the newest first
abbrev pub own_txns : List Entry → List Txn
own_txns journal = filter_map own_txn journal

-- the stream to a site, the newest first: of transactions with their destinations those that have it among theirs
abbrev pub stream_in : SiteName → List (List SiteName) → List Txn → List Txn
stream_in site [] txns = []
stream_in site (to ∷ lists) [] = []
stream_in site (to ∷ lists) (txn ∷ txns) = with_one (is_among to site) txn (stream_in site lists txns)

-- a destination of a transaction that was queued behind others, with its dependency number there
abbrev pub destination_behind : List (List SiteName) → List Txn → Txn → SiteName → Destination
destination_behind lists txns txn site = record { site = site; dep = dependency_of txn (stream_in site lists txns) }

-- transactions as they were queued for these destinations each, with empty pasts, the newest first
abbrev pub deferred_in : List (List SiteName) → List Txn → List Deferred
deferred_in [] txns = []
deferred_in (to ∷ lists) [] = []
deferred_in (to ∷ lists) (txn ∷ txns) = record {
  cargo = Some (record { txn = txn; past = [] });
  to = map (destination_behind lists txns txn) to;
} ∷ deferred_in lists txns

-- a site's queue: its own transactions with their destinations, the newest first; nothing of it is purged
abbrev pub proc_queue : ProcState → List Deferred
proc_queue x = deferred_in x.lists (own_txns x.journal)

-- how many transactions a site has queued
abbrev pub proc_count : ProcState → ℕ
proc_count x = length (proc_queue x)

-- the other masters, in declared order
abbrev pub other_masters : ProcState → List SiteName
other_masters x = map (λ (m : Mark). m.site) x.acked

-- those of the other masters that are named, in declared order
abbrev pub named_masters : List SiteName → ProcState → List SiteName
named_masters to x = filter (is_among to) (other_masters x)

-- one entry more
abbrev pub journalled : Entry → ProcState → ProcState
journalled e x = record x { journal = e ∷ x.journal }
