-- What the fields of a site of procedures mean, and that what it keeps beside its state is what the state says.
use Rattle.std.specs.Prelude.{◌≡◌, List, map}
use Rattle.std.specs.List.{AllByRecursion}
use Rattle.rep_values.specs.declared.name.SiteName.{SiteName}
use Rattle.rep_schema.specs.declared.schema.Schema.{Schema}
use Rattle.rep_schema.specs.Tables.{Rows}
use Rattle.error_queue.specs.ErrorLists.{ErrorList}
use Rattle.site_state.specs.declared.entry.Entry.{Entry}
use Rattle.site_state.specs.State.{SenderState}
use Rattle.site_state.specs.Fits.{EntryHas, SendersHave, FinishedHaveArrived}
use Rattle.sender_inbox.specs.Incoming.{Incoming}
use Rattle.sender_inbox.specs.Inboxes.{senders_in, Follows, error_list}
use Rattle.site_state.specs.Waited.{HaveWaited, IsFinishedOnce}
use Rattle.proc_state.specs.declared.procedure.Procedure.{Procedure}
use Rattle.proc_state.specs.State.{ProcState, proc_tables, own_txns, other_masters}
use Rattle.proc_state.specs.Fits.{ProcFits}
use Rattle.proc_calls.specs.Carrying.{CanBeCarried}
use Rattle.proc_calls.specs.Outgoing.{CallsOut, NamesApart, lists_in, Keeps}

-- the site that the fields mean
abbrev pub state_of : Schema → List Procedure → SiteName → List Entry → List Incoming → CallsOut → ProcState
state_of schema procedures me journal inboxes out = record {
  schema = schema;
  procedures = procedures;
  me = me;
  journal = journal;
  senders = senders_in inboxes;
  lists = lists_in out.deferred;
  acked = out.marks;
}

-- what a site keeps: transactions of calls that a packet can hold, and positions that are finished once and have waited for
-- earlier ones; and beside its state the tables of its store, its inboxes, what it sends, and its error queue
pub record ProcSiteHolds (x : ProcState) (rows : List Rows) (inboxes : List Incoming) (out : CallsOut) (lists : List ErrorList) : Type 0 where
  pub fits : ProcFits x
  pub journal : AllByRecursion (EntryHas CanBeCarried) x.journal
  pub senders : SendersHave CanBeCarried x.senders
  pub arrived : FinishedHaveArrived x.journal x.senders
  pub once : IsFinishedOnce x.journal
  pub waited : HaveWaited x.senders x.journal
  pub masters : map (λ (s : SenderState). s.origin) x.senders ≡ other_masters x
  pub apart : NamesApart (other_masters x)
  pub rows_are : rows ≡ proc_tables x
  pub follow : AllByRecursion (Follows x.journal) inboxes
  pub keeps : Keeps x.lists (own_txns x.journal) out
  pub errors_are : lists ≡ map (error_list x.journal) x.senders
