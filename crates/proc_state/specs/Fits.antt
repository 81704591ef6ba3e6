-- What fits at a site of procedures: its tables, and each transaction that it holds.
use Rattle.std.specs.Prelude.{◌≡◌, ◌<◌, ◌≤◌, true, List, [], length}
use Rattle.std.specs.List.{AllByRecursion}
use Rattle.std.specs.Ordering.{nat_cmp}
use Rattle.rep_lists.specs.RisingLaws.{RisesBy}
use Rattle.rep_schema.specs.declared.schema.Schema.{Schema}
use Rattle.rep_schema.specs.Tables.{AreTables}
use Rattle.rep_calls.specs.declared.call.Txn.{Txn}
use Rattle.site_state.specs.declared.arrival.Arrival.{Arrival}
use Rattle.site_state.specs.State.{SenderState}
use Rattle.site_state.specs.Fits.{SchemaIsKeyed, EntryHas, SendersHave}
use Rattle.proc_state.specs.declared.procedure.Procedure.{Procedure}
use Rattle.proc_state.specs.Calls.{AreProcedures}
use Rattle.proc_state.specs.Carriers.{is_carried}
use Rattle.proc_state.specs.State.{ProcState, proc_tables}

-- a transaction of 1 to 1,000 calls, each of a procedure's form
pub record IsProcTxn (schema : Schema) (procedures : List Procedure) (txn : Txn) : Type 0 where
  pub form : is_carried schema procedures txn ≡ true
  pub some : 1 ≤ length txn.calls
  pub most : length txn.calls ≤ 1000

-- arrivals that can be passed: they rise, depend on earlier positions, and have empty pasts
pub record ArePassable (arrived : List Arrival) : Type 0 where
  pub rising : RisesBy (λ (a : Arrival). a.position) nat_cmp arrived
  pub earlier : AllByRecursion (λ (a : Arrival). a.dep < a.position) arrived
  pub pasts : AllByRecursion (λ (a : Arrival). a.past ≡ []) arrived

-- so it is with what arrived from each sender
abbrev pub SendersPass : List SenderState → Type 0
SendersPass senders = AllByRecursion (λ (s : SenderState). ArePassable s.arrived) senders

-- the tables are those of the schema, each transaction that was journalled or arrived is one of calls, and what arrived can be
-- passed
pub record ProcFits (x : ProcState) : Type 0 where
  pub keyed : SchemaIsKeyed x.schema
  pub procedures : AreProcedures x.schema x.procedures
  pub tables : AreTables x.schema (proc_tables x)
  pub journal : AllByRecursion (EntryHas (IsProcTxn x.schema x.procedures)) x.journal
  pub senders : SendersHave (IsProcTxn x.schema x.procedures) x.senders
  pub passable : SendersPass x.senders
