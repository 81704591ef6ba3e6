-- What holds of what a script makes of procedures, whatever the script is.
use Rattle.std.specs.Prelude.{◌≡◌, ◌≤◌, true, false, List, [], length, map}
use Rattle.std.specs.List.{AllByRecursion}
use Rattle.rep_values.specs.declared.name.SiteName.{SiteName}
use Rattle.rep_schema.specs.declared.schema.Schema.{Schema}
use Rattle.rep_schema.specs.declared.schema.TableEntry.{TableEntry}
use Rattle.rep_schema.specs.Shape.{HasShape, no_schema}
use Rattle.site_state.specs.Fits.{SchemaIsKeyed}
use Rattle.proc_state.specs.declared.procedure.Procedure.{Procedure}
use Rattle.proc_state.specs.Calls.{AreProcedures}
use Rattle.proc_state.specs.State.{ProcState}
use Rattle.proc_state.specs.Events.{ProcEvent, EventFits, PacketFits, after_events}
use Rattle.world_state.specs.World.{WorldState}
use Rattle.world_state.specs.Phases.{is_setup}
use Rattle.world_state.specs.Procs.{Procs, proc_schema, early_masters, proc_made}
use Rattle.world_state.specs.ProcRefusals.{most_proc_columns}
use Rattle.world_laws.specs.Streams.{NetCarries, AreOfStreams}

-- ---- what is declared

-- a table that procedures write has at most 30 columns, and neither groups nor secondary constraints
pub record IsProcTable (table : TableEntry) : Type 0 where
  pub width : length table.columns ≤ most_proc_columns
  pub groups : table.groups ≡ []
  pub constraints : table.constraints ≡ []

-- the tables of procedures by themselves, without sites
abbrev pub tables_alone : List TableEntry → Schema
tables_alone tables = proc_schema no_schema tables

-- the tables are those of a schema, and the procedures are ones of these tables
pub record AreProcsDeclared (p : Procs) : Type 0 where
  pub shape : HasShape (tables_alone p.tables)
  pub tables : AllByRecursion IsProcTable p.tables
  pub procedures : AreProcedures (tables_alone p.tables) p.procedures

-- ---- sites and their net

-- a site of procedures came to be by events that fit, from where nothing had happened
pub record ComesFromCalls (schema : Schema) (procedures : List Procedure) (masters : List SiteName) (x : ProcState) : Type 0 where
  pub events : List ProcEvent
  pub fit : AllByRecursion (EventFits schema procedures) events
  pub is : x ≡ after_events events (proc_made schema procedures masters x.me)

-- each site came to be by events
abbrev pub EachComesFromCalls : Schema → Procs → Type 0
EachComesFromCalls schema p = AllByRecursion (ComesFromCalls (proc_schema schema p.tables) p.procedures (early_masters schema)) p.sites

-- the names of the sites that hold tables of procedures
abbrev pub proc_names : List ProcState → List SiteName
proc_names sites = map (λ (x : ProcState). x.me) sites

-- behind Setup each master that is there from the start holds the tables, which have keys; each site came to be by events, what
-- the net of calls carries fits, and packets, arrivals, marks and journals are of the sites' streams
pub record AreMade (schema : Schema) (p : Procs) : Type 0 where
  pub keyed : SchemaIsKeyed (proc_schema schema p.tables)
  pub procedures : AreProcedures (proc_schema schema p.tables) p.procedures
  pub names : proc_names p.sites ≡ early_masters schema
  pub sites : EachComesFromCalls schema p
  pub packets : AllByRecursion (NetCarries PacketFits) p.net
  pub streams : AreOfStreams p.sites p.net

abbrev pub AreProcsMade : WorldState → Type 0
AreProcsMade w = AreMade w.schema w.procs

-- in Setup there is no site of procedures, behind it they are made
pub record AreProcsBuilt (w : WorldState) : Type 0 where
  pub declared : AreProcsDeclared w.procs
  pub none : is_setup w.phase ≡ true → w.procs.sites ≡ []
  pub made : is_setup w.phase ≡ false → AreProcsMade w
