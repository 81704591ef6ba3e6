-- What a world keeps of procedures, and the sites that hold their tables.
use Rattle.std.specs.Prelude.{cond, List, [], ◌∷◌, map, filter, Option, Some, None}
use Rattle.rep_values.specs.declared.name.SiteName.{SiteName}
use Rattle.rep_schema.specs.declared.schema.Schema.{Schema}
use Rattle.rep_schema.specs.declared.schema.TableEntry.{TableEntry}
use Rattle.rep_schema.specs.Shape.{is_early_master}
use Rattle.rep_schema.specs.Sites.{names_of, linked_pairs}
use Rattle.rep_values.specs.SiteNames.{is_same_site}
use Rattle.net_plan.specs.Directions.{Direction, net_of}
use Rattle.site_events.specs.Events.{without}
use Rattle.proc_state.specs.declared.procedure.Procedure.{Procedure}
use Rattle.proc_state.specs.State.{ProcState, new_proc}
use Rattle.world_state.specs.declared.call_block.CallBlock.{CallBlock}

-- what is declared: the tables that procedures write, and the procedures, in the order of their lines; the sites that hold these
-- tables and the directions between them, which come to be when Setup ends; and the open block of calls
pub record Procs : Type 0 where
  pub tables : List TableEntry
  pub procedures : List Procedure
  pub sites : List ProcState
  pub net : List Direction
  pub block : Option CallBlock

-- nothing is declared
abbrev pub no_procs : Procs
no_procs = record { tables = []; procedures = []; sites = []; net = []; block = None }

-- ---- sites

-- the site of a name, where it holds tables of procedures
abbrev pub proc_of : SiteName → List ProcState → Option ProcState
proc_of name [] = None
proc_of name (x ∷ xs) = cond (is_same_site x.me name) (Some x) (proc_of name xs)

-- the site of a name changes
abbrev pub at_proc : SiteName → (ProcState → ProcState) → List ProcState → List ProcState
at_proc name change [] = []
at_proc name change (x ∷ xs) = cond (is_same_site x.me name) (change x ∷ xs) (x ∷ at_proc name change xs)

-- ---- Setup's end

-- a schema of the declared sites, with the tables of procedures alone
abbrev pub proc_schema : Schema → List TableEntry → Schema
proc_schema schema tables = record { sites = schema.sites; tables = tables; priorities = [] }

-- the masters that are there from the start, in declared order
abbrev pub early_masters : Schema → List SiteName
early_masters schema = names_of (filter is_early_master schema.sites)

-- a site of this name among masters
abbrev pub proc_made : Schema → List Procedure → List SiteName → SiteName → ProcState
proc_made schema procedures masters name = new_proc schema procedures name (without name masters)

-- each master that is there from the start holds the tables; no late one ever does
abbrev pub procs_made : Schema → Procs → Procs
procs_made schema p = record p {
  sites = map (proc_made (proc_schema schema p.tables) p.procedures (early_masters schema)) (early_masters schema);
  net = net_of (linked_pairs schema.sites);
}
