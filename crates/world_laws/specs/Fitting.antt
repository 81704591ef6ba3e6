-- What fits at every site of every world, where what is declared is sound.
use Rattle.std.specs.Prelude.{◌≡◌, ℕ, ◌<◌, true, List, length, Some}
use Rattle.std.specs.List.{AllByRecursion}
use Rattle.rep_values.specs.declared.name.SiteName.{SiteName}
use Rattle.rep_schema.specs.Tables.{AreTables}
use Rattle.rep_laws.specs.Commuting.{IsSound}
use Rattle.site_state.specs.State.{SiteState}
use Rattle.rep_schema.specs.Sites.{is_master_site}
use Rattle.site_events.specs.Cluster.{site_of}
use Rattle.event_laws.specs.Fitting.{FitsHere}
use Rattle.event_laws.specs.Confluence.{CanPassInAnyOrder}
use Rattle.script_parse.specs.declared.command.Command.{Command}
use Rattle.world_state.specs.declared.declared_snapshot.DeclaredSnapshot.{DeclaredSnapshot}
use Rattle.world_state.specs.World.{WorldState}
use Rattle.world_state.specs.Making.{rows_made, world_made}
use Rattle.world_state.specs.Steps.{world_steps}

-- the schema has its shape and breaks no rule, the rows that masters begin with are its tables, and snapshots are of its
-- tables
pub record IsWellDeclared (w : WorldState) : Type 0 where
  pub sound : IsSound w.schema
  pub rows : AreTables w.schema (rows_made w.schema w.base)
  pub snapshots : AllByRecursion (λ (s : DeclaredSnapshot). s.table < length w.schema.tables) w.snapshots

-- at each site tables are tables, and what is queued, arrived or journalled fits
abbrev pub EachFits : List SiteState → Type 0
EachFits sites = (site : SiteName) (x : SiteState) → site_of site sites ≡ Some x → FitsHere x

-- so it is in the world that Setup's end makes of what is well declared, and in each that further lines make of it
abbrev pub EachFitsInWorlds : Type 0
EachFitsInWorlds = (w : WorldState) → IsWellDeclared w → (number : ℕ) (lines : List Command) → EachFits (world_steps number lines (world_made w)).sites

-- and there the order in which all that is ready of a master is applied doesn't count at any site
abbrev pub EachCanPassInAnyOrder : Type 0
EachCanPassInAnyOrder = (w : WorldState) → IsWellDeclared w → (number : ℕ) (lines : List Command)
    → (site origin : SiteName) (x : SiteState) → site_of site (world_steps number lines (world_made w)).sites ≡ Some x → is_master_site w.schema origin ≡ true → CanPassInAnyOrder origin x
