-- What a world keeps, and which of its sites are there.
use Rattle.std.specs.Prelude.{Bool, List, [], Option, None, is_some}
use Rattle.rep_values.specs.declared.name.SiteName.{SiteName}
use Rattle.rep_schema.specs.declared.schema.Schema.{Schema}
use Rattle.rep_schema.specs.Shape.{no_schema}
use Rattle.rep_schema.specs.Tables.{Rows}
use Rattle.rep_schema.specs.Sites.{senders_of, is_among}
use Rattle.net_plan.specs.Directions.{Direction}
use Rattle.site_state.specs.State.{SiteState}
use Rattle.site_events.specs.Cluster.{site_of, at_site}
use Rattle.world_state.specs.declared.phase.Phase.{Phase}
use Rattle.world_state.specs.declared.phase.Phase.TheVariants as phase
use Rattle.world_state.specs.declared.block.Block.{Block}
use Rattle.world_state.specs.declared.declared_snapshot.DeclaredSnapshot.{DeclaredSnapshot}
use Rattle.world_state.specs.Procs.{Procs, no_procs}

-- the phase; what is declared: the schema, the rows that masters begin with and the snapshots, in the order of their lines;
-- the sites that are there and the directions between sites, which come to be when Setup ends; the open block; and what there
-- is of procedures
pub record WorldState : Type 0 where
  pub phase : Phase
  pub schema : Schema
  pub base : List Rows
  pub snapshots : List DeclaredSnapshot
  pub sites : List SiteState
  pub net : List Direction
  pub block : Option Block
  pub procs : Procs

-- nothing is declared
abbrev pub first_world : WorldState
first_world = record { phase = phase.Setup; schema = no_schema; base = []; snapshots = []; sites = []; net = []; block = None; procs = no_procs }

-- ---- sites

-- a site is there
abbrev pub is_there : WorldState → SiteName → Bool
is_there w site = is_some (site_of site w.sites)

-- a site of the world changes
abbrev pub with_site : SiteName → (SiteState → SiteState) → WorldState → WorldState
with_site site change w = record w { sites = at_site site change w.sites }

-- the schema gives a site another one as a sender
abbrev pub gets_from : WorldState → SiteName → SiteName → Bool
gets_from w site origin = is_among (senders_of w.schema site) origin
