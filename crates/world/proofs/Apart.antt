-- The names of a world's sites stay apart: nothing renames a site, and one that joins has a name that no other one has.
use Rattle.std.proofs.Common.{◌≡◌, List, Bool, true, false, Some, None, refl, sym, ap, ◌∙◌, subst}
use Rattle.std.specs.Prelude.{Option}
use Rattle.rep_values.specs.declared.name.SiteName.{SiteName}
use Rattle.rep_schema.specs.declared.schema.Schema.{Schema}
use Rattle.rep_schema.specs.declared.schema.SiteEntry.{SiteEntry}
use Rattle.rep_schema.specs.Shape.{HasShape}
use Rattle.rep_schema.specs.Tables.{Rows}
use Rattle.site_state.specs.State.{SiteState}
use Rattle.site_state.proofs.SchemaSites.{are_apart}
use Rattle.site_events.specs.Cluster.{Cluster}
use Rattle.site_events.specs.Events.{run}
use Rattle.event_laws.specs.Names.{SitesApart}
use Rattle.event_laws.proofs.Names.{names_stay_apart, apart_made}
use Rattle.world_state.specs.declared.declared_snapshot.DeclaredSnapshot.{DeclaredSnapshot}
use Rattle.world_state.specs.World.{WorldState}
use Rattle.world_state.specs.Phases.{is_setup}
use Rattle.world_state.specs.Making.{rows_made, site_made, entry_made, is_early, world_made}
use Rattle.world_laws.specs.Simulation.{Simulates, Leads}
use Rattle.world_laws.specs.Reached.{IsOfScript, InSetup, Behind}

-- ---- Setup's end

-- a site that is made has the name of its entry
made_named : (schema : Schema) (rows : List Rows) (snapshots : List DeclaredSnapshot) (e : SiteEntry) → (entry_made schema rows snapshots e).here.site ≡ e.name
made_named schema rows snapshots e = go e.master
  where
    go : (master : Option SiteName) → (site_made schema rows snapshots e.name master).here.site ≡ e.name
    go None = refl
    go (Some master) = refl

-- and the schema's names are apart
pub made_apart : (w : WorldState) → HasShape w.schema → SitesApart (world_made w).sites
made_apart w shape = apart_made (entry_made w.schema (rows_made w.schema w.base) w.snapshots) (made_named w.schema (rows_made w.schema w.base) w.snapshots) (is_early w.schema) w.schema.sites
    (are_apart w.schema.sites shape.site_names)

-- ---- events

leads_apart : (w y : WorldState) (v : Cluster) → Simulates w v → Leads y v → SitesApart w.sites → SitesApart y.sites
leads_apart w y v s leads apart = subst SitesApart (sym leads.simulates.sites) (names_stay_apart v leads.events (subst SitesApart s.sites apart))

-- behind Setup
pub apart_behind : (w y : WorldState) → is_setup w.phase ≡ false → IsOfScript w → ((v : Cluster) → Simulates w v → Leads y v) → SitesApart w.sites → SitesApart y.sites
apart_behind w y behind (InSetup in_setup) leads apart = absurd (cc (behind, in_setup.setup))
apart_behind w y behind (Behind r) leads apart = leads_apart w y (run r.leads.events r.start) r.leads.simulates (leads (run r.leads.events r.start) r.leads.simulates) apart

-- while in Setup there are no sites
apart_in_setup : (y : WorldState) → is_setup y.phase ≡ true → IsOfScript y → SitesApart y.sites
apart_in_setup y setup (InSetup in_setup) = subst SitesApart (sym in_setup.sites) tt
apart_in_setup y setup (Behind r) = absurd (cc (setup, r.leads.simulates.behind))

-- a line that ends no Setup keeps it
pub apart_kept : (w y : WorldState) → IsOfScript w → IsOfScript y → is_setup y.phase ≡ is_setup w.phase → ((v : Cluster) → Simulates w v → Leads y v) → SitesApart w.sites → SitesApart y.sites
apart_kept w y of_script is same leads apart = go (is_setup w.phase) refl
  where
    go : (b : Bool) → is_setup w.phase ≡ b → SitesApart y.sites
    go true setup = apart_in_setup y (same ∙ setup) is
    go false behind = apart_behind w y behind of_script leads apart
