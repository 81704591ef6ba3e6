-- What is known of the sites after every list of events.
use Rattle.std.proofs.Common.{◌≡◌, ◌≢◌, List, Bool, true, Some, None, ap, ◌∙◌}
use Rattle.std.specs.Prelude.{Option}
use Rattle.std.specs.List.{list_any}
use Rattle.rep_values.specs.declared.name.SiteName.{SiteName}
use Rattle.rep_schema.specs.declared.schema.Schema.{Schema}
use Rattle.rep_schema.specs.Named.{is_site}
use Rattle.rep_laws.specs.Commuting.{IsSound}
use Rattle.packet_code.specs.declared.packet.Packet.{Packet}
use Rattle.site_state.specs.State.{SiteState}
use Rattle.rep_schema.specs.Sites.{is_master_site}
use Rattle.site_events.specs.Cluster.{site_of}
use Rattle.event_laws.specs.Orders.{IsInOrder}
use Rattle.event_laws.proofs.Sites.{found_all, found_name}
use Rattle.event_laws.proofs.DeclaredSites.{IsSiteOf}
use Rattle.event_laws.proofs.Waiting.{AreMet}
use Rattle.convergence_laws.proofs.Moves.{DecisionLaws}
use Rattle.convergence_laws.proofs.Applied.{IsShaped}
use Rattle.convergence_laws.proofs.Told.{QueueIsTold}

pub some_there : {X : Type 0} (o : Option X) (x : X) → o ≡ Some x → o ≢ None
some_there o x is none = absurd (cc (is, none))

-- a site of this name is declared
abbrev pub is_named : Schema → SiteName → Bool
is_named schema name = list_any (is_site name) schema.sites

module _ (schema : Schema) (sound : IsSound schema) (decides : DecisionLaws) where
  -- they are met, their journals shaped and in order, and their queues told
  pub record Facts (sites : List SiteState) (sent : List Packet) : Type 0 where
    pub met : AreMet schema sites sent
    pub shaped : (name : SiteName) (x : SiteState) → site_of name sites ≡ Some x → IsShaped x.journal
    pub order : (name : SiteName) (x : SiteState) → site_of name sites ≡ Some x → IsInOrder sites name x.journal
    pub told : (name : SiteName) (x : SiteState) → site_of name sites ≡ Some x → is_named schema x.here.site ≡ true → QueueIsTold (is_named schema) schema sound decides sites x

  -- a site that is there and a master is a master of the schema
  pub declared_master : (sites : List SiteState) (sent : List Packet) → Facts sites sent → (name : SiteName) (x : SiteState) → site_of name sites ≡ Some x → x.here.is_master ≡ is_master_site schema name
  declared_master sites sent facts name x found = (found_all (IsSiteOf schema) name sites x facts.met.sites_of found).declared.is_master ∙ ap (is_master_site schema) (found_name name sites x found)
