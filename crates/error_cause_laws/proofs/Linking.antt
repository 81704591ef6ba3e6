-- Sites as the schema declares them are linked as it says.
use Rattle.std.proofs.Common.{◌≡◌, ◌≢◌, List, ◌∷◌, Some, None, ◌∙◌}
use Rattle.std.specs.Prelude.{◌&&◌, ◌||◌}
use Rattle.std.specs.List.{AllByRecursion}
use Rattle.rep_values.specs.declared.name.SiteName.{SiteName}
use Rattle.rep_schema.specs.declared.schema.Schema.{Schema}
use Rattle.rep_schema.specs.declared.schema.SiteEntry.{SiteEntry}
use Rattle.rep_schema.specs.Shape.{HasShape}
use Rattle.rep_schema.specs.Named.{site_named}
use Rattle.site_state.specs.State.{SiteState, opened_of}
use Rattle.site_state.specs.DeclaredSites.{IsDeclared}
use Rattle.site_events.specs.Cluster.{site_of}
use Rattle.event_laws.proofs.Sites.{found_all}
use Rattle.event_laws.proofs.DeclaredSites.{IsSiteOf}
use Rattle.event_laws.proofs.LinkedSites.{IsLinked, sent_to, linked_declared}

-- a site that sends is one of the schema's
pub sender_named : (schema : Schema) (x : SiteState) → IsDeclared schema x → (to : SiteName) → opened_of to x ≢ None → (s : SiteEntry) × (site_named schema x.here.site ≡ Some s)
sender_named schema x declared to is = let s = sent_to schema x declared to is in (s.from, s.from_found)

pub all_linked : (schema : Schema) → HasShape schema → (sites : List SiteState) → AllByRecursion (IsSiteOf schema) sites → (site : SiteName) (x : SiteState) → site_of site sites ≡ Some x → IsLinked x
all_linked schema shape sites all site x found = linked_declared schema shape x (found_all (IsSiteOf schema) site sites x all found).declared
