-- At every site of a run calls can be made.
use Rattle.std.proofs.Common.{◌≡◌, List, Some, sym, subst}
use Rattle.rep_values.specs.declared.name.SiteName.{SiteName}
use Rattle.rep_schema.specs.declared.schema.Schema.{Schema}
use Rattle.rep_schema.specs.Tables.{AreTables}
use Rattle.rep_laws.proofs.SoundSchemas.{HasKeys-sound, KeysStandAlone-sound}
use Rattle.site_state.specs.State.{SiteState}
use Rattle.site_state.specs.Contents.{tables_of}
use Rattle.site_state.specs.Fits.{SchemaIsKeyed}
use Rattle.site_events.specs.Cluster.{Cluster, site_of}
use Rattle.site_events.specs.Events.{Event, run}
use Rattle.event_laws.specs.Fitting.{IsFitStart}
use Rattle.event_laws.proofs.Sites.{found_all}
use Rattle.event_laws.proofs.MarkLaws.{IsOfSchema, run_schema}
use Rattle.event_laws.proofs.FittingSites.{every_site_fits}
use Rattle.event_laws.proofs.Calls.{CanCall}
use Rattle.event_laws.proofs.SitesKeepUp.{HaveTables}
use Rattle.event_laws.proofs.Refreshing.{AreOfSchema}

-- each site that is there is one of the schema, with tables, and calls can be made there
pub record SitesFit (schema : Schema) (sites : List SiteState) : Type 0 where
  pub of_schema : AreOfSchema schema sites
  pub have : HaveTables schema sites
  pub can : (name : SiteName) (x : SiteState) → site_of name sites ≡ Some x → CanCall x

pub run_fits : (schema : Schema) (start : Cluster) (events : List Event) → IsFitStart schema start → SitesFit schema (run events start).sites
run_fits schema start events is = record {
  of_schema = of_schema;
  have = λ name x there. subst (λ (s : Schema). AreTables s (tables_of x)) (of_schema name x there) (every_site_fits schema start events is name x there).content.tables;
  can = λ name x there. record { keyed = subst SchemaIsKeyed (sym (of_schema name x there)) keyed; fits = every_site_fits schema start events is name x there };
}
  where
    of_schema : AreOfSchema schema (run events start).sites
    of_schema name x there = found_all (IsOfSchema schema) name (run events start).sites x (run_schema schema start events is.start) there

    keyed : SchemaIsKeyed schema
    keyed = record { shape = is.sound.shape; keys = HasKeys-sound schema is.sound.unbroken is.sound.shape; apart = KeysStandAlone-sound schema is.sound.unbroken }
