-- Sites as the schema declares them.
use Rattle.std.specs.Prelude.{List}
use Rattle.std.specs.List.{AllByRecursion}
use Rattle.rep_schema.specs.declared.schema.Schema.{Schema}
use Rattle.rep_schema.specs.Shape.{HasShape}
use Rattle.site_state.specs.State.{SiteState}
use Rattle.site_state.specs.DeclaredSites.{IsDeclared}

-- each of these sites is one of a schema that has its shape
pub record AreDeclared (schema : Schema) (sites : List SiteState) : Type 0 where
  pub shape : HasShape schema
  pub each : AllByRecursion (IsDeclared schema) sites
