-- The names of the other sites.
use Rattle.std.proofs.Common.{◌≢◌, not, filter}
use Rattle.std.proofs.lemmas.List.Kept.{AllPairs-filter}
use Rattle.rep_values.specs.declared.name.SiteName.{SiteName}
use Rattle.rep_schema.specs.declared.schema.Schema.{Schema}
use Rattle.rep_schema.specs.Shape.{AreDistinct}
use Rattle.rep_schema.specs.Sites.{names_of}
use Rattle.rep_values.specs.SiteNames.{is_same_site}
use Rattle.site_state.specs.Fits.{SchemaIsKeyed}

-- no two of the sites but one have the same name
pub others_are_distinct : (schema : Schema) (name : SiteName) → SchemaIsKeyed schema → AreDistinct (filter (λ (n : SiteName). not (is_same_site n name)) (names_of schema.sites))
others_are_distinct schema name keyed = AllPairs-filter (λ x y. x ≢ y) (λ (n : SiteName). not (is_same_site n name)) (names_of schema.sites) keyed.shape.site_names
