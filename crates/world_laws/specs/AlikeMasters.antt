-- Where the sites of a world begin.
use Rattle.rep_schema.specs.declared.schema.Schema.{Schema}
use Rattle.site_events.specs.Cluster.{Cluster}
use Rattle.event_laws.specs.Fitting.{IsFitStart}
use Rattle.event_laws.specs.Waiting.{SitesLinkAsDeclared}
use Rattle.event_laws.specs.Beginning.{RowsBeginAlike, KeysBeginAlike, KeysAreShared}

-- masters begin alike, as the law of agreement asks it, as the law of errors does, and as the law of missing rows does
pub record MastersBeginAlike (schema : Schema) (start : Cluster) : Type 0 where
  pub rows : RowsBeginAlike schema start
  pub keys : KeysBeginAlike schema start.sites
  pub shared : KeysAreShared schema start.sites

-- new sites of a sound schema, as it declares them, with masters alike
pub record SitesBegin (schema : Schema) (start : Cluster) : Type 0 where
  pub fit : IsFitStart schema start
  pub meshed : SitesLinkAsDeclared schema start.sites
  pub alike : MastersBeginAlike schema start
