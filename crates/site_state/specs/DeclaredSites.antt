-- A site as the schema declares it.
use Rattle.std.specs.Prelude.{◌≡◌, map}
use Rattle.rep_schema.specs.declared.schema.Schema.{Schema}
use Rattle.rep_schema.specs.Sites.{senders_of, destinations_of, is_master_site}
use Rattle.site_state.specs.State.{SenderState, DestinationState, SiteState}

-- a site is a master where the schema says so, and its senders and destinations are those that the schema gives it
pub record IsDeclared (schema : Schema) (x : SiteState) : Type 0 where
  pub is_master : x.here.is_master ≡ is_master_site schema x.here.site
  pub senders : map (λ (s : SenderState). s.origin) x.senders ≡ senders_of schema x.here.site
  pub destinations : map (λ (d : DestinationState). d.site) x.destinations ≡ destinations_of schema x.here.site
