-- The sites that are there, and every packet that was ever sent.
use Rattle.std.specs.Prelude.{cond, List, [], ◌∷◌, Option, Some, None}
use Rattle.rep_values.specs.declared.name.SiteName.{SiteName}
use Rattle.rep_values.specs.SiteNames.{is_same_site}
use Rattle.packet_code.specs.declared.packet.Packet.{Packet}
use Rattle.site_state.specs.State.{SiteState}

-- the sites in the order in which they came; the packets that were ever sent, the newest first; and the masters at which a
-- pass was begun since the last refresh from them and since the last purge of their logs
pub record Cluster : Type 0 where
  pub sites : List SiteState
  pub sent : List Packet
  pub begun : List SiteName

-- the site of a name, where it is there
abbrev pub site_of : SiteName → List SiteState → Option SiteState
site_of name [] = None
site_of name (x ∷ xs) = cond (is_same_site x.here.site name) (Some x) (site_of name xs)

-- the site of a name changes
abbrev pub at_site : SiteName → (SiteState → SiteState) → List SiteState → List SiteState
at_site name change [] = []
at_site name change (x ∷ xs) = cond (is_same_site x.here.site name) (change x ∷ xs) (x ∷ at_site name change xs)
