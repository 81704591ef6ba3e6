-- Where the laws of snapshots begin.
use Rattle.std.specs.Prelude.{[]}
use Rattle.site_events.specs.Cluster.{Cluster}
use Rattle.world_state.specs.World.{WorldState}
use Rattle.world_state.specs.Making.{world_made}
use Rattle.event_laws.specs.SnapshotStarts.{IsSnapshotStart, IsLogStart}
use Rattle.world_laws.specs.WellDeclared.{DeclaresWell}

-- a world's sites, where nothing was sent and no pass was begun
abbrev pub start_of : WorldState → Cluster
start_of w = record { sites = w.sites; sent = []; begun = [] }

-- the sites that Setup's end makes fit, and each snapshot shows its master's table
abbrev pub MadeWorldsAreSnapshotStarts : Type 0
MadeWorldsAreSnapshotStarts = (w : WorldState) → DeclaresWell w → IsSnapshotStart w.schema (start_of (world_made w))

-- and their logs are new
abbrev pub MadeWorldsAreLogStarts : Type 0
MadeWorldsAreLogStarts = (w : WorldState) → DeclaresWell w → IsLogStart w.schema (start_of (world_made w))
