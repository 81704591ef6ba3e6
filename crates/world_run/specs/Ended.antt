-- A live part that was run.
use Rattle.std.specs.Prelude.{List}
use Rattle.rep_values.specs.declared.name.SiteName.{SiteName}
use Rattle.live_laws.specs.declared.turn.LiveTurn.{LiveTurn}
use Rattle.live_laws.specs.declared.turn.Session.{Session}
use Rattle.world_state.specs.World.{WorldState}

-- its site, the world before its end, its sessions, and its turns
pub record RanPart : Type 0 where
  pub site : SiteName
  pub before : WorldState
  pub sessions : List Session
  pub turns : List LiveTurn
