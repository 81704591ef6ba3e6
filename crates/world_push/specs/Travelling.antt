-- Packets that travel from one site to another.
use Rattle.std.specs.Prelude.{◌≡◌, List, [], ◌∷◌}
use Rattle.rep_values.specs.declared.name.SiteName.{SiteName}
use Rattle.world_state.specs.World.{WorldState}
use Rattle.world.specs.Following.{Travel, travel_done}

-- one thing that becomes of them after the other
abbrev pub travels_done : SiteName → SiteName → List Travel → WorldState → WorldState
travels_done from to [] w = w
travels_done from to (travel ∷ travels) w = travels_done from to travels (travel_done from to travel w)

-- packets from one site to another travelled, and nothing else happened
pub record Travels (from to : SiteName) (old new : WorldState) : Type 0 where
  pub list : List Travel
  pub made : new ≡ travels_done from to list old
