-- Calls that travel from one site to another.
use Rattle.std.specs.Prelude.{◌≡◌, List, [], ◌∷◌}
use Rattle.rep_values.specs.declared.name.SiteName.{SiteName}
use Rattle.world_state.specs.Procs.{Procs}
use Rattle.world.specs.Following.{Travel}
use Rattle.world.specs.Calling.{calls_travel}

-- one thing that becomes of them after the other
abbrev pub calls_travels : SiteName → SiteName → List Travel → Procs → Procs
calls_travels from to [] p = p
calls_travels from to (travel ∷ travels) p = calls_travels from to travels (calls_travel from to travel p)

-- calls travelled from one site to another, and nothing else happened
pub record CallsTravel (from to : SiteName) (old new : Procs) : Type 0 where
  pub list : List Travel
  pub made : new ≡ calls_travels from to list old
