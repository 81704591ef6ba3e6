-- What holds of every world.
use Rattle.std.specs.Prelude.{ℕ, List}
use Rattle.std.specs.List.{AllByRecursion}
use Rattle.script_parse.specs.declared.command.Command.{Command}
use Rattle.script_parse.specs.Named.{NamesColumn}
use Rattle.world_state.specs.World.{WorldState}
use Rattle.world_state.specs.Making.{world_made}
use Rattle.world_state.specs.Steps.{world_steps}
use Rattle.world_laws.specs.Scripts.{script_world}
use Rattle.world_laws.specs.WellDeclared.{DeclaresWell}

-- it holds of the world that Setup's end makes of what is well declared, and of each that further lines make of it
abbrev pub InWorlds : (WorldState → Type 0) → Type 0
InWorlds Holds = (w : WorldState) → DeclaresWell w → (number : ℕ) (lines : List Command) → Holds (world_steps number lines (world_made w))

-- it holds of the world of every script
abbrev pub InScripts : (WorldState → Type 0) → Type 0
InScripts Holds = (lines : List Command) → AllByRecursion NamesColumn lines → Holds (script_world lines)
