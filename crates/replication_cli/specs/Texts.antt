-- What the commands of a storm print.
use Rattle.std.specs.Prelude.{ℕ, suc, List, [], ◌∷◌}
use Rattle.script_parse.specs.declared.command.Command.{Command}
use Rattle.world_state.specs.World.{WorldState}
use Rattle.world_state.specs.Steps.{world_step}
use Rattle.world.specs.Texts.{line_text}

-- what commands print one after another, the first of which has a number
abbrev pub texts : ℕ → List Command → WorldState → List (List ℕ)
texts number [] w = []
texts number (c ∷ cs) w = line_text number c w ∷ texts (suc number) cs (world_step number c w)
