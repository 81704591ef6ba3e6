-- What holds of a world whatever its script is, and stays so.
use Rattle.std.specs.Prelude.{ℕ, Result}
use Rattle.script_parse.specs.declared.command.Command.{Command}
use Rattle.script_parse.specs.Named.{NamesColumn}
use Rattle.world_state.specs.declared.refused.Refused.{Refused}
use Rattle.world_state.specs.World.{WorldState}
use Rattle.world.specs.declared.answer.Answer.{Answer}
use Rattle.world.specs.Following.{IsBuilt}
use Rattle.world.specs.Doing.{Does}

-- whatever comes of a line, the world stays one of a script
abbrev pub LinesKeepBuilt : Type 0
LinesKeepBuilt = (number : ℕ) (command : Command) (old new : WorldState) (result : Result Answer Refused)
    → NamesColumn command → Does number command old new result → IsBuilt old → IsBuilt new
