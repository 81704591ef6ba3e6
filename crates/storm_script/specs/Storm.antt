-- A storm: the commands of its script in their order.
use Rattle.std.specs.Prelude.{ℕ, List, ◌++◌}
use Rattle.script_parse.specs.declared.command.Command.{Command}
use Rattle.storm_script.specs.Opening.{opening}
use Rattle.storm_script.specs.Rounds.{storm_rounds}
use Rattle.storm_script.specs.Closing.{closing}

-- the commands of a storm by its seed and its number of rounds
abbrev pub storm_commands : ℕ → ℕ → List Command
storm_commands seed count = opening ++ (storm_rounds count 1 seed ++ closing)
