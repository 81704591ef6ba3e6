-- Laws of storms.
use Rattle.std.specs.Prelude.{◌≡◌, ℕ, ◌≤◌, Ok}
use Rattle.std.specs.List.{AllByRecursion}
use Rattle.script_parse.specs.declared.command.Command.{Command}
use Rattle.script_parse.specs.Named.{NamesColumn}
use Rattle.script_parse.specs.Parsed.{command_of}
use Rattle.script_parse.specs.Spelled.{spelled, IsWellFormed}
use Rattle.storm_script.specs.Storm.{storm_commands}

-- a command that a line can give; a group that it declares names a column
pub record IsLine (c : Command) : Type 0 where
  pub named : NamesColumn c
  pub formed : IsWellFormed c

-- a storm has at most so many rounds
abbrev pub most_rounds : ℕ
most_rounds = 50000

-- each command of a storm is one that a line can give
abbrev pub StormsAreLines : Type 0
StormsAreLines = (seed count : ℕ) → count ≤ most_rounds → AllByRecursion IsLine (storm_commands seed count)

-- each is what the tokens that it is written as are read as
abbrev pub StormsReadAgain : Type 0
StormsReadAgain = (seed count : ℕ) → count ≤ most_rounds → AllByRecursion (λ c. command_of (spelled c) ≡ Ok c) (storm_commands seed count)
