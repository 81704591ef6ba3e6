-- Laws of forms.
use Rattle.std.specs.Prelude.{◌≡◌, Ok}
use Rattle.script_parse.specs.declared.command.Command.{Command}
use Rattle.script_parse.specs.Parsed.{command_of}
use Rattle.script_parse.specs.Spelled.{spelled, IsWellFormed}

-- what a command is written as is read again as that command
abbrev pub ReadsAgain : Type 0
ReadsAgain = (c : Command) → IsWellFormed c → command_of (spelled c) ≡ Ok c
