-- Laws of lines of scripts with live parts.
use Rattle.std.specs.Prelude.{◌≡◌, ◌↔◌, ℕ, Bool, true, false, List, Result, Ok, Err}
use Rattle.script_lex.specs.declared.token.Token.{Token}
use Rattle.script_lex.specs.Lines.{lexed}
use Rattle.script_words.specs.Reading.{◌>>=◌}
use Rattle.script_parse.specs.declared.command.Command.{Command}
use Rattle.script_parse.specs.declared.live_lines.LiveCommand.{LiveCommand}
use Rattle.script_parse.specs.declared.live_lines.LiveCommand.TheVariants as live_command
use Rattle.script_parse.specs.Parsed.{parsed}
use Rattle.script_parse.specs.LiveLines.{begins_live, as_plain, live_command_of, live_parsed, live_spelled, IsLiveWellFormed}

-- whether there are tokens, and one of the words live, session and end is in front
abbrev pub is_live : Result (List Token) ℕ → Bool
is_live (Err rule) = false
is_live (Ok ts) = begins_live ts

-- each line is read as in other scripts, but for those with one of the three words in front, which break rule 5 there
pub record KeepsLines : Type 0 where
  pub others : (line : List ℕ) → is_live (lexed line) ≡ false → live_parsed line ≡ (parsed line >>= as_plain)
  pub three : (line : List ℕ) → is_live (lexed line) ≡ true → parsed line ≡ Err 5

-- a line is read as a command of every script exactly where other scripts read it as that command
abbrev pub KeepsCommands : Type 0
KeepsCommands = (line : List ℕ) (c : Command) → (live_parsed line ≡ Ok (live_command.Plain c)) ↔ (parsed line ≡ Ok c)

-- what a command is written as is read again as that command
abbrev pub LiveReadsAgain : Type 0
LiveReadsAgain = (c : LiveCommand) → IsLiveWellFormed c → live_command_of (live_spelled c) ≡ Ok c
