-- Lines of scripts with live parts: those of every script, and three forms more.
use Rattle.std.specs.Prelude.{ℕ, Bool, if◌then◌else◌, List, [], ◌∷◌, Result, Ok, codes}
use Rattle.script_lex.specs.declared.token.Token.{Token}
use Rattle.script_lex.specs.declared.token.Token.TheVariants as token
use Rattle.script_lex.specs.Lines.{lexed}
use Rattle.script_words.specs.Words.{is_chosen}
use Rattle.script_words.specs.Reading.{Reading, ◌>>=◌, begins, row, ◌⊛◌, whole}
use Rattle.script_words.specs.Parts.{choice}
use Rattle.script_parse.specs.declared.command.Command.{Command}
use Rattle.script_parse.specs.declared.live_lines.LiveHead.{LiveHead}
use Rattle.script_parse.specs.declared.live_lines.LiveHead.TheVariants as head
use Rattle.script_parse.specs.declared.live_lines.LiveCommand.{LiveCommand}
use Rattle.script_parse.specs.declared.live_lines.LiveCommand.TheVariants as live_command
use Rattle.script_parse.specs.Parts.{site}
use Rattle.script_parse.specs.Named.{NamesColumn}
use Rattle.script_parse.specs.Parsed.{command_of}
use Rattle.script_parse.specs.Spelled.{spelled, IsName, IsWellFormed}

-- the words that begin the three
abbrev pub live_heads : List (List ℕ × LiveHead)
live_heads =
    (codes "live", head.Open) ∷
    (codes "session", head.Session) ∷
    (codes "end", head.End) ∷
    []

-- live NAME
abbrev pub open_row : Reading LiveCommand
open_row = row live_command.Open ⊛ site

-- session
abbrev pub session_row : Reading LiveCommand
session_row = row live_command.Session

-- end
abbrev pub end_row : Reading LiveCommand
end_row = row live_command.End

-- the form behind one of the words
abbrev pub live_row_of : LiveHead → Reading LiveCommand
live_row_of head.Open = open_row
live_row_of head.Session = session_row
live_row_of head.End = end_row

-- one of the words, and the form behind it
abbrev pub live_row : Reading LiveCommand
live_row ts = choice live_heads ts >>= λ h. live_row_of h.0 h.1

-- whether one of the words is in front
abbrev pub begins_live : List Token → Bool
begins_live = begins (is_chosen live_heads)

-- a line that every script may have
abbrev pub as_plain : Command → Result LiveCommand ℕ
as_plain c = Ok (live_command.Plain c)

-- the command that tokens are: one of the three where its word is in front, and else what they are in every script
unfoldable pub live_command_of : List Token → Result LiveCommand ℕ
live_command_of ts = if begins_live ts then whole live_row ts else (command_of ts >>= as_plain)

-- the command that the line is, or the first rule that it breaks
abbrev pub live_parsed : List ℕ → Result LiveCommand ℕ
live_parsed line = lexed line >>= live_command_of

-- a group or a constraint that is declared names a column
abbrev pub LiveNamesColumn : LiveCommand → Type 0
LiveNamesColumn (live_command.Plain c) = NamesColumn c
LiveNamesColumn (live_command.Open name) = Unit {0}
LiveNamesColumn live_command.Session = Unit {0}
LiveNamesColumn live_command.End = Unit {0}

-- the tokens of a command
abbrev pub live_spelled : LiveCommand → List Token
live_spelled (live_command.Plain c) = spelled c
live_spelled (live_command.Open name) = token.Word (codes "live") ∷ token.Word name.0 ∷ []
live_spelled live_command.Session = token.Word (codes "session") ∷ []
live_spelled live_command.End = token.Word (codes "end") ∷ []

-- a command that a line can give
abbrev pub IsLiveWellFormed : LiveCommand → Type 0
IsLiveWellFormed (live_command.Plain c) = IsWellFormed c
IsLiveWellFormed (live_command.Open name) = IsName name.0
IsLiveWellFormed live_command.Session = Unit {0}
IsLiveWellFormed live_command.End = Unit {0}
