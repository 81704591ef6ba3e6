-- A line as its command, or the first rule that it breaks.
use Rattle.std.specs.Prelude.{◌≡◌, ℕ, List, [], ◌∷◌, Option, Some, None, Result, Ok, Err, IsOk}
use Rattle.script_lex.specs.declared.token.Token.{Token}
use Rattle.script_lex.specs.Lines.{lexed}
use Rattle.script_words.specs.Words.{choice_of}
use Rattle.script_words.specs.Reading.{◌>>=◌, whole}
use Rattle.script_parse.specs.declared.heads.Head.{Head}
use Rattle.script_parse.specs.declared.command.Command.{Command}
use Rattle.script_parse.specs.declared.command.Command.TheVariants as command
use Rattle.script_parse.specs.Heads.{heads, row_of}

-- rule 5: a command word; rule 6: its form
abbrev pub formed : Option Head → List Token → Result Command ℕ
formed None ts = Err 5
formed (Some h) ts = whole (row_of h) ts

-- the command that tokens are
unfoldable pub command_of : List Token → Result Command ℕ
command_of [] = Ok command.Nothing
command_of (t ∷ ts) = formed (choice_of heads t) ts

-- the tokens begin with a command word, and the parts of its form stand behind it
abbrev pub HasForm : List Token → Type 0
HasForm [] = ⊥
HasForm (t ∷ ts) = (h : Head) × (choice_of heads t ≡ Some h) × IsOk (row_of h ts)

-- the command that the line is, or the first rule that it breaks
abbrev pub parsed : List ℕ → Result Command ℕ
parsed line = lexed line >>= command_of
