-- What is said of a line that gives no command.
use Rattle.std.specs.Prelude.{ℕ, ◌≡◌, suc, Bool, List, Result, Ok, Err}
use Rattle.std.specs.List.{prefix_len}
use Rattle.rep_values.specs.Bytes.{is_printable}
use Rattle.script_lex.specs.Bytes.{is_space}
use Rattle.script_lex.specs.Lines.{HasTokens}
use Rattle.script_parse.specs.declared.command.Command.{Command}
use Rattle.script_parse.specs.Parsed.{parsed}
use Rattle.line_advice.specs.Fronts.{is_read, has_at_most, IsLongest}
use Rattle.line_advice.specs.declared.mistake.Mistake.{Mistake}
use Rattle.line_advice.specs.declared.mistake.LineError.{LineError}
use Rattle.line_advice.specs.declared.mistake.LineError.TheVariants as error

-- the column behind the longest front that passes the test
abbrev pub StandsBehind : (List ℕ → Bool) → List ℕ → ℕ → Type 0
StandsBehind test line column = (n : ℕ) × IsLongest test line n × (column ≡ suc n)

-- the rule is the first that the line breaks. The column is, by the rule: 1, that of the first byte too many; 3, that of the first
-- byte that isn't printable; 4, the one behind the longest front that has tokens; 5, that of the first byte that is no space; 6, the
-- one behind the longest front of so many tokens, for some number
pub record IsMistake (line : List ℕ) (m : Mistake) : Type 0 where
  pub rule : parsed line ≡ Err m.rule
  pub long : m.rule ≡ 1 → m.column ≡ 1025
  pub byte : m.rule ≡ 3 → m.column ≡ suc (prefix_len is_printable line)
  pub token : m.rule ≡ 4 → StandsBehind is_read line m.column
  pub command : m.rule ≡ 5 → m.column ≡ suc (prefix_len is_space line)
  pub form : m.rule ≡ 6 → (k : ℕ) × StandsBehind (has_at_most k) line m.column

-- the command is the one that the line is, or the mistake is the line's, or there is no memory, which is only where it has tokens
abbrev pub ReadsLine : List ℕ → Result Command LineError → Type 0
ReadsLine line (Ok command) = parsed line ≡ Ok command
ReadsLine line (Err (error.Mistake m)) = IsMistake line m
ReadsLine line (Err error.Memory) = HasTokens line
