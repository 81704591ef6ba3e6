-- The statements that the lines of a text are.
use Rattle.std.specs.Prelude.{◌≡◌, ℕ, Bool, true, false, List, Option, Some, None, Result, Ok, Err}
use Rattle.std.specs.List.{filter_map, AllByRecursion}
use Rattle.rep_calls.specs.declared.statement.Statement.{Statement}
use Rattle.script_parse.specs.declared.command.Command.{Command}
use Rattle.script_parse.specs.declared.command.Command.TheVariants as command
use Rattle.script_parse.specs.Parsed.{parsed}

-- a block has statements, and lines that are passed over
abbrev pub is_of_block : Command → Bool
is_of_block command.Nothing = true
is_of_block (command.Statement statement) = true
is_of_block _ = false

abbrev pub IsOfBlock : Result Command ℕ → Type 0
IsOfBlock (Ok c) = is_of_block c ≡ true
IsOfBlock (Err rule) = ⊥

-- the statement that a line is, if it is one
abbrev pub statement_in : Result Command ℕ → Option Statement
statement_in (Ok (command.Statement statement)) = Some statement
statement_in _ = None

-- the statements that lines are
abbrev pub statements_in : List (List ℕ) → List Statement
statements_in lines = filter_map (λ line. statement_in (parsed line)) lines

-- each line is a statement, or passed over
abbrev pub AreOfBlock : List (List ℕ) → Type 0
AreOfBlock lines = AllByRecursion (λ line. IsOfBlock (parsed line)) lines
