-- What the rounds of a storm do: a transaction each, and a push after each tenth.
use Rattle.std.specs.Prelude.{ℕ, ℤ, zero, suc, pos, ◌-ℤ◌, ◌+◌, ◌%◌, ◌==◌, if◌then◌else◌, None, List, [], ◌∷◌, ◌++◌, codes, decimal}
use Rattle.rep_values.specs.declared.name.SiteName.{SiteName}
use Rattle.rep_values.specs.declared.literal.Literal.TheVariants as literal
use Rattle.rep_calls.specs.declared.statement.Statement.{Statement}
use Rattle.rep_calls.specs.declared.statement.Statement.TheVariants as statement
use Rattle.net_plan.specs.declared.fate.Fate.{Fate}
use Rattle.script_parse.specs.declared.command.Command.{Command}
use Rattle.script_parse.specs.declared.command.Command.TheVariants as command
use Rattle.script_parse.specs.Parts.{to_value, by_amount}
use Rattle.storm_script.specs.declared.ways.Way.{Way}
use Rattle.storm_script.specs.Draws.{drawn, state_behind}
use Rattle.storm_script.specs.Sites.{site_at, way_at, fate_at}
use Rattle.storm_script.specs.Opening.{stock}

-- what round i adds to QTY: from -4 to 4 in turn
abbrev pub amount_of : ℕ → ℤ
amount_of i = pos (i % 9) -ℤ pos 4

-- the name that round i sets: ni
abbrev pub name_of : ℕ → List ℕ
name_of i = codes "n" ++ decimal i

-- update STOCK 'A' ID : QTY + d, TOP = i, NAME = 'ni'
abbrev pub stock_update : ℕ → ℕ → Statement
stock_update i id = statement.Update stock
    (literal.Words (codes "A") ∷ literal.Num (pos id) ∷ [])
    (by_amount (codes "QTY") (amount_of i) ∷ to_value (codes "TOP") (literal.Num (pos i)) ∷ to_value (codes "NAME") (literal.Words (name_of i)) ∷ [])

-- the transaction of round i at a site
abbrev pub transaction : ℕ → SiteName → ℕ → List Command
transaction i site id = command.Txn site ∷ command.Statement (stock_update i id) ∷ command.Commit ∷ []

-- a push, and what becomes of its first packets
abbrev pub fated_push : Way → List Fate → List Command
fated_push w fated = command.Fates w.from w.to fated ∷ command.Push w.from w.to None ∷ []

-- the fates that three draws name
abbrev pub three_fates : ℕ → List Fate
three_fates x = fate_at (drawn 4 (state_behind 1 x)) ∷ fate_at (drawn 4 (state_behind 2 x)) ∷ fate_at (drawn 4 (state_behind 3 x)) ∷ []

-- a push in the direction that the first draw names, with the fates of the next three
abbrev pub drawn_push : ℕ → List Command
drawn_push x = fated_push (way_at (drawn 6 (state_behind 1 x))) (three_fates (state_behind 1 x))

-- what round i does, by the state before its draws: the first names the site, and the second the row
unfoldable pub storm_round : ℕ → ℕ → List Command
storm_round i x =
    transaction i (site_at (drawn 3 (state_behind 1 x))) (drawn 100 (state_behind 2 x)) ++
    (if i % 10 == 0 then drawn_push (state_behind 2 x) else [])

-- the state behind its draws
unfoldable pub behind_round : ℕ → ℕ → ℕ
behind_round i x = if i % 10 == 0 then state_behind 6 x else state_behind 2 x

-- so many rounds from round i on
abbrev pub storm_rounds : ℕ → ℕ → ℕ → List Command
storm_rounds zero i x = []
storm_rounds (suc left) i x = storm_round i x ++ storm_rounds left (i + 1) (behind_round i x)
