-- What a block of statements does as one local transaction.
use Rattle.std.specs.Prelude.{ℕ, ◌+◌, nat_le, cond, List, [], ◌∷◌, ◌++◌, length, Option, Some, None, Result, Ok, Err}
use Rattle.rep_values.specs.declared.refusal.Refusal.{Refusal}
use Rattle.rep_values.specs.declared.refusal.Refusal.TheVariants as refusal
use Rattle.rep_values.specs.declared.refusal.Limit.TheVariants as limit
use Rattle.rep_schema.specs.declared.schema.Schema.{Schema}
use Rattle.rep_schema.specs.declared.change.Change.{Change}
use Rattle.rep_schema.specs.Tables.{Rows}
use Rattle.rep_calls.specs.declared.statement.Statement.{Statement}
use Rattle.txn_effects.specs.declared.local.Here.{Here}
use Rattle.txn_effects.specs.declared.local.Stamps.{Stamps}
use Rattle.txn_effects.specs.declared.local.LocalStop.{LocalStop}
use Rattle.txn_effects.specs.Statements.{BlockState, statement_refusal, statement_changes, block_state_after}

-- a block has at most so many statements
abbrev pub most_statements : ℕ
most_statements = 1000

-- what a block does: the changes in their order, and the site's stamps afterwards
pub record BlockEffect : Type 0 where
  pub changes : List Change
  pub stamps : Stamps

abbrev pub stop_at : ℕ → Refusal → Result BlockEffect LocalStop
stop_at number why = Err (record { statement = number; refusal = why })

-- a statement that is refused ends the block; else something follows
abbrev pub unless_refused : Option Refusal → ℕ → Result BlockEffect LocalStop → Result BlockEffect LocalStop
unless_refused None number following = following
unless_refused (Some why) number following = stop_at number why

-- earlier changes before the later ones
abbrev pub block_effect_behind : List Change → Result BlockEffect LocalStop → Result BlockEffect LocalStop
block_effect_behind changes (Ok later) = Ok (record { changes = changes ++ later.changes; stamps = later.stamps })
block_effect_behind changes (Err stop) = Err stop

-- what statements do one after the other, the first of them having a number, from where the block stands
abbrev pub statements_effect : Schema → Here → ℕ → List Statement → BlockState → Result BlockEffect LocalStop
statements_effect schema here number [] standing = Ok (record { changes = []; stamps = standing.stamps })
statements_effect schema here number (statement ∷ statements) standing = unless_refused (statement_refusal schema here standing statement) number
    (block_effect_behind (statement_changes schema here standing statement)
    (statements_effect schema here (number + 1) statements (block_state_after schema here standing statement)))

-- where a block begins
abbrev pub block_beginning : Stamps → List Rows → BlockState
block_beginning stamps tables = record { tables = tables; stamps = stamps; side = None }

-- what a block does at a site; else the first statement that is refused, and why. where there are too many statements, the
-- first that is too many
abbrev pub local_effect : Schema → Here → Stamps → List Statement → List Rows → Result BlockEffect LocalStop
local_effect schema here stamps statements tables = cond (nat_le (length statements) most_statements)
    (statements_effect schema here 1 statements (block_beginning stamps tables))
    (stop_at (most_statements + 1) (refusal.LimitReached limit.Statements))
