-- The table that a statement names.
use Rattle.std.specs.Prelude.{ℕ, Bool, cond, Option, Some, None}
use Rattle.rep_values.specs.declared.name.TableName.{TableName}
use Rattle.rep_schema.specs.declared.schema.Schema.{Schema}
use Rattle.rep_calls.specs.declared.statement.Statement.{Statement}
use Rattle.rep_calls.specs.declared.statement.Statement.TheVariants.{Insert, Update, Delete}
use Rattle.rep_schema.specs.Named.{table_place}
use Rattle.rep_schema.specs.Sites.{has_table}
use Rattle.txn_effects.specs.declared.local.Here.{Here}

-- the name of the table that a statement is about
abbrev pub statement_table : Statement → TableName
statement_table (Insert table values) = table
statement_table (Update table key sets) = table
statement_table (Delete table key) = table

-- a site holds the table of a number
abbrev pub holds : Here → ℕ → Bool
holds here table = has_table here.tables table

abbrev pub held_of : Here → Option ℕ → Option ℕ
held_of here None = None
held_of here (Some table) = cond (holds here table) (Some table) None

-- the number of the table that a statement names, where it is known and held here
abbrev pub held_table : Schema → Here → Statement → Option ℕ
held_table schema here statement = held_of here (table_place schema (statement_table statement))
