-- The keys of the rows that calls name.
use Rattle.std.specs.Prelude.{ℕ, ◌<◌, length}
use Rattle.rep_schema.specs.declared.schema.Schema.{Schema}
use Rattle.rep_schema.specs.Tables.{Cells, columns_of, key_of, IsKeyed}
use Rattle.rep_calls.specs.declared.call.Call.{Call}
use Rattle.rep_calls.specs.declared.call.Call.TheVariants.{Insert, Update, Delete}

-- every table has 1 to 4 key columns
abbrev pub HasKeys : Schema → Type 0
HasKeys schema = (table : ℕ) → table < length schema.tables → IsKeyed (columns_of schema table)

-- the key of the row that a call names
abbrev pub key_named : Schema → Call → Cells
key_named schema (Insert table row) = key_of (columns_of schema table) row
key_named schema (Update table key parts) = key
key_named schema (Delete table row) = key_of (columns_of schema table) row
