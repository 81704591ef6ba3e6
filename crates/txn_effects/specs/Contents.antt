-- The tables and counters of a site, and what a transaction does to them.
use Rattle.std.specs.Prelude.{List, Result}
use Rattle.rep_values.specs.declared.name.SiteName.{SiteName}
use Rattle.rep_schema.specs.declared.schema.Schema.{Schema}
use Rattle.rep_schema.specs.Tables.{Rows, AreTables}
use Rattle.rep_calls.specs.declared.call.Txn.{Txn}
use Rattle.unique_resolve.specs.Numbers.{Numbers, AreCounters}
use Rattle.txn_effects.specs.Calls.{Effect}
use Rattle.txn_effects.specs.Transactions.{Failure, txn_effect, tables_by, numbers_by}

-- the tables and the counters of a site
pub record Content : Type 0 where
  pub tables : List Rows
  pub numbers : Numbers

-- what a transaction from an origin does
abbrev pub effect_on : Schema → SiteName → Txn → Content → Result Effect Failure
effect_on schema origin txn content = txn_effect schema origin txn content.tables content.numbers

-- tables and counters after a transaction from an origin; as before where it fails
abbrev pub content_after : Schema → SiteName → Txn → Content → Content
content_after schema origin txn content = record {
  tables = tables_by schema (effect_on schema origin txn content) content.tables;
  numbers = numbers_by (effect_on schema origin txn content) content.numbers;
}

-- tables and counters of a schema
pub record IsContent (schema : Schema) (content : Content) : Type 0 where
  pub tables : AreTables schema content.tables
  pub counters : AreCounters schema content.numbers
