-- Schemas whose tables have keys.
use Rattle.std.specs.List.{AllByRecursion}
use Rattle.rep_lists.proofs.Each.{each_found}
use Rattle.rep_schema.specs.declared.schema.Schema.{Schema}
use Rattle.rep_schema.specs.declared.schema.TableEntry.{TableEntry}
use Rattle.rep_schema.specs.Tables.{IsKeyed}
use Rattle.conflict_detect.specs.KeysNamed.{HasKeys}

-- where each table has its key columns, the schema has keys
pub keys_of_each : (schema : Schema) → AllByRecursion (λ (entry : TableEntry). IsKeyed entry.columns) schema.tables → HasKeys schema
keys_of_each schema all table below =
    let found = each_found (λ (entry : TableEntry). IsKeyed entry.columns) schema.tables table below all in
    rw found.1 found.2
