-- What a schema that breaks no rule has.
use Rattle.std.specs.Prelude.{◌≡◌, None}
use Rattle.rep_schema.specs.declared.schema.Schema.{Schema}
use Rattle.rep_schema.specs.Shape.{HasShape}
use Rattle.schema_rules.specs.Rules.{broken_rule}
use Rattle.txn_effects.specs.Calls.{KeysStandAlone}
use Rattle.conflict_detect.specs.KeysNamed.{HasKeys}

-- a schema that breaks no rule has keys, and they stand alone
abbrev pub SoundSchemasHaveKeys : Type 0
SoundSchemasHaveKeys = (schema : Schema) → HasShape schema → broken_rule schema ≡ None → HasKeys schema × KeysStandAlone schema
