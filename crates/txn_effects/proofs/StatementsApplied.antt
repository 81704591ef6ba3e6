-- Statements that aren't refused lead from tables to tables.
use Rattle.std.proofs.Common.{◌≡◌, ◌⊎◌, ℕ, ◌+◌, ◌<◌, ◌≤◌, Bool, List, [], ◌∷◌, ◌++◌, length, refl, sym, ◌∙◌}
use Rattle.std.specs.Prelude.{Option, Some, None}
use Rattle.std.specs.List.{position}
use Rattle.std.proofs.lemmas.List.Quantifiers.{position-Some}
use Rattle.rep_schema.specs.declared.schema.Schema.{Schema}
use Rattle.rep_schema.specs.Shape.{HasShape}
use Rattle.rep_schema.specs.Tables.{AreTables}
use Rattle.rep_schema.specs.Named.{is_table, table_place}
use Rattle.rep_calls.specs.declared.statement.Statement.{Statement}
use Rattle.txn_effects.specs.Calls.{KeysStandAlone}
use Rattle.conflict_detect.specs.KeysNamed.{HasKeys}
use Rattle.txn_effects.specs.Laws.{IsApplied}
use Rattle.txn_effects.specs.declared.local.Here.{Here}
use Rattle.txn_effects.specs.Held.{statement_table, held_table}
use Rattle.txn_effects.specs.Statements.{BlockState, statement_refusal, statement_changes}
use Rattle.txn_effects.specs.NewRows.{CanRun}
use Rattle.txn_effects.proofs.StatementEffects.{effect_with, IsApplied-statement, place-held, refusal-held, changes-held}

-- a place that is found lies within
pub place_within : {X : Type 0} (test : X → Bool) (xs : List X) (place : ℕ) → position test xs ≡ Some place → place < length xs
place_within test [] place found = cc
place_within test (x ∷ xs) place found = (position-Some test (x ∷ xs) place x found).0

module _ (schema : Schema) (here : Here) where
  module _ (shape : HasShape schema) (keys : HasKeys schema) (apart : KeysStandAlone schema) where
    -- a statement that isn't refused leads by its change from the tables before it to those after it
    pub IsApplied-one : (standing : BlockState) (statement : Statement) → AreTables schema standing.tables → statement_refusal schema here standing statement ≡ None
        → IsApplied schema standing.tables (effect_with schema (statement_changes schema here standing statement))
    IsApplied-one standing statement are none = go (held_table schema here statement) refl
      where
        go : (place : Option ℕ) → held_table schema here statement ≡ place → IsApplied schema standing.tables (effect_with schema (statement_changes schema here standing statement))
        go None gone = let refuses = rw gone at none in cc
        go (Some table) held =
            let below : table < length schema.tables = place_within (is_table (statement_table statement)) schema.tables table (place-held here (table_place schema (statement_table statement)) table held) in
            let able : CanRun schema standing.tables table = record { shape = shape; keyed = keys table below; are = are; of_table = below } in
            rw (changes-held schema here standing statement table held)
            (IsApplied-statement schema here standing table able keys apart statement (sym (refusal-held schema here standing statement table held) ∙ none))
