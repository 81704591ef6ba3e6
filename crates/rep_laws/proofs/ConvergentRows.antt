-- What a call leaves of a row of a convergent table: no constraint and no method of the key has a say there.
use Rattle.std.proofs.Common.{◌≡◌, ℕ, ◌<◌, ◌==◌, Bool, true, false, cond, List, [], ◌∷◌, length, Some, None, Ok, refl, sym, ap, ◌∙◌, arith}
use Rattle.std.specs.Prelude.{Option, ◌&&◌, ◌||◌, not, slice_get, is_some}
use Rattle.std.proofs.lemmas.Bool.{eqb-true}
use Rattle.std.proofs.lemmas.Option.{slice_get_within}
use Rattle.rep_values.specs.declared.name.SiteName.{SiteName}
use Rattle.rep_schema.specs.declared.schema.Schema.{Schema}
use Rattle.rep_schema.specs.declared.schema.TableEntry.{TableEntry}
use Rattle.rep_schema.specs.Tables.{Cells, Rows, columns_of, constraints_of, constraints_in, key_of, find_row, rows_of}
use Rattle.rep_schema.specs.Groups.{shadow_from}
use Rattle.rep_schema.specs.Checks.{failed_check}
use Rattle.rep_calls.specs.declared.call.Call.{Call}
use Rattle.rep_calls.specs.declared.call.Call.TheVariants.{Insert, Update, Delete}
use Rattle.rep_calls.specs.declared.call.Part.{Part}
use Rattle.unique_resolve.specs.declared.settled.Settled.TheVariants.{Fits}
use Rattle.unique_resolve.specs.Numbers.{Numbers}
use Rattle.unique_resolve.specs.Settling.{key_taken, key_methods_in, settlement_of}
use Rattle.schema_rules.specs.ConvergentRules.{has_groups_alone}
use Rattle.schema_rules.proofs.SoundRules.{KeepsAllRules-unbroken}
use Rattle.txn_effects.specs.Parts.{settled_parts}
use Rattle.txn_effects.specs.Calls.{RowEffect, effect_by, settled_effect, row_effect}
use Rattle.txn_effects.proofs.Results.{result_then-Ok}
use Rattle.txn_effects.proofs.CallEffects.{checked_effect-Ok}
use Rattle.txn_effects.specs.Convergent.{convergent_in, is_convergent}
use Rattle.rep_laws.specs.Commuting.{IsSound}
use Rattle.rep_laws.proofs.SettledFree.{settlement_of-free}
use Rattle.rep_laws.proofs.FormShapes.{passes}

-- what a convergent table lacks
pub record StandsAlone (schema : Schema) (table : ℕ) : Type 0 where
  pub below : table < length schema.tables
  pub constraints : constraints_of schema table ≡ []
  pub key_methods : key_methods_in (slice_get schema.tables table) ≡ []

pub no_length : {X : Type 0} (xs : List X) → (length xs == 0) ≡ true → xs ≡ []
no_length [] e = refl
no_length (x ∷ xs) e = absurd (omega (arith, eqb-true (length (x ∷ xs)) 0 e))

pub both_hold : (a b : Bool) → (a && b) ≡ true → (a ≡ true) × (b ≡ true)
both_hold true b holds = (refl, holds)
both_hold false b holds = cc

pub StandsAlone-convergent : (schema : Schema) → IsSound schema → (table : ℕ) → is_convergent schema table ≡ true → StandsAlone schema table
StandsAlone-convergent schema sound table convergent = go (slice_get schema.tables table) refl convergent
  where
    tested : (c test : Bool) → c ≡ true → (not c || test) ≡ true → test ≡ true
    tested true test is holds = holds
    tested false test is holds = cc

    go : (entry : Option TableEntry) → slice_get schema.tables table ≡ entry → convergent_in entry ≡ true → StandsAlone schema table
    go None at is = cc
    go (Some entry) at is =
        let rule = passes (λ (t : TableEntry). not t.convergent || has_groups_alone t) schema.tables table entry ((KeepsAllRules-unbroken schema).1 sound.unbroken).groups_alone at in
        let alone = tested entry.convergent (has_groups_alone entry) is rule in
        let outer = both_hold ((length entry.constraints == 0) && (length (shadow_from entry.groups 0 entry.columns) == 0)) (length entry.key_methods == 0) alone in
        let inner = both_hold (length entry.constraints == 0) (length (shadow_from entry.groups 0 entry.columns) == 0) outer.0 in
        record {
          below = slice_get_within schema.tables table entry at;
          constraints = ap constraints_in at ∙ no_length entry.constraints inner.0;
          key_methods = ap key_methods_in at ∙ no_length entry.key_methods outer.1;
        }

-- what a call that succeeds does to its row: an insert puts it where none was; an update's parts lead from the row that is there
abbrev pub Leaves : Schema → Call → Option Cells → Option Cells → Type 0
Leaves schema (Insert table row) before after = (before ≡ None) × (after ≡ Some row)
Leaves schema (Update table key parts) before after = (found : Cells) × (before ≡ Some found) × (row : Cells) × (settled_parts schema table parts found ≡ Ok row) × (after ≡ Some row)
Leaves schema (Delete table row) before after = Unit {0}

module _ (schema : Schema) (tables : List Rows) (numbers : Numbers) (origin : SiteName) where
  -- a row that is settled alone is put as it is
  put_alone : (table : ℕ) → StandsAlone schema table → (inserting : Bool) (row : Cells) (before : Option Cells) (effect : RowEffect)
      → settled_effect schema table (settlement_of schema tables numbers origin table inserting row) before ≡ Ok effect
      → ((inserting && is_some (find_row (columns_of schema table) (key_of (columns_of schema table) row) (rows_of tables table))) ≡ false) × (effect.after ≡ Some row)
  put_alone table alone inserting row before effect gives =
      go (inserting && is_some (find_row (columns_of schema table) (key_of (columns_of schema table) row) (rows_of tables table)))
      (rw (settlement_of-free schema tables numbers origin table inserting row (rw alone.constraints tt), alone.key_methods) at gives)
    where
      go : (b : Bool) → effect_by schema table (cond b (key_taken []) (Fits row)) before numbers ≡ Ok effect → (b ≡ false) × (effect.after ≡ Some row)
      go true e = cc
      go false e = (refl, sym (ap (λ (x : RowEffect). x.after) (checked_effect-Ok (failed_check schema table row) row numbers effect e).1))

  not_there : (o : Option Cells) → (true && is_some o) ≡ false → o ≡ None
  not_there None e = refl
  not_there (Some x) e = cc

  pub Leaves-insert : (table : ℕ) → StandsAlone schema table → (row : Cells) (before : Option Cells) (effect : RowEffect)
      → before ≡ find_row (columns_of schema table) (key_of (columns_of schema table) row) (rows_of tables table)
      → row_effect schema tables numbers origin (Insert table row) before ≡ Ok effect → Leaves schema (Insert table row) before effect.after
  Leaves-insert table alone row before effect was gives =
      let put = put_alone table alone true row before effect gives in
      (was ∙ not_there (find_row (columns_of schema table) (key_of (columns_of schema table) row) (rows_of tables table)) put.0, put.1)

  pub Leaves-update : (table : ℕ) → StandsAlone schema table → (key : Cells) (parts : List Part) (before : Option Cells) (effect : RowEffect)
      → row_effect schema tables numbers origin (Update table key parts) before ≡ Ok effect → Leaves schema (Update table key parts) before effect.after
  Leaves-update table alone key parts None effect gives = cc
  Leaves-update table alone key parts (Some found) effect gives =
      let settled = result_then-Ok (settled_parts schema table parts found) (λ row. settled_effect schema table (settlement_of schema tables numbers origin table false row) (Some found)) effect gives in
      (found, refl, settled.0, settled.1, (put_alone table alone false settled.0 (Some found) effect settled.2).1)
