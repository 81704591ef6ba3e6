-- Laws of local transactions.
use Rattle.std.specs.Prelude.{◌≡◌, ℕ, ◌<◌, ◌≤◌, Bool, true, false, List, [], ◌∷◌, Option, Some, None, Ok, slice_get}
use Rattle.std.specs.Bool.{MatchBool}
use Rattle.rep_values.specs.declared.name.SiteName.{SiteName}
use Rattle.rep_schema.specs.declared.schema.Schema.{Schema}
use Rattle.rep_schema.specs.declared.schema.Column.{Column}
use Rattle.rep_schema.specs.declared.change.Change.{Change}
use Rattle.rep_schema.specs.Shape.{HasShape}
use Rattle.rep_schema.specs.Tables.{Cells, Rows, columns_of, AreTables}
use Rattle.rep_schema.specs.Kinds.{is_filled}
use Rattle.rep_calls.specs.declared.statement.Statement.{Statement}
use Rattle.schema_rules.specs.Rules.{broken_rule}
use Rattle.txn_effects.specs.declared.local.Here.{Here}
use Rattle.txn_effects.specs.declared.local.Stamps.{Stamps}
use Rattle.txn_effects.specs.Filled.{Filling, filling_value, is_modified, bound_from, has_stamp_from}
use Rattle.txn_effects.specs.Locals.{BlockEffect, local_effect}
use Rattle.local_txn.specs.BaseRows.{FillsFreely}

-- the places at which a change fills columns in: all of a new row, those of its modified groups of a changed one
abbrev pub filled_places : Schema → ℕ → Option Cells → Option Cells → ℕ → Bool
filled_places schema table before None place = false
filled_places schema table None (Some after) place = true
filled_places schema table (Some before) (Some after) place = is_modified schema table before after place

-- a change fills a STAMP column in
abbrev pub gives_stamp : Schema → Change → Bool
gives_stamp schema change = has_stamp_from (filled_places schema change.table change.before change.after) 0 (columns_of schema change.table)

-- the row has at this place what a site fills in there
abbrev pub IsFilledAt : Filling → List Column → Cells → ℕ → Type 0
IsFilledAt filling columns row place = (column : Column) → slice_get columns place ≡ Some column → is_filled column ≡ true
    → slice_get row place ≡ Some (filling_value filling column)

abbrev pub CarriesIn : Schema → Filling → ℕ → Option Cells → Option Cells → Type 0
CarriesIn schema filling table before None = Unit {0}
CarriesIn schema filling table None (Some after) = (place : ℕ) → IsFilledAt filling (columns_of schema table) after place
CarriesIn schema filling table (Some before) (Some after) = ((place : ℕ) → is_modified schema table before after place ≡ true
    → IsFilledAt filling (columns_of schema table) after place)
    × (bound_from (is_modified schema table before after) 0 (columns_of schema table) before ≤ filling.stamp)

-- all that a change fills in is the stamp and the site's name, and the stamp is above those that were there
abbrev pub CarriesStamp : Schema → Filling → Change → Type 0
CarriesStamp schema filling change = CarriesIn schema filling change.table change.before change.after

-- the stamps of changes rise, from above one number to another: each change that fills a STAMP column in has a stamp of its own
abbrev pub StampsRise : Schema → SiteName → ℕ → ℕ → List Change → Type 0
StampsRise schema site low high [] = low ≡ high
StampsRise schema site low high (change ∷ changes) = (stamp : ℕ) × CarriesStamp schema (record { stamp = stamp; site = site }) change
    × MatchBool (gives_stamp schema change) ((low < stamp) × StampsRise schema site stamp high changes) (StampsRise schema site low high changes)

-- the stamps of a block rise from the site's last one to the one that is its last afterwards, and the clock stands still
pub record GivesStamps (schema : Schema) (site : SiteName) (stamps : Stamps) (effect : BlockEffect) : Type 0 where
  pub rise : StampsRise schema site stamps.last effect.stamps.last effect.changes
  pub clock : effect.stamps.clock ≡ stamps.clock

abbrev pub StampsOfABlockRise : Type 0
StampsOfABlockRise = (schema : Schema) (here : Here) (stamps : Stamps) (statements : List Statement) (tables : List Rows) (effect : BlockEffect)
    → HasShape schema → AreTables schema tables
    → local_effect schema here stamps statements tables ≡ Ok effect → GivesStamps schema here.site stamps effect

-- a schema that breaks no rule fills its base rows freely
abbrev pub SoundSchemasFillFreely : Type 0
SoundSchemasFillFreely = (schema : Schema) → broken_rule schema ≡ None → FillsFreely schema
