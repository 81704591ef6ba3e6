-- The tables that are stored, with a declaration.
use Rattle.std.specs.Prelude.{◌≡◌, ℕ, List, [], ◌∷◌, ◌++◌, slice_set}
use Rattle.rep_values.specs.declared.name.TableName.{TableName}
use Rattle.rep_schema.specs.declared.schema.Schema.{Schema}
use Rattle.rep_declare.specs.declared.declaration.Declare.{Declare}
use Rattle.rep_declare.specs.declared.declaration.Declare.TheVariants as declare
use Rattle.rep_declare.specs.Additions.{declared}
use Rattle.rep_declare.specs.Shaping.{rows_with}
use Rattle.page_tables.specs.declared.change.Change.{Change}
use Rattle.page_tables.specs.declared.change.Change.TheVariants as change
use Rattle.page_tables.specs.Stored.{StoredTable, rows_in, AreIndexed}

-- the stored tables with a change
abbrev pub changed : Change → List StoredTable → List StoredTable
changed change.Nothing stored = stored
changed (change.Table rows) stored = stored ++ rows ∷ []
changed (change.Index place rows) stored = slice_set stored place rows

-- the rows that the tables have with a declaration, and an index for each constraint that they have then
pub record AreStoredWith (declaration : Declare) (schema : Schema) (before after : List StoredTable) : Type 0 where
  pub rows : rows_in after ≡ rows_with declaration (rows_in before)
  pub indexed : AreIndexed (declared declaration schema).tables after

-- and so with a constraint of these columns, of whatever name
abbrev pub AreStoredWithUnique : TableName → List (List ℕ) → Schema → List StoredTable → List StoredTable → Type 0
AreStoredWithUnique table columns schema before after = (name : List ℕ) → AreStoredWith (declare.Unique table name columns) schema before after
