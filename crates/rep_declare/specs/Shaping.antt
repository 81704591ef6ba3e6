-- The table that a declaration shapes, and the rows that the tables have with it.
use Rattle.std.specs.Prelude.{◌≡◌, List, [], ◌∷◌, ◌++◌, Option, Some, None, IfSome}
use Rattle.rep_values.specs.declared.name.TableName.{TableName}
use Rattle.rep_schema.specs.declared.schema.Schema.{Schema}
use Rattle.rep_schema.specs.Tables.{Rows, rows_of}
use Rattle.rep_schema.specs.Named.{table_place}
use Rattle.rep_declare.specs.declared.declaration.Declare.{Declare}
use Rattle.rep_declare.specs.declared.declaration.Declare.TheVariants as declare

-- the table whose shape a declaration changes
abbrev pub table_shaped : Declare → Option TableName
table_shaped (declare.Site name) = None
table_shaped (declare.LateSite name) = None
table_shaped (declare.SnapSite name master) = None
table_shaped (declare.Table name columns) = None
table_shaped (declare.Group table group columns) = Some table
table_shaped (declare.Method table group method) = Some table
table_shaped (declare.Priority group value level) = None
table_shaped (declare.SiteLevel site level) = None
table_shaped (declare.Unique table constraint columns) = Some table
table_shaped (declare.UniqueMethod table constraint method) = Some table
table_shaped (declare.Check table check column rel value) = Some table
table_shaped (declare.Convergent table) = Some table

-- the table that a declaration shapes, where it is there, has no rows
abbrev pub ShapesNoRows : Schema → List Rows → Declare → Type 0
ShapesNoRows schema tables declaration = IfSome (table_shaped declaration) (λ name. IfSome (table_place schema name) (λ place. rows_of tables place ≡ []))

-- the rows of the tables, where a table that is declared has none yet
abbrev pub rows_with : Declare → List Rows → List Rows
rows_with (declare.Site name) tables = tables
rows_with (declare.LateSite name) tables = tables
rows_with (declare.SnapSite name master) tables = tables
rows_with (declare.Table name columns) tables = tables ++ [] ∷ []
rows_with (declare.Group table group columns) tables = tables
rows_with (declare.Method table group method) tables = tables
rows_with (declare.Priority group value level) tables = tables
rows_with (declare.SiteLevel site level) tables = tables
rows_with (declare.Unique table constraint columns) tables = tables
rows_with (declare.UniqueMethod table constraint method) tables = tables
rows_with (declare.Check table check column rel value) tables = tables
rows_with (declare.Convergent table) tables = tables
