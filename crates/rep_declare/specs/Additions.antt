-- What a declaration adds to a schema.
use Rattle.std.specs.Prelude.{ℕ, ◌≤◌, ℤ, Bool, true, cond, List, [], ◌∷◌, ◌++◌, length, Option, Some, None}
use Rattle.std.specs.List.{position}
use Rattle.rep_lists.specs.Rising.{put_at}
use Rattle.rep_values.specs.declared.name.TableName.{TableName}
use Rattle.rep_values.specs.declared.value.Value.{Value}
use Rattle.rep_values.specs.Literal.{value_of_literal}
use Rattle.rep_values.specs.Name.{same_bytes}
use Rattle.rep_schema.specs.declared.schema.Schema.{Schema}
use Rattle.rep_schema.specs.declared.schema.SiteEntry.{SiteEntry}
use Rattle.rep_schema.specs.declared.schema.TableEntry.{TableEntry}
use Rattle.rep_schema.specs.declared.schema.Column.{Column}
use Rattle.rep_schema.specs.declared.schema.Group.{Group}
use Rattle.rep_schema.specs.declared.schema.Constraint.{Constraint}
use Rattle.rep_schema.specs.declared.schema.PriorityGroup.{PriorityGroup}
use Rattle.rep_schema.specs.declared.schema.Method.{Method}
use Rattle.rep_schema.specs.declared.schema.Method.TheVariants as method
use Rattle.rep_schema.specs.declared.schema.UniqueMethod.{UniqueMethod}
use Rattle.rep_schema.specs.declared.schema.UniqueMethod.TheVariants as unique
use Rattle.rep_schema.specs.declared.check.Check.{Check}
use Rattle.rep_declare.specs.declared.declaration.Declare.{Declare}
use Rattle.rep_declare.specs.declared.declaration.Declare.TheVariants as declare
use Rattle.rep_declare.specs.declared.declaration.MethodWords.{MethodWords}
use Rattle.rep_declare.specs.declared.declaration.MethodWords.TheVariants as words
use Rattle.rep_declare.specs.declared.declaration.UniqueWords.{UniqueWords}
use Rattle.rep_declare.specs.declared.declaration.UniqueWords.TheVariants as unique_words
use Rattle.rep_schema.specs.Shape.{key_name}
use Rattle.rep_schema.specs.Entries.{master_site, late_site, snapshot_site, plain_table}
use Rattle.rep_schema.specs.Levels.{beside_value}
use Rattle.rep_schema.specs.Named.{is_site, is_table, is_group, is_constraint, is_priority, column_place, places_named}

-- the list with the first element that passes the test changed
abbrev pub with_changed : {X : Type 0} → (X → Bool) → (X → X) → List X → List X
with_changed test change [] = []
with_changed test change (x ∷ xs) = cond (test x) (change x ∷ xs) (x ∷ with_changed test change xs)

abbrev pub place_or_zero : Option ℕ → ℕ
place_or_zero None = 0
place_or_zero (Some place) = place

-- the place of the column of this name, which is there
abbrev pub column_number : List Column → List ℕ → ℕ
column_number columns name = place_or_zero (column_place columns name)

-- the place of the priority group of this name, which is there
abbrev pub priority_number : List PriorityGroup → List ℕ → ℕ
priority_number groups name = place_or_zero (position (is_priority name) groups)

-- the priority groups, with an empty one of this name where there was none
abbrev pub with_priority : List ℕ → List PriorityGroup → List PriorityGroup
with_priority name [] = record { name = name; levels = [] } ∷ []
with_priority name (g ∷ gs) = cond (is_priority name g) (g ∷ gs) (g ∷ with_priority name gs)

-- a method comes with the priority group that it names
abbrev pub with_words_priority : MethodWords → List PriorityGroup → List PriorityGroup
with_words_priority (words.Latest column) groups = groups
with_words_priority (words.Earliest column) groups = groups
with_words_priority words.Overwrite groups = groups
with_words_priority words.Discard groups = groups
with_words_priority words.Additive groups = groups
with_words_priority words.Average groups = groups
with_words_priority (words.Maximum column) groups = groups
with_words_priority (words.Minimum column) groups = groups
with_words_priority (words.Priority column group) groups = with_priority group groups
with_words_priority (words.SitePriority column) groups = groups

-- the method that these words mean in a table, among these priority groups
abbrev pub method_of : List PriorityGroup → List Column → MethodWords → Method
method_of groups columns (words.Latest column) = method.Latest (column_number columns column)
method_of groups columns (words.Earliest column) = method.Earliest (column_number columns column)
method_of groups columns words.Overwrite = method.Overwrite
method_of groups columns words.Discard = method.Discard
method_of groups columns words.Additive = method.Additive
method_of groups columns words.Average = method.Average
method_of groups columns (words.Maximum column) = method.Maximum (column_number columns column)
method_of groups columns (words.Minimum column) = method.Minimum (column_number columns column)
method_of groups columns (words.Priority column group) = method.Priority (column_number columns column) (priority_number groups group)
method_of groups columns (words.SitePriority column) = method.SitePriority (column_number columns column)

-- the method of a constraint that these words mean in a table
abbrev pub unique_method_of : List Column → UniqueWords → UniqueMethod
unique_method_of columns (unique_words.AppendSite column) = unique.AppendSite (column_number columns column)
unique_method_of columns (unique_words.AppendSequence column) = unique.AppendSequence (column_number columns column)
unique_method_of columns unique_words.Discard = unique.Discard

abbrev pub with_groups : List Group → TableEntry → TableEntry
with_groups groups entry = record entry { groups = groups }

abbrev pub with_constraints : List Constraint → TableEntry → TableEntry
with_constraints constraints entry = record entry { constraints = constraints }

abbrev pub with_key_methods : List UniqueMethod → TableEntry → TableEntry
with_key_methods methods entry = record entry { key_methods = methods }

abbrev pub with_checks : List Check → TableEntry → TableEntry
with_checks checks entry = record entry { checks = checks }

abbrev pub made_convergent : TableEntry → TableEntry
made_convergent entry = record entry { convergent = true }

-- a group with one more method
abbrev pub with_method : Method → Group → Group
with_method method group = record group { methods = group.methods ++ method ∷ [] }

-- a constraint with one more method
abbrev pub with_unique_method : UniqueMethod → Constraint → Constraint
with_unique_method method constraint = record constraint { methods = constraint.methods ++ method ∷ [] }

-- a table whose constraint of this name, the primary key's among them, has one more method
abbrev pub with_method_on : List ℕ → UniqueMethod → TableEntry → TableEntry
with_method_on name method entry = cond (same_bytes name key_name)
    (with_key_methods (entry.key_methods ++ method ∷ []) entry)
    (with_constraints (with_changed (is_constraint name) (with_unique_method method) entry.constraints) entry)

-- a priority group with one more level, at its place in rising order of value
abbrev pub with_level : Value → ℤ → PriorityGroup → PriorityGroup
with_level value level group = record group { levels = put_at (beside_value value) (record { value = value; level = level }) group.levels }

-- a site with its level
abbrev pub with_site_level : ℤ → SiteEntry → SiteEntry
with_site_level level site = record site { level = Some level }

abbrev pub with_sites : List SiteEntry → Schema → Schema
with_sites sites schema = record schema { sites = sites }

abbrev pub with_tables : List TableEntry → Schema → Schema
with_tables tables schema = record schema { tables = tables }

abbrev pub with_priorities : List PriorityGroup → Schema → Schema
with_priorities groups schema = record schema { priorities = groups }

-- the schema with its table of this name changed
abbrev pub with_table_changed : TableName → (TableEntry → TableEntry) → Schema → Schema
with_table_changed name change schema = with_tables (with_changed (is_table name) change schema.tables) schema

-- the schema with a declaration that isn't refused
abbrev pub declared : Declare → Schema → Schema
declared (declare.Site name) schema = with_sites (schema.sites ++ master_site name ∷ []) schema
declared (declare.LateSite name) schema = with_sites (schema.sites ++ late_site name ∷ []) schema
declared (declare.SnapSite name master) schema = with_sites (schema.sites ++ snapshot_site name master ∷ []) schema
declared (declare.Table name columns) schema = with_tables (schema.tables ++ plain_table name columns ∷ []) schema
declared (declare.Group table group columns) schema = with_table_changed table
    (λ entry. with_groups (entry.groups ++ record { name = group; columns = places_named entry.columns columns; methods = [] } ∷ []) entry) schema
declared (declare.Method table group method) schema = with_priorities (with_words_priority method schema.priorities) (with_table_changed table
    (λ entry. with_groups (with_changed (is_group group) (with_method (method_of (with_words_priority method schema.priorities) entry.columns method)) entry.groups) entry) schema)
declared (declare.Priority group value level) schema = with_priorities
    (with_changed (is_priority group) (with_level (value_of_literal value) level) (with_priority group schema.priorities)) schema
declared (declare.SiteLevel site level) schema = with_sites (with_changed (is_site site) (with_site_level level) schema.sites) schema
declared (declare.Unique table constraint columns) schema = with_table_changed table
    (λ entry. with_constraints (entry.constraints ++ record { name = constraint; columns = places_named entry.columns columns; methods = [] } ∷ []) entry) schema
declared (declare.UniqueMethod table constraint method) schema = with_table_changed table
    (λ entry. with_method_on constraint (unique_method_of entry.columns method) entry) schema
declared (declare.Check table check column rel value) schema = with_table_changed table
    (λ entry. with_checks (entry.checks ++ record { name = check; column = column_number entry.columns column; rel = rel; value = value_of_literal value } ∷ []) entry) schema
declared (declare.Convergent table) schema = with_table_changed table made_convergent schema

-- a group or a constraint names a column
abbrev pub ColumnNamed : Declare → Type 0
ColumnNamed (declare.Site name) = Unit {0}
ColumnNamed (declare.LateSite name) = Unit {0}
ColumnNamed (declare.SnapSite name master) = Unit {0}
ColumnNamed (declare.Table name columns) = Unit {0}
ColumnNamed (declare.Group table group columns) = 1 ≤ length columns
ColumnNamed (declare.Method table group method) = Unit {0}
ColumnNamed (declare.Priority group value level) = Unit {0}
ColumnNamed (declare.SiteLevel site level) = Unit {0}
ColumnNamed (declare.Unique table constraint columns) = 1 ≤ length columns
ColumnNamed (declare.UniqueMethod table constraint method) = Unit {0}
ColumnNamed (declare.Check table check column rel value) = Unit {0}
ColumnNamed (declare.Convergent table) = Unit {0}
