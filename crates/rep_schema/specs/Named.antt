-- What a schema has under a name, and the names of its groups.
use Rattle.std.specs.Prelude.{ℕ, ◌+◌, ◌==◌, Bool, cond, ◌&&◌, List, [], ◌∷◌, Option, Some, None, slice_get}
use Rattle.std.specs.List.{find, list_any, position}
use Rattle.rep_values.specs.declared.name.SiteName.{SiteName}
use Rattle.rep_values.specs.declared.name.TableName.{TableName}
use Rattle.rep_values.specs.Name.{same_bytes}
use Rattle.rep_schema.specs.declared.schema.Schema.{Schema}
use Rattle.rep_schema.specs.declared.schema.SiteEntry.{SiteEntry}
use Rattle.rep_schema.specs.declared.schema.TableEntry.{TableEntry}
use Rattle.rep_schema.specs.declared.schema.Column.{Column}
use Rattle.rep_schema.specs.declared.schema.Group.{Group}
use Rattle.rep_schema.specs.declared.schema.Constraint.{Constraint}
use Rattle.rep_schema.specs.declared.schema.PriorityGroup.{PriorityGroup}
use Rattle.rep_schema.specs.declared.check.Check.{Check}
use Rattle.rep_schema.specs.declared.schema.UniqueMethod.{UniqueMethod}
use Rattle.rep_schema.specs.Shape.{is_early_master, shadow_name, key_name}
use Rattle.rep_schema.specs.Groups.{shadow_group, groups_of}

abbrev pub is_site : SiteName → SiteEntry → Bool
is_site name site = same_bytes site.name.0 name.0

abbrev pub is_table : TableName → TableEntry → Bool
is_table name table = same_bytes table.name.0 name.0

abbrev pub is_column : List ℕ → Column → Bool
is_column name column = same_bytes column.name name

abbrev pub is_group : List ℕ → Group → Bool
is_group name group = same_bytes group.name name

abbrev pub is_constraint : List ℕ → Constraint → Bool
is_constraint name constraint = same_bytes constraint.name name

abbrev pub is_priority : List ℕ → PriorityGroup → Bool
is_priority name group = same_bytes group.name name

-- the site of this name
abbrev pub site_named : Schema → SiteName → Option SiteEntry
site_named schema name = find (is_site name) schema.sites

-- a master site that is there from the start has this name
abbrev pub has_master : Schema → SiteName → Bool
has_master schema name = list_any (λ site. is_site name site && is_early_master site) schema.sites

-- the table of this name
abbrev pub table_named : Schema → TableName → Option TableEntry
table_named schema name = find (is_table name) schema.tables

-- the number of the table of this name
abbrev pub table_place : Schema → TableName → Option ℕ
table_place schema name = position (is_table name) schema.tables

-- the group of this name of a table
abbrev pub group_named : TableEntry → List ℕ → Option Group
group_named table name = find (is_group name) table.groups

-- the secondary constraint of this name of a table
abbrev pub constraint_named : TableEntry → List ℕ → Option Constraint
constraint_named table name = find (is_constraint name) table.constraints

abbrev pub is_check : List ℕ → Check → Bool
is_check name check = same_bytes check.name name

-- the check of this name of a table
abbrev pub check_named : TableEntry → List ℕ → Option Check
check_named table name = find (is_check name) table.checks

abbrev pub constraint_methods : Option Constraint → Option (List UniqueMethod)
constraint_methods None = None
constraint_methods (Some constraint) = Some constraint.methods

-- the methods of the constraint of this name of a table, the primary key's among them
abbrev pub methods_named : TableEntry → List ℕ → Option (List UniqueMethod)
methods_named table name = cond (same_bytes name key_name) (Some table.key_methods) (constraint_methods (constraint_named table name))

-- the priority group of this name
abbrev pub priority_named : Schema → List ℕ → Option PriorityGroup
priority_named schema name = find (is_priority name) schema.priorities

-- the column of this name
abbrev pub column_named : List Column → List ℕ → Option Column
column_named columns name = find (is_column name) columns

-- the place of the column of this name
abbrev pub column_place : List Column → List ℕ → Option ℕ
column_place columns name = position (is_column name) columns

-- a column has this name
abbrev pub has_column : List Column → List ℕ → Bool
has_column columns name = list_any (is_column name) columns

-- the places, counted from n, of the columns that these names name, in the table's order
abbrev pub places_from : List (List ℕ) → ℕ → List Column → List ℕ
places_from names n [] = []
places_from names n (c ∷ cs) = cond (list_any (same_bytes c.name) names) (n ∷ places_from names (n + 1) cs) (places_from names (n + 1) cs)

-- the places of the columns that these names name, in the table's order
abbrev pub places_named : List Column → List (List ℕ) → List ℕ
places_named columns names = places_from names 0 columns

-- a column stands in one of these constraints
abbrev pub is_constrained : List Constraint → ℕ → Bool
is_constrained constraints column = list_any (λ constraint. list_any (λ c. c == column) constraint.columns) constraints

abbrev pub name_in : Option Group → List ℕ
name_in None = shadow_name
name_in (Some group) = group.name

-- the name of a table's group, by the group's number
abbrev pub group_name : Schema → ℕ → ℕ → List ℕ
group_name schema table group = cond (group == shadow_group) shadow_name (name_in (slice_get (groups_of schema table) group))
