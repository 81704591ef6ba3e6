-- The shape of a schema: its counts are within the limits, its names are distinct, levels rise by value, and each place in it is the place of something.
use Rattle.std.specs.Prelude.{◌≡◌, ◌≢◌, ℕ, ◌<◌, ◌≤◌, Bool, true, not, ◌&&◌, List, [], length, map, codes, Option, Some, None, is_some, is_none, IfSome, Any}
use Rattle.std.specs.List.{All, AllPairs, Contains, count_by}
use Rattle.std.specs.List.Sorted.{IsStrictlyIncreasing}
use Rattle.rep_lists.specs.Rising.{IsRising}
use Rattle.rep_schema.specs.declared.schema.Schema.{Schema}
use Rattle.rep_schema.specs.declared.schema.SiteEntry.{SiteEntry}
use Rattle.rep_schema.specs.declared.schema.TableEntry.{TableEntry}
use Rattle.rep_schema.specs.declared.schema.Group.{Group}
use Rattle.rep_schema.specs.declared.schema.Constraint.{Constraint}
use Rattle.rep_schema.specs.declared.schema.PriorityGroup.{PriorityGroup}
use Rattle.rep_schema.specs.declared.schema.Method.{Method}
use Rattle.rep_schema.specs.declared.schema.Method.TheVariants as method
use Rattle.rep_schema.specs.declared.schema.UniqueMethod.{UniqueMethod}
use Rattle.rep_schema.specs.declared.schema.UniqueMethod.TheVariants as unique
use Rattle.rep_schema.specs.Limits.{most_masters, most_snapshots, most_tables, most_columns, most_keys, most_methods, most_constraints, most_levels, most_checks}
use Rattle.rep_schema.specs.Tables.{key_count}
use Rattle.rep_schema.specs.Levels.{by_value}

-- the name of the columns in no named group
abbrev pub shadow_name : List ℕ
shadow_name = codes "shadow"

-- the name of the primary key's constraint
abbrev pub key_name : List ℕ
key_name = codes "key"

-- no value is there twice
abbrev pub AreDistinct : {X : Type 0} → List X → Type 0
AreDistinct xs = AllPairs (λ x y. x ≢ y) xs

-- nothing is in both lists
abbrev pub ShareNone : List ℕ → List ℕ → Type 0
ShareNone xs ys = (x : ℕ) → Contains xs x → ¬ Contains ys x

-- at least one column of so many, in rising order
pub record AreColumns (width : ℕ) (places : List ℕ) : Type 0 where
  pub some : 1 ≤ length places
  pub rising : IsStrictlyIncreasing places
  pub in_range : All (λ place. place < width) places

-- the column that a method names
abbrev pub method_column : Method → Option ℕ
method_column (method.Latest column) = Some column
method_column (method.Earliest column) = Some column
method_column method.Overwrite = None
method_column method.Discard = None
method_column method.Additive = None
method_column method.Average = None
method_column (method.Maximum column) = Some column
method_column (method.Minimum column) = Some column
method_column (method.Priority column group) = Some column
method_column (method.SitePriority column) = Some column

-- the priority group that a method names
abbrev pub method_priority : Method → Option ℕ
method_priority (method.Latest column) = None
method_priority (method.Earliest column) = None
method_priority method.Overwrite = None
method_priority method.Discard = None
method_priority method.Additive = None
method_priority method.Average = None
method_priority (method.Maximum column) = None
method_priority (method.Minimum column) = None
method_priority (method.Priority column group) = Some group
method_priority (method.SitePriority column) = None

-- the column that a method of a constraint names
abbrev pub unique_column : UniqueMethod → Option ℕ
unique_column (unique.AppendSite column) = Some column
unique_column (unique.AppendSequence column) = Some column
unique_column unique.Discard = None

-- a place is one of so many, where one is named
abbrev pub IsPlaceIn : ℕ → Option ℕ → Type 0
IsPlaceIn number place = IfSome place (λ p. p < number)

-- a named group of a table with so many columns, in a schema with so many priority groups
pub record HasGroupShape (width priorities : ℕ) (group : Group) : Type 0 where
  pub columns : AreColumns width group.columns
  pub methods : length group.methods ≤ most_methods
  pub method_columns : All (λ m. IsPlaceIn width (method_column m)) group.methods
  pub method_priorities : All (λ m. IsPlaceIn priorities (method_priority m)) group.methods

-- the methods of a constraint of a table with so many columns
pub record HaveMethodShape (width : ℕ) (methods : List UniqueMethod) : Type 0 where
  pub number : length methods ≤ most_methods
  pub columns : All (λ m. IsPlaceIn width (unique_column m)) methods

-- a secondary constraint of a table with so many columns
pub record HasConstraintShape (width : ℕ) (constraint : Constraint) : Type 0 where
  pub columns : AreColumns width constraint.columns
  pub methods : HaveMethodShape width constraint.methods

-- a table of a schema with so many priority groups
pub record HasTableShape (priorities : ℕ) (entry : TableEntry) : Type 0 where
  pub columns : length entry.columns ≤ most_columns
  pub column_names : AreDistinct (map (λ c. c.name) entry.columns)
  pub keys : key_count entry.columns ≤ most_keys
  pub key_methods : HaveMethodShape (length entry.columns) entry.key_methods
  pub groups : All (HasGroupShape (length entry.columns) priorities) entry.groups
  pub group_names : AreDistinct (map (λ g. g.name) entry.groups)
  pub shadow_free : All (λ g. g.name ≢ shadow_name) entry.groups
  pub groups_apart : AllPairs (λ g h. ShareNone g.columns h.columns) entry.groups
  pub constraints : All (HasConstraintShape (length entry.columns)) entry.constraints
  pub constraint_number : length entry.constraints ≤ most_constraints
  pub constraint_names : AreDistinct (map (λ c. c.name) entry.constraints)
  pub key_free : All (λ c. c.name ≢ key_name) entry.constraints
  pub constraints_apart : AllPairs (λ c d. ShareNone c.columns d.columns) entry.constraints
  pub checks : All (λ c. c.column < length entry.columns) entry.checks
  pub check_number : length entry.checks ≤ most_checks
  pub check_names : AreDistinct (map (λ c. c.name) entry.checks)

-- the levels of a priority group: one for each value, in rising order of value
pub record HasLevelShape (group : PriorityGroup) : Type 0 where
  pub number : length group.levels ≤ most_levels
  pub rising : IsRising by_value group.levels

-- a site without a master is a master site, there from the start or late
abbrev pub is_master : SiteEntry → Bool
is_master site = is_none site.master

-- a master site that is there from the start
abbrev pub is_early_master : SiteEntry → Bool
is_early_master site = is_master site && not site.late

-- a site with a master is a snapshot site
abbrev pub is_snapshot : SiteEntry → Bool
is_snapshot site = is_some site.master

-- the master of a site, if it has one, is a master site among these that is there from the start
abbrev pub HasMaster : List SiteEntry → SiteEntry → Type 0
HasMaster sites site = IfSome site.master (λ master. Any (λ s. (s.name ≡ master) × (is_early_master s ≡ true)) sites)

-- counts within the limits, distinct names, levels in rising order of value, and places of what is there
pub record HasShape (schema : Schema) : Type 0 where
  pub masters : count_by is_master schema.sites ≤ most_masters
  pub snapshots : count_by is_snapshot schema.sites ≤ most_snapshots
  pub site_names : AreDistinct (map (λ s. s.name) schema.sites)
  pub site_masters : All (HasMaster schema.sites) schema.sites
  pub tables : All (HasTableShape (length schema.priorities)) schema.tables
  pub table_number : length schema.tables ≤ most_tables
  pub table_names : AreDistinct (map (λ t. t.name) schema.tables)
  pub priorities : All HasLevelShape schema.priorities
  pub priority_names : AreDistinct (map (λ p. p.name) schema.priorities)

-- the schema in which nothing is declared
abbrev pub no_schema : Schema
no_schema = record { sites = []; tables = []; priorities = [] }
