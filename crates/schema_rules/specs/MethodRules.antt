-- The rules of the methods of groups.
use Rattle.std.specs.Prelude.{ℕ, nat_le, Bool, true, false, not, ◌&&◌, ◌||◌, ◌==◌, List, length, Option, Some, None, slice_get}
use Rattle.std.specs.List.{list_any, list_all}
use Rattle.rep_schema.specs.declared.schema.Schema.{Schema}
use Rattle.rep_schema.specs.declared.schema.Column.{Column}
use Rattle.rep_schema.specs.declared.schema.Group.{Group}
use Rattle.rep_schema.specs.declared.schema.PriorityGroup.{PriorityGroup}
use Rattle.rep_schema.specs.declared.schema.Method.{Method}
use Rattle.rep_schema.specs.declared.schema.Method.TheVariants as method
use Rattle.rep_schema.specs.Shape.{method_column, method_priority}
use Rattle.rep_schema.specs.Kinds.{is_some_and, is_none_or, is_number, is_time, takes_amounts, is_plain, is_site_kind, has_kind, has_place}

-- each group of each table passes a test, which is given the table's columns
abbrev pub each_group : (List Column → Group → Bool) → Schema → Bool
each_group test schema = list_all (λ table. list_all (test table.columns) table.groups) schema.tables

-- each method of each group passes a test, which is given the table's columns
abbrev pub each_method : (List Column → Method → Bool) → Schema → Bool
each_method test schema = each_group (λ columns group. list_all (test columns) group.methods) schema

-- the column that a method of a group names is in the group
abbrev pub names_own_columns : Group → Bool
names_own_columns group = list_all (λ m. is_none_or (has_place group.columns) (method_column m)) group.methods

-- additive or average
abbrev pub is_arithmetic : Method → Bool
is_arithmetic method.Additive = true
is_arithmetic method.Average = true
is_arithmetic _ = false

-- exactly one column, a NUMBER
abbrev pub is_one_number : List Column → List ℕ → Bool
is_one_number columns places = length places == 1 && list_all (has_kind is_number columns) places

-- a group with additive or average has exactly one column, a NUMBER
abbrev pub adds_one_number : List Column → Group → Bool
adds_one_number columns group = not (list_any is_arithmetic group.methods) || is_one_number columns group.columns

-- the column of latest and earliest
abbrev pub time_column : Method → Option ℕ
time_column (method.Latest column) = Some column
time_column (method.Earliest column) = Some column
time_column _ = None

-- the column of maximum and minimum
abbrev pub extreme_column : Method → Option ℕ
extreme_column (method.Maximum column) = Some column
extreme_column (method.Minimum column) = Some column
extreme_column _ = None

-- the column of priority
abbrev pub ranked_column : Method → Option ℕ
ranked_column (method.Priority column group) = Some column
ranked_column _ = None

-- the column of site-priority
abbrev pub site_column : Method → Option ℕ
site_column (method.SitePriority column) = Some column
site_column _ = None

-- the column of latest and earliest is a DATE or a STAMP
abbrev pub compares_times : List Column → Method → Bool
compares_times columns m = is_none_or (has_kind is_time columns) (time_column m)

-- the column of maximum and minimum is a NUMBER or a DATE
abbrev pub compares_amounts : List Column → Method → Bool
compares_amounts columns m = is_none_or (has_kind takes_amounts columns) (extreme_column m)

-- there is a priority group at a place, and it has a level
abbrev pub has_level_at : List PriorityGroup → ℕ → Bool
has_level_at priorities place = is_some_and (λ group. nat_le 1 (length group.levels)) (slice_get priorities place)

-- the column of priority is a NUMBER, TEXT or DATE, and the priority group has a level
abbrev pub ranks_plain_values : List PriorityGroup → List Column → Method → Bool
ranks_plain_values priorities columns m = is_none_or (has_kind is_plain columns) (ranked_column m) && is_none_or (has_level_at priorities) (method_priority m)

-- the column of site-priority is a SITE
abbrev pub compares_sites : List Column → Method → Bool
compares_sites columns m = is_none_or (has_kind is_site_kind columns) (site_column m)
