-- The tables and groups of a schema that break a rule.
use Rattle.std.specs.Prelude.{ℕ, Bool, not, ◌==◌, ◌&&◌, nat_le, List, ◌++◌, flat_map, if◌then◌else◌, Option, Some, None, option_to_list}
use Rattle.rep_values.specs.declared.name.TableName.{TableName}
use Rattle.rep_schema.specs.declared.schema.Schema.{Schema}
use Rattle.rep_schema.specs.declared.schema.TableEntry.{TableEntry}
use Rattle.rep_schema.specs.declared.schema.Group.{Group}
use Rattle.schema_rules.specs.Rules.{broken_rule}
use Rattle.schema_advice.specs.declared.broken.BrokenPart.{BrokenPart}
use Rattle.schema_advice.specs.Parts.{table_part, group_table}

-- a rule of groups
abbrev pub is_group_rule : ℕ → Bool
is_group_rule rule = nat_le 3 rule && nat_le rule 9

-- a rule of tables as a whole
abbrev pub is_table_rule : ℕ → Bool
is_table_rule rule = not (rule == 1) && not (is_group_rule rule)

-- a part that breaks this rule, where the rule is of its kind
abbrev pub part_by : (ℕ → Bool) → TableName → Option (List ℕ) → Option ℕ → Option BrokenPart
part_by is_of_kind table group None = None
part_by is_of_kind table group (Some rule) = if is_of_kind rule then Some (record { rule = rule; table = table; group = group }) else None

-- a group, where it breaks a rule of groups with its table alone and alone in it
abbrev pub group_part : Schema → TableEntry → Group → Option BrokenPart
group_part schema table group = part_by is_group_rule table.name (Some group.name) (broken_rule (table_part schema (group_table table group)))

-- a table, where the lowest rule that it breaks alone is one of tables
abbrev pub own_part : Schema → TableEntry → Option BrokenPart
own_part schema table = part_by is_table_rule table.name None (broken_rule (table_part schema table))

-- the groups of a table that do
abbrev pub group_parts : Schema → TableEntry → List BrokenPart
group_parts schema table = flat_map (λ (group : Group). option_to_list (group_part schema table group)) table.groups

-- and behind them the table, if it does
abbrev pub table_parts : Schema → TableEntry → List BrokenPart
table_parts schema table = group_parts schema table ++ option_to_list (own_part schema table)

-- the tables and groups that break a rule, in the order of their declarations
abbrev pub broken_parts : Schema → List BrokenPart
broken_parts schema = flat_map (table_parts schema) schema.tables
