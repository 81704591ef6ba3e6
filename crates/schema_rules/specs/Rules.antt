-- The rules of a schema. A schema is sound where none is broken.
use Rattle.std.specs.Prelude.{ℕ, ◌+◌, Bool, cond, List, [], ◌∷◌, Option, Some, None}
use Rattle.std.specs.List.{list_any, list_all}
use Rattle.rep_schema.specs.declared.schema.Schema.{Schema}
use Rattle.rep_schema.specs.Shape.{is_early_master}
use Rattle.schema_rules.specs.KeyRules.{is_well_keyed, is_off_the_key}
use Rattle.schema_rules.specs.MethodRules.{each_group, each_method, names_own_columns, adds_one_number, compares_times, compares_amounts, ranks_plain_values, compares_sites}
use Rattle.schema_rules.specs.ConstraintRules.{each_constraint, has_plain_columns, has_good_appends}
use Rattle.schema_rules.specs.ConvergentRules.{each_convergent, is_keyed_by_site, has_groups_alone, have_forms, has_levels}
use Rattle.schema_rules.specs.CheckRules.{each_check, tests_plain_column, is_unchecked}

-- there is a master that is there from the start
abbrev pub has_some_master : Schema → Bool
has_some_master schema = list_any is_early_master schema.sites

-- whether each rule holds, in the order of their numbers from 1
abbrev pub rules_of : Schema → List Bool
rules_of schema =
    has_some_master schema ∷
    list_all is_well_keyed schema.tables ∷
    each_group is_off_the_key schema ∷
    each_group (λ columns group. names_own_columns group) schema ∷
    each_group adds_one_number schema ∷
    each_method compares_times schema ∷
    each_method compares_amounts schema ∷
    each_method (ranks_plain_values schema.priorities) schema ∷
    each_method compares_sites schema ∷
    each_constraint has_plain_columns schema ∷
    list_all has_good_appends schema.tables ∷
    each_convergent is_keyed_by_site schema ∷
    each_convergent has_groups_alone schema ∷
    each_convergent have_forms schema ∷
    has_levels schema ∷
    each_check tests_plain_column schema ∷
    each_convergent is_unchecked schema ∷
    []

-- the number of the first rule that doesn't hold, counted from n
abbrev pub broken_from : ℕ → List Bool → Option ℕ
broken_from n [] = None
broken_from n (holds ∷ rules) = cond holds (broken_from (n + 1) rules) (Some n)

-- the lowest broken rule of a schema
unfoldable pub broken_rule : Schema → Option ℕ
broken_rule schema = broken_from 1 (rules_of schema)
