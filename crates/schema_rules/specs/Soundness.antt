-- What the rules of a schema say, each under its name.
use Rattle.std.specs.Prelude.{◌≡◌, ◌↔◌, true, None}
use Rattle.std.specs.List.{list_all}
use Rattle.rep_schema.specs.declared.schema.Schema.{Schema}
use Rattle.schema_rules.specs.KeyRules.{is_well_keyed, is_off_the_key}
use Rattle.schema_rules.specs.MethodRules.{each_group, each_method, names_own_columns, adds_one_number, compares_times, compares_amounts, ranks_plain_values, compares_sites}
use Rattle.schema_rules.specs.ConstraintRules.{each_constraint, has_plain_columns, has_good_appends}
use Rattle.schema_rules.specs.ConvergentRules.{each_convergent, is_keyed_by_site, has_groups_alone, have_forms, has_levels}
use Rattle.schema_rules.specs.CheckRules.{each_check, tests_plain_column, is_unchecked}
use Rattle.schema_rules.specs.Rules.{has_some_master, broken_rule}

-- a schema that keeps all rules, one field for each in the order of their numbers
pub record KeepsAllRules (schema : Schema) : Type 0 where
  pub mastered : has_some_master schema ≡ true
  pub keyed : list_all is_well_keyed schema.tables ≡ true
  pub grouped_apart : each_group is_off_the_key schema ≡ true
  pub own_columns : each_group (λ columns group. names_own_columns group) schema ≡ true
  pub one_number : each_group adds_one_number schema ≡ true
  pub times : each_method compares_times schema ≡ true
  pub amounts : each_method compares_amounts schema ≡ true
  pub ranked : each_method (ranks_plain_values schema.priorities) schema ≡ true
  pub sites : each_method compares_sites schema ≡ true
  pub plainly_constrained : each_constraint has_plain_columns schema ≡ true
  pub appends : list_all has_good_appends schema.tables ≡ true
  pub site_keyed : each_convergent is_keyed_by_site schema ≡ true
  pub groups_alone : each_convergent has_groups_alone schema ≡ true
  pub formed : each_convergent have_forms schema ≡ true
  pub levelled : has_levels schema ≡ true
  pub plainly_checked : each_check tests_plain_column schema ≡ true
  pub unchecked : each_convergent is_unchecked schema ≡ true

-- a schema is sound exactly where no rule is broken
abbrev pub SoundUnbroken : Type 0
SoundUnbroken = (schema : Schema) → KeepsAllRules schema ↔ (broken_rule schema ≡ None)
