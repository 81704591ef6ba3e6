-- A schema that breaks no rule keeps each of them.
use Rattle.std.proofs.Common.{◌≡◌, ℕ, ◌+◌, true, false, Bool, List, [], ◌∷◌, None, refl}
use Rattle.std.specs.List.{AllByRecursion}
use Rattle.rep_schema.specs.declared.schema.Schema.{Schema}
use Rattle.schema_rules.specs.Rules.{rules_of, broken_from, broken_rule}
use Rattle.schema_rules.specs.Soundness.{KeepsAllRules, SoundUnbroken}

-- where no rule from n on is broken, all hold
all_hold : (rules : List Bool) (n : ℕ) → broken_from n rules ≡ None → AllByRecursion (λ holds. holds ≡ true) rules
all_hold [] n none = tt
all_hold (true ∷ rules) n none = (refl, all_hold rules (n + 1) none)
all_hold (false ∷ rules) n none = cc

-- where all hold, none is broken
none_broken : (rules : List Bool) (n : ℕ) → AllByRecursion (λ holds. holds ≡ true) rules → broken_from n rules ≡ None
none_broken [] n all = refl
none_broken (true ∷ rules) n all = none_broken rules (n + 1) all.1
none_broken (false ∷ rules) n all = let holds = all.0 in cc

sound_where_unbroken : (schema : Schema) → broken_rule schema ≡ None → KeepsAllRules schema
unfolding broken_rule
sound_where_unbroken schema none =
    let all = all_hold (rules_of schema) 1 none in
    record {
      mastered = all.0;
      keyed = all.1.0;
      grouped_apart = all.1.1.0;
      own_columns = all.1.1.1.0;
      one_number = all.1.1.1.1.0;
      times = all.1.1.1.1.1.0;
      amounts = all.1.1.1.1.1.1.0;
      ranked = all.1.1.1.1.1.1.1.0;
      sites = all.1.1.1.1.1.1.1.1.0;
      plainly_constrained = all.1.1.1.1.1.1.1.1.1.0;
      appends = all.1.1.1.1.1.1.1.1.1.1.0;
      site_keyed = all.1.1.1.1.1.1.1.1.1.1.1.0;
      groups_alone = all.1.1.1.1.1.1.1.1.1.1.1.1.0;
      formed = all.1.1.1.1.1.1.1.1.1.1.1.1.1.0;
      levelled = all.1.1.1.1.1.1.1.1.1.1.1.1.1.1.0;
      plainly_checked = all.1.1.1.1.1.1.1.1.1.1.1.1.1.1.1.0;
      unchecked = all.1.1.1.1.1.1.1.1.1.1.1.1.1.1.1.1.0;
    }

unbroken_where_sound : (schema : Schema) → KeepsAllRules schema → broken_rule schema ≡ None
unfolding broken_rule
unbroken_where_sound schema is = none_broken (rules_of schema) 1
    (is.mastered, (is.keyed, (is.grouped_apart, (is.own_columns, (is.one_number, (is.times, (is.amounts, (is.ranked, (is.sites, (is.plainly_constrained, (is.appends, (is.site_keyed, (is.groups_alone, (is.formed, (is.levelled, (is.plainly_checked, (is.unchecked, tt)))))))))))))))))

-- a schema is sound exactly where no rule is broken
pub KeepsAllRules-unbroken : SoundUnbroken
KeepsAllRules-unbroken schema = (unbroken_where_sound schema, sound_where_unbroken schema)
