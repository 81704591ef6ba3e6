-- Schemas, and the lowest rule that each breaks.
use Rattle.std.proofs.Common.{◌≡◌, ℕ, List, [], ◌∷◌, Option, Some, None, true, false, refl, ℤ, pos, negsuc}
use Rattle.std.specs.Prelude.{codes}
use Rattle.rep_values.specs.declared.name.SiteName.{SiteName}
use Rattle.rep_values.specs.declared.value.Value.TheVariants.{Num}
use Rattle.rep_schema.specs.declared.schema.Schema.{Schema}
use Rattle.rep_schema.specs.declared.schema.SiteEntry.{SiteEntry}
use Rattle.rep_schema.specs.declared.schema.TableEntry.{TableEntry}
use Rattle.rep_schema.specs.declared.schema.Column.{Column}
use Rattle.rep_schema.specs.declared.schema.Group.{Group}
use Rattle.rep_schema.specs.declared.schema.Constraint.{Constraint}
use Rattle.rep_schema.specs.declared.schema.PriorityGroup.{PriorityGroup}
use Rattle.rep_schema.specs.declared.check.Check.{Check}
use Rattle.rep_schema.specs.declared.check.Rel.TheVariants.{Ge}
use Rattle.rep_schema.specs.Entries.{master_site, late_site, snapshot_site, plain_table}
use Rattle.rep_schema.specs.Shape.{no_schema}
use Rattle.rep_schema.specs.declared.schema.Kind.{Kind}
use Rattle.rep_schema.specs.declared.schema.Kind.TheVariants as kind
use Rattle.rep_schema.specs.declared.schema.Method.{Method}
use Rattle.rep_schema.specs.declared.schema.Method.TheVariants as method
use Rattle.rep_schema.specs.declared.schema.UniqueMethod.{UniqueMethod}
use Rattle.rep_schema.specs.declared.schema.UniqueMethod.TheVariants as unique
use Rattle.schema_rules.specs.Rules.{broken_rule}

abbrev column : Kind → Column
column k = record { name = codes "C"; kind = k; key = false }

abbrev key : Kind → Column
key k = record { name = codes "K"; kind = k; key = true }

abbrev group : List ℕ → List Method → Group
group columns methods = record { name = codes "g"; columns = columns; methods = methods }

abbrev constraint : List ℕ → List UniqueMethod → Constraint
constraint columns methods = record { name = codes "u"; columns = columns; methods = methods }

abbrev name : List ℕ → SiteName
name bytes = record { 0 = bytes }

abbrev site : Option ℤ → SiteEntry
site level = record (master_site (name (codes "A"))) { level = level }

-- a snapshot site of A
abbrev site_s : SiteEntry
site_s = snapshot_site (name (codes "S")) (name (codes "A"))

-- columns 1 to 5 behind a key column, one of each kind
abbrev columns_behind : Column → List Column
columns_behind k = k ∷ column kind.Number ∷ column kind.Words ∷ column kind.Stamp ∷ column kind.Site ∷ column kind.Date ∷ []

abbrev table : List Column → List Group → TableEntry
table columns groups = record (plain_table (record { 0 = codes "T" }) columns) { groups = groups }

-- the priority group 0 has a level, and 1 has none
abbrev with_level : PriorityGroup
with_level = record { name = codes "p"; levels = record { value = Num (pos 1); level = pos 1 } ∷ [] }

abbrev without_level : PriorityGroup
without_level = record { name = codes "r"; levels = [] }

abbrev of_table : TableEntry → Schema
of_table entry = record { sites = site None ∷ site_s ∷ []; tables = entry ∷ []; priorities = with_level ∷ without_level ∷ [] }

-- a table whose key is a NUMBER, with one group
abbrev grouped : List ℕ → List Method → Schema
grouped columns methods = of_table (table (columns_behind (key kind.Number)) (group columns methods ∷ []))

-- the same without a group, with methods of the key and a secondary constraint
abbrev constrained : List UniqueMethod → List ℕ → List UniqueMethod → Schema
constrained key_methods columns methods =
    of_table (record (table (columns_behind (key kind.Number)) []) { key_methods = key_methods; constraints = constraint columns methods ∷ [] })

-- a convergent table of a key column and the columns 1 to 5, and a site of level 1 beside this one
abbrev convergent : Column → List Group → SiteEntry → Schema
convergent first groups other = record (of_table (record (table (columns_behind first) groups) { convergent = true })) { sites = site (Some (pos 1)) ∷ other ∷ [] }

-- the check of a column
abbrev check : ℕ → Check
check place = record { name = codes "c"; column = place; rel = Ge; value = Num (pos 0) }

-- a table whose key is a NUMBER, with the check of a column
abbrev checked : ℕ → Schema
checked place = of_table (record (table (columns_behind (key kind.Number)) []) { checks = check place ∷ [] })

-- the groups of the forms that a convergent table may have
abbrev sum_group : Group
sum_group = group (1 ∷ []) (method.Additive ∷ [])

abbrev least_group : Group
least_group = group (1 ∷ []) (method.Minimum 1 ∷ method.Discard ∷ [])

abbrev latest_group : Group
latest_group = group (2 ∷ 3 ∷ 4 ∷ 5 ∷ []) (method.Latest 3 ∷ method.SitePriority 4 ∷ [])

-- a convergent table whose groups have these forms, with the check of a column
abbrev convergent_checked : ℕ → Schema
convergent_checked place = record (convergent (key kind.Site) [] (site (Some (pos 2)))) {
  tables = record (table (columns_behind (key kind.Site)) (sum_group ∷ latest_group ∷ [])) { convergent = true; checks = check place ∷ [] } ∷ [];
}

sound_with_groups : broken_rule (grouped (5 ∷ []) (method.Priority 5 0 ∷ method.Maximum 5 ∷ method.Latest 5 ∷ method.Discard ∷ [])) ≡ None
unfolding broken_rule
sound_with_groups = refl

sound_with_a_constraint : broken_rule (constrained (unique.Discard ∷ []) (1 ∷ 2 ∷ []) (unique.AppendSite 2 ∷ unique.AppendSequence 2 ∷ [])) ≡ None
unfolding broken_rule
sound_with_a_constraint = refl

sound_with_a_check : broken_rule (checked 5) ≡ None
unfolding broken_rule
sound_with_a_check = refl

sound_and_convergent : broken_rule (convergent (key kind.Site) (sum_group ∷ latest_group ∷ []) (site (Some (negsuc 0)))) ≡ None
unfolding broken_rule
sound_and_convergent = refl

least_converges : broken_rule (convergent (key kind.Site) (least_group ∷ latest_group ∷ []) (site (Some (pos 2)))) ≡ None
unfolding broken_rule
least_converges = refl

late_masters_alone : broken_rule (record no_schema { sites = late_site (name (codes "D")) ∷ site_s ∷ [] }) ≡ Some 1
unfolding broken_rule
late_masters_alone = refl

snapshot_sites_alone : broken_rule (record no_schema { sites = site_s ∷ [] }) ≡ Some 1
unfolding broken_rule
snapshot_sites_alone = refl

no_key_column : broken_rule (of_table (table (column kind.Number ∷ []) [])) ≡ Some 2
unfolding broken_rule
no_key_column = refl

stamp_in_the_key : broken_rule (of_table (table (key kind.Number ∷ key kind.Stamp ∷ []) [])) ≡ Some 2
unfolding broken_rule
stamp_in_the_key = refl

key_column_in_a_group : broken_rule (grouped (0 ∷ 1 ∷ []) []) ≡ Some 3
unfolding broken_rule
key_column_in_a_group = refl

method_on_another_column : broken_rule (grouped (1 ∷ []) (method.Maximum 5 ∷ [])) ≡ Some 4
unfolding broken_rule
method_on_another_column = refl

abbrev two_numbers : List Column
two_numbers = key kind.Number ∷ column kind.Number ∷ column kind.Number ∷ []

average_of_two_columns : broken_rule (of_table (table two_numbers (group (1 ∷ 2 ∷ []) (method.Average ∷ []) ∷ []))) ≡ Some 5
unfolding broken_rule
average_of_two_columns = refl

sum_of_dates : broken_rule (grouped (5 ∷ []) (method.Additive ∷ [])) ≡ Some 5
unfolding broken_rule
sum_of_dates = refl

earliest_of_numbers : broken_rule (grouped (1 ∷ []) (method.Earliest 1 ∷ [])) ≡ Some 6
unfolding broken_rule
earliest_of_numbers = refl

greatest_text : broken_rule (grouped (2 ∷ []) (method.Maximum 2 ∷ [])) ≡ Some 7
unfolding broken_rule
greatest_text = refl

priority_of_stamps : broken_rule (grouped (3 ∷ []) (method.Priority 3 0 ∷ [])) ≡ Some 8
unfolding broken_rule
priority_of_stamps = refl

priority_without_a_level : broken_rule (grouped (1 ∷ []) (method.Priority 1 1 ∷ [])) ≡ Some 8
unfolding broken_rule
priority_without_a_level = refl

site_priority_of_texts : broken_rule (grouped (2 ∷ []) (method.SitePriority 2 ∷ [])) ≡ Some 9
unfolding broken_rule
site_priority_of_texts = refl

key_column_constrained : broken_rule (constrained [] (0 ∷ 1 ∷ []) []) ≡ Some 10
unfolding broken_rule
key_column_constrained = refl

stamp_constrained : broken_rule (constrained [] (1 ∷ 3 ∷ []) []) ≡ Some 10
unfolding broken_rule
stamp_constrained = refl

append_on_the_key : broken_rule (constrained (unique.AppendSite 2 ∷ []) (2 ∷ []) []) ≡ Some 11
unfolding broken_rule
append_on_the_key = refl

append_to_a_number : broken_rule (constrained [] (1 ∷ 2 ∷ []) (unique.AppendSequence 1 ∷ [])) ≡ Some 11
unfolding broken_rule
append_to_a_number = refl

append_to_another_column : broken_rule (constrained [] (1 ∷ []) (unique.AppendSite 2 ∷ [])) ≡ Some 11
unfolding broken_rule
append_to_another_column = refl

convergent_keyed_by_a_number : broken_rule (convergent (key kind.Number) (sum_group ∷ latest_group ∷ []) (site (Some (pos 2)))) ≡ Some 12
unfolding broken_rule
convergent_keyed_by_a_number = refl

convergent_with_a_shadow_column : broken_rule (convergent (key kind.Site) (sum_group ∷ record latest_group { columns = 2 ∷ 3 ∷ 4 ∷ [] } ∷ []) (site (Some (pos 2)))) ≡ Some 13
unfolding broken_rule
convergent_with_a_shadow_column = refl

sum_and_discard_converge_not : broken_rule (convergent (key kind.Site) (record sum_group { methods = method.Additive ∷ method.Discard ∷ [] } ∷ latest_group ∷ []) (site (Some (pos 2)))) ≡ Some 14
unfolding broken_rule
sum_and_discard_converge_not = refl

latest_date_converges_not : broken_rule (convergent (key kind.Site) (sum_group ∷ record latest_group { methods = method.Latest 5 ∷ method.SitePriority 4 ∷ [] } ∷ []) (site (Some (pos 2)))) ≡ Some 14
unfolding broken_rule
latest_date_converges_not = refl

one_level_twice : broken_rule (convergent (key kind.Site) (sum_group ∷ latest_group ∷ []) (site (Some (pos 1)))) ≡ Some 15
unfolding broken_rule
one_level_twice = refl

snapshot_site_without_level : broken_rule (convergent (key kind.Site) (sum_group ∷ latest_group ∷ []) site_s) ≡ Some 15
unfolding broken_rule
snapshot_site_without_level = refl

stamp_checked : broken_rule (checked 3) ≡ Some 16
unfolding broken_rule
stamp_checked = refl

site_checked : broken_rule (checked 4) ≡ Some 16
unfolding broken_rule
site_checked = refl

convergent_and_checked : broken_rule (convergent_checked 1) ≡ Some 17
unfolding broken_rule
convergent_and_checked = refl

-- rules 16 and 17 are both broken
stamp_of_a_convergent_table_checked : broken_rule (convergent_checked 3) ≡ Some 16
unfolding broken_rule
stamp_of_a_convergent_table_checked = refl

-- rules 6 and 9 are both broken
lower_rule_is_told : broken_rule (grouped (1 ∷ []) (method.SitePriority 1 ∷ method.Latest 1 ∷ [])) ≡ Some 6
unfolding broken_rule
lower_rule_is_told = refl
