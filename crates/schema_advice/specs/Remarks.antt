-- What is remarked of the tables of a schema.
use Rattle.std.specs.Prelude.{ℕ, ◌+◌, Bool, not, ◌||◌, ◌==◌, nat_lt, List, [], ◌∷◌, ◌++◌, length, if◌then◌else◌, Option, Some, None, count_by}
use Rattle.rep_schema.specs.declared.schema.Schema.{Schema}
use Rattle.rep_schema.specs.declared.schema.TableEntry.{TableEntry}
use Rattle.rep_schema.specs.declared.schema.Group.{Group}
use Rattle.rep_schema.specs.declared.schema.Method.{Method}
use Rattle.rep_schema.specs.declared.schema.Constraint.{Constraint}
use Rattle.rep_schema.specs.Groups.{shadow_from}
use Rattle.rep_schema.specs.Shape.{is_master}
use Rattle.schema_rules.specs.Rules.{broken_rule}
use Rattle.schema_advice.specs.Parts.{table_part, convergent_table}
use Rattle.schema_advice.specs.Methods.{is_undecided, parting_method}
use Rattle.schema_advice.specs.declared.remark.Remark.{Remark}
use Rattle.schema_advice.specs.declared.remark.Remark.TheVariants as remark

-- a remark, where it holds
abbrev pub remark_if : Bool → Remark → List Remark
remark_if holds said = if holds then said ∷ [] else []

-- how many masters there are, late ones too
abbrev pub master_count : Schema → ℕ
master_count schema = count_by is_master schema.sites

-- some columns outside the key are in no group
abbrev pub has_ungrouped : TableEntry → Bool
has_ungrouped table = not (length (shadow_from table.groups 0 table.columns) == 0)

abbrev pub parting_remark : ℕ → Option Method → List Remark
parting_remark place None = []
parting_remark place (Some method) = remark.Parting place method ∷ []

-- of a group at a place, at so many masters: that no method decides every conflict, and the one by which sites end apart
abbrev pub group_remarks : ℕ → ℕ → Group → List Remark
group_remarks masters place group = remark_if (is_undecided group) (remark.Undecided place) ++ parting_remark place (parting_method masters group)

-- of groups, the first of which has this place
abbrev pub groups_remarks : ℕ → ℕ → List Group → List Remark
groups_remarks masters place [] = []
groups_remarks masters place (group ∷ groups) = group_remarks masters place group ++ groups_remarks masters (place + 1) groups

-- of constraints, the first of which has this place: that it has methods
abbrev pub constraint_remarks : ℕ → List Constraint → List Remark
constraint_remarks place [] = []
constraint_remarks place (constraint ∷ constraints) =
    remark_if (not (length constraint.methods == 0)) (remark.OwnRows (Some place)) ++ constraint_remarks (place + 1) constraints

-- which rule of convergent tables is broken first, or that none is
abbrev pub hindered : Option ℕ → Remark
hindered None = remark.Convergent
hindered (Some rule) = remark.Hindered rule

-- what is remarked of a table that isn't convergent, where several sites write
abbrev pub plain_remarks : Schema → TableEntry → List Remark
plain_remarks schema table =
    remark_if (has_ungrouped table) remark.Ungrouped
    ++ groups_remarks (master_count schema) 0 table.groups
    ++ remark_if (not (length table.key_methods == 0)) (remark.OwnRows None)
    ++ constraint_remarks 0 table.constraints
    ++ hindered (broken_rule (table_part schema (convergent_table table))) ∷ []

-- what is remarked of a table of a schema
abbrev pub table_remarks : Schema → TableEntry → List Remark
table_remarks schema table = if table.convergent || nat_lt (length schema.sites) 2 then [] else plain_remarks schema table
