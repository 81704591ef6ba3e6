-- The forms of the groups of convergent tables: which of two values of a group wins, and what a sound change of one is.
use Rattle.std.specs.Prelude.{◌≡◌, ℕ, ◌==◌, true, false, cond, List, [], ◌∷◌, Option, Some, None, ℤ, slice_get}
use Rattle.std.specs.Ordering.{is_gt, int_cmp}
use Rattle.std.specs.declared.cmp.Ordering.{Ordering}
use Rattle.std.specs.declared.cmp.Ordering.TheVariants.{Equal, Greater}
use Rattle.rep_values.specs.declared.value.Value.TheVariants.{Num}
use Rattle.rep_values.specs.declared.value.Value.{Value}
use Rattle.rep_values.specs.Order.{key_cmp}
use Rattle.rep_schema.specs.declared.schema.Schema.{Schema}
use Rattle.rep_schema.specs.declared.schema.Column.{Column}
use Rattle.rep_schema.specs.declared.schema.Group.{Group}
use Rattle.rep_schema.specs.Tables.{Cells, columns_of}
use Rattle.rep_schema.specs.Groups.{groups_of, group_columns_of}
use Rattle.schema_rules.specs.declared.forms.Form.{Form}
use Rattle.schema_rules.specs.declared.forms.Form.TheVariants as form
use Rattle.schema_rules.specs.Forms.{form_of}
use Rattle.rep_calls.specs.declared.call.Part.{Part}
use Rattle.rep_calls.specs.declared.call.Call.{Call}
use Rattle.rep_calls.specs.declared.call.Call.TheVariants.{Insert, Update, Delete}
use Rattle.rep_calls.specs.declared.call.Txn.{Txn}
use Rattle.std.specs.List.{AllByRecursion}
use Rattle.resolve_methods.specs.Ranks.{number_of, site_level_of}
use Rattle.resolve_methods.specs.SequenceLaws.{number_or_zero, one_group_number}
use Rattle.txn_effects.specs.Convergent.{is_convergent}

abbrev pub form_in : List Column → Option Group → Option Form
form_in columns None = None
form_in columns (Some group) = form_of columns group

-- the form of a table's group, by the group's number, if it has one
abbrev pub form_at : Schema → ℕ → ℕ → Option Form
form_at schema table group = form_in (columns_of schema table) (slice_get (groups_of schema table) group)

-- the value of a column among the values of several columns
abbrev pub value_of : List ℕ → Cells → ℕ → Option Value
value_of [] values column = None
value_of (place ∷ places) [] column = None
value_of (place ∷ places) (v ∷ vs) column = cond (place == column) (Some v) (value_of places vs column)

abbrev pub level_alone : Option ℤ → Cells
level_alone None = []
level_alone (Some level) = Num level ∷ []

-- what latest values are compared by: the stamp, then the level of the site, where no level is the lowest
abbrev pub rank_among : Schema → List ℕ → ℕ → ℕ → Cells → Cells
rank_among schema columns stamp site values = Num (number_or_zero (number_of (value_of columns values stamp))) ∷ level_alone (site_level_of schema (value_of columns values site))

-- how one list of values of a group with these columns stands beside another by the group's form: the greater wins
abbrev pub wins : Schema → List ℕ → Form → Cells → Cells → Ordering
wins schema columns form.Sum one other = Equal
wins schema columns (form.Greatest column) one other = int_cmp (one_group_number one) (one_group_number other)
wins schema columns (form.Least column) one other = int_cmp (one_group_number other) (one_group_number one)
wins schema columns (form.Latest stamp site) one other = key_cmp (rank_among schema columns stamp site one) (rank_among schema columns stamp site other)

-- a change of a group's values that its form allows: any amount; no lesser number; no greater one; a greater rank
abbrev pub Allows : Schema → List ℕ → Form → Part → Type 0
Allows schema columns form.Sum part = Unit {0}
Allows schema columns (form.Greatest column) part = is_gt (wins schema columns (form.Greatest column) part.old part.new) ≡ false
Allows schema columns (form.Least column) part = is_gt (wins schema columns (form.Least column) part.old part.new) ≡ false
Allows schema columns (form.Latest stamp site) part = wins schema columns (form.Latest stamp site) part.new part.old ≡ Greater

-- a part's group has a form that allows it
pub record PartKeepsForm (schema : Schema) (table : ℕ) (part : Part) : Type 0 where
  pub kind : Form
  pub has : form_at schema table part.group ≡ Some kind
  pub allows : Allows schema (group_columns_of schema table part.group) kind part

-- a call on a convergent table: no delete, and each part is one that its group's form allows
abbrev pub KeepsForms : Schema → Call → Type 0
KeepsForms schema (Insert table row) = Unit {0}
KeepsForms schema (Update table key parts) = is_convergent schema table ≡ true → AllByRecursion (PartKeepsForm schema table) parts
KeepsForms schema (Delete table row) = is_convergent schema table ≡ false

-- so with each call of a transaction
abbrev pub TxnKeepsForms : Schema → Txn → Type 0
TxnKeepsForms schema txn = AllByRecursion (KeepsForms schema) txn.calls
