-- When a declaration is refused, and for what: the first of its steps that refuses it.
use Rattle.std.specs.Prelude.{ℕ, Bool, false, not, ◌||◌, List, [], ◌∷◌, ◌++◌, length, Option, Some, None, ℤ}
use Rattle.std.specs.List.{list_any, count_by}
use Rattle.rep_values.specs.declared.refusal.Refusal.{Refusal}
use Rattle.rep_values.specs.declared.refusal.Refusal.TheVariants as refusal
use Rattle.rep_values.specs.declared.refusal.Limit.TheVariants as limit
use Rattle.rep_values.specs.declared.value.Value.{Value}
use Rattle.rep_values.specs.declared.value.Value.TheVariants.{Num, Words}
use Rattle.rep_values.specs.Literal.{value_of_literal}
use Rattle.rep_values.specs.Equality.{value_eq}
use Rattle.rep_values.specs.Name.{same_bytes}
use Rattle.rep_values.specs.RefusalSteps.{refused, or_then, first_refusal, unknown, taken, known, full, too_many}
use Rattle.rep_schema.specs.declared.schema.Schema.{Schema}
use Rattle.rep_schema.specs.declared.schema.Column.{Column}
use Rattle.rep_schema.specs.declared.schema.PriorityGroup.{PriorityGroup}
use Rattle.rep_declare.specs.declared.declaration.Declare.{Declare}
use Rattle.rep_declare.specs.declared.declaration.Declare.TheVariants as declare
use Rattle.rep_declare.specs.declared.declaration.MethodWords.{MethodWords}
use Rattle.rep_declare.specs.declared.declaration.MethodWords.TheVariants as method
use Rattle.rep_declare.specs.declared.declaration.UniqueWords.{UniqueWords}
use Rattle.rep_declare.specs.declared.declaration.UniqueWords.TheVariants as unique
use Rattle.rep_schema.specs.Limits.{most_masters, most_snapshots, most_tables, most_columns, most_keys, most_methods, most_constraints, most_levels, most_checks}
use Rattle.rep_schema.specs.Tables.{key_count}
use Rattle.rep_schema.specs.Fitting.{is_in_range}
use Rattle.rep_schema.specs.Kinds.{is_of_kind}
use Rattle.rep_schema.specs.Shape.{shadow_name, key_name, is_master, is_snapshot}
use Rattle.rep_schema.specs.Groups.{is_grouped}
use Rattle.rep_schema.specs.Named.{is_column, site_named, has_master, table_named, group_named, constraint_named, check_named, methods_named, priority_named, column_named, column_place, is_constrained}

-- a number lies outside ±10^15
abbrev pub out_of_range : ℤ → Option Refusal
out_of_range n = refused (not (is_in_range n)) refusal.ValueRange

-- two columns have one name
abbrev pub share_a_name : List Column → Bool
share_a_name [] = false
share_a_name (c ∷ cs) = list_any (is_column c.name) cs || share_a_name cs

-- a column that a line names: it has to be there, and must not be taken or stand before in the line
abbrev pub column_step : (ℕ → Bool) → Bool → Option ℕ → Option Refusal
column_step is_taken stands_before None = Some refusal.UnknownName
column_step is_taken stands_before (Some place) = refused (is_taken place || stands_before) refusal.NameTaken

-- the columns that a line names, from left to right, behind those before them
unfoldable pub columns_step : List Column → (ℕ → Bool) → List (List ℕ) → List (List ℕ) → Option Refusal
columns_step columns is_taken before [] = None
columns_step columns is_taken before (name ∷ names) = or_then
    (column_step is_taken (list_any (same_bytes name) before) (column_place columns name))
    (columns_step columns is_taken (before ++ name ∷ []) names)

-- the name of the column that a method uses
abbrev pub words_column : MethodWords → Option (List ℕ)
words_column (method.Latest column) = Some column
words_column (method.Earliest column) = Some column
words_column method.Overwrite = None
words_column method.Discard = None
words_column method.Additive = None
words_column method.Average = None
words_column (method.Maximum column) = Some column
words_column (method.Minimum column) = Some column
words_column (method.Priority column group) = Some column
words_column (method.SitePriority column) = Some column

abbrev pub unique_words_column : UniqueWords → Option (List ℕ)
unique_words_column (unique.AppendSite column) = Some column
unique_words_column (unique.AppendSequence column) = Some column
unique_words_column unique.Discard = None

-- a column that is named has to be there
abbrev pub unknown_column : List Column → Option (List ℕ) → Option Refusal
unknown_column columns None = None
unknown_column columns (Some name) = unknown (column_place columns name)

abbrev pub has_level : Value → Option PriorityGroup → Bool
has_level value None = false
has_level value (Some group) = list_any (λ l. value_eq value l.value) group.levels

abbrev pub level_count : Option PriorityGroup → ℕ
level_count None = 0
level_count (Some group) = length group.levels

abbrev pub value_out_of_range : Value → Option Refusal
value_out_of_range (Num n) = out_of_range n
value_out_of_range (Words text) = None

-- the steps of each declaration: its names from left to right, then the limits in their order, then the shape, then the ranges
abbrev pub steps_of : Schema → Declare → List (Option Refusal)
steps_of schema (declare.Site name) =
    taken (site_named schema name) ∷
    full most_masters (count_by is_master schema.sites) limit.Masters ∷ []
steps_of schema (declare.LateSite name) =
    taken (site_named schema name) ∷
    full most_masters (count_by is_master schema.sites) limit.Masters ∷ []
steps_of schema (declare.SnapSite name master) =
    taken (site_named schema name) ∷
    refused (not (has_master schema master)) refusal.UnknownName ∷
    full most_snapshots (count_by is_snapshot schema.sites) limit.Snapshots ∷ []
steps_of schema (declare.Table name columns) =
    taken (table_named schema name) ∷
    refused (share_a_name columns) refusal.NameTaken ∷
    full most_tables (length schema.tables) limit.Tables ∷
    too_many most_columns (length columns) limit.Columns ∷
    too_many most_keys (key_count columns) limit.Keys ∷ []
steps_of schema (declare.Group table group columns) = known (table_named schema table) (λ entry.
    refused (same_bytes group shadow_name) refusal.NameTaken ∷
    taken (group_named entry group) ∷
    columns_step entry.columns (is_grouped entry.groups) [] columns ∷ [])
steps_of schema (declare.Method table group method) = known (table_named schema table) (λ entry. known (group_named entry group) (λ found.
    unknown_column entry.columns (words_column method) ∷
    full most_methods (length found.methods) limit.Methods ∷ []))
steps_of schema (declare.Priority group value level) =
    refused (has_level (value_of_literal value) (priority_named schema group)) refusal.NameTaken ∷
    full most_levels (level_count (priority_named schema group)) limit.Levels ∷
    value_out_of_range (value_of_literal value) ∷
    out_of_range level ∷ []
steps_of schema (declare.SiteLevel site level) = known (site_named schema site) (λ entry.
    taken entry.level ∷
    out_of_range level ∷ [])
steps_of schema (declare.Unique table constraint columns) = known (table_named schema table) (λ entry.
    refused (same_bytes constraint key_name) refusal.NameTaken ∷
    taken (constraint_named entry constraint) ∷
    columns_step entry.columns (is_constrained entry.constraints) [] columns ∷
    full most_constraints (length entry.constraints) limit.Constraints ∷ [])
steps_of schema (declare.UniqueMethod table constraint method) = known (table_named schema table) (λ entry. known (methods_named entry constraint) (λ methods.
    unknown_column entry.columns (unique_words_column method) ∷
    full most_methods (length methods) limit.Methods ∷ []))
steps_of schema (declare.Check table check column rel value) = known (table_named schema table) (λ entry.
    taken (check_named entry check) ∷
    known (column_named entry.columns column) (λ found.
    full most_checks (length entry.checks) limit.Checks ∷
    refused (not (is_of_kind found.kind value)) refusal.RowShape ∷
    value_out_of_range (value_of_literal value) ∷ []))
steps_of schema (declare.Convergent table) = unknown (table_named schema table) ∷ []

-- why a declaration is refused, if it is
abbrev pub declare_refusal : Schema → Declare → Option Refusal
declare_refusal schema declaration = first_refusal (steps_of schema declaration)
