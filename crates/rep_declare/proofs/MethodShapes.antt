-- A method more of a group, with the priority group that it names, keeps the shape of a schema.
use Rattle.std.proofs.Common.{◌≡◌, ◌≢◌, ℕ, ◌<◌, Bool, true, false, cond, List, [], ◌∷◌, length, Option, Some, None, refl, arith}
use Rattle.std.specs.List.{position}
use Rattle.std.proofs.lemmas.List.{length_push}
use Rattle.std.proofs.lemmas.List.Elements.{All-push}
use Rattle.std.proofs.lemmas.List.Quantifiers.{position-Some}
use Rattle.rep_values.specs.declared.name.TableName.{TableName}
use Rattle.rep_values.specs.declared.refusal.Limit.TheVariants as limit
use Rattle.rep_schema.specs.declared.schema.Schema.{Schema}
use Rattle.rep_schema.specs.declared.schema.TableEntry.{TableEntry}
use Rattle.rep_schema.specs.declared.schema.Column.{Column}
use Rattle.rep_schema.specs.declared.schema.Group.{Group}
use Rattle.rep_schema.specs.declared.schema.PriorityGroup.{PriorityGroup}
use Rattle.rep_schema.specs.declared.schema.Method.{Method}
use Rattle.rep_schema.specs.Limits.{most_methods}
use Rattle.rep_schema.specs.Shape.{shadow_name, IsPlaceIn, ShareNone, method_column, method_priority, HasGroupShape, HasTableShape, HasShape}
use Rattle.rep_declare.specs.declared.declaration.Declare.TheVariants as declare
use Rattle.rep_declare.specs.declared.declaration.MethodWords.{MethodWords}
use Rattle.rep_declare.specs.declared.declaration.MethodWords.TheVariants as words
use Rattle.rep_schema.specs.Named.{is_group, is_priority, table_named, group_named}
use Rattle.rep_values.specs.RefusalSteps.{first_refusal}
use Rattle.rep_declare.specs.Refusals.{unknown_column, words_column, steps_of, declare_refusal}
use Rattle.rep_declare.specs.Additions.{with_changed, place_or_zero, priority_number, with_priority, with_words_priority, method_of, with_groups, with_method, with_priorities, declared}
use Rattle.rep_values.proofs.RefusalSteps.{or_then-None, full-None, known-None}
use Rattle.rep_declare.proofs.ListNames.{All-with_changed, AreDistinct-with_changed, AllPairs-with_changed}
use Rattle.rep_declare.proofs.PlacesNamed.{column_number-below}
use Rattle.rep_declare.proofs.TableShapes.{HasShape-with_table_changed}
use Rattle.rep_declare.proofs.GroupShapes.{with_groups-shape}
use Rattle.rep_declare.proofs.PriorityShapes.{HasShape-with_priority}

-- the column that a method names is there
method_of-column : (groups : List PriorityGroup) (columns : List Column) (method : MethodWords) → unknown_column columns (words_column method) ≡ None
    → IsPlaceIn (length columns) (method_column (method_of groups columns method))
method_of-column groups columns (words.Latest column) there = column_number-below columns column there
method_of-column groups columns (words.Earliest column) there = column_number-below columns column there
method_of-column groups columns words.Overwrite there = tt
method_of-column groups columns words.Discard there = tt
method_of-column groups columns words.Additive there = tt
method_of-column groups columns words.Average there = tt
method_of-column groups columns (words.Maximum column) there = column_number-below columns column there
method_of-column groups columns (words.Minimum column) there = column_number-below columns column there
method_of-column groups columns (words.Priority column group) there = column_number-below columns column there
method_of-column groups columns (words.SitePriority column) there = column_number-below columns column there

-- the priority group that a method comes with has its place among them
priority_number-below : (name : List ℕ) (groups : List PriorityGroup) → priority_number (with_priority name groups) name < length (with_priority name groups)
priority_number-below name groups = at (position (is_priority name) (with_priority name groups)) refl
  where
    some : (gs : List PriorityGroup) → 0 < length (with_priority name gs)
    some [] = omega arith
    some (g ∷ gs) = some_of (is_priority name g)
      where
        some_of : (b : Bool) → 0 < length (cond b (g ∷ gs) (g ∷ with_priority name gs))
        some_of true = omega arith
        some_of false = omega arith

    at : (found : Option ℕ) → position (is_priority name) (with_priority name groups) ≡ found → place_or_zero found < length (with_priority name groups)
    at None is = some groups
    at (Some place) is = (position-Some (is_priority name) (with_priority name groups) place (record { name = name; levels = [] }) is).0

method_of-priority : (groups : List PriorityGroup) (columns : List Column) (method : MethodWords)
    → IsPlaceIn (length (with_words_priority method groups)) (method_priority (method_of (with_words_priority method groups) columns method))
method_of-priority groups columns (words.Latest column) = tt
method_of-priority groups columns (words.Earliest column) = tt
method_of-priority groups columns words.Overwrite = tt
method_of-priority groups columns words.Discard = tt
method_of-priority groups columns words.Additive = tt
method_of-priority groups columns words.Average = tt
method_of-priority groups columns (words.Maximum column) = tt
method_of-priority groups columns (words.Minimum column) = tt
method_of-priority groups columns (words.Priority column group) = priority_number-below group groups
method_of-priority groups columns (words.SitePriority column) = tt

-- with the priority group that a method comes with
HasShape-with_words_priority : (schema : Schema) (method : MethodWords) → HasShape schema → HasShape (with_priorities (with_words_priority method schema.priorities) schema)
HasShape-with_words_priority schema (words.Latest column) shape = shape
HasShape-with_words_priority schema (words.Earliest column) shape = shape
HasShape-with_words_priority schema words.Overwrite shape = shape
HasShape-with_words_priority schema words.Discard shape = shape
HasShape-with_words_priority schema words.Additive shape = shape
HasShape-with_words_priority schema words.Average shape = shape
HasShape-with_words_priority schema (words.Maximum column) shape = shape
HasShape-with_words_priority schema (words.Minimum column) shape = shape
HasShape-with_words_priority schema (words.Priority column group) shape = HasShape-with_priority schema shape group
HasShape-with_words_priority schema (words.SitePriority column) shape = shape

with_method-shape : (width priorities : ℕ) (method : Method) (group : Group) → HasGroupShape width priorities group → length group.methods < most_methods
    → IsPlaceIn width (method_column method) → IsPlaceIn priorities (method_priority method) → HasGroupShape width priorities (with_method method group)
with_method-shape width priorities method group shape room column priority = record {
  columns = shape.columns;
  methods = omega (arith, room, length_push group.methods method);
  method_columns = All-push (λ m. IsPlaceIn width (method_column m)) group.methods method shape.method_columns column;
  method_priorities = All-push (λ m. IsPlaceIn priorities (method_priority m)) group.methods method shape.method_priorities priority;
}

-- a table whose group of a name has one more method
abbrev with_group_method : List PriorityGroup → List ℕ → MethodWords → TableEntry → TableEntry
with_group_method groups name method entry = with_groups (with_changed (is_group name) (with_method (method_of groups entry.columns method)) entry.groups) entry

one_more_method : (schema : Schema) (table : TableName) (name : List ℕ) (method : MethodWords) (entry : TableEntry)
    → first_refusal (steps_of schema (declare.Method table name method)) ≡ None → table_named schema table ≡ Some entry
    → HasTableShape (length (with_words_priority method schema.priorities)) entry
    → HasTableShape (length (with_words_priority method schema.priorities)) (with_group_method (with_words_priority method schema.priorities) name method entry)
one_more_method schema table name method entry passed found shape =
    let groups : List PriorityGroup = with_words_priority method schema.priorities in
    let change : Group → Group = with_method (method_of groups entry.columns method) in
    let fits : (g : Group) → group_named entry name ≡ Some g → HasGroupShape (length entry.columns) (length groups) g → HasGroupShape (length entry.columns) (length groups) (change g) = λ g is fits.
    let steps = or_then-None _ _ (known-None (group_named entry name) g _ is (known-None (table_named schema table) entry _ found passed)) in
    with_method-shape (length entry.columns) (length groups) (method_of groups entry.columns method) g fits (full-None _ _ limit.Methods (or_then-None _ _ steps.1).0)
    (method_of-column groups entry.columns method steps.0) (method_of-priority schema.priorities entry.columns method) in
    with_groups-shape (length groups) entry (with_changed (is_group name) change entry.groups) shape
    (All-with_changed (is_group name) change (HasGroupShape (length entry.columns) (length groups)) entry.groups shape.groups fits)
    (AreDistinct-with_changed (is_group name) change (λ g. g.name) (λ g. refl) entry.groups shape.group_names)
    (All-with_changed (is_group name) change (λ g. g.name ≢ shadow_name) entry.groups shape.shadow_free (λ g is free. free))
    (AllPairs-with_changed (is_group name) change ShareNone (λ g. g.columns) (λ g. refl) entry.groups shape.groups_apart)

-- with a method of a group that isn't refused
pub HasShape-Method : (schema : Schema) (table : TableName) (name : List ℕ) (method : MethodWords) → HasShape schema
    → declare_refusal schema (declare.Method table name method) ≡ None → HasShape (declared (declare.Method table name method) schema)
HasShape-Method schema table name method shape passed =
    let groups : List PriorityGroup = with_words_priority method schema.priorities in
    HasShape-with_table_changed (with_priorities groups schema) table (with_group_method groups name method) (HasShape-with_words_priority schema method shape) (λ t. refl)
    (λ entry. one_more_method schema table name method entry passed)
