-- A method more of a constraint, the primary key's among them, keeps the shape of a schema.
use Rattle.std.proofs.Common.{◌≡◌, ◌≢◌, ℕ, ◌<◌, Bool, true, false, cond, List, [], ◌∷◌, ◌++◌, length, Option, Some, None, refl, ap, arith}
use Rattle.std.proofs.lemmas.List.{length_push}
use Rattle.std.proofs.lemmas.List.Elements.{All-push}
use Rattle.rep_values.specs.declared.name.TableName.{TableName}
use Rattle.rep_values.specs.declared.refusal.Refusal.{Refusal}
use Rattle.rep_values.specs.declared.refusal.Limit.TheVariants as limit
use Rattle.rep_values.specs.Name.{same_bytes}
use Rattle.rep_schema.specs.declared.schema.Schema.{Schema}
use Rattle.rep_schema.specs.declared.schema.TableEntry.{TableEntry}
use Rattle.rep_schema.specs.declared.schema.Column.{Column}
use Rattle.rep_schema.specs.declared.schema.Constraint.{Constraint}
use Rattle.rep_schema.specs.declared.schema.UniqueMethod.{UniqueMethod}
use Rattle.rep_schema.specs.Limits.{most_methods}
use Rattle.rep_schema.specs.Shape.{key_name, IsPlaceIn, ShareNone, unique_column, HaveMethodShape, HasConstraintShape, HasTableShape, HasShape}
use Rattle.rep_declare.specs.declared.declaration.Declare.TheVariants as declare
use Rattle.rep_declare.specs.declared.declaration.UniqueWords.{UniqueWords}
use Rattle.rep_declare.specs.declared.declaration.UniqueWords.TheVariants as unique_words
use Rattle.rep_schema.specs.Named.{is_constraint, table_named, constraint_named, constraint_methods, methods_named}
use Rattle.rep_values.specs.RefusalSteps.{first_refusal, known, full}
use Rattle.rep_declare.specs.Refusals.{unknown_column, unique_words_column, declare_refusal}
use Rattle.rep_declare.specs.Additions.{with_changed, unique_method_of, with_constraints, with_key_methods, with_unique_method, with_method_on, declared}
use Rattle.rep_values.proofs.RefusalSteps.{or_then-None, full-None, known-None}
use Rattle.rep_declare.proofs.ListNames.{length-with_changed, All-with_changed, AreDistinct-with_changed, AllPairs-with_changed}
use Rattle.rep_declare.proofs.PlacesNamed.{column_number-below}
use Rattle.rep_declare.proofs.TableShapes.{HasShape-with_table_changed}
use Rattle.rep_declare.proofs.GroupShapes.{with_constraints-shape}

-- the column that a method of a constraint names is there
unique_method_of-column : (columns : List Column) (method : UniqueWords) → unknown_column columns (unique_words_column method) ≡ None
    → IsPlaceIn (length columns) (unique_column (unique_method_of columns method))
unique_method_of-column columns (unique_words.AppendSite column) there = column_number-below columns column there
unique_method_of-column columns (unique_words.AppendSequence column) there = column_number-below columns column there
unique_method_of-column columns unique_words.Discard there = tt

HaveMethodShape-push : (width : ℕ) (methods : List UniqueMethod) (method : UniqueMethod) → HaveMethodShape width methods → length methods < most_methods
    → IsPlaceIn width (unique_column method) → HaveMethodShape width (methods ++ method ∷ [])
HaveMethodShape-push width methods method shape room column = record {
  number = omega (arith, room, length_push methods method);
  columns = All-push (λ m. IsPlaceIn width (unique_column m)) methods method shape.columns column;
}

with_key_methods-shape : (priorities : ℕ) (entry : TableEntry) (methods : List UniqueMethod) → HasTableShape priorities entry → HaveMethodShape (length entry.columns) methods
    → HasTableShape priorities (with_key_methods methods entry)
with_key_methods-shape priorities entry methods shape fit = record {
  columns = shape.columns;
  column_names = shape.column_names;
  keys = shape.keys;
  key_methods = fit;
  groups = shape.groups;
  group_names = shape.group_names;
  shadow_free = shape.shadow_free;
  groups_apart = shape.groups_apart;
  constraints = shape.constraints;
  constraint_number = shape.constraint_number;
  constraint_names = shape.constraint_names;
  key_free = shape.key_free;
  constraints_apart = shape.constraints_apart;
  checks = shape.checks;
  check_number = shape.check_number;
  check_names = shape.check_names;
}

-- the steps behind the name of a constraint
abbrev method_steps : TableEntry → UniqueWords → List UniqueMethod → List (Option Refusal)
method_steps entry method methods = unknown_column entry.columns (unique_words_column method) ∷ full most_methods (length methods) limit.Methods ∷ []

-- a constraint whose methods the steps let pass has one more
HaveMethodShape-steps : (entry : TableEntry) (method : UniqueWords) (methods : List UniqueMethod) → first_refusal (method_steps entry method methods) ≡ None
    → HaveMethodShape (length entry.columns) methods → HaveMethodShape (length entry.columns) (methods ++ unique_method_of entry.columns method ∷ [])
HaveMethodShape-steps entry method methods passed shape =
    let steps = or_then-None _ _ passed in
    HaveMethodShape-push (length entry.columns) methods (unique_method_of entry.columns method) shape (full-None _ _ limit.Methods (or_then-None _ _ steps.1).0)
    (unique_method_of-column entry.columns method steps.0)

with_unique_method-shape : (priorities : ℕ) (name : List ℕ) (method : UniqueWords) (entry : TableEntry)
    → first_refusal (known (constraint_methods (constraint_named entry name)) (method_steps entry method)) ≡ None → HasTableShape priorities entry
    → HasTableShape priorities (with_constraints (with_changed (is_constraint name) (with_unique_method (unique_method_of entry.columns method)) entry.constraints) entry)
with_unique_method-shape priorities name method entry passed shape =
    let change : Constraint → Constraint = with_unique_method (unique_method_of entry.columns method) in
    let fits : (c : Constraint) → constraint_named entry name ≡ Some c → HasConstraintShape (length entry.columns) c → HasConstraintShape (length entry.columns) (change c) = λ c is fits.
    record {
      columns = fits.columns;
      methods = HaveMethodShape-steps entry method c.methods
          (known-None (constraint_methods (constraint_named entry name)) c.methods (method_steps entry method) (ap constraint_methods is) passed) fits.methods;
    } in
    with_constraints-shape priorities entry (with_changed (is_constraint name) change entry.constraints) shape
    (All-with_changed (is_constraint name) change (HasConstraintShape (length entry.columns)) entry.constraints shape.constraints fits)
    (rw (length-with_changed (is_constraint name) change entry.constraints) shape.constraint_number)
    (AreDistinct-with_changed (is_constraint name) change (λ c. c.name) (λ c. refl) entry.constraints shape.constraint_names)
    (All-with_changed (is_constraint name) change (λ c. c.name ≢ key_name) entry.constraints shape.key_free (λ c is free. free))
    (AllPairs-with_changed (is_constraint name) change ShareNone (λ c. c.columns) (λ c. refl) entry.constraints shape.constraints_apart)

one_more_unique_method : (priorities : ℕ) (name : List ℕ) (method : UniqueWords) (entry : TableEntry) → first_refusal (known (methods_named entry name) (method_steps entry method)) ≡ None
    → HasTableShape priorities entry → HasTableShape priorities (with_method_on name (unique_method_of entry.columns method) entry)
one_more_unique_method priorities name method entry passed shape = at (same_bytes name key_name) passed
  where
    at : (b : Bool) → first_refusal (known (cond b (Some entry.key_methods) (constraint_methods (constraint_named entry name))) (method_steps entry method)) ≡ None
        → HasTableShape priorities (cond b (with_key_methods (entry.key_methods ++ unique_method_of entry.columns method ∷ []) entry)
        (with_constraints (with_changed (is_constraint name) (with_unique_method (unique_method_of entry.columns method)) entry.constraints) entry))
    at true passed = with_key_methods-shape priorities entry (entry.key_methods ++ unique_method_of entry.columns method ∷ []) shape
        (HaveMethodShape-steps entry method entry.key_methods passed shape.key_methods)
    at false passed = with_unique_method-shape priorities name method entry passed shape

-- a table keeps its name with one more method of a constraint
name-with_method_on : (name : List ℕ) (method : UniqueMethod) (entry : TableEntry) → (with_method_on name method entry).name ≡ entry.name
name-with_method_on name method entry = at (same_bytes name key_name)
  where
    at : (b : Bool) → (cond b (with_key_methods (entry.key_methods ++ method ∷ []) entry)
        (with_constraints (with_changed (is_constraint name) (with_unique_method method) entry.constraints) entry)).name ≡ entry.name
    at true = refl
    at false = refl

-- with a method of a constraint that isn't refused
pub HasShape-UniqueMethod : (schema : Schema) (table : TableName) (name : List ℕ) (method : UniqueWords) → HasShape schema
    → declare_refusal schema (declare.UniqueMethod table name method) ≡ None → HasShape (declared (declare.UniqueMethod table name method) schema)
HasShape-UniqueMethod schema table name method shape passed =
    HasShape-with_table_changed schema table (λ entry. with_method_on name (unique_method_of entry.columns method) entry) shape
    (λ entry. name-with_method_on name (unique_method_of entry.columns method) entry)
    (λ entry found. one_more_unique_method (length schema.priorities) name method entry (known-None (table_named schema table) entry _ found passed))
