-- A group or a secondary constraint more keeps the shape of a schema.
use Rattle.std.proofs.Common.{◌≡◌, ◌≢◌, ℕ, ◌<◌, ◌≤◌, false, List, [], ◌∷◌, ◌++◌, length, Some, None, refl, arith}
use Rattle.std.specs.Prelude.{map}
use Rattle.std.specs.List.{All, AllPairs}
use Rattle.std.proofs.lemmas.List.{length_push}
use Rattle.std.proofs.lemmas.List.Elements.{All-push, All-weaker}
use Rattle.std.proofs.lemmas.List.Quantifiers.{all_pairs_push}
use Rattle.rep_values.specs.declared.name.TableName.{TableName}
use Rattle.rep_values.specs.declared.refusal.Refusal.TheVariants as refusal
use Rattle.rep_values.specs.declared.refusal.Limit.TheVariants as limit
use Rattle.rep_schema.specs.declared.schema.Schema.{Schema}
use Rattle.rep_schema.specs.declared.schema.TableEntry.{TableEntry}
use Rattle.rep_schema.specs.declared.schema.Group.{Group}
use Rattle.rep_schema.specs.declared.schema.Constraint.{Constraint}
use Rattle.rep_schema.specs.Limits.{most_constraints}
use Rattle.rep_schema.specs.Shape.{shadow_name, key_name, AreDistinct, ShareNone, HasGroupShape, HasConstraintShape, HasTableShape, HasShape}
use Rattle.rep_declare.specs.declared.declaration.Declare.TheVariants as declare
use Rattle.rep_schema.specs.Named.{is_group, is_constraint, table_named, places_named}
use Rattle.rep_values.specs.RefusalSteps.{first_refusal}
use Rattle.rep_declare.specs.Refusals.{steps_of, declare_refusal}
use Rattle.rep_declare.specs.Additions.{with_groups, with_constraints, declared}
use Rattle.rep_values.proofs.RefusalSteps.{or_then-None, refused-None, full-None, taken-None, known-None}
use Rattle.rep_declare.proofs.ListNames.{same_bytes-false, find-None, AreDistinct-push}
use Rattle.rep_declare.proofs.PlacesNamed.{AreColumns-places_named, ShareNone-places_named}
use Rattle.rep_declare.proofs.TableShapes.{HasShape-with_table_changed}

-- a table with other groups
pub with_groups-shape : (priorities : ℕ) (entry : TableEntry) (groups : List Group) → HasTableShape priorities entry
    → All (HasGroupShape (length entry.columns) priorities) groups → AreDistinct (map (λ g. g.name) groups) → All (λ g. g.name ≢ shadow_name) groups
    → AllPairs (λ g h. ShareNone g.columns h.columns) groups → HasTableShape priorities (with_groups groups entry)
with_groups-shape priorities entry groups shape fit names free apart = record {
  columns = shape.columns;
  column_names = shape.column_names;
  keys = shape.keys;
  key_methods = shape.key_methods;
  groups = fit;
  group_names = names;
  shadow_free = free;
  groups_apart = apart;
  constraints = shape.constraints;
  constraint_number = shape.constraint_number;
  constraint_names = shape.constraint_names;
  key_free = shape.key_free;
  constraints_apart = shape.constraints_apart;
  checks = shape.checks;
  check_number = shape.check_number;
  check_names = shape.check_names;
}

-- a table with other secondary constraints
pub with_constraints-shape : (priorities : ℕ) (entry : TableEntry) (constraints : List Constraint) → HasTableShape priorities entry
    → All (HasConstraintShape (length entry.columns)) constraints → length constraints ≤ most_constraints → AreDistinct (map (λ c. c.name) constraints)
    → All (λ c. c.name ≢ key_name) constraints → AllPairs (λ c d. ShareNone c.columns d.columns) constraints → HasTableShape priorities (with_constraints constraints entry)
with_constraints-shape priorities entry constraints shape fit number names free apart = record {
  columns = shape.columns;
  column_names = shape.column_names;
  keys = shape.keys;
  key_methods = shape.key_methods;
  groups = shape.groups;
  group_names = shape.group_names;
  shadow_free = shape.shadow_free;
  groups_apart = shape.groups_apart;
  constraints = fit;
  constraint_number = number;
  constraint_names = names;
  key_free = free;
  constraints_apart = apart;
  checks = shape.checks;
  check_number = shape.check_number;
  check_names = shape.check_names;
}

-- a group of columns that are named, with no methods yet
abbrev new_group : List ℕ → List (List ℕ) → TableEntry → Group
new_group name columns entry = record { name = name; columns = places_named entry.columns columns; methods = [] }

one_more_group : (schema : Schema) (table : TableName) (name : List ℕ) (columns : List (List ℕ)) (entry : TableEntry) → 1 ≤ length columns
    → first_refusal (steps_of schema (declare.Group table name columns)) ≡ None → table_named schema table ≡ Some entry → HasTableShape (length schema.priorities) entry
    → HasTableShape (length schema.priorities) (with_groups (entry.groups ++ new_group name columns entry ∷ []) entry)
one_more_group schema table name columns entry some passed found shape =
    let group : Group = new_group name columns entry in
    let steps = or_then-None _ _ (known-None (table_named schema table) entry _ found passed) in
    let later = or_then-None _ _ steps.1 in
    let named = (or_then-None _ _ later.1).0 in
    let other : All (λ g. is_group name g ≡ false) entry.groups = find-None (is_group name) entry.groups (taken-None _ later.0) in
    with_groups-shape (length schema.priorities) entry (entry.groups ++ group ∷ []) shape
    (All-push (HasGroupShape (length entry.columns) (length schema.priorities)) entry.groups group shape.groups (record {
      columns = AreColumns-places_named entry.columns _ columns named some;
      methods = omega arith;
      method_columns = λ k d within. absurd (omega (arith, within));
      method_priorities = λ k d within. absurd (omega (arith, within));
    }))
    (AreDistinct-push (λ g. g.name) entry.groups group shape.group_names
    (All-weaker (λ g. is_group name g ≡ false) (λ g. g.name ≢ name) (λ g. same_bytes-false g.name name) entry.groups other))
    (All-push (λ g. g.name ≢ shadow_name) entry.groups group shape.shadow_free (same_bytes-false name shadow_name (refused-None _ refusal.NameTaken steps.0)))
    (all_pairs_push (λ g h. ShareNone g.columns h.columns) entry.groups group shape.groups_apart
    (ShareNone-places_named (λ g. g.columns) entry.groups entry.columns columns shape.column_names named))

-- with a group that isn't refused
pub HasShape-Group : (schema : Schema) (table : TableName) (name : List ℕ) (columns : List (List ℕ)) → HasShape schema → 1 ≤ length columns
    → declare_refusal schema (declare.Group table name columns) ≡ None → HasShape (declared (declare.Group table name columns) schema)
HasShape-Group schema table name columns shape some passed =
    HasShape-with_table_changed schema table (λ entry. with_groups (entry.groups ++ new_group name columns entry ∷ []) entry) shape (λ t. refl)
    (λ entry. one_more_group schema table name columns entry some passed)

-- a secondary constraint of columns that are named, with no methods yet
abbrev new_constraint : List ℕ → List (List ℕ) → TableEntry → Constraint
new_constraint name columns entry = record { name = name; columns = places_named entry.columns columns; methods = [] }

one_more_constraint : (schema : Schema) (table : TableName) (name : List ℕ) (columns : List (List ℕ)) (entry : TableEntry) → 1 ≤ length columns
    → first_refusal (steps_of schema (declare.Unique table name columns)) ≡ None → table_named schema table ≡ Some entry → HasTableShape (length schema.priorities) entry
    → HasTableShape (length schema.priorities) (with_constraints (entry.constraints ++ new_constraint name columns entry ∷ []) entry)
one_more_constraint schema table name columns entry some passed found shape =
    let constraint : Constraint = new_constraint name columns entry in
    let steps = or_then-None _ _ (known-None (table_named schema table) entry _ found passed) in
    let later = or_then-None _ _ steps.1 in
    let last = or_then-None _ _ later.1 in
    let room : length entry.constraints < most_constraints = full-None _ _ limit.Constraints (or_then-None _ _ last.1).0 in
    let other : All (λ c. is_constraint name c ≡ false) entry.constraints = find-None (is_constraint name) entry.constraints (taken-None _ later.0) in
    with_constraints-shape (length schema.priorities) entry (entry.constraints ++ constraint ∷ []) shape
    (All-push (HasConstraintShape (length entry.columns)) entry.constraints constraint shape.constraints (record {
      columns = AreColumns-places_named entry.columns _ columns last.0 some;
      methods = record { number = omega arith; columns = λ k d within. absurd (omega (arith, within)) };
    }))
    (omega (arith, room, length_push entry.constraints constraint))
    (AreDistinct-push (λ c. c.name) entry.constraints constraint shape.constraint_names
    (All-weaker (λ c. is_constraint name c ≡ false) (λ c. c.name ≢ name) (λ c. same_bytes-false c.name name) entry.constraints other))
    (All-push (λ c. c.name ≢ key_name) entry.constraints constraint shape.key_free (same_bytes-false name key_name (refused-None _ refusal.NameTaken steps.0)))
    (all_pairs_push (λ c d. ShareNone c.columns d.columns) entry.constraints constraint shape.constraints_apart
    (ShareNone-places_named (λ c. c.columns) entry.constraints entry.columns columns shape.column_names last.0))

-- with a secondary constraint that isn't refused
pub HasShape-Unique : (schema : Schema) (table : TableName) (name : List ℕ) (columns : List (List ℕ)) → HasShape schema → 1 ≤ length columns
    → declare_refusal schema (declare.Unique table name columns) ≡ None → HasShape (declared (declare.Unique table name columns) schema)
HasShape-Unique schema table name columns shape some passed =
    HasShape-with_table_changed schema table (λ entry. with_constraints (entry.constraints ++ new_constraint name columns entry ∷ []) entry) shape (λ t. refl)
    (λ entry. one_more_constraint schema table name columns entry some passed)
