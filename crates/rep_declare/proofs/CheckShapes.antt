-- A check more keeps the shape of a schema.
use Rattle.std.proofs.Common.{◌≡◌, ◌≢◌, ℕ, ◌<◌, ◌≤◌, false, List, [], ◌∷◌, ◌++◌, length, Option, Some, None, refl, arith}
use Rattle.std.specs.Prelude.{map}
use Rattle.std.specs.List.{All}
use Rattle.std.proofs.lemmas.List.{length_push}
use Rattle.std.proofs.lemmas.List.Elements.{All-push, All-weaker}
use Rattle.rep_values.specs.declared.name.TableName.{TableName}
use Rattle.rep_values.specs.declared.literal.Literal.{Literal}
use Rattle.rep_values.specs.declared.refusal.Refusal.{Refusal}
use Rattle.rep_values.specs.declared.refusal.Limit.TheVariants as limit
use Rattle.rep_values.specs.Literal.{value_of_literal}
use Rattle.rep_schema.specs.declared.schema.Schema.{Schema}
use Rattle.rep_schema.specs.declared.schema.TableEntry.{TableEntry}
use Rattle.rep_schema.specs.declared.check.Check.{Check}
use Rattle.rep_schema.specs.declared.check.Rel.{Rel}
use Rattle.rep_schema.specs.Limits.{most_checks}
use Rattle.rep_schema.specs.Shape.{AreDistinct, HasTableShape, HasShape}
use Rattle.rep_declare.specs.declared.declaration.Declare.TheVariants as declare
use Rattle.rep_schema.specs.Named.{is_check, table_named, column_named}
use Rattle.rep_values.specs.RefusalSteps.{first_refusal, known}
use Rattle.rep_declare.specs.Refusals.{steps_of, declare_refusal}
use Rattle.rep_declare.specs.Additions.{column_number, with_checks, declared}
use Rattle.rep_values.proofs.RefusalSteps.{or_then-None, full-None, taken-None, known-None}
use Rattle.rep_declare.proofs.ListNames.{same_bytes-false, find-None, AreDistinct-push}
use Rattle.rep_declare.proofs.PlacesNamed.{column_number-named}
use Rattle.rep_declare.proofs.TableShapes.{HasShape-with_table_changed}

-- a table with other checks
with_checks-shape : (priorities : ℕ) (entry : TableEntry) (checks : List Check) → HasTableShape priorities entry
    → All (λ c. c.column < length entry.columns) checks → length checks ≤ most_checks → AreDistinct (map (λ c. c.name) checks)
    → HasTableShape priorities (with_checks checks entry)
with_checks-shape priorities entry checks shape fit number names = record {
  columns = shape.columns;
  column_names = shape.column_names;
  keys = shape.keys;
  key_methods = shape.key_methods;
  groups = shape.groups;
  group_names = shape.group_names;
  shadow_free = shape.shadow_free;
  groups_apart = shape.groups_apart;
  constraints = shape.constraints;
  constraint_number = shape.constraint_number;
  constraint_names = shape.constraint_names;
  key_free = shape.key_free;
  constraints_apart = shape.constraints_apart;
  checks = fit;
  check_number = number;
  check_names = names;
}

-- a check as it is declared for a table
abbrev new_check : List ℕ → List ℕ → Rel → Literal → TableEntry → Check
new_check name column rel value entry = record { name = name; column = column_number entry.columns column; rel = rel; value = value_of_literal value }

-- where nothing refuses, something of the name is there, and what follows doesn't refuse
known_there : {X : Type 0} (found : Option X) (steps : X → List (Option Refusal)) → first_refusal (known found steps) ≡ None
    → (x : X) × (found ≡ Some x) × (first_refusal (steps x) ≡ None)
known_there None steps passed = cc
known_there (Some x) steps passed = (x, refl, passed)

one_more_check : (schema : Schema) (table : TableName) (name column : List ℕ) (rel : Rel) (value : Literal) (entry : TableEntry)
    → first_refusal (steps_of schema (declare.Check table name column rel value)) ≡ None → table_named schema table ≡ Some entry → HasTableShape (length schema.priorities) entry
    → HasTableShape (length schema.priorities) (with_checks (entry.checks ++ new_check name column rel value entry ∷ []) entry)
one_more_check schema table name column rel value entry passed found shape =
    let check : Check = new_check name column rel value entry in
    let steps = or_then-None _ _ (known-None (table_named schema table) entry _ found passed) in
    let there = known_there (column_named entry.columns column) _ steps.1 in
    let room : length entry.checks < most_checks = full-None _ _ limit.Checks (or_then-None _ _ there.2).0 in
    let other : All (λ c. is_check name c ≡ false) entry.checks = find-None (is_check name) entry.checks (taken-None _ steps.0) in
    with_checks-shape (length schema.priorities) entry (entry.checks ++ check ∷ []) shape
    (All-push (λ c. c.column < length entry.columns) entry.checks check shape.checks (column_number-named entry.columns column there.0 there.1))
    (omega (arith, room, length_push entry.checks check))
    (AreDistinct-push (λ c. c.name) entry.checks check shape.check_names
    (All-weaker (λ c. is_check name c ≡ false) (λ c. c.name ≢ name) (λ c. same_bytes-false c.name name) entry.checks other))

-- with a check that isn't refused
pub HasShape-Check : (schema : Schema) (table : TableName) (name column : List ℕ) (rel : Rel) (value : Literal) → HasShape schema
    → declare_refusal schema (declare.Check table name column rel value) ≡ None → HasShape (declared (declare.Check table name column rel value) schema)
HasShape-Check schema table name column rel value shape passed =
    HasShape-with_table_changed schema table (λ entry. with_checks (entry.checks ++ new_check name column rel value entry ∷ []) entry) shape (λ t. refl)
    (λ entry. one_more_check schema table name column rel value entry passed)
