-- A table more, or one changed, keeps the shape of a schema.
use Rattle.std.proofs.Common.{◌≡◌, ◌≢◌, ℕ, ◌<◌, ◌≤◌, false, List, [], ◌∷◌, length, get_or, zero, suc, Option, Some, None, refl, sym, ap, ◌∙◌, arith}
use Rattle.std.specs.Prelude.{map}
use Rattle.std.specs.List.{All, list_any}
use Rattle.std.proofs.lemmas.Bool.{or_parts}
use Rattle.std.proofs.lemmas.List.{get_or-map, length-map, length_push}
use Rattle.std.proofs.lemmas.List.Elements.{All-push, All-weaker}
use Rattle.rep_values.specs.declared.name.TableName.{TableName}
use Rattle.rep_values.specs.declared.refusal.Refusal.TheVariants as refusal
use Rattle.rep_values.specs.declared.refusal.Limit.TheVariants as limit
use Rattle.rep_schema.specs.declared.schema.Schema.{Schema}
use Rattle.rep_schema.specs.declared.schema.TableEntry.{TableEntry}
use Rattle.rep_schema.specs.declared.schema.Column.{Column}
use Rattle.rep_schema.specs.declared.schema.Group.{Group}
use Rattle.rep_schema.specs.declared.schema.PriorityGroup.{PriorityGroup}
use Rattle.rep_schema.specs.Limits.{most_tables, most_columns, most_keys}
use Rattle.rep_schema.specs.Tables.{key_count}
use Rattle.rep_schema.specs.Shape.{AreDistinct, IsPlaceIn, method_priority, HasGroupShape, HasTableShape, HasLevelShape, HasShape}
use Rattle.rep_declare.specs.declared.declaration.Declare.TheVariants as declare
use Rattle.rep_schema.specs.Entries.{plain_table}
use Rattle.rep_schema.specs.Named.{is_table, is_column, table_named}
use Rattle.rep_declare.specs.Refusals.{share_a_name, declare_refusal}
use Rattle.rep_declare.specs.Additions.{made_convergent, with_table_changed, with_priorities, declared}
use Rattle.rep_values.proofs.RefusalSteps.{or_then-None, refused-None, full-None, too_many-None, taken-None}
use Rattle.rep_declare.proofs.ListNames.{same_bytes-false, find-None, list_any-false, AreDistinct-push, All-with_changed, AreDistinct-with_changed, length-with_changed}

-- the columns have names of their own where none is shared
AreDistinct-share_a_name : (columns : List Column) → share_a_name columns ≡ false → AreDistinct (map (λ c. c.name) columns)
AreDistinct-share_a_name [] none = λ i j d below within. absurd (omega (arith, within))
AreDistinct-share_a_name (c ∷ cs) none = at (AreDistinct-share_a_name cs parts.1)
  where
    parts : (list_any (is_column c.name) cs ≡ false) × (share_a_name cs ≡ false)
    parts = or_parts (list_any (is_column c.name) cs) (share_a_name cs) none

    other : (j : ℕ) (d : List ℕ) → j < length (map (λ c. c.name) cs) → c.name ≢ get_or (map (λ c. c.name) cs) j d
    other j d within same =
        let inside : j < length cs = omega (arith, within, length-map cs (λ (c : Column). c.name)) in
        let is : get_or (map (λ c. c.name) cs) j d ≡ (get_or cs j c).name = get_or-map (λ c. c.name) cs j c d inside in
        same_bytes-false (get_or cs j c).name c.name (list_any-false (is_column c.name) cs parts.0 j c inside) (sym (same ∙ is))

    at : AreDistinct (map (λ c. c.name) cs) → AreDistinct (map (λ c. c.name) (c ∷ cs))
    at later zero zero d below within = absurd (omega (arith, below))
    at later zero (suc j) d below within = other j d (omega (arith, within))
    at later (suc i) zero d below within = absurd (omega (arith, below))
    at later (suc i) (suc j) d below within = later i j d (omega (arith, below)) (omega (arith, within))

-- a new table has no groups, constraints, methods and checks
plain_table-shape : (priorities : ℕ) (name : TableName) (columns : List Column) → length columns ≤ most_columns → share_a_name columns ≡ false → key_count columns ≤ most_keys
    → HasTableShape priorities (plain_table name columns)
plain_table-shape priorities name columns few own keys = record {
  columns = few;
  column_names = AreDistinct-share_a_name columns own;
  keys = keys;
  key_methods = record { number = omega arith; columns = λ k d within. absurd (omega (arith, within)) };
  groups = λ k d within. absurd (omega (arith, within));
  group_names = λ i j d below within. absurd (omega (arith, within));
  shadow_free = λ k d within. absurd (omega (arith, within));
  groups_apart = λ i j d below within. absurd (omega (arith, within));
  constraints = λ k d within. absurd (omega (arith, within));
  constraint_number = omega arith;
  constraint_names = λ i j d below within. absurd (omega (arith, within));
  key_free = λ k d within. absurd (omega (arith, within));
  constraints_apart = λ i j d below within. absurd (omega (arith, within));
  checks = λ k d within. absurd (omega (arith, within));
  check_number = omega arith;
  check_names = λ i j d below within. absurd (omega (arith, within));
}

-- with a table that isn't refused
pub HasShape-Table : (schema : Schema) (name : TableName) (columns : List Column) → HasShape schema → declare_refusal schema (declare.Table name columns) ≡ None
    → HasShape (declared (declare.Table name columns) schema)
HasShape-Table schema name columns shape passed =
    let table : TableEntry = plain_table name columns in
    let names = or_then-None _ _ passed in
    let own = or_then-None _ _ names.1 in
    let room = or_then-None _ _ own.1 in
    let few = or_then-None _ _ room.1 in
    let fits : HasTableShape (length schema.priorities) table = plain_table-shape (length schema.priorities) name columns
    (too_many-None _ _ limit.Columns few.0) (refused-None _ refusal.NameTaken own.0) (too_many-None _ _ limit.Keys (or_then-None _ _ few.1).0) in
    let number : length schema.tables < most_tables = full-None _ _ limit.Tables room.0 in
    record {
      masters = shape.masters;
      snapshots = shape.snapshots;
      site_names = shape.site_names;
      site_masters = shape.site_masters;
      tables = All-push (HasTableShape (length schema.priorities)) schema.tables table shape.tables fits;
      table_number = omega (arith, number, length_push schema.tables table);
      table_names = AreDistinct-push (λ t. t.name) schema.tables table shape.table_names
          (All-weaker (λ t. is_table name t ≡ false) (λ t. t.name ≢ name) (λ t other same. same_bytes-false _ _ other (ap (λ n. n.0) same)) schema.tables
          (find-None (is_table name) schema.tables (taken-None _ names.0)));
      priorities = shape.priorities;
      priority_names = shape.priority_names;
    }

-- the table of a name changed, its name kept
pub HasShape-with_table_changed : (schema : Schema) (name : TableName) (change : TableEntry → TableEntry) → HasShape schema → ((t : TableEntry) → (change t).name ≡ t.name)
    → ((t : TableEntry) → table_named schema name ≡ Some t → HasTableShape (length schema.priorities) t → HasTableShape (length schema.priorities) (change t))
    → HasShape (with_table_changed name change schema)
HasShape-with_table_changed schema name change shape keeps fits = record {
  masters = shape.masters;
  snapshots = shape.snapshots;
  site_names = shape.site_names;
  site_masters = shape.site_masters;
  tables = All-with_changed (is_table name) change (HasTableShape (length schema.priorities)) schema.tables shape.tables fits;
  table_number = rw (length-with_changed (is_table name) change schema.tables) shape.table_number;
  table_names = AreDistinct-with_changed (is_table name) change (λ t. t.name) keeps schema.tables shape.table_names;
  priorities = shape.priorities;
  priority_names = shape.priority_names;
}

-- places that are there are there among more
IsPlaceIn-more : (number more : ℕ) (place : Option ℕ) → number ≤ more → IsPlaceIn number place → IsPlaceIn more place
IsPlaceIn-more number more None up is = tt
IsPlaceIn-more number more (Some place) up is = omega (arith, up, is)

HasGroupShape-more : (width number more : ℕ) (group : Group) → number ≤ more → HasGroupShape width number group → HasGroupShape width more group
HasGroupShape-more width number more group up shape = record {
  columns = shape.columns;
  methods = shape.methods;
  method_columns = shape.method_columns;
  method_priorities = All-weaker (λ m. IsPlaceIn number (method_priority m)) (λ m. IsPlaceIn more (method_priority m)) (λ m. IsPlaceIn-more number more (method_priority m) up)
      group.methods shape.method_priorities;
}

HasTableShape-more : (number more : ℕ) (entry : TableEntry) → number ≤ more → HasTableShape number entry → HasTableShape more entry
HasTableShape-more number more entry up shape = record {
  columns = shape.columns;
  column_names = shape.column_names;
  keys = shape.keys;
  key_methods = shape.key_methods;
  groups = All-weaker (HasGroupShape (length entry.columns) number) (HasGroupShape (length entry.columns) more) (λ g. HasGroupShape-more (length entry.columns) number more g up)
      entry.groups shape.groups;
  group_names = shape.group_names;
  shadow_free = shape.shadow_free;
  groups_apart = shape.groups_apart;
  constraints = shape.constraints;
  constraint_number = shape.constraint_number;
  constraint_names = shape.constraint_names;
  key_free = shape.key_free;
  constraints_apart = shape.constraints_apart;
  checks = shape.checks;
  check_number = shape.check_number;
  check_names = shape.check_names;
}

-- other priority groups, not fewer than before
pub HasShape-with_priorities : (schema : Schema) (groups : List PriorityGroup) → HasShape schema → length schema.priorities ≤ length groups
    → All HasLevelShape groups → AreDistinct (map (λ p. p.name) groups) → HasShape (with_priorities groups schema)
HasShape-with_priorities schema groups shape up levels names = record {
  masters = shape.masters;
  snapshots = shape.snapshots;
  site_names = shape.site_names;
  site_masters = shape.site_masters;
  tables = All-weaker (HasTableShape (length schema.priorities)) (HasTableShape (length groups)) (λ t. HasTableShape-more (length schema.priorities) (length groups) t up)
      schema.tables shape.tables;
  table_number = shape.table_number;
  table_names = shape.table_names;
  priorities = levels;
  priority_names = names;
}

made_convergent-shape : (priorities : ℕ) (entry : TableEntry) → HasTableShape priorities entry → HasTableShape priorities (made_convergent entry)
made_convergent-shape priorities entry shape = record {
  columns = shape.columns;
  column_names = shape.column_names;
  keys = shape.keys;
  key_methods = shape.key_methods;
  groups = shape.groups;
  group_names = shape.group_names;
  shadow_free = shape.shadow_free;
  groups_apart = shape.groups_apart;
  constraints = shape.constraints;
  constraint_number = shape.constraint_number;
  constraint_names = shape.constraint_names;
  key_free = shape.key_free;
  constraints_apart = shape.constraints_apart;
  checks = shape.checks;
  check_number = shape.check_number;
  check_names = shape.check_names;
}

-- with a table that is to agree
pub HasShape-Convergent : (schema : Schema) (table : TableName) → HasShape schema → HasShape (declared (declare.Convergent table) schema)
HasShape-Convergent schema table shape =
    HasShape-with_table_changed schema table made_convergent shape (λ t. refl) (λ t found. made_convergent-shape (length schema.priorities) t)
