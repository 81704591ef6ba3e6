-- The tables that are stored, with a declaration: the first table that has a name, changed, and its indexes.
use Rattle.std.proofs.Common.{◌≡◌, ℕ, zero, suc, ◌<◌, ◌≤◌, Bool, true, false, cond, List, [], ◌∷◌, ◌++◌, length, get_or, set, map, Some, None, refl, sym, ap, ◌∙◌, arith}
use Rattle.std.specs.List.{position, position_or_len}
use Rattle.std.proofs.lemmas.Grind.{common_steps}
use Rattle.std.proofs.lemmas.List.{get_or-map, map-set, map_push, length-map}
use Rattle.std.proofs.lemmas.List.Quantifiers.{position-Some}
use Rattle.std.proofs.lemmas.List.Sums.{fails_before_first}
use Rattle.rep_values.specs.declared.name.TableName.{TableName}
use Rattle.rep_schema.specs.declared.schema.Schema.{Schema}
use Rattle.rep_schema.specs.declared.schema.TableEntry.{TableEntry}
use Rattle.rep_schema.specs.declared.schema.Constraint.{Constraint}
use Rattle.rep_schema.specs.Named.{is_table, is_constraint, table_place, places_named}
use Rattle.rep_schema.specs.Tables.{rows_of}
use Rattle.rep_values.specs.Name.{same_bytes}
use Rattle.rep_schema.specs.Shape.{key_name}
use Rattle.rep_schema.specs.declared.schema.UniqueMethod.{UniqueMethod}
use Rattle.rep_declare.specs.declared.declaration.Declare.{Declare}
use Rattle.rep_declare.specs.declared.declaration.Declare.TheVariants as declare
use Rattle.rep_declare.specs.Additions.{with_changed, with_constraints, with_method_on, with_unique_method}
use Rattle.page_tables.specs.Stored.{StoredTable, rows_in, columns_of_each, AreIndexed}
use Rattle.page_tables.specs.Changes.{AreStoredWith, AreStoredWithUnique}
use Rattle.page_tables.proofs.OneTable.{rows_of-stored, rows_in-set_same}

-- the columns of the constraints of a table
abbrev uniques_by : TableEntry → List (List ℕ)
uniques_by entry = columns_of_each entry.constraints

module _ {X : Type 0} (test : X → Bool) (change : X → X) where
  -- what the change keeps stays
  map-with_changed : {Y : Type 0} (f : X → Y) → ((x : X) → f (change x) ≡ f x) → (xs : List X) → map f (with_changed test change xs) ≡ map f xs
  map-with_changed {Y} f keeps [] = refl
  map-with_changed {Y} f keeps (x ∷ xs) = at (test x) (map-with_changed f keeps xs)
    where
      at : (b : Bool) → map f (with_changed test change xs) ≡ map f xs → map f (cond b (change x ∷ xs) (x ∷ with_changed test change xs)) ≡ f x ∷ map f xs
      at true later = ap (λ y. y ∷ map f xs) (keeps x)
      at false later = ap (λ ys. f x ∷ ys) later

  -- the first that passes the test is changed at its place
  with_changed-at : (xs : List X) (i : ℕ) (d : X) → i < length xs → test (get_or xs i d) ≡ true → ((k : ℕ) → k < i → test (get_or xs k d) ≡ false)
      → with_changed test change xs ≡ set xs i (change (get_or xs i d))
  with_changed-at [] i d below is before = absurd (omega (arith, below))
  with_changed-at (x ∷ xs) zero d below is before = rw is refl
  with_changed-at (x ∷ xs) (suc i) d below is before =
      rw (before 0 (omega arith)) (ap (λ ys. x ∷ ys) (with_changed-at xs i d (omega (arith, below)) is (λ k less. before (suc k) (omega (arith, less)))))

  -- where none passes it, none is changed
  with_changed-none : (xs : List X) → ((k : ℕ) (d : X) → k < length xs → test (get_or xs k d) ≡ false) → with_changed test change xs ≡ xs
  with_changed-none [] none = refl
  with_changed-none (x ∷ xs) none = rw (none 0 x (omega arith)) (ap (λ ys. x ∷ ys) (with_changed-none xs (λ k d below. none (suc k) d (omega (arith, below)))))

  with_changed-unfound : (xs : List X) → position test xs ≡ None → with_changed test change xs ≡ xs
  with_changed-unfound xs unfound =
      let past : length xs ≤ position_or_len test xs = grind (arith, common_steps) in
      with_changed-none xs (λ k d below. fails_before_first test xs k d (omega (arith, past, below)))

-- the constraints of a table whose constraint has one more method
uniques-with_method_on : (name : List ℕ) (method : UniqueMethod) (entry : TableEntry) → uniques_by (with_method_on name method entry) ≡ uniques_by entry
uniques-with_method_on name method entry = at (same_bytes name key_name)
  where
    at : (b : Bool) → uniques_by (cond b (record entry { key_methods = entry.key_methods ++ method ∷ [] }) (with_constraints (with_changed (is_constraint name) (with_unique_method method) entry.constraints) entry)) ≡ uniques_by entry
    at true = refl
    at false = map-with_changed (is_constraint name) (with_unique_method method) (λ (c : Constraint). c.columns) (λ c. refl) entry.constraints

-- each table that is stored is one of the schema
pub below_stored : (entries : List TableEntry) (stored : List StoredTable) (place : ℕ) → AreIndexed entries stored → place < length entries → place < length stored
below_stored entries stored place indexed below =
    let same = ap length indexed in
    omega (arith, below, same, length-map stored (λ t. t.uniques), length-map entries uniques_by)

-- a table has an index for each of its constraints
uniques-entry : (entries : List TableEntry) (stored : List StoredTable) (place : ℕ) (e : TableEntry) (t : StoredTable) → AreIndexed entries stored → place < length entries → e ≡ get_or entries place e → t ≡ get_or stored place t
    → t.uniques ≡ uniques_by e
uniques-entry entries stored place e t indexed below e_is t_is =
    sym (get_or-map (λ t. t.uniques) stored place t [] (below_stored entries stored place indexed below) ∙ ap (λ t. t.uniques) (sym t_is))
    ∙ (ap (λ xs. get_or xs place []) indexed ∙ (get_or-map uniques_by entries place e [] below ∙ ap uniques_by (sym e_is)))

module _ (schema : Schema) (stored : List StoredTable) (indexed : AreIndexed schema.tables stored) (table : TableName) (names : List (List ℕ)) where
  -- a table of this name has one more index
  pub stored_with_unique : (place : ℕ) (e : TableEntry) (t rows : StoredTable) → table_place schema table ≡ Some place → rows_of (rows_in stored) place ≡ [] → e ≡ get_or schema.tables place e → t ≡ get_or stored place t
      → rows.rows ≡ [] → rows.uniques ≡ t.uniques ++ places_named e.columns names ∷ [] → AreStoredWithUnique table names schema stored (set stored place rows)
  stored_with_unique place e t rows found free e_is t_is none uniques = λ name.
      let first = position-Some (is_table table) schema.tables place e found in
      let below = below_stored schema.tables stored place indexed first.0 in
      let add : TableEntry → TableEntry = λ entry. with_constraints (entry.constraints ++ record { name = name; columns = places_named entry.columns names; methods = [] } ∷ []) entry in
      let entries = with_changed-at (is_table table) add schema.tables place e first.0 first.1 first.2 in
      let old = uniques-entry schema.tables stored place e t indexed first.0 e_is t_is in
      let one : uniques_by (add e) ≡ uniques_by e ++ places_named e.columns names ∷ [] = map_push (λ (c : Constraint). c.columns) e.constraints _ in
      let new : rows.uniques ≡ uniques_by (add e) = uniques ∙ ap (λ xs. xs ++ places_named e.columns names ∷ []) old ∙ sym one in
      record {
        rows = rows_in-set_same stored place t rows t_is (none ∙ sym free ∙ rows_of-stored stored place below t t_is);
        indexed = map-set (λ t. t.uniques) stored place rows ∙ ap (λ xs. set xs place rows.uniques) indexed ∙ ap (λ x. set (map uniques_by schema.tables) place x) new
            ∙ sym (ap (map uniques_by) entries ∙ ap (λ x. map uniques_by (set schema.tables place (add x))) (sym e_is) ∙ map-set uniques_by schema.tables place (add e));
      }

  -- there is no table of this name
  pub stored_without : table_place schema table ≡ None → AreStoredWithUnique table names schema stored stored
  stored_without unfound = λ name. record { rows = refl; indexed = indexed ∙ ap (map uniques_by) (sym (with_changed-unfound (is_table table) _ schema.tables unfound)) }

-- a declaration of neither a table nor a constraint
abbrev pub IsAside : Declare → Type 0
IsAside (declare.Site name) = Unit {0}
IsAside (declare.LateSite name) = Unit {0}
IsAside (declare.SnapSite name master) = Unit {0}
IsAside (declare.Table name columns) = ⊥
IsAside (declare.Group table group columns) = Unit {0}
IsAside (declare.Method table group method) = Unit {0}
IsAside (declare.Priority group value level) = Unit {0}
IsAside (declare.SiteLevel site level) = Unit {0}
IsAside (declare.Unique table constraint columns) = ⊥
IsAside (declare.UniqueMethod table constraint method) = Unit {0}
IsAside (declare.Check table check column rel value) = Unit {0}
IsAside (declare.Convergent table) = Unit {0}

-- a change of one table that keeps the columns of its constraints
kept_indexed : (schema : Schema) (stored : List StoredTable) (table : TableName) (change : TableEntry → TableEntry) → ((entry : TableEntry) → uniques_by (change entry) ≡ uniques_by entry) → AreIndexed schema.tables stored
    → AreIndexed (with_changed (is_table table) change schema.tables) stored
kept_indexed schema stored table change keeps indexed = indexed ∙ sym (map-with_changed (is_table table) change uniques_by keeps schema.tables)

-- such a declaration keeps the columns of each constraint
pub stored_aside : (declaration : Declare) (schema : Schema) (stored : List StoredTable) → IsAside declaration → AreIndexed schema.tables stored → AreStoredWith declaration schema stored stored
stored_aside (declare.Site name) schema stored aside indexed = record { rows = refl; indexed = indexed }
stored_aside (declare.LateSite name) schema stored aside indexed = record { rows = refl; indexed = indexed }
stored_aside (declare.SnapSite name master) schema stored aside indexed = record { rows = refl; indexed = indexed }
stored_aside (declare.Table name columns) schema stored aside indexed = absurd aside
stored_aside (declare.Group table group columns) schema stored aside indexed = record { rows = refl; indexed = kept_indexed schema stored table _ (λ entry. refl) indexed }
stored_aside (declare.Method table group method) schema stored aside indexed = record { rows = refl; indexed = kept_indexed schema stored table _ (λ entry. refl) indexed }
stored_aside (declare.Priority group value level) schema stored aside indexed = record { rows = refl; indexed = indexed }
stored_aside (declare.SiteLevel site level) schema stored aside indexed = record { rows = refl; indexed = indexed }
stored_aside (declare.Unique table constraint columns) schema stored aside indexed = absurd aside
stored_aside (declare.UniqueMethod table constraint method) schema stored aside indexed =
    record { rows = refl; indexed = kept_indexed schema stored table _ (λ entry. uniques-with_method_on constraint _ entry) indexed }
stored_aside (declare.Check table check column rel value) schema stored aside indexed = record { rows = refl; indexed = kept_indexed schema stored table _ (λ entry. refl) indexed }
stored_aside (declare.Convergent table) schema stored aside indexed = record { rows = refl; indexed = kept_indexed schema stored table _ (λ entry. refl) indexed }
