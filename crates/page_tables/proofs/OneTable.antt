-- A store where one of its tables is read or changed.
use Rattle.std.proofs.Common.{◌≡◌, ◌≢◌, ℕ, zero, suc, ◌<◌, List, [], ◌∷◌, length, get_or, set, map, refl, sym, ap, ◌∙◌, subst, arith}
use Rattle.std.specs.Prelude.{slice_get}
use Rattle.std.specs.List.{AllByRecursion}
use Rattle.std.proofs.Math.Seq.{map-set_same}
use Rattle.std.proofs.lemmas.List.{get_or-set_other, get_or-set_same, map-set, get_or-map, length-map}
use Rattle.rep_schema.specs.declared.schema.Schema.{Schema}
use Rattle.rep_schema.specs.declared.schema.TableEntry.{TableEntry}
use Rattle.rep_schema.specs.declared.schema.Constraint.{Constraint}
use Rattle.rep_schema.specs.Tables.{Cells, Rows, rows_of, columns_of, constraints_in, constraints_of, constraint_columns_of, places_in, IsTable, AreTables, IsUniqueRow, IsHeldElsewhere}
use Rattle.rep_schema.proofs.TableSteps.{AreTables-set}
use Rattle.page_tables.specs.Stored.{StoredTable, rows_in, spare_in, columns_of_each, AreIndexed}

module _ (stored : List StoredTable) (table : ℕ) (in_range : table < length stored) where
  -- the rows that are kept for a table are its rows
  pub rows_of-stored : (t : StoredTable) → t ≡ get_or stored table t → rows_of (rows_in stored) table ≡ t.rows
  rows_of-stored t t_is = get_or-map (λ t. t.rows) stored table t [] in_range ∙ ap (λ t. t.rows) (sym t_is)

  -- and the room is its room
  pub spare-stored : (t : StoredTable) → t ≡ get_or stored table t → get_or (spare_in stored) table 0 ≡ t.spare
  spare-stored t t_is = get_or-map (λ t. t.spare) stored table t 0 in_range ∙ ap (λ t. t.spare) (sym t_is)

  pub spare-set : (t : StoredTable) → get_or (spare_in (set stored table t)) table 0 ≡ t.spare
  spare-set t = ap (λ xs. get_or xs table 0) (map-set (λ t. t.spare) stored table t) ∙ get_or-set_same (spare_in stored) table t.spare 0 (omega (arith, in_range, length-map stored (λ t. t.spare)))

-- the room of the other tables stays
pub spare-set_other : (stored : List StoredTable) (table k : ℕ) (t : StoredTable) → k ≢ table → get_or (spare_in (set stored table t)) k 0 ≡ get_or (spare_in stored) k 0
spare-set_other stored table k t other = ap (λ xs. get_or xs k 0) (map-set (λ t. t.spare) stored table t) ∙ get_or-set_other (spare_in stored) table k t.spare 0 other

-- one table's rows are changed
pub rows_in-set : (stored : List StoredTable) (table : ℕ) (t : StoredTable) → rows_in (set stored table t) ≡ set (rows_in stored) table t.rows
rows_in-set stored table t = map-set (λ t. t.rows) stored table t

-- no rows are changed
pub rows_in-set_same : (stored : List StoredTable) (table : ℕ) (t n : StoredTable) → t ≡ get_or stored table t → n.rows ≡ t.rows → rows_in (set stored table n) ≡ rows_in stored
rows_in-set_same stored table t n t_is same = map-set_same (λ t. t.rows) stored table n t (same ∙ ap (λ t. t.rows) t_is)

-- each table of the schema is kept
pub in_stored : (schema : Schema) (stored : List StoredTable) (table : ℕ) → table < length schema.tables → AreTables schema (rows_in stored) → table < length stored
in_stored schema stored table below are = omega (arith, below, are.number, length-map stored (λ t. t.rows))

-- what is kept is a table of the schema
pub stored_is_table : (schema : Schema) (stored : List StoredTable) (table : ℕ) (t : StoredTable) → table < length schema.tables → AreTables schema (rows_in stored) → t ≡ get_or stored table t → IsTable schema table t.rows
stored_is_table schema stored table t below are t_is =
    subst (IsTable schema table) (rows_of-stored stored table (in_stored schema stored table below are) t t_is) (are.each table below)

-- a table in the place of one
pub AreTables-stored : (schema : Schema) (stored : List StoredTable) (table : ℕ) (t : StoredTable) → AreTables schema (rows_in stored) → IsTable schema table t.rows → AreTables schema (rows_in (set stored table t))
AreTables-stored schema stored table t are is = subst (AreTables schema) (sym (rows_in-set stored table t)) (AreTables-set schema (rows_in stored) table t.rows are is)

-- a constraint's columns
columns_at : (constraints : List Constraint) (constraint : ℕ) → get_or (columns_of_each constraints) constraint [] ≡ places_in (slice_get constraints constraint)
columns_at [] constraint = refl
columns_at (c ∷ cs) zero = refl
columns_at (c ∷ cs) (suc constraint) = columns_at cs constraint

uniques_at : (entries : List TableEntry) (table : ℕ) → get_or (map (λ (entry : TableEntry). columns_of_each entry.constraints) entries) table [] ≡ columns_of_each (constraints_in (slice_get entries table))
uniques_at [] table = refl
uniques_at (e ∷ es) zero = refl
uniques_at (e ∷ es) (suc table) = uniques_at es table

-- a table has an index for each of its constraints
pub uniques_of : (schema : Schema) (stored : List StoredTable) (table : ℕ) (t : StoredTable) → table < length stored → AreIndexed schema.tables stored → t ≡ get_or stored table t → t.uniques ≡ columns_of_each (constraints_of schema table)
uniques_of schema stored table t in_range indexed t_is =
    sym (get_or-map (λ t. t.uniques) stored table t [] in_range ∙ ap (λ t. t.uniques) (sym t_is)) ∙ (ap (λ xs. get_or xs table []) indexed ∙ uniques_at schema.tables table)

-- by which a constraint's index is found
pub constraint_at : (schema : Schema) (table constraint : ℕ) (uniques : List (List ℕ)) → uniques ≡ columns_of_each (constraints_of schema table) → get_or uniques constraint [] ≡ constraint_columns_of schema table constraint
constraint_at schema table constraint uniques is = ap (λ xs. get_or xs constraint []) is ∙ columns_at (constraints_of schema table) constraint

pub constraint_below : (schema : Schema) (table constraint : ℕ) (uniques : List (List ℕ)) → uniques ≡ columns_of_each (constraints_of schema table) → constraint < length (constraints_of schema table) → constraint < length uniques
constraint_below schema table constraint uniques is below = let same = ap length is in omega (arith, below, same, length-map (constraints_of schema table) (λ (c : Constraint). c.columns))

-- what isn't held in any constraint
unheld_each : (P : List ℕ → Type 0) (constraints : List Constraint) → ((c : ℕ) → c < length constraints → P (places_in (slice_get constraints c))) → AllByRecursion P (columns_of_each constraints)
unheld_each P [] each = tt
unheld_each P (c ∷ cs) each = (each 0 (omega arith), unheld_each P cs (λ k below. each (suc k) (omega (arith, below))))

pub unheld_in : (schema : Schema) (table : ℕ) (row : Cells) (rows : Rows) (uniques : List (List ℕ)) → uniques ≡ columns_of_each (constraints_of schema table) → IsUniqueRow schema table row rows
    → AllByRecursion (λ places. ¬ IsHeldElsewhere (columns_of schema table) places row rows) uniques
unheld_in schema table row rows uniques is unique =
    rw is (unheld_each (λ places. ¬ IsHeldElsewhere (columns_of schema table) places row rows) (constraints_of schema table) unique.unheld)

-- the constraints of a table that is changed stay
pub AreIndexed-set : (entries : List TableEntry) (stored : List StoredTable) (table : ℕ) (t n : StoredTable) → t ≡ get_or stored table t → n.uniques ≡ t.uniques → AreIndexed entries stored → AreIndexed entries (set stored table n)
AreIndexed-set entries stored table t n t_is same indexed = map-set_same (λ t. t.uniques) stored table n t (same ∙ ap (λ t. t.uniques) t_is) ∙ indexed
