-- The laws speak of the sites with which scripts begin: customers and orders meet what they ask of a start.
use Rattle.std.proofs.Common.{◌≡◌, ◌≢◌, ℕ, zero, suc, ◌<◌, List, [], ◌∷◌, get_or, true, false, refl, ap, arith}
use Rattle.std.specs.Prelude.{codes}
use Rattle.std.specs.List.{All, AllPairs}
use Rattle.std.proofs.lemmas.List.Elements.{All-from_recursion}
use Rattle.std.proofs.lemmas.List.Kept.{AllPairs-cons}
use Rattle.rep_values.specs.declared.name.SiteName.{SiteName}
use Rattle.rep_values.specs.declared.name.TableName.{TableName}
use Rattle.rep_schema.specs.Shape.{ShareNone, HasGroupShape, HasTableShape, HasMaster, HasShape}
use Rattle.rep_schema.specs.Fitting.{row_fits}
use Rattle.rep_schema.specs.Tables.{Cells, Rows, columns_of, rows_of, RowFits, IsUniqueRow, IsTable, AreTables}
use Rattle.rep_schema.proofs.FittingTests.{row_test}
use Rattle.schema_rules.specs.Rules.{broken_rule}
use Rattle.rep_laws.specs.Commuting.{IsSound}
use Rattle.site_state.specs.Making.{master_here}
use Rattle.site_state.proofs.WorkedSites.{a, s, master}
use Rattle.event_laws.specs.Starts.{IsStart}
use Rattle.event_laws.specs.Fitting.{IsFitStart}
use Rattle.event_laws.proofs.NewSites.{new_site_is_new}
use Rattle.event_laws.specs.SnapshotStarts.{IsSnapshotStart, IsLogStart}
use Rattle.event_laws.proofs.WorkedSubqueries.{schema, two, three, orders, start}

-- ---- the schema

first_letter : SiteName → ℕ
first_letter name = get_or name.0 0 0

one_pair : {X : Type 0} (R : X → X → Type 0) (x : X) → AllPairs R (x ∷ [])
one_pair R x i j e before within = absurd (omega (arith, before, within))

no_pair : {X : Type 0} (R : X → X → Type 0) → AllPairs R []
no_pair R i j e before within = absurd (omega (arith, before, within))

two_apart : {X : Type 0} (x y : X) → x ≢ y → AllPairs (λ (u v : X). u ≢ v) (x ∷ y ∷ [])
two_apart x y differ = AllPairs-cons (λ u v. u ≢ v) x (y ∷ []) (All-from_recursion (λ v. x ≢ v) (y ∷ []) (differ, tt)) (one_pair (λ u v. u ≢ v) y)

sites_are_distinct : AllPairs (λ (x y : SiteName). x ≢ y) (a ∷ s ∷ [])
unfolding first_letter
sites_are_distinct = two_apart a s (λ same. let first : 65 ≡ 83 = ap first_letter same in omega arith)

customers_columns : AllPairs (λ (x y : List ℕ). x ≢ y) (codes "ID" ∷ codes "ZONE" ∷ [])
customers_columns = two_apart (codes "ID") (codes "ZONE") (λ same. let first : 73 ≡ 90 = ap (λ n. get_or n 0 0) same in omega arith)

orders_columns : AllPairs (λ (x y : List ℕ). x ≢ y) (codes "NO" ∷ codes "CUST" ∷ codes "AMT" ∷ [])
orders_columns = AllPairs-cons (λ x y. x ≢ y) (codes "NO") (codes "CUST" ∷ codes "AMT" ∷ [])
    (All-from_recursion (λ y. codes "NO" ≢ y) (codes "CUST" ∷ codes "AMT" ∷ [])
    ((λ same. let first : 78 ≡ 67 = ap (λ n. get_or n 0 0) same in omega arith), ((λ same. let first : 78 ≡ 65 = ap (λ n. get_or n 0 0) same in omega arith), tt)))
    (two_apart (codes "CUST") (codes "AMT") (λ same. let first : 67 ≡ 65 = ap (λ n. get_or n 0 0) same in omega arith))

tables_have_shape : All (HasTableShape 0) schema.tables
tables_have_shape = All-from_recursion (HasTableShape 0) schema.tables (
  record {
    columns = omega arith;
    column_names = customers_columns;
    keys = omega arith;
    key_methods = record { number = omega arith; columns = All-from_recursion _ [] tt };
    groups = All-from_recursion (HasGroupShape 2 0) [] tt;
    group_names = no_pair (λ x y. x ≢ y);
    shadow_free = All-from_recursion _ [] tt;
    groups_apart = no_pair (λ g h. ShareNone g.columns h.columns);
    constraints = All-from_recursion _ [] tt;
    constraint_number = omega arith;
    constraint_names = no_pair (λ x y. x ≢ y);
    key_free = All-from_recursion _ [] tt;
    constraints_apart = no_pair (λ c d. ShareNone c.columns d.columns);
    checks = All-from_recursion _ [] tt;
    check_number = omega arith;
    check_names = no_pair (λ x y. x ≢ y);
  },
  (
    record {
      columns = omega arith;
      column_names = orders_columns;
      keys = omega arith;
      key_methods = record { number = omega arith; columns = All-from_recursion _ [] tt };
      groups = All-from_recursion (HasGroupShape 3 0) [] tt;
      group_names = no_pair (λ x y. x ≢ y);
      shadow_free = All-from_recursion _ [] tt;
      groups_apart = no_pair (λ g h. ShareNone g.columns h.columns);
      constraints = All-from_recursion _ [] tt;
      constraint_number = omega arith;
      constraint_names = no_pair (λ x y. x ≢ y);
      key_free = All-from_recursion _ [] tt;
      constraints_apart = no_pair (λ c d. ShareNone c.columns d.columns);
      checks = All-from_recursion _ [] tt;
      check_number = omega arith;
      check_names = no_pair (λ x y. x ≢ y);
    },
    tt,
  ),
)

first_of : TableName → ℕ
first_of name = get_or name.0 0 0

tables_are_distinct : AllPairs (λ (x y : TableName). x ≢ y) (record { 0 = codes "CUST" } ∷ record { 0 = codes "ORD" } ∷ [])
unfolding first_of
tables_are_distinct = two_apart (record { 0 = codes "CUST" }) (record { 0 = codes "ORD" }) (λ same. let first : 67 ≡ 79 = ap first_of same in omega arith)

has_shape : HasShape schema
has_shape = record {
  masters = omega arith;
  snapshots = omega arith;
  site_names = sites_are_distinct;
  site_masters = All-from_recursion (HasMaster schema.sites) schema.sites (tt, ((0, master a, omega arith, refl, (refl, refl)), tt));
  tables = tables_have_shape;
  table_number = omega arith;
  table_names = tables_are_distinct;
  priorities = All-from_recursion _ [] tt;
  priority_names = no_pair (λ x y. x ≢ y);
}

is_sound : IsSound schema
unfolding broken_rule
is_sound = record { shape = has_shape; unbroken = refl }

-- ---- the rows

fits : (table : ℕ) (one : Cells) → row_fits (columns_of schema table) one ≡ true → RowFits (columns_of schema table) one
fits table one is = (row_test (columns_of schema table) one).0 is

unique_customer : (one : Cells) (rows : Rows) → IsUniqueRow schema 0 one rows
unique_customer one rows = record { unheld = λ c below held. absurd (omega (arith, below)) }

unique_order : (one : Cells) (rows : Rows) → IsUniqueRow schema 1 one rows
unique_order one rows = record { unheld = λ c below held. absurd (omega (arith, below)) }

customers : IsTable schema 0 (two 7 1 ∷ two 8 2 ∷ [])
customers = record {
  rising = ((refl, tt), (tt, tt));
  fit = (fits 0 (two 7 1) refl, (fits 0 (two 8 2) refl, tt));
  apart = (unique_customer (two 7 1) (two 7 1 ∷ two 8 2 ∷ []), (unique_customer (two 8 2) (two 7 1 ∷ two 8 2 ∷ []), tt));
}

no_customers : IsTable schema 0 []
no_customers = record { rising = tt; fit = tt; apart = tt }

all_orders : IsTable schema 1 (three 1 7 10 ∷ three 2 8 20 ∷ [])
all_orders = record {
  rising = ((refl, tt), (tt, tt));
  fit = (fits 1 (three 1 7 10) refl, (fits 1 (three 2 8 20) refl, tt));
  apart = (unique_order (three 1 7 10) (three 1 7 10 ∷ three 2 8 20 ∷ []), (unique_order (three 2 8 20) (three 1 7 10 ∷ three 2 8 20 ∷ []), tt));
}

orders_of_zone_1 : IsTable schema 1 (three 1 7 10 ∷ [])
orders_of_zone_1 = record { rising = (tt, tt); fit = (fits 1 (three 1 7 10) refl, tt); apart = (unique_order (three 1 7 10) (three 1 7 10 ∷ []), tt) }

two_tables : (first second : Rows) → IsTable schema 0 first → IsTable schema 1 second → AreTables schema (first ∷ second ∷ [])
two_tables first second is_first is_second = record { number = refl; each = each }
  where
    each : (t : ℕ) → t < 2 → IsTable schema t (rows_of (first ∷ second ∷ []) t)
    each zero below = is_first
    each (suc zero) below = is_second
    each (suc (suc t)) below = absurd (omega (arith, below))

-- ---- the sites

is_a_start : IsStart schema start
is_a_start = record {
  sites = (
    new_site_is_new schema (master_here schema a) (true ∷ true ∷ []) [] ((two 7 1 ∷ two 8 2 ∷ []) ∷ (three 1 7 10 ∷ three 2 8 20 ∷ []) ∷ []),
    (new_site_is_new schema (record { site = s; is_master = false; tables = false ∷ true ∷ [] }) [] (orders ∷ []) ([] ∷ (three 1 7 10 ∷ []) ∷ []), tt),
  );
  sent = refl;
}

is_a_fit_start : IsFitStart schema start
is_a_fit_start = record {
  sound = is_sound;
  start = is_a_start;
  sites = (
    record { base = two_tables (two 7 1 ∷ two 8 2 ∷ []) (three 1 7 10 ∷ three 2 8 20 ∷ []) customers all_orders; within = tt },
    (record { base = two_tables [] (three 1 7 10 ∷ []) no_customers orders_of_zone_1; within = (omega arith, tt) }, tt),
  );
}

is_a_snapshot_start : IsSnapshotStart schema start
is_a_snapshot_start = record {
  fit = is_a_fit_start;
  sites = (
    record { apart = tt; shown = tt },
    (record { apart = (tt, tt); shown = (record { master = refl; logged = refl; parent_logged = refl; parent_within = omega arith; parents_rise = tt; touched = tt; below = omega arith; rows = refl }, tt) }, tt),
  );
  begun = refl;
}

is_a_log_start : IsLogStart schema start
is_a_log_start = record { fit = is_a_fit_start; logs = (((refl, refl), ((refl, refl), tt)), (tt, tt)); begun = refl }
