-- The laws speak of the sites with which scripts begin: the worked master and snapshot site meet what they ask of a start.
use Rattle.std.proofs.Common.{◌≡◌, ◌≢◌, ℕ, zero, suc, ◌<◌, List, [], ◌∷◌, get_or, true, false, refl, ap, arith}
use Rattle.std.specs.Prelude.{codes}
use Rattle.std.specs.List.{All, AllPairs}
use Rattle.std.proofs.lemmas.List.Elements.{All-from_recursion}
use Rattle.std.proofs.lemmas.List.Kept.{AllPairs-cons}
use Rattle.rep_values.specs.declared.name.SiteName.{SiteName}
use Rattle.rep_schema.specs.Shape.{ShareNone, HasGroupShape, HasTableShape, HasMaster, HasShape}
use Rattle.rep_schema.specs.Fitting.{row_fits}
use Rattle.rep_schema.specs.Tables.{Cells, Rows, columns_of, rows_of, RowFits, IsUniqueRow, IsTable, AreTables}
use Rattle.rep_schema.proofs.FittingTests.{row_test}
use Rattle.schema_rules.specs.Rules.{broken_rule}
use Rattle.rep_laws.specs.Commuting.{IsSound}
use Rattle.site_state.specs.Making.{master_here}
use Rattle.site_state.proofs.WorkedSites.{a, s, master}
use Rattle.event_laws.specs.Starts.{IsStart}
use Rattle.event_laws.specs.Fitting.{IsFitStart}
use Rattle.event_laws.proofs.NewSites.{new_site_is_new}
use Rattle.event_laws.specs.SnapshotStarts.{IsSnapshotStart, IsLogStart}
use Rattle.event_laws.proofs.WorkedRefreshes.{schema, row, all_rows, rows_of_zone_1, zone_1, start}

-- ---- the schema

first_letter : SiteName → ℕ
first_letter name = get_or name.0 0 0

one_pair : {X : Type 0} (R : X → X → Type 0) (x : X) → AllPairs R (x ∷ [])
one_pair R x i j e before within = absurd (omega (arith, before, within))

no_pair : {X : Type 0} (R : X → X → Type 0) → AllPairs R []
no_pair R i j e before within = absurd (omega (arith, before, within))

sites_are_distinct : AllPairs (λ (x y : SiteName). x ≢ y) (a ∷ s ∷ [])
unfolding first_letter
sites_are_distinct = AllPairs-cons (λ x y. x ≢ y) a (s ∷ [])
    (All-from_recursion (λ y. a ≢ y) (s ∷ []) ((λ same. let first : 65 ≡ 83 = ap first_letter same in omega arith), tt))
    (one_pair (λ x y. x ≢ y) s)

columns_are_distinct : AllPairs (λ (x y : List ℕ). x ≢ y) (codes "ID" ∷ codes "ZONE" ∷ codes "Q" ∷ [])
columns_are_distinct = AllPairs-cons (λ x y. x ≢ y) (codes "ID") (codes "ZONE" ∷ codes "Q" ∷ [])
    (All-from_recursion (λ y. codes "ID" ≢ y) (codes "ZONE" ∷ codes "Q" ∷ [])
    ((λ same. let first : 73 ≡ 90 = ap (λ n. get_or n 0 0) same in omega arith), ((λ same. let first : 73 ≡ 81 = ap (λ n. get_or n 0 0) same in omega arith), tt)))
    (AllPairs-cons (λ x y. x ≢ y) (codes "ZONE") (codes "Q" ∷ [])
    (All-from_recursion (λ y. codes "ZONE" ≢ y) (codes "Q" ∷ []) ((λ same. let first : 90 ≡ 81 = ap (λ n. get_or n 0 0) same in omega arith), tt))
    (one_pair (λ x y. x ≢ y) (codes "Q")))

table_has_shape : All (HasTableShape 0) schema.tables
table_has_shape = All-from_recursion (HasTableShape 0) schema.tables (
  record {
    columns = omega arith;
    column_names = columns_are_distinct;
    keys = omega arith;
    key_methods = record { number = omega arith; columns = All-from_recursion _ [] tt };
    groups = All-from_recursion (HasGroupShape 3 0) [] tt;
    group_names = no_pair (λ x y. x ≢ y);
    shadow_free = All-from_recursion _ [] tt;
    groups_apart = no_pair (λ g h. ShareNone g.columns h.columns);
    constraints = All-from_recursion _ [] tt;
    constraint_number = omega arith;
    constraint_names = no_pair (λ x y. x ≢ y);
    key_free = All-from_recursion _ [] tt;
    constraints_apart = no_pair (λ c d. ShareNone c.columns d.columns);
    checks = All-from_recursion _ [] tt;
    check_number = omega arith;
    check_names = no_pair (λ x y. x ≢ y);
  },
  tt,
)

has_shape : HasShape schema
has_shape = record {
  masters = omega arith;
  snapshots = omega arith;
  site_names = sites_are_distinct;
  site_masters = All-from_recursion (HasMaster schema.sites) schema.sites (tt, ((0, master a, omega arith, refl, (refl, refl)), tt));
  tables = table_has_shape;
  table_number = omega arith;
  table_names = one_pair (λ x y. x ≢ y) (record { 0 = codes "T" });
  priorities = All-from_recursion _ [] tt;
  priority_names = no_pair (λ x y. x ≢ y);
}

is_sound : IsSound schema
unfolding broken_rule
is_sound = record { shape = has_shape; unbroken = refl }

-- ---- the rows

fits : (one : Cells) → row_fits (columns_of schema 0) one ≡ true → RowFits (columns_of schema 0) one
fits one is = (row_test (columns_of schema 0) one).0 is

unique : (one : Cells) (rows : Rows) → IsUniqueRow schema 0 one rows
unique one rows = record { unheld = λ c below held. absurd (omega (arith, below)) }

masters_table : IsTable schema 0 all_rows
masters_table = record {
  rising = ((refl, (refl, tt)), ((refl, tt), (tt, tt)));
  fit = (fits (row 1 1 10) refl, (fits (row 2 1 20) refl, (fits (row 3 2 30) refl, tt)));
  apart = (unique (row 1 1 10) all_rows, (unique (row 2 1 20) all_rows, (unique (row 3 2 30) all_rows, tt)));
}

snapshots_table : IsTable schema 0 rows_of_zone_1
snapshots_table = record {
  rising = ((refl, tt), (tt, tt));
  fit = (fits (row 1 1 10) refl, (fits (row 2 1 20) refl, tt));
  apart = (unique (row 1 1 10) rows_of_zone_1, (unique (row 2 1 20) rows_of_zone_1, tt));
}

one_table : (rows : Rows) → IsTable schema 0 rows → AreTables schema (rows ∷ [])
one_table rows is = record { number = refl; each = each }
  where
    each : (t : ℕ) → t < 1 → IsTable schema t (rows_of (rows ∷ []) t)
    each zero below = is
    each (suc t) below = absurd (omega (arith, below))

-- ---- the sites

is_a_start : IsStart schema start
is_a_start = record {
  sites = (
    new_site_is_new schema (master_here schema a) (true ∷ []) [] (all_rows ∷ []),
    (new_site_is_new schema (record { site = s; is_master = false; tables = true ∷ [] }) [] (zone_1 ∷ []) (rows_of_zone_1 ∷ []), tt),
  );
  sent = refl;
}

is_a_fit_start : IsFitStart schema start
is_a_fit_start = record {
  sound = is_sound;
  start = is_a_start;
  sites = (record { base = one_table all_rows masters_table; within = tt }, (record { base = one_table rows_of_zone_1 snapshots_table; within = (omega arith, tt) }, tt));
}

is_a_snapshot_start : IsSnapshotStart schema start
is_a_snapshot_start = record {
  fit = is_a_fit_start;
  sites = (
    record { apart = tt; shown = tt },
    (record { apart = (tt, tt); shown = (record { master = refl; logged = refl; parent_logged = tt; parent_within = tt; parents_rise = tt; below = omega arith; rows = refl; touched = tt }, tt) }, tt),
  );
  begun = refl;
}

is_a_log_start : IsLogStart schema start
is_a_log_start = record { fit = is_a_fit_start; logs = (((refl, refl), tt), (tt, tt)); begun = refl }
