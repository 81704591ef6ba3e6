-- Worked refreshes: orders of the customers of zone 1, and workers whose boss is in zone 1.
use Rattle.std.specs.Prelude.{◌≡◌, refl, ℕ, codes, pos, Bool, true, false, List, [], ◌∷◌, map, flat_map, Option, Some, None}
use Rattle.rep_values.specs.declared.literal.Literal.TheVariants as literal
use Rattle.rep_schema.specs.declared.schema.Schema.{Schema}
use Rattle.rep_schema.specs.declared.schema.TableEntry.{TableEntry}
use Rattle.rep_schema.specs.declared.schema.Column.{Column}
use Rattle.rep_schema.specs.Groups.{group_columns_of}
use Rattle.rep_schema.specs.Tables.{Cells, Rows}
use Rattle.rep_calls.specs.declared.statement.Statement.{Statement}
use Rattle.rep_calls.specs.declared.statement.Statement.TheVariants.{Insert, Update, Delete}
use Rattle.rep_calls.specs.declared.statement.How.TheVariants.{To}
use Rattle.snapshot_query.specs.declared.query.Query.{Query}
use Rattle.snapshot_query.specs.declared.parent.Parent.{Parent}
use Rattle.snapshot_query.specs.declared.query.Op.TheVariants.{Eq}
use Rattle.snapshot_query.specs.declared.snapshot.Snapshot.{Snapshot}
use Rattle.site_state.specs.declared.answers.RefreshCount.{RefreshCount}
use Rattle.site_state.specs.declared.rows.TableRows.{TableRows}
use Rattle.site_state.specs.State.{SiteState}
use Rattle.site_state.specs.Contents.{tables_of}
use Rattle.change_logs.specs.Noting.{pending_keys, purged_of, is_too_young}
use Rattle.site_state.specs.Purges.{purge_log_answer}
use Rattle.site_state.specs.Making.{master_here, new_site}
use Rattle.site_state.proofs.WorkedSites.{a, s, master, snapshot_of, number_column, key_column, n}
use Rattle.site_events.specs.Cluster.{Cluster, site_of}
use Rattle.site_events.specs.Rules.{rows_ruled, pending_parents, has_young_parents, is_young, refresh_ruled_answer}
use Rattle.site_events.specs.Events.{Commit, PurgeLog, Refresh, run}
use Rattle.event_laws.specs.Pending.{pending_rows}

-- ---- customers and their orders at a master, and a snapshot of the orders of the customers of zone 1

abbrev pub table_of : List ℕ → List Column → TableEntry
table_of name columns = record { name = record { 0 = name }; columns = columns; groups = []; key_methods = []; constraints = []; checks = []; convergent = false }

abbrev pub schema : Schema
schema = record {
  sites = master a ∷ snapshot_of s a ∷ [];
  tables = table_of (codes "CUST") (key_column (codes "ID") ∷ number_column (codes "ZONE") ∷ [])
      ∷ table_of (codes "ORD") (key_column (codes "NO") ∷ number_column (codes "CUST") ∷ number_column (codes "AMT") ∷ []) ∷ [];
  priorities = [];
}

abbrev pub two : ℕ → ℕ → Cells
two k q = n k ∷ n q ∷ []

abbrev pub three : ℕ → ℕ → ℕ → Cells
three k p q = n k ∷ n p ∷ n q ∷ []

abbrev pub no_tests : Query
no_tests = record { tests = [] }

abbrev pub zone_1 : Query
zone_1 = record { tests = record { column = 1; op = Eq; value = n 1 } ∷ [] }

abbrev pub customers_of_zone_1 : Parent
customers_of_zone_1 = record { table = 0; columns = 1 ∷ []; tests = zone_1 }

abbrev pub orders : Snapshot
orders = record { table = 1; query = no_tests; parent = Some customers_of_zone_1; mark = 0; touched = [] }

abbrev pub site_a : SiteState
site_a = new_site schema (master_here schema a) (true ∷ true ∷ []) [] ((two 7 1 ∷ two 8 2 ∷ []) ∷ (three 1 7 10 ∷ three 2 8 20 ∷ []) ∷ [])

abbrev pub site_s : SiteState
site_s = new_site schema (record { site = s; is_master = false; tables = false ∷ true ∷ [] }) [] (orders ∷ []) ([] ∷ (three 1 7 10 ∷ []) ∷ [])

abbrev pub start : Cluster
start = record { sites = site_a ∷ site_s ∷ []; sent = []; begun = [] }

-- ---- what is shown of the master and the snapshot's site

abbrev of_both : {X : Type 0} → X → (SiteState → SiteState → X) → Option SiteState → Option SiteState → X
of_both other f None x = other
of_both other f (Some m) None = other
of_both other f (Some m) (Some x) = f m x

abbrev both : {X : Type 0} → X → (SiteState → SiteState → X) → Cluster → X
both other f w = of_both other f (site_of a w.sites) (site_of s w.sites)

abbrev made_rows : Cluster → List TableRows
made_rows w = both [] pending_rows w

abbrev ruled_rows : Cluster → List TableRows
ruled_rows w = both [] (λ m x. rows_ruled x.schema (tables_of m) x.snapshots) w

abbrev keys : Cluster → List Cells
keys w = both [] (λ m x. flat_map (pending_keys m.logs) x.snapshots) w

abbrev parents : Cluster → List Cells
parents w = both [] (λ m x. flat_map (pending_parents m.logs) x.snapshots) w

abbrev none_counted : RefreshCount
none_counted = record { keys = 0; rows = 0 }

-- what a refresh by the master's logs answers
abbrev count_of_refresh : Cluster → RefreshCount
count_of_refresh w = both none_counted (λ m x. refresh_ruled_answer m.logs (rows_ruled x.schema (tables_of m) x.snapshots) x) w

abbrev are_young : Cluster → List Bool
are_young w = both [] (λ m x. map (is_young m.logs) x.snapshots) w

abbrev snapshot_rows : Cluster → List Rows
snapshot_rows w = both [] (λ m x. tables_of x) w

abbrev of_table : ℕ → Rows → List TableRows
of_table table rows = record { table = table; rows = rows } ∷ []

abbrev set_column : List ℕ → ℕ → List ℕ → ℕ → Statement
set_column table key column value = Update (record { 0 = table }) (literal.Num (pos key) ∷ []) (record { column = column; how = To (literal.Num (pos value)) } ∷ [])

-- ---- customers change their zones: no order is pending, but both customers are, and the orders change places

abbrev zones_changed : Cluster
zones_changed = run (Commit a (set_column (codes "CUST") 8 (codes "ZONE") 1 ∷ set_column (codes "CUST") 7 (codes "ZONE") 3 ∷ []) ∷ []) start

no_keys_are_pending : keys zones_changed ≡ []
unfolding group_columns_of
no_keys_are_pending = refl

both_parents_are_pending : parents zones_changed ≡ (n 7 ∷ []) ∷ (n 8 ∷ []) ∷ []
unfolding group_columns_of
both_parents_are_pending = refl

two_are_looked_up : count_of_refresh zones_changed ≡ record { keys = 2; rows = 1 }
unfolding group_columns_of
two_are_looked_up = refl

not_young : are_young zones_changed ≡ false ∷ []
unfolding group_columns_of
not_young = refl

other_order_is_made : made_rows zones_changed ≡ of_table 1 (three 2 8 20 ∷ [])
unfolding group_columns_of
other_order_is_made = refl

other_order_is_ruled : ruled_rows zones_changed ≡ of_table 1 (three 2 8 20 ∷ [])
unfolding group_columns_of
other_order_is_ruled = refl

other_order_is_refreshed : snapshot_rows (run (Refresh s ∷ []) zones_changed) ≡ [] ∷ (three 2 8 20 ∷ []) ∷ []
unfolding group_columns_of
other_order_is_refreshed = refl

-- ---- orders move to other customers, and the customers' log is purged: it is empty, and too young

abbrev orders_moved : Cluster
orders_moved = run (Commit a (set_column (codes "ORD") 1 (codes "CUST") 8 ∷ set_column (codes "ORD") 2 (codes "CUST") 9 ∷ []) ∷ []) start

abbrev parents_purged : Cluster
parents_purged = run (PurgeLog a 0 ∷ []) orders_moved

own_keys_are_pending : keys orders_moved ≡ (n 1 ∷ []) ∷ (n 2 ∷ []) ∷ []
unfolding group_columns_of
own_keys_are_pending = refl

no_parents_are_pending : parents orders_moved ≡ []
unfolding group_columns_of
no_parents_are_pending = refl

nothing_is_made : made_rows orders_moved ≡ of_table 1 []
unfolding group_columns_of
nothing_is_made = refl

nothing_is_purged : both 0 (λ m x. purge_log_answer 0 m) orders_moved ≡ 0
unfolding group_columns_of
nothing_is_purged = refl

tables_log_isnt_young : both [] (λ m x. map (is_too_young m.logs) x.snapshots) parents_purged ≡ false ∷ []
unfolding group_columns_of
tables_log_isnt_young = refl

parents_log_is_young : both [] (λ m x. map (has_young_parents m.logs) x.snapshots) parents_purged ≡ true ∷ []
unfolding group_columns_of
parents_log_is_young = refl

purged_up_to_1 : both 9 (λ m x. purged_of 0 m.logs) parents_purged ≡ 1
unfolding group_columns_of
purged_up_to_1 = refl

nothing_is_refreshed : snapshot_rows (run (Refresh s ∷ []) parents_purged) ≡ [] ∷ [] ∷ []
unfolding group_columns_of
nothing_is_refreshed = refl

-- ---- where a log that tells of a parent is purged, the keys that are pending don't make the rows

abbrev zones_purged : Cluster
zones_purged = run (PurgeLog a 0 ∷ []) zones_changed

old_order_is_made : made_rows zones_purged ≡ of_table 1 (three 1 7 10 ∷ [])
unfolding group_columns_of
old_order_is_made = refl

-- ---- a customer goes and comes again, and one is new

abbrev customers_changed : Cluster
customers_changed = run (
    Commit a (Insert (record { 0 = codes "CUST" }) (literal.Num (pos 9) ∷ literal.Num (pos 1) ∷ []) ∷ Delete (record { 0 = codes "CUST" }) (literal.Num (pos 7) ∷ []) ∷ [])
    ∷ Commit a (set_column (codes "ORD") 2 (codes "CUST") 9 ∷ []) ∷ []
    ) start

new_customers_order_is_made : made_rows customers_changed ≡ of_table 1 (three 2 9 20 ∷ [])
unfolding group_columns_of
new_customers_order_is_made = refl

three_are_looked_up : count_of_refresh customers_changed ≡ record { keys = 3; rows = 1 }
unfolding group_columns_of
three_are_looked_up = refl

-- ---- a table that is its own parent: workers whose boss is in zone 1

abbrev pub workers_schema : Schema
workers_schema = record {
  sites = master a ∷ snapshot_of s a ∷ [];
  tables = table_of (codes "EMP") (key_column (codes "ID") ∷ number_column (codes "BOSS") ∷ number_column (codes "ZONE") ∷ []) ∷ [];
  priorities = [];
}

abbrev pub workers_of_zone_1 : Snapshot
workers_of_zone_1 = record {
  table = 0;
  query = no_tests;
  parent = Some (record { table = 0; columns = 1 ∷ []; tests = record { tests = record { column = 2; op = Eq; value = n 1 } ∷ [] } });
  mark = 0;
  touched = [];
}

abbrev pub workers : Cluster
workers = record {
  sites = new_site workers_schema (master_here workers_schema a) (true ∷ []) [] ((three 1 1 1 ∷ three 2 1 2 ∷ three 3 2 1 ∷ []) ∷ [])
      ∷ new_site workers_schema (record { site = s; is_master = false; tables = true ∷ [] }) [] (workers_of_zone_1 ∷ []) ((three 1 1 1 ∷ three 2 1 2 ∷ []) ∷ [])
      ∷ [];
  sent = [];
  begun = [];
}

-- the boss of 3 comes into zone 1
abbrev boss_changed : Cluster
boss_changed = run (Commit a (set_column (codes "EMP") 2 (codes "ZONE") 1 ∷ []) ∷ []) workers

row_and_parent_are_pending : keys boss_changed ≡ parents boss_changed
unfolding group_columns_of
row_and_parent_are_pending = refl

worker_is_made : made_rows boss_changed ≡ of_table 0 (three 1 1 1 ∷ three 2 1 1 ∷ three 3 2 1 ∷ [])
unfolding group_columns_of
worker_is_made = refl

worker_is_ruled : ruled_rows boss_changed ≡ of_table 0 (three 1 1 1 ∷ three 2 1 1 ∷ three 3 2 1 ∷ [])
unfolding group_columns_of
worker_is_ruled = refl
