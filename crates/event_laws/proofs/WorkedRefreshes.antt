-- Worked refreshes: a snapshot of the rows of zone 1, and the rows that its pending keys make.
use Rattle.std.specs.Prelude.{◌≡◌, refl, ℕ, codes, pos, Bool, true, false, List, [], ◌∷◌, map, flat_map, Option, Some, None}
use Rattle.rep_values.specs.declared.literal.Literal.TheVariants as literal
use Rattle.rep_schema.specs.declared.schema.Schema.{Schema}
use Rattle.rep_schema.specs.Groups.{group_columns_of}
use Rattle.rep_schema.specs.Tables.{Cells, Rows}
use Rattle.rep_calls.specs.declared.statement.Statement.{Statement}
use Rattle.rep_calls.specs.declared.statement.Statement.TheVariants.{Update}
use Rattle.rep_calls.specs.declared.statement.How.TheVariants.{To}
use Rattle.snapshot_query.specs.declared.snapshot.Snapshot.{Snapshot}
use Rattle.snapshot_query.specs.declared.query.Op.TheVariants.{Eq}
use Rattle.site_state.specs.declared.rows.TableRows.{TableRows}
use Rattle.site_state.specs.State.{SiteState}
use Rattle.site_state.specs.Contents.{tables_of}
use Rattle.change_logs.specs.Noting.{pending_keys}
use Rattle.site_state.specs.Making.{new_site}
use Rattle.site_state.proofs.WorkedSites.{a, s, master, snapshot_of, number_column, key_column, table_t, n, at_first}
use Rattle.site_events.specs.Cluster.{Cluster, site_of}
use Rattle.site_events.specs.Rules.{rows_ruled, is_young}
use Rattle.site_events.specs.Events.{Commit, Send, SendMark, Deliver, Begin, Apply, PurgeLog, Refresh, run}
use Rattle.event_laws.specs.Pending.{pending_rows}

-- ---- rows with a zone, at a master, and a snapshot of zone 1

abbrev pub schema : Schema
schema = record {
  sites = master a ∷ snapshot_of s a ∷ [];
  tables = table_t (key_column (codes "ID") ∷ number_column (codes "ZONE") ∷ number_column (codes "Q") ∷ []) [] ∷ [];
  priorities = [];
}

abbrev pub row : ℕ → ℕ → ℕ → Cells
row k zone q = n k ∷ n zone ∷ n q ∷ []

abbrev pub all_rows : Rows
all_rows = row 1 1 10 ∷ row 2 1 20 ∷ row 3 2 30 ∷ []

abbrev pub rows_of_zone_1 : Rows
rows_of_zone_1 = row 1 1 10 ∷ row 2 1 20 ∷ []

abbrev pub zone_1 : Snapshot
zone_1 = record { table = 0; query = record { tests = record { column = 1; op = Eq; value = n 1 } ∷ [] }; parent = None; mark = 0; touched = [] }

abbrev pub site_a : SiteState
site_a = at_first schema all_rows a

abbrev pub site_s : SiteState
site_s = new_site schema (record { site = s; is_master = false; tables = true ∷ [] }) [] (zone_1 ∷ []) (rows_of_zone_1 ∷ [])

abbrev pub start : Cluster
start = record { sites = site_a ∷ site_s ∷ []; sent = []; begun = [] }

-- ---- what is shown of the master and the snapshot's site

abbrev of_both : {X : Type 0} → X → (SiteState → SiteState → X) → Option SiteState → Option SiteState → X
of_both other f None x = other
of_both other f (Some m) None = other
of_both other f (Some m) (Some x) = f m x

abbrev both : {X : Type 0} → X → (SiteState → SiteState → X) → Cluster → X
both other f w = of_both other f (site_of a w.sites) (site_of s w.sites)

abbrev made_rows : Cluster → List TableRows
made_rows w = both [] pending_rows w

abbrev queried_rows : Cluster → List TableRows
queried_rows w = both [] (λ m x. rows_ruled x.schema (tables_of m) x.snapshots) w

abbrev pending : Cluster → List Cells
pending w = both [] (λ m x. flat_map (pending_keys m.logs) x.snapshots) w

abbrev are_too_young : Cluster → List Bool
are_too_young w = both [] (λ m x. map (is_young m.logs) x.snapshots) w

abbrev snapshot_rows : Cluster → List Rows
snapshot_rows w = both [] (λ m x. tables_of x) w

abbrev of_table : Rows → List TableRows
of_table rows = record { table = 0; rows = rows } ∷ []

-- ---- events, the newest of which stands first

abbrev set_column : List ℕ → ℕ → ℕ → Statement
set_column column k value = Update (record { 0 = codes "T" }) (literal.Num (pos k) ∷ []) (record { column = column; how = To (literal.Num (pos value)) } ∷ [])

-- ---- a row that comes into the zone is put, and one that leaves it is taken

abbrev zones_changed : Cluster
zones_changed = run (Commit a (set_column (codes "ZONE") 1 2 ∷ set_column (codes "ZONE") 3 1 ∷ []) ∷ []) start

moved_rows_are_pending : pending zones_changed ≡ (n 1 ∷ []) ∷ (n 3 ∷ []) ∷ []
unfolding group_columns_of
moved_rows_are_pending = refl

moved_rows_are_made : made_rows zones_changed ≡ of_table (row 2 1 20 ∷ row 3 1 30 ∷ [])
unfolding group_columns_of
moved_rows_are_made = refl

-- ---- a row left the zone at the master, and the snapshot's site changed it and another one, which stands in error: both
-- keys are pending, though the log tells of only one of them

abbrev both_changed : Cluster
both_changed = run (
    Deliver 0 ∷ SendMark a s ∷ Apply a s 1 ∷ Begin a ∷ Deliver 0 ∷ Send s a 1
    ∷ Commit s (set_column (codes "Q") 1 11 ∷ set_column (codes "Q") 2 21 ∷ []) ∷ Commit a (set_column (codes "ZONE") 1 2 ∷ []) ∷ []
    ) start

own_key_is_pending : pending both_changed ≡ (n 1 ∷ []) ∷ (n 2 ∷ []) ∷ []
unfolding group_columns_of
own_key_is_pending = refl

masters_row_is_made : made_rows both_changed ≡ of_table (row 2 1 20 ∷ [])
unfolding group_columns_of
masters_row_is_made = refl

-- ---- a key that was purged may never have matched, so a log can be too young though every row is right

abbrev other_zone_purged : Cluster
other_zone_purged = run (PurgeLog a 0 ∷ Commit a (set_column (codes "Q") 3 31 ∷ []) ∷ []) start

log_is_too_young : are_too_young other_zone_purged ≡ true ∷ []
unfolding group_columns_of
log_is_too_young = refl

rows_are_right : of_table rows_of_zone_1 ≡ queried_rows other_zone_purged
unfolding group_columns_of
rows_are_right = refl

rows_stand : snapshot_rows other_zone_purged ≡ rows_of_zone_1 ∷ []
unfolding group_columns_of
rows_stand = refl

-- ---- and where it did match, the pending keys don't make the rows

abbrev own_zone_purged : Cluster
own_zone_purged = run (PurgeLog a 0 ∷ Commit a (set_column (codes "Q") 1 11 ∷ []) ∷ []) start

nothing_is_pending : pending own_zone_purged ≡ []
unfolding group_columns_of
nothing_is_pending = refl

old_row_is_made : made_rows own_zone_purged ≡ of_table rows_of_zone_1
unfolding group_columns_of
old_row_is_made = refl

new_row_is_queried : queried_rows own_zone_purged ≡ of_table (row 1 1 11 ∷ row 2 1 20 ∷ [])
unfolding group_columns_of
new_row_is_queried = refl

new_row_is_refreshed : snapshot_rows (run (Refresh s ∷ []) own_zone_purged) ≡ (row 1 1 11 ∷ row 2 1 20 ∷ []) ∷ []
unfolding group_columns_of
new_row_is_refreshed = refl
