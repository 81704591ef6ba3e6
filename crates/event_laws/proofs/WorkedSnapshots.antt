-- Snapshot sites: what goes onward, what is logged, and refreshes.
use Rattle.std.specs.Prelude.{◌≡◌, refl, ℕ, codes, pos, ◌++◌, Bool, true, false, List, [], ◌∷◌, map, flat_map, Some, None}
use Rattle.rep_values.specs.declared.literal.Literal.TheVariants as literal
use Rattle.rep_values.specs.declared.refusal.ApplyError.TheVariants as error
use Rattle.rep_schema.specs.declared.schema.Schema.{Schema}
use Rattle.rep_schema.specs.Groups.{group_columns_of}
use Rattle.rep_schema.specs.Tables.{Cells, Rows}
use Rattle.rep_calls.specs.declared.statement.Statement.{Statement}
use Rattle.rep_calls.specs.declared.statement.Statement.TheVariants.{Update}
use Rattle.rep_calls.specs.declared.statement.How.TheVariants.{To}
use Rattle.rep_calls.specs.declared.call.Call.{Call}
use Rattle.rep_calls.specs.declared.call.Call.TheVariants as call
use Rattle.packet_code.specs.declared.packet.Packet.TheVariants.{Carry}
use Rattle.snapshot_query.specs.declared.snapshot.Snapshot.{Snapshot}
use Rattle.snapshot_query.specs.declared.query.Op.TheVariants.{Eq, Gt}
use Rattle.site_state.specs.declared.entry.Entry.TheVariants as entry
use Rattle.site_state.specs.declared.answers.RefreshCount.{RefreshCount}
use Rattle.site_state.specs.State.{SiteState}
use Rattle.site_state.specs.Contents.{tables_of}
use Rattle.change_logs.specs.Noting.{pending_keys}
use Rattle.site_state.specs.Packets.{site_packet}
use Rattle.site_state.specs.Purges.{purge_log_answer}
use Rattle.site_state.specs.Making.{new_site}
use Rattle.site_state.proofs.WorkedSites.{a, b, s, master, snapshot_of, number_column, key_column, table_t, additive, n, row, at_first, add, moved, of_calls}
use Rattle.site_events.specs.Cluster.{Cluster}
use Rattle.site_events.specs.Rules.{rows_ruled, refresh_ruled_answer, is_young}
use Rattle.site_events.specs.Events.{Commit, PurgeLog, Refresh}
use Rattle.event_laws.proofs.WorkedRuns.{then_run, pushed, shown, journal_at, rows_at}

-- a site with a snapshot, which holds the table
abbrev snapshot_site : Schema → Snapshot → Rows → SiteState
snapshot_site schema snapshot rows = new_site schema (record { site = s; is_master = false; tables = true ∷ [] }) [] (snapshot ∷ []) (rows ∷ [])

-- ---- an update at a snapshot site goes to the other master, and comes back by a refresh

abbrev with_other : Schema
with_other = additive (master a ∷ master b ∷ snapshot_of s a ∷ [])

abbrev above_5 : Snapshot
above_5 = record { table = 0; query = record { tests = record { column = 1; op = Gt; value = n 5 } ∷ [] }; parent = None; mark = 0; touched = [] }

abbrev start_above_5 : Cluster
start_above_5 = record {
  sites = at_first with_other (row 1 10 ∷ row 2 3 ∷ []) a ∷ at_first with_other (row 1 10 ∷ row 2 3 ∷ []) b ∷ snapshot_site with_other above_5 (row 1 10 ∷ []) ∷ [];
  sent = [];
  begun = [];
}

abbrev sent_on : Cluster
sent_on = then_run (Commit s (add 1 2 ∷ []) ∷ pushed s a (1 ∷ []) ++ pushed a b (1 ∷ []) ++ Refresh s ∷ []) start_above_5

update_goes_onward : journal_at a sent_on ≡ entry.Done s 1 1 (of_calls (moved 0 1 10 12 ∷ [])) ∷ []
unfolding group_columns_of
update_goes_onward = refl

master_carries_it : shown None (site_packet b 1) a sent_on ≡ Some (Carry a b 1 1 0 [] (of_calls (moved 0 1 10 12 ∷ [])))
unfolding group_columns_of
master_carries_it = refl

other_master_has_it : rows_at b sent_on ≡ (row 1 12 ∷ row 2 3 ∷ []) ∷ []
unfolding group_columns_of
other_master_has_it = refl

refresh_shows_the_query : rows_at s sent_on ≡ (row 1 12 ∷ []) ∷ []
unfolding group_columns_of
refresh_shows_the_query = refl

refresh_is_journalled : journal_at s sent_on ≡ entry.Refreshed 1 ∷ entry.Local 1 (of_calls (moved 0 1 10 12 ∷ [])) ∷ []
unfolding group_columns_of
refresh_is_journalled = refl

-- without another master nothing goes onward
abbrev alone : Schema
alone = additive (master a ∷ snapshot_of s a ∷ [])

nothing_goes_to_nobody : journal_at a (then_run (Commit s (add 1 2 ∷ []) ∷ pushed s a (1 ∷ [])) (record {
  sites = at_first alone (row 1 10 ∷ []) a ∷ snapshot_site alone above_5 (row 1 10 ∷ []) ∷ [];
  sent = [];
  begun = [];
})) ≡ entry.Done s 1 0 (of_calls (moved 0 1 10 12 ∷ [])) ∷ []
unfolding group_columns_of
nothing_goes_to_nobody = refl

-- ---- rows with a zone, and a snapshot of zone 1

abbrev zones : Schema
zones = record {
  sites = master a ∷ snapshot_of s a ∷ [];
  tables = table_t (key_column (codes "ID") ∷ number_column (codes "ZONE") ∷ number_column (codes "Q") ∷ []) [] ∷ [];
  priorities = [];
}

abbrev zone_row : ℕ → ℕ → ℕ → Cells
zone_row k zone q = n k ∷ n zone ∷ n q ∷ []

abbrev zone_1 : Snapshot
zone_1 = record { table = 0; query = record { tests = record { column = 1; op = Eq; value = n 1 } ∷ [] }; parent = None; mark = 0; touched = [] }

abbrev start_zone_1 : Cluster
start_zone_1 = record {
  sites = at_first zones (zone_row 1 1 10 ∷ zone_row 2 1 20 ∷ zone_row 3 2 30 ∷ []) a ∷ snapshot_site zones zone_1 (zone_row 1 1 10 ∷ zone_row 2 1 20 ∷ []) ∷ [];
  sent = [];
  begun = [];
}

-- Q of a row of zone 1 changed
abbrev zone_moved : ℕ → ℕ → ℕ → Call
zone_moved k old new = call.Update 0 (n k ∷ []) (record { group = 255; old = n 1 ∷ n old ∷ []; new = n 1 ∷ n new ∷ [] } ∷ [])

abbrev set_column : List ℕ → ℕ → ℕ → Statement
set_column column k value = Update (record { 0 = codes "T" }) (literal.Num (pos k) ∷ []) (record { column = column; how = To (literal.Num (pos value)) } ∷ [])

abbrev none_counted : RefreshCount
none_counted = record { keys = 0; rows = 0 }

-- what a refresh by the master's logs answers
abbrev count_of_refresh : Cluster → RefreshCount
count_of_refresh w = shown none_counted (λ m. shown none_counted (λ x. refresh_ruled_answer m.logs (rows_ruled x.schema (tables_of m) x.snapshots) x) s w) a w

-- the pending keys of the snapshot
abbrev pending : Cluster → List Cells
pending w = shown [] (λ m. shown [] (λ x. flat_map (pending_keys m.logs) x.snapshots) s w) a w

-- ---- one key changed at the master

abbrev third_changed : Cluster
third_changed = then_run (Commit a (set_column (codes "Q") 3 31 ∷ []) ∷ []) start_zone_1

third_is_logged : shown [] (λ x. x.logs) a third_changed ≡ record { table = 0; keys = record { key = n 3 ∷ []; moment = 1 } ∷ []; purged = 0 } ∷ []
unfolding group_columns_of
third_is_logged = refl

one_key_two_rows : count_of_refresh third_changed ≡ record { keys = 1; rows = 2 }
unfolding group_columns_of
one_key_two_rows = refl

-- ---- a row left the zone at the master, and the snapshot site changed it and another one: its block is in error, and both
-- of its keys are looked up, though the log has only one of them

abbrev both_changed : Cluster
both_changed = then_run (
    Commit a (set_column (codes "ZONE") 1 2 ∷ []) ∷ Commit s (set_column (codes "Q") 1 11 ∷ set_column (codes "Q") 2 21 ∷ []) ∷ pushed s a (1 ∷ [])
    ) start_zone_1

block_in_error : journal_at a both_changed ≡ entry.Error s 1 1 (error.UpdateConflict (codes "shadow")) (of_calls (zone_moved 1 10 11 ∷ zone_moved 2 20 21 ∷ []))
    ∷ entry.Local 1 (of_calls (call.Update 0 (n 1 ∷ []) (record { group = 255; old = n 1 ∷ n 10 ∷ []; new = n 2 ∷ n 10 ∷ [] } ∷ []) ∷ [])) ∷ []
unfolding group_columns_of
block_in_error = refl

both_are_pending : pending both_changed ≡ (n 1 ∷ []) ∷ (n 2 ∷ []) ∷ []
unfolding group_columns_of
both_are_pending = refl

two_keys_one_row : count_of_refresh both_changed ≡ record { keys = 2; rows = 1 }
unfolding group_columns_of
two_keys_one_row = refl

masters_row_comes_back : rows_at s (then_run (Refresh s ∷ []) both_changed) ≡ (zone_row 2 1 20 ∷ []) ∷ []
unfolding group_columns_of
masters_row_comes_back = refl

nothing_is_pending_then : pending (then_run (Refresh s ∷ []) both_changed) ≡ []
unfolding group_columns_of
nothing_is_pending_then = refl

-- ---- the snapshot site's update isn't acknowledged, and then the log is purged above the snapshot's mark

abbrev at_snapshot_site : Cluster
at_snapshot_site = then_run (Commit s (set_column (codes "Q") 2 21 ∷ []) ∷ []) start_zone_1

-- a refresh shows the master's rows all the same
masters_rows_before_it_is_acknowledged : rows_at s (then_run (Refresh s ∷ []) at_snapshot_site) ≡ (zone_row 1 1 10 ∷ zone_row 2 1 20 ∷ []) ∷ []
unfolding group_columns_of
masters_rows_before_it_is_acknowledged = refl

abbrev acknowledged : Cluster
acknowledged = then_run (pushed s a (1 ∷ [])) at_snapshot_site

one_key_to_purge : shown 9 (purge_log_answer 0) a acknowledged ≡ 1
unfolding group_columns_of
one_key_to_purge = refl

abbrev too_young : Cluster → List Bool
too_young w = shown [] (λ m. shown [] (λ x. map (is_young m.logs) x.snapshots) s w) a w

log_tells_all : too_young acknowledged ≡ false ∷ []
unfolding group_columns_of
log_tells_all = refl

purged_log_is_too_young : too_young (then_run (PurgeLog a 0 ∷ []) acknowledged) ≡ true ∷ []
unfolding group_columns_of
purged_log_is_too_young = refl

refresh_shows_both_rows : rows_at s (then_run (PurgeLog a 0 ∷ Refresh s ∷ []) acknowledged) ≡ (zone_row 1 1 10 ∷ zone_row 2 1 21 ∷ []) ∷ []
unfolding group_columns_of
refresh_shows_both_rows = refl
