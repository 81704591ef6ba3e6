-- Conflicts that are errors, executed and dropped.
use Rattle.std.specs.Prelude.{◌≡◌, refl, codes, ◌++◌, [], ◌∷◌, Some, None}
use Rattle.rep_values.specs.declared.refusal.ApplyError.TheVariants as error
use Rattle.rep_values.specs.declared.refusal.Refusal.TheVariants as refusal
use Rattle.rep_schema.specs.declared.schema.Schema.{Schema}
use Rattle.rep_schema.specs.Groups.{group_columns_of}
use Rattle.rep_calls.specs.declared.call.Call.TheVariants as call
use Rattle.site_state.specs.declared.entry.Entry.TheVariants as entry
use Rattle.site_state.specs.Errors.{errors_of, execute_refusal, drop_refusal}
use Rattle.site_state.proofs.WorkedSites.{a, b, master, plain, row, set_to, delete, moved, of_calls}
use Rattle.site_events.specs.Cluster.{Cluster}
use Rattle.site_events.specs.Events.{Commit, Execute, Drop}
use Rattle.event_laws.proofs.WorkedRuns.{masters, then_run, pushed, shown, journal_at, rows_at}

abbrev two : Schema
two = plain (master a ∷ master b ∷ [])

abbrev start : Cluster
start = masters two (row 1 10 ∷ row 2 20 ∷ []) (a ∷ b ∷ [])

-- ---- the second call of a block conflicts with an update at the other site

abbrev in_conflict : Cluster
in_conflict = then_run (Commit b (set_to 2 21 ∷ []) ∷ Commit a (set_to 1 11 ∷ set_to 2 22 ∷ []) ∷ pushed a b (1 ∷ [])) start

error_stands_whole : shown [] errors_of b in_conflict
    ≡ record { origin = a; position = 1; call = 2; error = error.UpdateConflict (codes "shadow"); txn = of_calls (moved 255 1 10 11 ∷ moved 255 2 20 22 ∷ []) } ∷ []
unfolding group_columns_of
error_stands_whole = refl

error_changes_no_row : rows_at b in_conflict ≡ (row 1 10 ∷ row 2 21 ∷ []) ∷ []
unfolding group_columns_of
error_changes_no_row = refl

still_fails : shown None (execute_refusal a 1) b in_conflict ≡ Some (refusal.StillFails (error.UpdateConflict (codes "shadow")))
unfolding group_columns_of
still_fails = refl

abbrev mended : Cluster
mended = then_run (Execute b a 1 ∷ Commit b (set_to 2 20 ∷ []) ∷ []) in_conflict

no_refusal_then : shown (Some refusal.NoSuchError) (execute_refusal a 1) b mended ≡ None
unfolding group_columns_of
no_refusal_then = refl

executed_rows : rows_at b (then_run (Execute b a 1 ∷ []) mended) ≡ (row 1 11 ∷ row 2 22 ∷ []) ∷ []
unfolding group_columns_of
executed_rows = refl

executed_leaves_no_error : shown (record { origin = a; position = 1; call = 1; error = error.NoRow; txn = of_calls [] } ∷ []) errors_of b (then_run (Execute b a 1 ∷ []) mended) ≡ []
unfolding group_columns_of
executed_leaves_no_error = refl

-- a refused execution isn't a moment; two commits, a pass and an execution are
moments_of_the_site : shown 9 (λ x. x.moment) b (then_run (Execute b a 1 ∷ []) mended) ≡ 4
unfolding group_columns_of
moments_of_the_site = refl

-- ---- the same error, dropped

abbrev dropped : Cluster
dropped = then_run (Drop b a 1 ∷ []) in_conflict

dropped_journal : journal_at b dropped
    ≡ entry.Dropped a 1 ∷ entry.Error a 1 2 (error.UpdateConflict (codes "shadow")) (of_calls (moved 255 1 10 11 ∷ moved 255 2 20 22 ∷ [])) ∷ entry.Local 1 (of_calls (moved 255 2 20 21 ∷ [])) ∷ []
unfolding group_columns_of
dropped_journal = refl

dropped_once : shown None (drop_refusal a 1) b dropped ≡ Some refusal.NoSuchError
unfolding group_columns_of
dropped_once = refl

dropped_is_not_executed : shown None (execute_refusal a 1) b dropped ≡ Some refusal.NoSuchError
unfolding group_columns_of
dropped_is_not_executed = refl

-- ---- a delete at one site, an update of the row at the other

abbrev deleted : Cluster
deleted = then_run (Commit a (delete 1 ∷ []) ∷ Commit b (set_to 1 11 ∷ []) ∷ pushed a b (1 ∷ []) ++ pushed b a (1 ∷ [])) start

delete_finds_another_row : journal_at b deleted
    ≡ entry.Error a 1 1 error.DeleteConflict (of_calls (call.Delete 0 (row 1 10) ∷ [])) ∷ entry.Local 1 (of_calls (moved 255 1 10 11 ∷ [])) ∷ []
unfolding group_columns_of
delete_finds_another_row = refl

update_finds_no_row : journal_at a deleted
    ≡ entry.Error b 1 1 error.NoRow (of_calls (moved 255 1 10 11 ∷ [])) ∷ entry.Local 1 (of_calls (call.Delete 0 (row 1 10) ∷ [])) ∷ []
unfolding group_columns_of
update_finds_no_row = refl

row_stays_where_it_is : rows_at b deleted ≡ (row 1 11 ∷ row 2 20 ∷ []) ∷ []
unfolding group_columns_of
row_stays_where_it_is = refl

row_stays_away : rows_at a deleted ≡ (row 2 20 ∷ []) ∷ []
unfolding group_columns_of
row_stays_away = refl
