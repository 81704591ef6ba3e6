-- Two blocks on two rows come to another master, and are applied in either order.
use Rattle.std.specs.Prelude.{◌≡◌, refl, [], ◌∷◌}
use Rattle.rep_schema.specs.Groups.{group_columns_of}
use Rattle.site_state.specs.declared.entry.Entry.TheVariants as entry
use Rattle.site_state.specs.Journal.{low_water}
use Rattle.site_state.proofs.WorkedSites.{a, b, row, add, moved, of_calls}
use Rattle.site_events.specs.Cluster.{Cluster}
use Rattle.site_events.specs.Events.{Commit}
use Rattle.event_laws.proofs.WorkedRuns.{masters, then_run, carried, passed, shown, journal_at, rows_at}
use Rattle.event_laws.proofs.WorkedDeliveries.{two}

abbrev two_come : Cluster
two_come = then_run (Commit a (add 1 1 ∷ []) ∷ Commit a (add 2 1 ∷ []) ∷ carried a b (1 ∷ 2 ∷ [])) (masters two (row 1 10 ∷ row 2 20 ∷ []) (a ∷ b ∷ []))

abbrev rising : Cluster
rising = then_run (passed b a (1 ∷ 2 ∷ [])) two_come

abbrev falling : Cluster
falling = then_run (passed b a (2 ∷ 1 ∷ [])) two_come

rising_journal : journal_at b rising ≡ entry.Done a 2 0 (of_calls (moved 0 2 20 21 ∷ [])) ∷ entry.Done a 1 0 (of_calls (moved 0 1 10 11 ∷ [])) ∷ []
unfolding group_columns_of
rising_journal = refl

falling_journal : journal_at b falling ≡ entry.Done a 1 0 (of_calls (moved 0 1 10 11 ∷ [])) ∷ entry.Done a 2 0 (of_calls (moved 0 2 20 21 ∷ [])) ∷ []
unfolding group_columns_of
falling_journal = refl

rising_rows : rows_at b rising ≡ (row 1 11 ∷ row 2 21 ∷ []) ∷ []
unfolding group_columns_of
rising_rows = refl

falling_rows : rows_at b falling ≡ (row 1 11 ∷ row 2 21 ∷ []) ∷ []
unfolding group_columns_of
falling_rows = refl

falling_mark : shown 9 (λ x. low_water a x.journal) b falling ≡ 2
unfolding group_columns_of
falling_mark = refl
