-- A late master joins.
use Rattle.std.specs.Prelude.{◌≡◌, refl, ◌++◌, [], ◌∷◌, length, Some, None}
use Rattle.rep_schema.specs.declared.schema.Schema.{Schema}
use Rattle.rep_schema.specs.Groups.{group_columns_of}
use Rattle.packet_code.specs.declared.packet.Packet.TheVariants.{Carry}
use Rattle.site_state.specs.State.{opened_of, first_number}
use Rattle.site_state.specs.Packets.{site_packet}
use Rattle.site_state.proofs.WorkedSites.{a, b, d, master, late_master, additive, row, add, moved, of_calls}
use Rattle.site_events.specs.Cluster.{Cluster, site_of}
use Rattle.site_events.specs.Quiet.{unquiet_at}
use Rattle.site_events.specs.Events.{Commit, Join}
use Rattle.event_laws.proofs.WorkedRuns.{masters, then_run, pushed, shown, rows_at}

abbrev with_late : Schema
with_late = additive (master a ∷ master b ∷ late_master d ∷ [])

abbrev committed : Cluster
committed = then_run (Commit a (add 1 5 ∷ []) ∷ []) (masters with_late (row 1 10 ∷ []) (a ∷ b ∷ []))

-- what a was queued for b hinders it there
not_quiet : shown 9 (unquiet_at committed.sites) b committed ≡ 1
unfolding group_columns_of
not_quiet = refl

join_waits_for_quiet : site_of d (then_run (Join d a ∷ []) committed).sites ≡ None
unfolding group_columns_of
join_waits_for_quiet = refl

nothing_is_queued_for_a_late_site : shown None (opened_of d) a committed ≡ None
unfolding group_columns_of
nothing_is_queued_for_a_late_site = refl

abbrev joined : Cluster
joined = then_run (pushed a b (1 ∷ []) ++ Join d a ∷ []) committed

copied_rows : rows_at d joined ≡ (row 1 15 ∷ []) ∷ []
unfolding group_columns_of
copied_rows = refl

first_number_of_a : shown 9 (first_number a) d joined ≡ 1
unfolding group_columns_of
first_number_of_a = refl

opened_behind_the_first : shown None (opened_of d) a joined ≡ Some 1
unfolding group_columns_of
opened_behind_the_first = refl

abbrev updated : Cluster
updated = then_run (Commit b (add 1 2 ∷ []) ∷ []) joined

packet_to_the_joined : shown None (site_packet d 1) b updated ≡ Some (Carry b d 1 1 0 (record { origin = a; number = 1 } ∷ []) (of_calls (moved 0 1 15 17 ∷ [])))
unfolding group_columns_of
packet_to_the_joined = refl

first_number_covers_its_past : rows_at d (then_run (pushed b d (1 ∷ [])) updated) ≡ (row 1 17 ∷ []) ∷ []
unfolding group_columns_of
first_number_covers_its_past = refl

-- nobody joins a second time
no_second_time : length (then_run (Join d b ∷ []) joined).sites ≡ 3
unfolding group_columns_of
no_second_time = refl
