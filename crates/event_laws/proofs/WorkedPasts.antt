-- What another master's transaction rests on comes first.
use Rattle.std.specs.Prelude.{◌≡◌, refl, ◌++◌, [], ◌∷◌, Some, None}
use Rattle.rep_values.specs.declared.refusal.Refusal.TheVariants as refusal
use Rattle.rep_schema.specs.declared.schema.Schema.{Schema}
use Rattle.rep_schema.specs.Groups.{group_columns_of}
use Rattle.rep_calls.specs.declared.call.Call.TheVariants as call
use Rattle.packet_code.specs.declared.packet.Packet.TheVariants.{Carry}
use Rattle.site_state.specs.declared.answers.Why.TheVariants as why
use Rattle.site_state.specs.declared.entry.Entry.TheVariants as entry
use Rattle.site_state.specs.Pasts.{past_of}
use Rattle.site_state.specs.Journal.{low_water}
use Rattle.site_state.specs.Ready.{covered, stale_of, first_ready}
use Rattle.site_state.specs.Packets.{site_packet}
use Rattle.site_state.specs.Errors.{execute_refusal}
use Rattle.site_state.proofs.WorkedSites.{a, b, c, master, additive, row, add, insert, moved, of_calls}
use Rattle.site_events.specs.Cluster.{Cluster}
use Rattle.site_events.specs.Events.{Commit, Send}
use Rattle.event_laws.proofs.WorkedRuns.{masters, then_run, carried, passed, marked, pushed, shown, journal_at, rows_at}

abbrev three : Schema
three = additive (master a ∷ master b ∷ master c ∷ [])

abbrev start : Cluster
start = masters three [] (a ∷ b ∷ c ∷ [])

-- ---- an update of a row that came from a third site

abbrev updated : Cluster
updated = then_run (Commit a (insert 1 10 ∷ []) ∷ pushed a b (1 ∷ []) ++ Commit b (add 1 5 ∷ []) ∷ []) start

past_of_the_update : shown None (site_packet c 1) b updated ≡ Some (Carry b c 1 1 0 (record { origin = a; number = 1 } ∷ []) (of_calls (moved 0 1 10 15 ∷ [])))
unfolding group_columns_of
past_of_the_update = refl

nothing_seen_before : shown None (site_packet b 1) a updated ≡ Some (Carry a b 1 1 0 [] (of_calls (call.Insert 0 (row 1 10) ∷ [])))
unfolding group_columns_of
nothing_seen_before = refl

abbrev update_first : Cluster
update_first = then_run (pushed b c (1 ∷ [])) updated

update_waits : journal_at c update_first ≡ []
unfolding group_columns_of
update_waits = refl

update_is_not_ready : shown None (stale_of b 1) c update_first ≡ Some why.NotReady
unfolding group_columns_of
update_is_not_ready = refl

-- the insert comes, and a pass for each sender is made
abbrev insert_then : Cluster
insert_then = then_run (carried a c (1 ∷ []) ++ passed c a (1 ∷ []) ++ passed c b (1 ∷ []) ++ marked c a) update_first

update_follows : journal_at c insert_then ≡ entry.Done b 1 0 (of_calls (moved 0 1 10 15 ∷ [])) ∷ entry.Done a 1 0 (of_calls (call.Insert 0 (row 1 10) ∷ [])) ∷ []
unfolding group_columns_of
update_follows = refl

no_error_to_execute : shown None (execute_refusal b 1) c insert_then ≡ Some refusal.NoSuchError
unfolding group_columns_of
no_error_to_execute = refl

update_follows_rows : rows_at c insert_then ≡ (row 1 15 ∷ []) ∷ []
unfolding group_columns_of
update_follows_rows = refl

update_at_its_origin : rows_at a (then_run (pushed b a (1 ∷ [])) insert_then) ≡ (row 1 15 ∷ []) ∷ []
unfolding group_columns_of
update_at_its_origin = refl

-- ---- a gap: what was seen is the greatest finished number, though the one before was lost

abbrev gap_seen : Cluster
gap_seen = then_run (
    Commit a (insert 1 10 ∷ []) ∷ Commit a (insert 2 20 ∷ []) ∷ Send a b 1 ∷ carried a b (2 ∷ []) ++ passed b a (1 ∷ 2 ∷ []) ++ marked b a
    ++ Commit b (add 2 1 ∷ []) ∷ []
    ) start

seen_over_the_gap : shown [] past_of b gap_seen ≡ record { origin = a; number = 2 } ∷ []
unfolding group_columns_of
seen_over_the_gap = refl

no_mark_over_the_gap : shown 9 (λ x. low_water a x.journal) b gap_seen ≡ 0
unfolding group_columns_of
no_mark_over_the_gap = refl

-- the first insert alone doesn't cover it
abbrev first_comes : Cluster
first_comes = then_run (pushed b c (1 ∷ []) ++ pushed a c (1 ∷ []) ++ passed c b (1 ∷ [])) gap_seen

covered_by_the_first : shown 9 (covered a) c first_comes ≡ 1
unfolding group_columns_of
covered_by_the_first = refl

waits_for_the_second : shown (Some 9) (first_ready b 0) c first_comes ≡ None
unfolding group_columns_of
waits_for_the_second = refl

abbrev second_comes : Cluster
second_comes = then_run (carried a c (2 ∷ []) ++ passed c a (1 ∷ 2 ∷ [])) first_comes

second_makes_it_ready : shown None (first_ready b 0) c second_comes ≡ Some 1
unfolding group_columns_of
second_makes_it_ready = refl

both_rows : rows_at c (then_run (passed c b (1 ∷ [])) second_comes) ≡ (row 1 10 ∷ row 2 21 ∷ []) ∷ []
unfolding group_columns_of
both_rows = refl
